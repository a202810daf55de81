use Rattle.std.proofs.Common.{◌≡◌, ℕ, ◌+◌, ◌-◌, ◌<◌, [], ◌++◌, List, length, get_or, replicate, set, take, sym, ap, ◌∙◌, arith}
use Rattle.std.proofs.lemmas.List.{length-append, length-replicate, length-take-le}
use Rattle.walk_laws.specs.declared.entry.Entry.{Entry}
use Rattle.walk_laws.specs.Labelling.{label_row}
use Rattle.hub_index.specs.Shards.{shard_of, shard_size}
use Rattle.hub_index.specs.Views.{IsNode}
use Rattle.hub_index.proofs.PartedRows.{copied_all, copied_next}
use Rattle.hub_index.proofs.RowsInShards.{length-shard_of, shard_of-at}
use Rattle.hub_index.proofs.split_rows.SplitRows.of_shard.Goals as goal
use Rattle.hub_index.proofs.split_rows.SplitRows.of_shard.Goals.{After-row}

-- the rows that are wanted
abbrev wanted : After-row → List (List Entry)
wanted c = shard_of c.args.dealt.shift c.args.number c.args.list.now

abbrev size : After-row → ℕ
size c = shard_size c.args.dealt.shift (length c.args.list.now) c.args.number

lt : (c : After-row) → c.loop-k.k < size c
lt c = omega (arith, c.loop-k-test.true, c.size-size.ensures, ap (λ n. shard_size c.args.dealt.shift n c.args.number) c.n.ensures)

pub push_all-requires-clause-within : goal.push_all-requires-clause-within
push_all-requires-clause-within c =
    let k = c.loop-k.k in
    let none : List Entry = [] in
    omega (
      arith,
      lt c,
      ap length c.loop-k.invariant,
      length-append (take k (wanted c)) (replicate (size c - k) none),
      length-take-le k (wanted c) (omega (arith, lt c, length-shard_of c.args.dealt.shift c.args.number c.args.list.now)),
      length-replicate (size c - k) none,
    )

pub loop-k-preserved : goal.loop-k-preserved
loop-k-preserved c =
    let up = (goal.at.loop-k-preserved c).After-row in
    let k = c.loop-k.k in
    let list = c.args.list.now in
    let node : IsNode (size up) (k + 1) = record { from_one = omega arith; up_to_n = omega (arith, lt up) } in
    let at : k + 1 - 1 ≡ k = omega arith in
    let row : c.row.result.now ≡ get_or (wanted up) k [] =
    c.row.ensures ∙ ap (label_row list) c.node.ensures ∙ sym (shard_of-at c.args.dealt.shift c.args.number list (k + 1) node) ∙ ap (λ i. get_or (wanted up) i []) at in
    copied_next (wanted up) c.loop-k.rows c.push_all.new.self (size up) k (sym (length-shard_of c.args.dealt.shift c.args.number list)) (lt up) c.loop-k.invariant
    (c.in_ok-push_all.ensures ∙ ap (λ i. set c.loop-k.rows i (get_or c.loop-k.rows i [] ++ c.row.result.now)) at ∙ ap (λ entries. set c.loop-k.rows k (get_or c.loop-k.rows k [] ++ entries)) row)

pub returns : goal.returns
returns c =
    let list = c.args.list.now in
    let size = shard_size c.args.dealt.shift (length list) c.args.number in
    copied_all (shard_of c.args.dealt.shift c.args.number list) c.loop-k.rows size c.loop-k.k (sym (length-shard_of c.args.dealt.shift c.args.number list))
    (omega (arith, c.loop-k-test.false, c.size-size.ensures, ap (λ n. shard_size c.args.dealt.shift n c.args.number) c.n.ensures)) c.loop-k.invariant
