use Rattle.std.proofs.Common.{◌≡◌, ◌+◌, List, length, sym, ap, subst, ◌∙◌, arith}
use Rattle.std.proofs.lemmas.List.{length_push}
use Rattle.walk_laws.specs.declared.entry.Entry.{Entry}
use Rattle.walk_laws.specs.Labelling.{label_row}
use Rattle.hub_index.specs.Shards.{node_at}
use Rattle.hub_index.specs.Views.{IsNode}
use Rattle.hub_index.proofs.RowsInShards.{sharded_rows-same}
use Rattle.hub_index.proofs.TakenShards.{last_left, shard_taken}
use Rattle.hub_index.proofs.split_rows.SplitRows.of_shards.Goals as goal

pub loop-shard-preserved : goal.loop-shard-preserved
loop-shard-preserved c =
    let so_far = c.loop-shard.invariant in
    let shift = c.args.dealt.shift in
    let shards = c.args.shards.items in
    let left = c.pop.new.self.items in
    let more = c.take_shard.new.self in
    let last = last_left shards c.loop-shard.shards.items left c.in-Some.shard c.in-Some.ensures.items so_far.left so_far.few in
    let number : c.len.result ≡ length left = c.len.ensures ∙ c.pop.new.self.ok.0 in
    let one_more : length c.loop-shard.shards.items ≡ length left + 1 = ap length c.in-Some.ensures.items ∙ length_push left c.in-Some.shard in
    record {
      left = last.0;
      few = omega (arith, last.2);
      size = c.take_shard.ensures.size ∙ so_far.size;
      taken = shard_taken shift c.args.n shards (length left) c.loop-shard.rows more c.requires last.2
          (λ place there. ap (λ k. label_row more (node_at shift k place)) (sym number) ∙ c.take_shard.ensures.taken place (subst (λ (shard : List (List Entry)). IsNode (length shard) place) (sym last.1) there) ∙ ap (λ shard. label_row shard place) last.1)
          (λ v from_one other. c.take_shard.ensures.others v from_one (λ is. other (is ∙ number)))
          (λ v node later. so_far.taken v node (omega (arith, later, one_more)));
    }

pub returns : goal.returns
returns c =
    let none : length c.loop-shard.shards.items ≡ 0 = sym c.loop-shard.shards.ok.0 ∙ c.in_default.ensures.cases.0 in
    sharded_rows-same c.args.dealt.shift c.args.n c.args.shards.items c.loop-shard.rows c.loop-shard.invariant.size
    (λ v node. c.loop-shard.invariant.taken v node (omega (arith, none)))
