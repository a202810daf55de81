use Rattle.std.proofs.Common.{◌≡◌, [], replicate, ap, subst, ◌∙◌, arith}
use Rattle.hub_index.specs.CompactRows.{rows_of_parts}
use Rattle.hub_index.proofs.PartedRows.{compact_lists, parts-replicate}
use Rattle.hub_index.proofs.split_rows.SplitRows.with_room.Goals as goal

pub returns : goal.returns
returns c =
    let all : c.loop.counter ≡ c.args.n = omega (arith, c.loop-test.false, c.loop.auto.counter-end) in
    let compact = subst (λ k. compact_lists c.loop.compact.items ≡ replicate k []) all c.loop.invariant in
    ap (λ ns. rows_of_parts ns c.in_ok-full.full) compact
    ∙ ap (rows_of_parts (replicate c.args.n [])) c.in_ok-full.ensures
    ∙ parts-replicate c.args.n
