use Rattle.std.proofs.Common.{◌<◌, length, ap, sym, subst, ◌∙◌, arith}
use Rattle.hub_index.specs.Shards.{shard_count, shard_number}
use Rattle.hub_index.specs.Views.{IsNode}
use Rattle.hub_index.proofs.DealtNodes.{number_below}
use Rattle.gll_superstep.specs.Workers.{IsFirstSeat}
use Rattle.gll_merge.specs.Merging.{are_filled}
use Rattle.gll_merge.proofs.PlacedShards.{none_filled}
use Rattle.gll_build.proofs.next_stage.merging.Goals as goal

pub invariant_of-result : goal.invariant_of-result
invariant_of-result g c =
    let shift = g.B.Build.shift in
    let n = length g.B.Build.order in
    let node : IsNode (length g.B.Build.order) 1 = record { from_one = omega arith; up_to_n = c.in_ok-table.ensures.some } in
    let some : shard_number g.B.Build.shift 1 < shard_count g.B.Build.shift (length g.B.Build.order) = number_below shift n 1 node in
    (ap are_filled c.in_ok-merging.ensures.none_yet ∙ none_filled (shard_count shift n) (omega (arith, some)), subst (λ next. IsFirstSeat g.B.Build.claims next c.in_ok-table.field-0.seat) (sym c.in_ok-merging.ensures.next) c.in_ok-table.ensures.seat)
