use Rattle.std.proofs.Common.{◌≡◌, ◌+◌, IfOk, arith, refl, subst}
use Rattle.std.specs.List.{range_with_len}
use Rattle.std.specs.List.Sorted.{IsPermutation}
use Rattle.std.proofs.lemmas.Iterator.{items_from_collect, YieldsList-from_range}
use Rattle.rank_table.proofs.DegreeOrder.{ranking_from_range}
use Rattle.node_contraction.proofs.order.nodes_by_place.Goals as goal
use Rattle.node_contraction.proofs.order.nodes_by_place.Goals.{After-sort_unstable_by_key}

-- what was sorted is the numbers 1..n
moved : (c : After-sort_unstable_by_key) → IsPermutation (range_with_len 1 c.args.n) c.sort_unstable_by_key.new.self.items
moved c =
    let listed = items_from_collect c.collect.result c.collect.ensures.ran (YieldsList-from_range 1 (c.args.n + 1) c.args.n refl (omega arith)) in
    let numbers : c.in_ok-nodes.nodes.items ≡ range_with_len 1 c.args.n = subst (λ r. IfOk r (λ w. w.items ≡ range_with_len 1 c.args.n)) c.in_ok-nodes.was listed in
    subst (λ l. IsPermutation l c.sort_unstable_by_key.new.self.items) numbers c.sort_unstable_by_key.ensures.permutation

pub returns-clause-ranking : goal.returns-clause-ranking
returns-clause-ranking c = (ranking_from_range c.args.n c.sort_unstable_by_key.new.self.items (moved c)).0
