use Rattle.std.proofs.Common.{◌≡◌, ◌∙◌, ap, map, rules, sym, subst}
use Rattle.std.specs.List.Sorted.{IsSortedBy, IsStableBy, IsPermutation}
use Rattle.std.proofs.lemmas.Result.{IfOk-weaker}
use Rattle.std.proofs.lemmas.List.Sorted.{answers_always}
use Rattle.rank_table.specs.ByDegree.{IsByDegree}
use Rattle.rank_table.proofs.DegreeOrder.{IsByDegree-sorted, degree_before, degree_order, key_sorted}
use Rattle.rank_table.proofs.degrees.nodes_by_degree.Goals as goal

pub returns : goal.returns
returns c =
    let graph = c.args.graph.now in
    let degrees = c.sort_by.new.self.items in
    let same : c.deref.result.now ≡ degrees = search rules in
    let calls = answers_always _ _ _ (λ f a r g h. search rules) in
    let falling : IsSortedBy degree_before degrees = c.in_ok-sort_by.ensures.sorted degree_before degree_order calls in
    let stable : IsStableBy degree_before c.in_ok-degrees.degrees.items degrees = c.sort_by.ensures.stable degree_before degree_order calls in
    let sorted = key_sorted graph.edges graph.n degrees falling (subst (λ l. IsStableBy degree_before l degrees) c.in_ok-degrees.ensures stable) in
    let moved = c.sort_by.ensures.permutation in
    let ranked = IsByDegree-sorted graph degrees (subst (λ l. IsPermutation l degrees) c.in_ok-degrees.ensures moved) sorted in
    IfOk-weaker c.nodes_of.result _ _ (λ nodes h. subst (λ l. IsByDegree graph l) (sym (h ∙ ap (map (λ d. d.node)) same)) ranked) c.nodes_of.ensures
