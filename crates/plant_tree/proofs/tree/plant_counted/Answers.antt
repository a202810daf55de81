use Rattle.std.proofs.Common.{ℕ, ◌≤◌, rules}
use Rattle.std.proofs.lemmas.List.Sorted.{All-permutation, Contains-permutation, IsPermutation-sym, IsNonDecreasingBy-from_sort, answers_always}
use Rattle.plant_tree.proofs.SortedNames.{rises}
use Rattle.plant_tree.proofs.tree.plant_counted.Goals as goal

pub returns-clause-nodes : goal.returns-clause-nodes
returns-clause-nodes c =
    All-permutation (λ e. (1 ≤ e.0) × (e.0 ≤ c.args.graph.now.n)) _ _ c.sort_unstable_by_key.ensures.permutation c.in_ok-planted.ensures.nodes

pub returns-clause-rising : goal.returns-clause-rising
returns-clause-rising c =
    rises c.in_ok-planted.planted.items c.sort_unstable_by_key.new.self.items c.sort_unstable_by_key.ensures.permutation c.in_ok-planted.ensures.once
    (IsNonDecreasingBy-from_sort (λ (e : ℕ × ℕ). e.0) _ (c.sort_unstable_by_key.ensures.sorted (λ e. e.0) (answers_always _ _ _ (λ f a r g h. search rules))))

pub returns-clause-each : goal.returns-clause-each
returns-clause-each c = λ h v d root.
    let each = c.in_ok-planted.ensures.each h v d root in (
      λ there. each.0 (Contains-permutation _ _ (v, d) (IsPermutation-sym _ _ c.sort_unstable_by_key.ensures.permutation) there),
      λ hub. Contains-permutation _ _ (v, d) c.sort_unstable_by_key.ensures.permutation (each.1 hub),
    )
