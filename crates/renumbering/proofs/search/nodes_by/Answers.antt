use Rattle.std.proofs.Common.{◌≡◌, ◌∙◌, ◌∷◌, [], ◌++◌, ◌+◌, ℕ, ap, sym, subst, arith}
use Rattle.std.specs.List.{range_with_len}
use Rattle.std.specs.List.Sorted.{IsPermutation}
use Rattle.std.proofs.lemmas.List.{map-id}
use Rattle.std.proofs.lemmas.List.FromFn.{map-range_with_len_more}
use Rattle.rank_table.proofs.DegreeOrder.{ranking_from_range}
use Rattle.renumbering.proofs.search.nodes_by.Goals as goal
use Rattle.renumbering.proofs.search.nodes_by.Goals.{After-sort_unstable_by_key}

one_more : (k : ℕ) → range_with_len 1 k ++ (k + 1) ∷ [] ≡ range_with_len 1 (k + 1)
one_more k =
    ap (λ l. l ++ (k + 1) ∷ []) (sym (map-id (range_with_len 1 k))) ∙ sym (map-range_with_len_more (λ (x : ℕ). x) 1 k (k + 1) (omega arith)) ∙ map-id (range_with_len 1 (k + 1))

pub loop-k-preserved : goal.loop-k-preserved
loop-k-preserved c = c.in_ok-push.ensures.items ∙ ap (λ l. l ++ (c.loop-k.k + 1) ∷ []) c.loop-k.invariant ∙ one_more c.loop-k.k

moved : (c : After-sort_unstable_by_key) → IsPermutation (range_with_len 1 c.args.n) c.sort_unstable_by_key.new.self.items
moved c =
    let all : c.loop-k.k ≡ c.args.n = omega (arith, c.loop-k-test.false) in
    subst (λ l. IsPermutation l c.sort_unstable_by_key.new.self.items) (c.loop-k.invariant ∙ ap (range_with_len 1) all) c.sort_unstable_by_key.ensures.permutation

pub returns-clause-ranking : goal.returns-clause-ranking
returns-clause-ranking c = (ranking_from_range c.args.n c.sort_unstable_by_key.new.self.items (moved c)).0

pub returns-clause-size : goal.returns-clause-size
returns-clause-size c = (ranking_from_range c.args.n c.sort_unstable_by_key.new.self.items (moved c)).1
