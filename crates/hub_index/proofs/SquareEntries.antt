-- Entries of the square 1-2-3-4-1 of weight 1 under the order 1, 2, 3, 4, which tests offer.
use Rattle.std.proofs.Common.{◌≡◌, ℕ, ◌≤◌, inl, inr, List, [], ◌∷◌, refl, sym, subst, rules, arith}
use Rattle.std.specs.List.{IsDistinct}
use Rattle.std.proofs.lemmas.List.Elements.{All-from_recursion}
use Rattle.walk_laws.specs.declared.graph.Edge.{Edge}
use Rattle.walk_laws.specs.Joined.{Joined}
use Rattle.walk_laws.specs.Labelling.{EntryFits}
use Rattle.walk_laws.specs.Ranking.{IsRanking}
use Rattle.walk_laws.specs.Walk.{HasWalk}
use Rattle.walk_laws.specs.Worked.{square, first_four, entry}
use Rattle.walk_laws.proofs.Walks.{HasWalk-arc, HasWalk-after}

pub first_four_ranked : IsRanking (1 ∷ 2 ∷ 3 ∷ 4 ∷ [])
unfolding IsDistinct
first_four_ranked = record {
  node = All-from_recursion (λ v. (1 ≤ v) × (v ≤ 4)) (1 ∷ 2 ∷ 3 ∷ 4 ∷ []) (search rules);
  once = search rules;
}

along : (x y : ℕ) → Joined square x y 1 → HasWalk (Joined square) x y 1
along x y joined = HasWalk-arc (Joined square) x y 1 joined

one_two : HasWalk (Joined square) 1 2 1
one_two = along 1 2 (inl (0, omega arith, refl))

two_three : HasWalk (Joined square) 2 3 1
two_three = along 2 3 (inl (1, omega arith, refl))

one_four : HasWalk (Joined square) 1 4 1
one_four = along 1 4 (inr (3, omega arith, refl))

one_three : HasWalk (Joined square) 1 3 2
one_three = HasWalk-after (Joined square) 1 2 3 1 1 one_two (inl (1, omega arith, refl))

two_four : HasWalk (Joined square) 2 4 2
two_four = HasWalk-after (Joined square) 2 3 4 1 1 two_three (inl (2, omega arith, refl))

-- what of the square fits fits where the edges and the order are the square's
module _ (edges : List Edge) (order : List ℕ) (of_square : edges ≡ square) (by_number : order ≡ first_four) where
  of_graph : (v p d : ℕ) → EntryFits (Joined square) first_four v (entry p d) → EntryFits (Joined edges) order v (entry p d)
  of_graph v p d fits = subst (λ es. EntryFits (Joined es) order v (entry p d)) (sym of_square) (subst (λ at. EntryFits (Joined square) at v (entry p d)) (sym by_number) fits)

  pub fits_two : EntryFits (Joined edges) order 2 (entry 0 1)
  fits_two = of_graph 2 0 1 (record { ranked = omega arith; walk = (1, refl, one_two) })

  pub fits_three : EntryFits (Joined edges) order 3 (entry 0 2)
  fits_three = of_graph 3 0 2 (record { ranked = omega arith; walk = (1, refl, one_three) })

  pub fits_four : EntryFits (Joined edges) order 4 (entry 0 1)
  fits_four = of_graph 4 0 1 (record { ranked = omega arith; walk = (1, refl, one_four) })

  pub fits_four_too : EntryFits (Joined edges) order 4 (entry 1 2)
  fits_four_too = of_graph 4 1 2 (record { ranked = omega arith; walk = (2, refl, two_four) })

  pub fits_three_too : EntryFits (Joined edges) order 3 (entry 1 1)
  fits_three_too = of_graph 3 1 1 (record { ranked = omega arith; walk = (2, refl, two_three) })
