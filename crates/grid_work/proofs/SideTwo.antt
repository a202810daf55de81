-- The rows of the grid of side 2 from the seed 1, under the order 1, 2, 3, 4.
use Rattle.std.proofs.Common.{◌≡◌, ℕ, zero, suc, ◌+◌, ◌-◌, ◌≤◌, ◌<◌, List, [], ◌∷◌, get_or, slice_get, Some, refl, sym, subst, inl, inr, arith}
use Rattle.std.proofs.lemmas.List.Elements.{All-from_recursion}
use Rattle.walk_laws.specs.declared.entry.Entry.{Entry}
use Rattle.walk_laws.specs.Joined.{Joined}
use Rattle.walk_laws.specs.Ranking.{RanksAbove}
use Rattle.walk_laws.specs.Walk.{HasWalk}
use Rattle.walk_laws.specs.On.{IsOn}
use Rattle.walk_laws.specs.Canonical.{IsCanonical}
use Rattle.walk_laws.specs.Labelling.{IsRow, IsChl, label_row}
use Rattle.walk_laws.specs.Worked.{entry, first_four}
use Rattle.walk_laws.proofs.JoinedEdges.{Joined-positive}
use Rattle.walk_laws.proofs.CanonicalHubs.{IsCanonical-itself, IsCanonical-ranked}
use Rattle.walk_laws.proofs.LabellingExists.{IsRowFrom, row_from_end, row_with, row_without, row_from_first}
use Rattle.walk_laws.proofs.Squares.{above_2, above_3}
use Rattle.walk_laws.proofs.Walks.{HasWalk-arc, HasWalk-append}
use Rattle.walk_laws.proofs.Bounds.{IsLeast-from_bound, IsOn-bound}
use Rattle.grid_work.specs.Worked.{edges_of_side_two, rows_of_side_two}

-- how far each node is from 1, 2 and 3
abbrev by_node : List ℕ → ℕ → ℕ
by_node numbers v = get_or numbers (v - 1) 0

abbrev from_1 : ℕ → ℕ
from_1 = by_node (0 ∷ 7 ∷ 7 ∷ 9 ∷ [])

abbrev from_2 : ℕ → ℕ
from_2 = by_node (7 ∷ 0 ∷ 6 ∷ 2 ∷ [])

abbrev from_3 : ℕ → ℕ
from_3 = by_node (7 ∷ 6 ∷ 0 ∷ 4 ∷ [])

abbrev J : ℕ → ℕ → ℕ → Type 0
J = Joined edges_of_side_two

one_to_two : HasWalk J 1 2 7
one_to_two = HasWalk-arc J 1 2 7 (inl (0, omega arith, refl))

one_to_three : HasWalk J 1 3 7
one_to_three = HasWalk-arc J 1 3 7 (inl (1, omega arith, refl))

two_to_four : HasWalk J 2 4 2
two_to_four = HasWalk-arc J 2 4 2 (inl (2, omega arith, refl))

three_to_four : HasWalk J 3 4 4
three_to_four = HasWalk-arc J 3 4 4 (inl (3, omega arith, refl))

two_to_three : HasWalk J 2 3 6
two_to_three = HasWalk-append J 2 4 3 2 4 two_to_four (HasWalk-arc J 4 3 4 (inr (3, omega arith, refl)))

one_to_four : HasWalk J 1 4 9
one_to_four = HasWalk-append J 1 2 4 7 2 one_to_two two_to_four

-- nothing ranks above the first node, and above the next only those before it
above_1 : (x : ℕ) → RanksAbove first_four x 1 → ⊥
above_1 x above = omega arith

of_one : (v d : ℕ) → HasWalk J 1 v d → from_1 v ≡ d → IsCanonical J first_four 1 v d
of_one v d walk is = record { least = IsLeast-from_bound edges_of_side_two from_1 refl 1 v d walk (omega (arith, is)); highest = λ x on. above_1 x }

-- node 2, where node 1 is too far round
of_two : (v d : ℕ) → HasWalk J 2 v d → from_2 v ≡ d → (IsOn J 2 1 v → ⊥) → IsCanonical J first_four 2 v d
of_two v d walk is apart = record {
  least = IsLeast-from_bound edges_of_side_two from_2 refl 2 v d walk (omega (arith, is));
  highest = λ x on above. apart (subst (λ y. IsOn J 2 y v) (sym (above_2 x above)) on);
}

two_of_three : IsCanonical J first_four 2 3 6
two_of_three = of_two 3 6 two_to_three refl (λ on. omega (arith, IsOn-bound edges_of_side_two from_2 from_1 refl refl 2 1 3 6 two_to_three on))

two_of_four : IsCanonical J first_four 2 4 2
two_of_four = of_two 4 2 two_to_four refl (λ on. omega (arith, IsOn-bound edges_of_side_two from_2 from_1 refl refl 2 1 4 2 two_to_four on))

three_of_four : IsCanonical J first_four 3 4 4
three_of_four = record {
  least = IsLeast-from_bound edges_of_side_two from_3 refl 3 4 4 three_to_four refl;
  highest = λ x on above. elim (above_3 x above) [
    | inl one ↦ by_one (subst (λ y. IsOn J 3 y 4) (sym one) on)
    | inr two ↦ by_two (subst (λ y. IsOn J 3 y 4) (sym two) on)
  ];
}
  where
    by_one : IsOn J 3 1 4 → ⊥
    by_one on = omega (arith, IsOn-bound edges_of_side_two from_3 from_1 refl refl 3 1 4 4 three_to_four on)

    by_two : IsOn J 3 2 4 → ⊥
    by_two on = omega (arith, IsOn-bound edges_of_side_two from_3 from_2 refl refl 3 2 4 4 three_to_four on)

weigh : (x y w : ℕ) → J x y w → 1 ≤ w
weigh = Joined-positive edges_of_side_two (All-from_recursion (λ e. 1 ≤ e.w) edges_of_side_two (omega arith, (omega arith, (omega arith, (omega arith, tt)))))

its_own : (h : ℕ) → IsCanonical J first_four h h 0
its_own = IsCanonical-itself J first_four weigh

not_lower : (h v : ℕ) → RanksAbove first_four v h → (d : ℕ) → IsCanonical J first_four h v d → ⊥
not_lower h v above d hub = IsCanonical-ranked J first_four h v d hub above

-- the hubs of v from the position k on
abbrev From : ℕ → ℕ → List Entry → Type 0
From = IsRowFrom J first_four

past_the_end : (v : ℕ) → From v 4 []
past_the_end v = row_from_end J first_four v 4 refl

hub : (v h k d : ℕ) (row : List Entry) → slice_get first_four k ≡ Some h → IsCanonical J first_four h v d → From v (k + 1) row → From v k (entry k d ∷ row)
hub = row_with J first_four

lower : (v h k : ℕ) (row : List Entry) → slice_get first_four k ≡ Some h → RanksAbove first_four v h → From v (k + 1) row → From v k row
lower v h k row is above = row_without J first_four v h k row is (not_lower h v above)

row_1 : From 1 0 (entry 0 0 ∷ [])
row_1 = hub 1 1 0 0 [] refl (its_own 1) (lower 1 2 1 [] refl (omega arith) (lower 1 3 2 [] refl (omega arith) (lower 1 4 3 [] refl (omega arith) (past_the_end 1))))

row_2 : From 2 0 (entry 0 7 ∷ entry 1 0 ∷ [])
row_2 = hub 2 1 0 7 (entry 1 0 ∷ []) refl (of_one 2 7 one_to_two refl) (hub 2 2 1 0 [] refl (its_own 2) (lower 2 3 2 [] refl (omega arith) (lower 2 4 3 [] refl (omega arith) (past_the_end 2))))

row_3 : From 3 0 (entry 0 7 ∷ entry 1 6 ∷ entry 2 0 ∷ [])
row_3 = hub 3 1 0 7 (entry 1 6 ∷ entry 2 0 ∷ []) refl (of_one 3 7 one_to_three refl) (hub 3 2 1 6 (entry 2 0 ∷ []) refl two_of_three (hub 3 3 2 0 [] refl (its_own 3) (lower 3 4 3 [] refl (omega arith) (past_the_end 3))))

row_4 : From 4 0 (entry 0 9 ∷ entry 1 2 ∷ entry 2 4 ∷ entry 3 0 ∷ [])
row_4 =
    hub 4 1 0 9 (entry 1 2 ∷ entry 2 4 ∷ entry 3 0 ∷ []) refl (of_one 4 9 one_to_four refl)
    (hub 4 2 1 2 (entry 2 4 ∷ entry 3 0 ∷ []) refl two_of_four (hub 4 3 2 4 (entry 3 0 ∷ []) refl three_of_four (hub 4 4 3 0 [] refl (its_own 4) (past_the_end 4))))

rows_by_place : (k : ℕ) → k < 4 → IsRow J first_four (k + 1) (get_or rows_of_side_two k [])
rows_by_place zero lt = row_from_first J first_four 1 _ row_1
rows_by_place (suc zero) lt = row_from_first J first_four 2 _ row_2
rows_by_place (suc (suc zero)) lt = row_from_first J first_four 3 _ row_3
rows_by_place (suc (suc (suc zero))) lt = row_from_first J first_four 4 _ row_4
rows_by_place (suc (suc (suc (suc k)))) lt = absurd (omega arith)

pub labelling_of_side_two : IsChl J first_four rows_of_side_two
labelling_of_side_two = record { size = refl; row = λ v from_one up_to_n. let back : v - 1 + 1 ≡ v = omega arith in subst (λ x. IsRow J first_four x (label_row rows_of_side_two v)) back (rows_by_place (v - 1) (omega arith)) }
