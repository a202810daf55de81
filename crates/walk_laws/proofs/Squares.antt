-- The square and the graph of two parts, worked.
use Rattle.std.proofs.Common.{◌≡◌, ◌⊎◌, ℕ, zero, suc, ◌+◌, ◌-◌, ◌≤◌, ◌<◌, List, [], ◌∷◌, length, get_or, slice_get, Some, leb, leb-true, refl, sym, ap, ◌∙◌, subst, inl, inr, arith}
use Rattle.std.proofs.lemmas.Bool.{cases_lt}
use Rattle.std.proofs.lemmas.List.Elements.{All-from_recursion}
use Rattle.walk_laws.specs.declared.entry.Entry.{Entry}
use Rattle.walk_laws.specs.Joined.{Joined}
use Rattle.walk_laws.specs.Ranking.{position_of, RanksAbove}
use Rattle.walk_laws.specs.Walk.{HasWalk}
use Rattle.walk_laws.specs.Least.{IsLeast, AreApart}
use Rattle.walk_laws.specs.On.{IsOn}
use Rattle.walk_laws.specs.Canonical.{IsCanonical}
use Rattle.walk_laws.specs.Answer.{IsAnswer, IsFirstShortest}
use Rattle.walk_laws.specs.Labelling.{IsRow, IsChl, label_row}
use Rattle.walk_laws.specs.Worked.{edge, entry, square, square_rows, two_parts, first_three, first_four}
use Rattle.walk_laws.proofs.JoinedEdges.{Joined-positive}
use Rattle.walk_laws.proofs.CanonicalHubs.{IsCanonical-itself, IsCanonical-ranked}
use Rattle.walk_laws.proofs.LabellingExists.{IsRowFrom, row_from_end, row_with, row_without, row_from_first}
use Rattle.walk_laws.proofs.Positions.{get_or-position}
use Rattle.walk_laws.proofs.Walks.{HasWalk-none, HasWalk-same, HasWalk-arc, HasWalk-append, HasWalk-zero}
use Rattle.walk_laws.proofs.FirstShortest.{IsNext, IsFirstShortest-end, IsFirstShortest-step}
use Rattle.walk_laws.proofs.OnWalks.{IsOn-from_parts}
use Rattle.walk_laws.proofs.Bounds.{IsLeast-from_bound, IsOn-bound, AreApart-from_parts, Joined-passes}

-- the numbers of a list, one for each node from 1 on
abbrev by_node : List ℕ → ℕ → ℕ
by_node numbers v = get_or numbers (v - 1) 0

-- how far each node of the square is from 1, 2 and 3
abbrev from_1 : ℕ → ℕ
from_1 = by_node (0 ∷ 1 ∷ 2 ∷ 1 ∷ [])

abbrev from_2 : ℕ → ℕ
from_2 = by_node (1 ∷ 0 ∷ 1 ∷ 2 ∷ [])

abbrev from_3 : ℕ → ℕ
from_3 = by_node (2 ∷ 1 ∷ 0 ∷ 1 ∷ [])

side : (u v k : ℕ) → k < length square → get_or square k (edge u v 1) ≡ edge u v 1 → HasWalk (Joined square) u v 1
side u v k lt is = HasWalk-arc (Joined square) u v 1 (inl (k, lt, is))

side_back : (u v k : ℕ) → k < length square → get_or square k (edge v u 1) ≡ edge v u 1 → HasWalk (Joined square) u v 1
side_back u v k lt is = HasWalk-arc (Joined square) u v 1 (inr (k, lt, is))

one_to_three : HasWalk (Joined square) 1 3 2
one_to_three = HasWalk-append (Joined square) 1 2 3 1 1 (side 1 2 0 (omega arith) refl) (side 2 3 1 (omega arith) refl)

-- nothing ranks above the first node, and above the next only those before it
above_1 : (at : List ℕ) (x : ℕ) → RanksAbove (1 ∷ at) x 1 → ⊥
above_1 at x above = omega arith

at_position : (at : List ℕ) (x p : ℕ) → p < length at → position_of at x ≡ p → get_or at p 0 ≡ x
at_position at x p within is = ap (λ q. get_or at q 0) (sym is) ∙ get_or-position at x 0 (omega arith)

pub above_2 : (x : ℕ) → RanksAbove first_four x 2 → 1 ≡ x
above_2 x above = at_position first_four x 0 (omega arith) (omega arith)

pub above_3 : (x : ℕ) → RanksAbove first_four x 3 → (1 ≡ x) ⊎ (2 ≡ x)
above_3 x above =
    elim (cases_lt 0 (position_of first_four x)) [
      | inl second ↦ inr (at_position first_four x 1 (omega arith) (omega arith))
      | inr first ↦ inl (at_position first_four x 0 (omega arith) (omega arith))
    ]

pub one_of_three : IsCanonical (Joined square) first_four 1 3 2
one_of_three = record { least = IsLeast-from_bound square from_1 refl 1 3 2 one_to_three refl; highest = λ x on. above_1 (2 ∷ 3 ∷ 4 ∷ []) x }

one_not_on_2_3 : IsOn (Joined square) 2 1 3 → ⊥
one_not_on_2_3 on = omega (arith, IsOn-bound square from_2 from_1 refl refl 2 1 3 1 (side 2 3 1 (omega arith) refl) on)

pub two_of_three : IsCanonical (Joined square) first_four 2 3 1
two_of_three = record {
  least = IsLeast-from_bound square from_2 refl 2 3 1 (side 2 3 1 (omega arith) refl) refl;
  highest = λ x on above. one_not_on_2_3 (subst (λ y. IsOn (Joined square) 2 y 3) (sym (above_2 x above)) on);
}

one_not_on_3_4 : IsOn (Joined square) 3 1 4 → ⊥
one_not_on_3_4 on = omega (arith, IsOn-bound square from_3 from_1 refl refl 3 1 4 1 (side 3 4 2 (omega arith) refl) on)

two_not_on_3_4 : IsOn (Joined square) 3 2 4 → ⊥
two_not_on_3_4 on = omega (arith, IsOn-bound square from_3 from_2 refl refl 3 2 4 1 (side 3 4 2 (omega arith) refl) on)

pub three_of_four : IsCanonical (Joined square) first_four 3 4 1
three_of_four = record {
  least = IsLeast-from_bound square from_3 refl 3 4 1 (side 3 4 2 (omega arith) refl) refl;
  highest = λ x on above. elim (above_3 x above) [
    | inl one ↦ one_not_on_3_4 (subst (λ y. IsOn (Joined square) 3 y 4) (sym one) on)
    | inr two ↦ two_not_on_3_4 (subst (λ y. IsOn (Joined square) 3 y 4) (sym two) on)
  ];
}

-- node 1 is on a shortest walk from 2 to 4
one_on_2_4 : IsOn (Joined square) 2 1 4
one_on_2_4 =
    let there = side_back 2 1 0 (omega arith) refl in
    let on = side_back 1 4 3 (omega arith) refl in
    IsOn-from_parts (Joined square) 2 1 4 1 1 there on (IsLeast-from_bound square from_2 refl 2 4 2 (HasWalk-append (Joined square) 2 1 4 1 1 there on) refl)

pub two_not_of_four : (d : ℕ) → IsCanonical (Joined square) first_four 2 4 d → ⊥
two_not_of_four d canonical = canonical.highest 1 one_on_2_4 (omega arith)

one_of_four : IsCanonical (Joined square) first_four 1 4 1
one_of_four = record { least = IsLeast-from_bound square from_1 refl 1 4 1 (side_back 1 4 3 (omega arith) refl) refl; highest = λ x on. above_1 (2 ∷ 3 ∷ 4 ∷ []) x }

two_to_four : IsLeast (Joined square) 2 4 2
two_to_four = IsLeast-from_bound square from_2 refl 2 4 2 (HasWalk-append (Joined square) 2 1 4 1 1 (side_back 2 1 0 (omega arith) refl) (side_back 1 4 3 (omega arith) refl)) refl

pub answer_of_two_and_four : IsAnswer (Joined square) first_four 2 4 (Some (2, 1))
answer_of_two_and_four = (two_to_four, record { on = one_on_2_4; highest = λ x on. above_1 (2 ∷ 3 ∷ 4 ∷ []) x })

sides : (x y w : ℕ) → Joined square x y w → 1 ≤ w
sides = Joined-positive square (All-from_recursion (λ e. 1 ≤ e.w) square (omega arith, (omega arith, (omega arith, (omega arith, tt)))))

-- from 1 to 4 it goes by the side between them
one_to_four : IsFirstShortest (Joined square) 1 4 1 (1 ∷ 4 ∷ [])
one_to_four =
    let n : IsNext (Joined square) 1 4 1 4 = record { weight = 1; light = omega arith; arc = inr (3, omega arith, refl); walk = HasWalk-none (Joined square) 4 } in
    IsFirstShortest-step (Joined square) sides 1 4 1 4 (4 ∷ []) one_of_four.least n only_four (IsFirstShortest-end (Joined square) sides 4)
  where
    only_four : (x : ℕ) → IsNext (Joined square) 1 4 1 x → 4 ≤ x
    only_four x m =
        let is = HasWalk-zero (Joined square) sides x 4 (HasWalk-same (Joined square) x 4 (1 - m.weight) 0 (omega (arith, sides 1 x m.weight m.arc)) m.walk) in
        omega arith

-- from 2 to 4 it goes by 1, and not by 3
pub walk_of_two_and_four : IsFirstShortest (Joined square) 2 4 2 (2 ∷ 1 ∷ 4 ∷ [])
walk_of_two_and_four =
    let n : IsNext (Joined square) 2 4 2 1 = record { weight = 1; light = omega arith; arc = inr (0, omega arith, refl); walk = one_to_four.least.walk } in
    IsFirstShortest-step (Joined square) sides 2 4 2 1 (1 ∷ 4 ∷ []) two_to_four n from_one one_to_four
  where
    from_one : (x : ℕ) → IsNext (Joined square) 2 4 2 x → 1 ≤ x
    from_one x m = leb-true 1 x (Joined-passes (λ _ y _. leb 1 y) square refl 2 x m.weight m.arc)

one_of_two_in_square : IsCanonical (Joined square) first_four 1 2 1
one_of_two_in_square = record { least = IsLeast-from_bound square from_1 refl 1 2 1 (side 1 2 0 (omega arith) refl) refl; highest = λ x on. above_1 (2 ∷ 3 ∷ 4 ∷ []) x }

its_own : (h : ℕ) → IsCanonical (Joined square) first_four h h 0
its_own = IsCanonical-itself (Joined square) first_four sides

not_lower : (h v : ℕ) → RanksAbove first_four v h → (d : ℕ) → IsCanonical (Joined square) first_four h v d → ⊥
not_lower h v above d hub = IsCanonical-ranked (Joined square) first_four h v d hub above

-- the hubs of v from the position k on
abbrev From : ℕ → ℕ → List Entry → Type 0
From = IsRowFrom (Joined square) first_four

past_the_end : (v : ℕ) → From v 4 []
past_the_end v = row_from_end (Joined square) first_four v 4 refl

hub : (v h k d : ℕ) (row : List Entry) → slice_get first_four k ≡ Some h → IsCanonical (Joined square) first_four h v d → From v (k + 1) row → From v k (entry k d ∷ row)
hub = row_with (Joined square) first_four

no_hub : (v h k : ℕ) (row : List Entry) → slice_get first_four k ≡ Some h → ((d : ℕ) → IsCanonical (Joined square) first_four h v d → ⊥) → From v (k + 1) row → From v k row
no_hub = row_without (Joined square) first_four

row_1 : From 1 0 (entry 0 0 ∷ [])
row_1 = hub 1 1 0 0 [] refl (its_own 1) (no_hub 1 2 1 [] refl (not_lower 2 1 (omega arith)) (no_hub 1 3 2 [] refl (not_lower 3 1 (omega arith)) (no_hub 1 4 3 [] refl (not_lower 4 1 (omega arith)) (past_the_end 1))))

row_2 : From 2 0 (entry 0 1 ∷ entry 1 0 ∷ [])
row_2 = hub 2 1 0 1 (entry 1 0 ∷ []) refl one_of_two_in_square (hub 2 2 1 0 [] refl (its_own 2) (no_hub 2 3 2 [] refl (not_lower 3 2 (omega arith)) (no_hub 2 4 3 [] refl (not_lower 4 2 (omega arith)) (past_the_end 2))))

row_3 : From 3 0 (entry 0 2 ∷ entry 1 1 ∷ entry 2 0 ∷ [])
row_3 = hub 3 1 0 2 (entry 1 1 ∷ entry 2 0 ∷ []) refl one_of_three (hub 3 2 1 1 (entry 2 0 ∷ []) refl two_of_three (hub 3 3 2 0 [] refl (its_own 3) (no_hub 3 4 3 [] refl (not_lower 4 3 (omega arith)) (past_the_end 3))))

row_4 : From 4 0 (entry 0 1 ∷ entry 2 1 ∷ entry 3 0 ∷ [])
row_4 = hub 4 1 0 1 (entry 2 1 ∷ entry 3 0 ∷ []) refl one_of_four (no_hub 4 2 1 (entry 2 1 ∷ entry 3 0 ∷ []) refl two_not_of_four (hub 4 3 2 1 (entry 3 0 ∷ []) refl three_of_four (hub 4 4 3 0 [] refl (its_own 4) (past_the_end 4))))

rows_by_place : (k : ℕ) → k < 4 → IsRow (Joined square) first_four (k + 1) (get_or square_rows k [])
rows_by_place zero lt = row_from_first (Joined square) first_four 1 _ row_1
rows_by_place (suc zero) lt = row_from_first (Joined square) first_four 2 _ row_2
rows_by_place (suc (suc zero)) lt = row_from_first (Joined square) first_four 3 _ row_3
rows_by_place (suc (suc (suc zero))) lt = row_from_first (Joined square) first_four 4 _ row_4
rows_by_place (suc (suc (suc (suc k)))) lt = absurd (omega arith)

pub labelling_of_the_square : IsChl (Joined square) first_four square_rows
labelling_of_the_square = record { size = refl; row = λ v from_one up_to_n. let back : v - 1 + 1 ≡ v = omega arith in subst (λ x. IsRow (Joined square) first_four x (label_row square_rows v)) back (rows_by_place (v - 1) (omega arith)) }

-- the lighter of the two edges
lighter : HasWalk (Joined two_parts) 1 2 3
lighter = HasWalk-arc (Joined two_parts) 1 2 3 (inr (1, omega arith, refl))

pub three_is_least : IsLeast (Joined two_parts) 1 2 3
three_is_least = IsLeast-from_bound two_parts (by_node (0 ∷ 3 ∷ 0 ∷ [])) refl 1 2 3 lighter refl

pub one_and_three_apart : AreApart (Joined two_parts) 1 3
one_and_three_apart = AreApart-from_parts two_parts (by_node (0 ∷ 0 ∷ 1 ∷ [])) refl 1 3 (λ same. omega (arith, same))

pub one_of_two : IsCanonical (Joined two_parts) first_three 1 2 3
one_of_two = record { least = three_is_least; highest = λ x on. above_1 (2 ∷ 3 ∷ []) x }
