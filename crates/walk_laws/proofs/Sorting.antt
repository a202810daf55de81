-- Arcs sorted by their neighbour, ties in their order, are a row.
use Rattle.std.specs.Prelude.{◌≡◌, ℕ, ◌+◌, ◌≤◌, ◌<◌, ◌==◌, Bool, false, List, map, length}
use Rattle.std.specs.Ordering.{nat_cmp, is_lt}
use Rattle.std.specs.List.Sorted.{IsNonDecreasing, IsNonDecreasingBy, IsSortedBy, IsStableBy, ties}
use Rattle.std.proofs.Common.{◌∙◌, sym, arith, get_or}
use Rattle.std.proofs.lemmas.Bool.Decides.{nat_tests}
use Rattle.std.proofs.lemmas.List.{get_or-map, length-map}
use Rattle.std.proofs.lemmas.List.Elements.{filter_agree}
use Rattle.std.proofs.lemmas.List.Sorted.{IsNonDecreasingBy-from_all_adjacent}
use Rattle.walk_laws.specs.declared.graph.Arc.{Arc}
use Rattle.walk_laws.specs.Graph.{IsRowOf}

-- the order that the sort's keys give
abbrev pub comes_before : Arc → Arc → Bool
comes_before x y = is_lt (nat_cmp x.to y.to)

neighbour_rises : (x y : Arc) → comes_before y x ≡ false → x.to ≤ y.to
neighbour_rises x y h = grind (arith, nat_tests)

neighbours_rise : (xs : List Arc) → IsSortedBy comes_before xs → IsNonDecreasingBy (λ a. a.to) xs
neighbours_rise xs sorted =
    IsNonDecreasingBy-from_all_adjacent (λ a. a.to) xs
    (λ k d lt. neighbour_rises (get_or xs k d) (get_or xs (k + 1) d) (sorted k d (omega arith) lt))

-- an arc to name where a list has none
abbrev nowhere : Arc
nowhere = record { to = 0; w = 0 }

rows_rise : (xs : List Arc) → IsSortedBy comes_before xs → IsNonDecreasing (map (λ a. a.to) xs)
rows_rise xs sorted i j d le lt =
    let within : j < length xs = omega (arith, length-map xs (λ (a : Arc). a.to)) in
    omega (arith, get_or-map (λ (a : Arc). a.to) xs i nowhere d (omega arith), get_or-map (λ (a : Arc). a.to) xs j nowhere d within, neighbours_rise xs sorted i j nowhere le within)

ties_is : (x y : Arc) → ties comes_before x y ≡ (y.to == x.to)
ties_is x y = grind (arith, nat_tests)

pub IsRowOf-sorted : (xs ys : List Arc) → IsSortedBy comes_before ys → IsStableBy comes_before xs ys → IsRowOf xs ys
IsRowOf-sorted xs ys sorted stable =
    let at : ℕ → Arc = λ t. record { to = t; w = 0 } in
    record {
      rising = rows_rise ys sorted;
      each = λ t. filter_agree (λ a. a.to == t) (ties comes_before (at t)) (λ a. sym (ties_is (at t) a)) ys ∙ stable (at t) ∙ sym (filter_agree (λ a. a.to == t) (ties comes_before (at t)) (λ a. sym (ties_is (at t) a)) xs);
    }
