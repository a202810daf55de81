-- Placed arcs, sorted row by row, are compressed rows.
use Rattle.std.specs.Prelude.{◌≡◌, ℕ, suc, ◌+◌, ◌-◌, ◌<◌, ◌≤◌, List, [], ◌∷◌, ◌++◌, All, length, slice_index, slice_range, refl}
use Rattle.std.specs.List.Sorted.{IsNonDecreasing}
use Rattle.std.proofs.Common.{◌∙◌, ap, subst, arith, take, drop}
use Rattle.std.proofs.lemmas.Bool.{ne_eqb}
use Rattle.std.proofs.lemmas.List.{get_or_default, take_at}
use Rattle.std.proofs.lemmas.List.Elements.{All-head, All-tail}
use Rattle.std.proofs.lemmas.List.Sorted.{IsNonDecreasingBy-from_all_adjacent}
use Rattle.walk_laws.specs.declared.graph.Edge.{Edge}
use Rattle.walk_laws.specs.declared.graph.Arc.{Arc}
use Rattle.walk_laws.specs.Graph.{IsGraph, IsRowOf, arcs_at}
use Rattle.walk_laws.specs.Rows.{AreWithin, IsPlaced, arcs_before}
use Rattle.walk_laws.proofs.PlacedArcs.{arcs_before_rises}
use Rattle.walk_laws.proofs.StoredRows.{IsStored}
use Rattle.walk_laws.proofs.SortedRows.{row_at}

-- where the arcs of a node end, those of the next begin
end_is : (edges : List Edge) (arcs : List Arc) (ends : List ℕ) (v : ℕ) → IsPlaced edges (arcs_at edges) arcs ends → v < length ends → slice_index ends v ≡ arcs_before edges (suc v)
end_is edges arcs ends v placed lt = placed.ends v lt

pub ends_rise : (edges : List Edge) (arcs : List Arc) (ends : List ℕ) → IsPlaced edges (arcs_at edges) arcs ends → IsNonDecreasing ends
ends_rise edges arcs ends placed =
    IsNonDecreasingBy-from_all_adjacent (λ at. at) ends
    (λ k d lt. omega (arith, get_or_default ends k d 0 (omega arith), get_or_default ends (k + 1) d 0 lt, end_is edges arcs ends k placed (omega arith), end_is edges arcs ends (k + 1) placed lt, arcs_before_rises edges (suc k) (suc (k + 1)) (omega arith)))

pub ends_within : (edges : List Edge) (arcs : List Arc) (ends : List ℕ) → IsPlaced edges (arcs_at edges) arcs ends → All (λ at. at ≤ length arcs) ends
ends_within edges arcs ends placed k d lt =
    omega (arith, get_or_default ends k d 0 lt, placed.ends k lt, arcs_before_rises edges k (length ends) lt, placed.room)

-- between two ends stand the arcs of a node
placed_row : (edges : List Edge) (arcs : List Arc) (ends : List ℕ) (v : ℕ) → IsPlaced edges (arcs_at edges) arcs ends → 1 ≤ v → v < length ends → row_at ends arcs v ≡ arcs_at edges v
placed_row edges arcs ends v placed low lt =
    let next : suc (v - 1) ≡ v = omega arith in
    let from : slice_index ends (v - 1) ≡ arcs_before edges v = end_is edges arcs ends (v - 1) placed (omega arith) ∙ ap (arcs_before edges) next in
    ap (λ at. slice_range arcs at (slice_index ends v)) from ∙ placed.rows v lt

-- a node that no edge names has no arcs
arcs_at_none : (edges : List Edge) (v : ℕ) → AreWithin edges v → arcs_at edges v ≡ []
arcs_at_none [] v within = refl
arcs_at_none (e ∷ edges) v within =
    let ends = All-head (λ (x : Edge). (x.u < v) × (x.v < v)) e edges within in
    rw (ne_eqb e.u v (λ same. omega (arith, ends.0)), ne_eqb e.v v (λ same. omega (arith, ends.1))) (arcs_at_none edges v (All-tail (λ (x : Edge). (x.u < v) × (x.v < v)) e edges within))

no_row : IsRowOf [] []
no_row = record { rising = λ i j d le lt. absurd (omega arith); each = λ t. refl }

pub IsStored-sorted : (n : ℕ) (edges : List Edge) (arcs sorted : List Arc) (ends : List ℕ) → IsGraph n edges → AreWithin edges (length ends) → IsPlaced edges (arcs_at edges) arcs ends → length sorted ≡ length arcs → ((v : ℕ) → 1 ≤ v → v < length ends → IsRowOf (row_at ends arcs v) (row_at ends sorted v)) → IsStored n edges sorted ends
IsStored-sorted n edges arcs sorted ends graph within placed long rows =
    let beyond : (v : ℕ) → length ends ≤ v → AreWithin edges v = λ v past k d lt. (omega (arith, (within k d lt).0), omega (arith, (within k d lt).1)) in (
      graph,
      ends_rise edges arcs ends placed,
      λ k d lt. omega (arith, ends_within edges arcs ends placed k d lt, long),
      λ v low high. subst (λ l. IsRowOf l (row_at ends sorted v)) (placed_row edges arcs ends v placed low high) (rows v low high),
      λ v past. rw (arcs_at_none edges v (beyond v past)) no_row,
    )

-- what a borrowed list was written over with
pub written : {X : Type 0} (xs ys : List X) (n : ℕ) → length ys ≡ n → take n (ys ++ drop (length ys) xs) ≡ ys
written xs ys n long = take_at ys (drop (length ys) xs) n long
