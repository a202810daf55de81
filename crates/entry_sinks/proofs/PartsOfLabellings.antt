-- Entries that are gathered are the part of the labelling at their positions.
use Rattle.std.specs.List.Sorted.{IsNonDecreasing, IsNonDecreasingBy, IsStrictlyIncreasing}
use Rattle.std.proofs.Common.{◌≡◌, ◌≢◌, ℕ, ◌<◌, ◌≤◌, true, List, length, map, eqb, sym, ◌∙◌, inl, inr, arith}
use Rattle.std.specs.Prelude.{AllPairs}
use Rattle.std.proofs.lemmas.Bool.{eq-eqb}
use Rattle.std.proofs.lemmas.Bool.Decides.{Decides-eqb, eqb_tells}
use Rattle.std.proofs.lemmas.List.{length-map, get_or-map}
use Rattle.std.proofs.lemmas.List.Sorted.{IsPermutation-map, IsPermutation-sym, Contains-permutation}
use Rattle.std.proofs.lemmas.Map.Keys.{IsDistinct-IsPermutation, IsStrictlyIncreasing-from_distinct}
use Rattle.std.proofs.lemmas.Map.Made.{IsDistinct-from_AllPairs}
use Rattle.walk_laws.specs.declared.graph.Edge.{Edge}
use Rattle.walk_laws.specs.declared.entry.Entry.{Entry}
use Rattle.walk_laws.specs.Joined.{Joined}
use Rattle.walk_laws.specs.Labelling.{IsPartChl, label_row}
use Rattle.hub_index.specs.NodeEntries.{IsGatheredRow}
use Rattle.entry_sinks.specs.Sunk.{HoldsPart}

abbrev pos_of : Entry → ℕ
pos_of e = e.pos

eqb_flips : (x y : ℕ) → eqb x y ≡ eqb y x
eqb_flips x y = elim (eqb_tells x y) [
  | inl same ↦ let t : eqb y x ≡ true = eq-eqb y x (sym same.1) in same.0 ∙ sym t
  | inr apart ↦ elim (eqb_tells y x) [
    | inl same ↦ absurd (apart.1 (sym same.1))
    | inr other ↦ apart.0 ∙ sym other.0
  ]
]

positions_rise : (row : List Entry) → IsNonDecreasingBy pos_of row → IsNonDecreasing (map pos_of row)
positions_rise row up i j d le lt =
    let none : Entry = record { pos = 0; dist = 0 } in
    let within : j < length row = omega (arith, length-map row pos_of) in
    omega (arith, get_or-map pos_of row i none d (omega arith), get_or-map pos_of row j none d within, up i j none le within)

-- rows of entries that differ in position rise strictly
gathered_rise : (entries row : List Entry) → IsGatheredRow entries row → AllPairs (λ x y. x ≢ y) (map pos_of entries) → IsStrictlyIncreasing (map pos_of row)
gathered_rise entries row g once =
    IsStrictlyIncreasing-from_distinct (map pos_of row) (positions_rise row g.rising)
    (IsDistinct-IsPermutation eqb eqb_flips (map pos_of entries) (map pos_of row) (IsPermutation-map pos_of entries row g.same) (IsDistinct-from_AllPairs Decides-eqb (map pos_of entries) once))

pub IsPartChl-gathered : (edges : List Edge) (at : List ℕ) (InPart : ℕ → Type 0) (entries : ℕ → List Entry) (rows : List (List Entry)) → length rows ≡ length at → ((v : ℕ) → 1 ≤ v → v ≤ length at → IsGatheredRow (entries v) (label_row rows v)) → HoldsPart edges at InPart entries → IsPartChl (Joined edges) at InPart rows
IsPartChl-gathered edges at InPart entries rows size gathered holds = record {
  size = size;
  row = λ v from_one up_to.
      let g = gathered v from_one up_to in
      let each = holds.each v from_one up_to in
      record {
        rising = gathered_rise (entries v) (label_row rows v) g (holds.once v from_one up_to);
        each = λ e. (
          λ there. (each e).0 (Contains-permutation (label_row rows v) (entries v) e (IsPermutation-sym (entries v) (label_row rows v) g.same) there),
          λ hub. Contains-permutation (entries v) (label_row rows v) e g.same ((each e).1 hub),
        );
      };
}
