-- Rows by rising distance.
use Rattle.std.proofs.Common.{◌≡◌, ℕ, ◌<◌, ◌≤◌, inl, inr, Option, List, All, length, map, get_or, take, refl, ap, subst, ◌∙◌, eqb, arith}
use Rattle.std.specs.List.Sorted.{IsPermutation, IsNonDecreasingBy}
use Rattle.std.proofs.lemmas.Bool.{cases_lt}
use Rattle.std.proofs.lemmas.List.{get_or-take, get_or_default, length-take}
use Rattle.std.proofs.lemmas.List.Elements.{All-contains}
use Rattle.std.proofs.lemmas.List.Sorted.{IsPermutation-map, IsPermutation-sym, Contains-permutation}
use Rattle.std.proofs.lemmas.Map.Keys.{IsDistinct-IsPermutation}
use Rattle.walk_laws.specs.declared.entry.Entry.{Entry}
use Rattle.walk_laws.specs.Labelling.{label_row}
use Rattle.hub_index.specs.RootDistances.{IsCover, HoldsRow}
use Rattle.label_clean.specs.RawRows.{HasEachOnce, IsRawRow}
use Rattle.label_clean.specs.Tested.{AreTestedRows, HasEntriesOf, HasCover, HoldsLeast}
use Rattle.label_clean.proofs.Covering.{entry, pos_of}
use Rattle.label_clean.proofs.RowFacts.{eqb_flips, same_entry, All-each}

abbrev pub dist_of : Entry → ℕ
dist_of e = e.dist

-- entries that differ in position, in another order
pub HasEntriesOf-moved : (row moved : List Entry) → HasEachOnce row → IsPermutation row moved → HasEntriesOf row moved
HasEntriesOf-moved row moved once is = record {
  once = IsDistinct-IsPermutation eqb eqb_flips (map pos_of row) (map pos_of moved) (IsPermutation-map pos_of row moved is) once;
  each = λ e. (λ h. Contains-permutation moved row e (IsPermutation-sym row moved is) h, λ h. Contains-permutation row moved e is h);
}

pub HasEntriesOf-same : (row : List Entry) → HasEachOnce row → HasEntriesOf row row
HasEntriesOf-same row once = record { once = once; each = λ e. (λ h. h, λ h. h) }

pub IsRawRow-moved : (n : ℕ) (entries row : List Entry) → HasEntriesOf entries row → All (λ e. e.pos < n) entries → IsRawRow n row
IsRawRow-moved n entries row has within = record {
  within = All-each (λ (e : Entry). e.pos < n) entries row (λ e. (has.each e).0) within;
  once = has.once;
}

-- after an entry that is too far nothing covers
pub no_cover_after : (table : List (Option ℕ)) (p d : ℕ) (row : List Entry) (i : ℕ) (none : Entry) → IsNonDecreasingBy dist_of row → i < length row → d < (get_or row i none).dist → All (λ e. IsCover table p d e → ⊥) (take i row) → HasCover table p d row → ⊥
no_cover_after table p d row i none rising within far before (e, (k, k_within, is), cover) = elim (cases_lt k i) [
  | inl earlier ↦
      All-contains (λ x. IsCover table p d x → ⊥) (take i row) e before (k, omega (arith, earlier, within, length-take i row), get_or-take i row k e earlier ∙ is) cover
  | inr later ↦
      let same : (get_or row k none).dist ≡ e.dist = ap dist_of (get_or_default row k none e k_within ∙ is) in
      omega (arith, rising i k none later k_within, same, far, cover.short)
]

-- a table that was loaded with a row, which has one entry of each hub
pub HoldsLeast-loaded : (at : List ℕ) (tested : List (List Entry)) (v : ℕ) (row : List Entry) (table : List (Option ℕ)) → AreTestedRows at tested → 1 ≤ v → v ≤ length at → row ≡ label_row tested v → HoldsRow table row → HoldsLeast table (label_row tested v)
HoldsLeast-loaded at tested v row table are from_one up_to_n is held =
    let loaded : HoldsRow table (label_row tested v) = subst (HoldsRow table) is held in
    record {
      there = λ p d root. ((loaded p d).0 root).there;
      least = λ e here inside. (
        e.dist,
        (loaded e.pos e.dist).1 (record {
          there = here;
          least = λ d other. let same : e.dist ≡ d = ap dist_of (same_entry (label_row tested v) e (entry e.pos d) (are.raw v from_one up_to_n).once here other refl) in omega (arith, same);
        }),
        omega arith,
      );
    }
