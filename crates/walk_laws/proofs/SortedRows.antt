-- Rows that are sorted one by one in one list, each between two places.
use Rattle.std.specs.Prelude.{◌≡◌, ℕ, ◌+◌, ◌-◌, ◌≤◌, ◌<◌, List, ◌++◌, All, length, slice_index, slice_range}
use Rattle.std.specs.List.Sorted.{IsNonDecreasing}
use Rattle.std.proofs.Common.{◌∙◌, ap, sym, inl, inr, arith, take, drop}
use Rattle.std.proofs.lemmas.Bool.{cases_lt}
use Rattle.std.proofs.lemmas.List.{drop-take, length-append, length-take-le, length-drop}
use Rattle.std.proofs.lemmas.Slice.{take-put_mid_below, drop-put_mid, between-put_mid}
use borrow.Rule.Slice.PartMut.{put_mid}
use Rattle.walk_laws.specs.declared.graph.Arc.{Arc}

-- a part is what is left of a beginning
part_of_first : {X : Type 0} (xs : List X) (a b : ℕ) → a ≤ b → slice_range xs a b ≡ drop a (take b xs)
part_of_first xs a b le =
    let whole : a + (b - a) ≡ b = omega arith in
    sym (ap (λ n. drop a (take n xs)) (sym whole) ∙ drop-take a (b - a) xs)

-- a part before the one that is replaced
part_before : {X : Type 0} (a k : ℕ) (xs ys : List X) (b c : ℕ) → b ≤ c → c ≤ a → a ≤ length xs → slice_range (put_mid a k xs ys) b c ≡ slice_range xs b c
part_before a k xs ys b c low high within =
    part_of_first (put_mid a k xs ys) b c low ∙ ap (drop b) (take-put_mid_below a k xs ys c high within) ∙ sym (part_of_first xs b c low)

-- a part after it
part_after : {X : Type 0} (a k : ℕ) (xs ys : List X) (b c : ℕ) → a + k ≤ b → a ≤ length xs → length ys ≡ k → slice_range (put_mid a k xs ys) b c ≡ slice_range xs b c
part_after a k xs ys b c low within long = ap (take (c - b)) (drop-put_mid a k xs ys b low within long)

pub length-put_mid : {X : Type 0} (a k : ℕ) (xs ys : List X) → a + k ≤ length xs → length ys ≡ k → length (put_mid a k xs ys) ≡ length xs
length-put_mid a k xs ys within long =
    omega (arith, length-append (take a xs) (ys ++ drop k (drop a xs)), length-append ys (drop k (drop a xs)), length-take-le a xs (omega arith), length-drop k (drop a xs), length-drop a xs)

-- the row of v lies between the places v - 1 and v
abbrev pub row_at : List ℕ → List Arc → ℕ → List Arc
row_at ends arcs v = slice_range arcs (slice_index ends (v - 1)) (slice_index ends v)

-- the arcs with another row of v
abbrev pub with_row : List ℕ → List Arc → ℕ → List Arc → List Arc
with_row ends arcs v row = put_mid (slice_index ends (v - 1)) (slice_index ends v - slice_index ends (v - 1)) arcs row

rises : (ends : List ℕ) (i j : ℕ) → IsNonDecreasing ends → i ≤ j → j < length ends → slice_index ends i ≤ slice_index ends j
rises ends i j rising le lt = rising i j 0 le lt

pub length-with_row : (ends : List ℕ) (arcs row : List Arc) (v : ℕ) → IsNonDecreasing ends → All (λ at. at ≤ length arcs) ends → v < length ends → length row ≡ slice_index ends v - slice_index ends (v - 1) → length (with_row ends arcs v row) ≡ length arcs
length-with_row ends arcs row v rising within lt long =
    length-put_mid _ _ arcs row (omega (arith, within v 0 lt, rises ends (v - 1) v rising (omega arith) lt)) long

pub row_at-with_row : (ends : List ℕ) (arcs row : List Arc) (v : ℕ) → IsNonDecreasing ends → All (λ at. at ≤ length arcs) ends → v < length ends → length row ≡ slice_index ends v - slice_index ends (v - 1) → row_at ends (with_row ends arcs v row) v ≡ row
row_at-with_row ends arcs row v rising within lt long =
    between-put_mid _ _ arcs row (slice_index ends v) (within (v - 1) 0 (omega arith)) long

pub row_at-with_other : (ends : List ℕ) (arcs row : List Arc) (v u : ℕ) → IsNonDecreasing ends → All (λ at. at ≤ length arcs) ends → v < length ends → length row ≡ slice_index ends v - slice_index ends (v - 1) → u < length ends → (u ≡ v → ⊥) → row_at ends (with_row ends arcs v row) u ≡ row_at ends arcs u
row_at-with_other ends arcs row v u rising within lt long less other =
    let from = within (v - 1) 0 (omega arith) in
    elim (cases_lt u v) [
      | inl before ↦ part_before (slice_index ends (v - 1)) _ arcs row (slice_index ends (u - 1)) (slice_index ends u) (rises ends (u - 1) u rising (omega arith) less) (rises ends u (v - 1) rising (omega arith) (omega arith)) from
      | inr after ↦ part_after (slice_index ends (v - 1)) _ arcs row (slice_index ends (u - 1)) (slice_index ends u) (omega (arith, rises ends (v - 1) v rising (omega arith) lt, rises ends v (u - 1) rising (omega (arith, other)) (omega arith))) from long
    ]

pub length-row_at : (ends : List ℕ) (arcs : List Arc) (v : ℕ) → slice_index ends v ≤ length arcs → length (row_at ends arcs v) ≡ slice_index ends v - slice_index ends (v - 1)
length-row_at ends arcs v within = length-take-le _ (drop (slice_index ends (v - 1)) arcs) (omega (arith, length-drop (slice_index ends (v - 1)) arcs))
