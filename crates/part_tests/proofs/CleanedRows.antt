-- The rows of the tests may be cleaned.
use Rattle.std.proofs.Common.{ℕ, zero, suc, ◌<◌, ◌≤◌, List, [], ◌∷◌, arith, rules}
use Rattle.std.specs.List.{IsDistinct, AllByRecursion}
use Rattle.std.proofs.lemmas.List.Elements.{All-from_recursion}
use Rattle.walk_laws.specs.declared.entry.Entry.{Entry}
use Rattle.walk_laws.specs.Worked.{entry}
use Rattle.label_clean.specs.RawRows.{HasEachOnce, IsRawRow, both_rows}

-- the entries of the first hub, and of the others
abbrev pub first : List (List Entry)
first = (entry 0 0 ∷ []) ∷ (entry 0 1 ∷ []) ∷ (entry 0 2 ∷ []) ∷ (entry 0 1 ∷ []) ∷ []

abbrev pub later : List (List Entry)
later = [] ∷ (entry 1 0 ∷ []) ∷ (entry 1 1 ∷ entry 2 0 ∷ []) ∷ (entry 3 0 ∷ entry 1 2 ∷ entry 2 1 ∷ []) ∷ []

raw_row : (row : List Entry) → AllByRecursion (λ e. e.pos < 4) row → HasEachOnce row → IsRawRow 4 row
raw_row row within once = record { within = All-from_recursion (λ (e : Entry). e.pos < 4) row within; once = once }

pub both_may : (v : ℕ) → 1 ≤ v → v ≤ 4 → IsRawRow 4 (both_rows first later v)
unfolding IsDistinct
both_may zero low high = absurd (omega (arith, low))
both_may (suc zero) low high = raw_row (both_rows first later 1) (search rules) (search rules)
both_may (suc (suc zero)) low high = raw_row (both_rows first later 2) (search rules) (search rules)
both_may (suc (suc (suc zero))) low high = raw_row (both_rows first later 3) (search rules) (search rules)
both_may (suc (suc (suc (suc zero)))) low high = raw_row (both_rows first later 4) (search rules) (search rules)
both_may (suc (suc (suc (suc (suc v))))) low high = absurd (omega (arith, high))
