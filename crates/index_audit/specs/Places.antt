-- Places of a row.
use Rattle.std.specs.Prelude.{ℕ, ◌<◌, List, slice_index_or}
use Rattle.walk_laws.specs.declared.entry.Entry.{Entry}

-- the position at a place of a row
abbrev pub pos_at : List Entry → ℕ → ℕ
pos_at row k = (slice_index_or row k (record { pos = 0; dist = 0 })).pos

-- the positions at the places before `end` are below p
abbrev pub BelowUpTo : List Entry → ℕ → ℕ → Type 0
BelowUpTo row end p = (k : ℕ) → k < end → pos_at row k < p
