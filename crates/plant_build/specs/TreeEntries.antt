-- What a planted tree gives a label row.
use Rattle.std.specs.Prelude.{ℕ, ◌==◌, List, filter, map}
use Rattle.walk_laws.specs.declared.entry.Entry.{Entry}

-- the distances of node v among nodes with distances, as entries of the hub at the position p
abbrev pub entries_of : ℕ → ℕ → List (ℕ × ℕ) → List Entry
entries_of p v planted = map (λ e. record { pos = p; dist = e.1 }) (filter (λ e. e.0 == v) planted)
