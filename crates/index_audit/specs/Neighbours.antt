-- What the row of a neighbour tells of an entry.
use Rattle.std.specs.Prelude.{◌≡◌, ℕ, ◌+◌, List, Contains}
use Rattle.walk_laws.specs.declared.entry.Entry.{Entry}
use Rattle.walk_laws.specs.declared.graph.Arc.{Arc}
use Rattle.walk_laws.specs.Labelling.{label_row}
use Rattle.index_audit.specs.declared.neighbours.Told.{Told}
use Rattle.index_audit.specs.declared.neighbours.Told.TheVariants.{Nearer, Covered, Uncovered}
use Rattle.index_audit.specs.Checks.{IsCoveredAt}

-- the row at the end of the arc has the hub of the entry e, nearer by the arc's weight
abbrev pub IsNearerBy : List (List Entry) → Entry → Arc → Type 0
IsNearerBy rows e a = (d : ℕ) × Contains (label_row rows a.to) (record { pos = e.pos; dist = d }) × (d + a.w ≡ e.dist)

-- the entry e, whose hub is h, is covered at the end of the arc
abbrev pub IsCoveredBy : List (List Entry) → ℕ → Entry → Arc → Type 0
IsCoveredBy rows h e a = IsCoveredAt rows h a.to (e.dist + a.w)

-- what the row there tells of it
abbrev pub IsToldBy : List (List Entry) → ℕ → Entry → Arc → Told → Type 0
IsToldBy rows h e a Nearer = IsNearerBy rows e a × IsCoveredBy rows h e a
IsToldBy rows h e a Covered = ¬ IsNearerBy rows e a × IsCoveredBy rows h e a
IsToldBy rows h e a Uncovered = ¬ IsNearerBy rows e a × ¬ IsCoveredBy rows h e a
