-- The law of gathered rows. `laws` has a public function for it.
use Rattle.std.specs.Prelude.{◌≡◌, ℕ, ◌≤◌, Bool, true, List, length}
use Rattle.walk_laws.specs.declared.graph.Edge.{Edge}
use Rattle.walk_laws.specs.declared.entry.Entry.{Entry}
use Rattle.walk_laws.specs.Joined.{Joined}
use Rattle.walk_laws.specs.Labelling.{IsPartChl, label_row}
use Rattle.hub_index.specs.NodeEntries.{IsGatheredRow}
use Rattle.entry_sinks.specs.Sunk.{HoldsPart}

-- entries in any order that are those of the hubs at some positions, none twice, are gathered to that part of the labelling
abbrev pub TheGatheredAreThePart : Type 0
TheGatheredAreThePart = (edges : List Edge) (at : List ℕ) (is_in : ℕ → Bool) (entries : ℕ → List Entry) (rows : List (List Entry)) → length rows ≡ length at → ((v : ℕ) → 1 ≤ v → v ≤ length at → IsGatheredRow (entries v) (label_row rows v)) → HoldsPart edges at (λ p. is_in p ≡ true) entries → IsPartChl (Joined edges) at (λ p. is_in p ≡ true) rows
