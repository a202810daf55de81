-- The law of labellings up to a position. `laws` has a public function for it.
use Rattle.std.specs.Prelude.{◌↔◌, ℕ, List, length}
use Rattle.walk_laws.specs.declared.graph.Edge.{Edge}
use Rattle.walk_laws.specs.declared.entry.Entry.{Entry}
use Rattle.walk_laws.specs.Joined.{Joined}
use Rattle.walk_laws.specs.Labelling.{IsChl}
use Rattle.label_clean.specs.Below.{IsChlBelow}

-- up to the end of the ranking it is the canonical hub labelling
abbrev pub TheWholeIsTheLabelling : Type 0
TheWholeIsTheLabelling = (edges : List Edge) (at : List ℕ) (rows : List (List Entry)) → IsChlBelow edges at (length at) rows ↔ IsChl (Joined edges) at rows
