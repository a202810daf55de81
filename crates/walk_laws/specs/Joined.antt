-- Which nodes an edge list joins.
use Rattle.std.specs.Prelude.{ℕ, List, Contains, ◌⊎◌}
use Rattle.walk_laws.specs.declared.graph.Edge.{Edge}

-- an edge between x and y of weight w, whichever end it names first
abbrev pub Joined : List Edge → ℕ → ℕ → ℕ → Type 0
Joined edges x y w = Contains edges (record { u = x; v = y; w = w }) ⊎ Contains edges (record { u = y; v = x; w = w })
