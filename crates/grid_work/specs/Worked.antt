-- The grid of side 2 from the seed 1.
use Rattle.std.specs.Prelude.{List, [], ◌∷◌}
use Rattle.walk_laws.specs.Worked.{edge, entry}
use Rattle.walk_laws.specs.declared.entry.Entry.{Entry}
use Rattle.walk_laws.specs.declared.graph.Edge.{Edge}

-- its edges
abbrev pub edges_of_side_two : List Edge
edges_of_side_two = edge 1 2 7 ∷ edge 1 3 7 ∷ edge 2 4 2 ∷ edge 3 4 4 ∷ []

-- the rows of its nodes, under the order 1, 2, 3, 4
abbrev pub rows_of_side_two : List (List Entry)
rows_of_side_two =
    (entry 0 0 ∷ [])
    ∷ (entry 0 7 ∷ entry 1 0 ∷ [])
    ∷ (entry 0 7 ∷ entry 1 6 ∷ entry 2 0 ∷ [])
    ∷ (entry 0 9 ∷ entry 1 2 ∷ entry 2 4 ∷ entry 3 0 ∷ [])
    ∷ []
