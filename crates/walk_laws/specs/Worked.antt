-- Two small graphs, worked by hand.
use Rattle.std.specs.Prelude.{ℕ, List, [], ◌∷◌}
use Rattle.walk_laws.specs.declared.graph.Edge.{Edge}
use Rattle.walk_laws.specs.declared.entry.Entry.{Entry}

abbrev pub edge : ℕ → ℕ → ℕ → Edge
edge u v w = record { u = u; v = v; w = w }

-- the square 1-2-3-4-1, each side of weight 1
abbrev pub square : List Edge
square = edge 1 2 1 ∷ edge 2 3 1 ∷ edge 3 4 1 ∷ edge 4 1 1 ∷ []

-- two edges between 1 and 2, a self-loop at 1, and node 3 by itself
abbrev pub two_parts : List Edge
two_parts = edge 1 2 5 ∷ edge 2 1 3 ∷ edge 1 1 4 ∷ []

-- the rankings of three and of four nodes in which a smaller number ranks above a greater
abbrev pub first_three : List ℕ
first_three = 1 ∷ 2 ∷ 3 ∷ []

abbrev pub first_four : List ℕ
first_four = 1 ∷ 2 ∷ 3 ∷ 4 ∷ []

abbrev pub entry : ℕ → ℕ → Entry
entry p d = record { pos = p; dist = d }

-- the rows of the square's nodes: nine entries
abbrev pub square_rows : List (List Entry)
square_rows =
    (entry 0 0 ∷ [])
    ∷ (entry 0 1 ∷ entry 1 0 ∷ [])
    ∷ (entry 0 2 ∷ entry 1 1 ∷ entry 2 0 ∷ [])
    ∷ (entry 0 1 ∷ entry 2 1 ∷ entry 3 0 ∷ [])
    ∷ []
