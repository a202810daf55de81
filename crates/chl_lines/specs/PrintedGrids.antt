-- The printed lines of a grid whose index was built by three of the constructions. Each line is ended by one LF.
use Rattle.std.specs.Prelude.{ℕ, List, [], ◌∷◌, ◌++◌, codes}
use Rattle.std.specs.Fmt.{decimal}
use Rattle.grid_work.specs.declared.totals.Totals.{Totals}
use Rattle.chl_lines.specs.declared.grid.GridReport.{GridReport}

-- `grid S X`: the side and the seed
abbrev pub grid_line : ℕ → ℕ → List ℕ
grid_line side seed = codes "grid " ++ (decimal side ++ (32 ∷ decimal seed) ++ 10 ∷ [])

-- `nodes N edges M`: how many nodes and edges the graph has
abbrev pub size_line : ℕ → ℕ → List ℕ
size_line nodes edges = codes "nodes " ++ (decimal nodes ++ (codes " edges " ++ decimal edges) ++ 10 ∷ [])

-- the name of a construction, and then ` E D`: how many entries its index has, and the sum of their distances
abbrev pub totals_line : List ℕ → Totals → List ℕ
totals_line name totals = name ++ ((32 ∷ decimal totals.entries) ++ (32 ∷ decimal totals.distances) ++ 10 ∷ [])

-- the five lines
abbrev pub grid_lines : GridReport → List ℕ
grid_lines report =
    grid_line report.side report.seed
    ++ (size_line report.nodes report.edges
    ++ (totals_line (codes "plant") report.plant
    ++ (totals_line (codes "lcc") report.lcc
    ++ totals_line (codes "gll") report.gll)))
