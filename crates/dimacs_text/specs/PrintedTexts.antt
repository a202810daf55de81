-- The texts of a graph and of edits without comments, blank lines or needless zeros.
use Rattle.std.specs.Prelude.{ℕ, List, ◌∷◌, [], ◌++◌, codes, length, flat_map}
use Rattle.std.specs.Fmt.{decimal}
use Rattle.walk_laws.specs.declared.graph.Edge.{Edge}

-- `a U V W`, words parted by one space, and one LF
abbrev pub edge_line : Edge → List ℕ
edge_line e = codes "a " ++ (decimal e.u ++ 32 ∷ (decimal e.v ++ 32 ∷ (decimal e.w ++ 10 ∷ [])))

-- `p sp N M` with the numbers of nodes and edges, and then the edges, one to a line
abbrev pub graph_text : ℕ → List Edge → List ℕ
graph_text n edges = codes "p sp " ++ (decimal n ++ 32 ∷ (decimal (length edges) ++ 10 ∷ flat_map edge_line edges))

-- `p open K` with the number of edges, and then the same
abbrev pub edits_text : List Edge → List ℕ
edits_text edges = codes "p open " ++ (decimal (length edges) ++ 10 ∷ flat_map edge_line edges)
