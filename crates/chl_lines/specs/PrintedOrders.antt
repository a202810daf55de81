-- The printed nodes of a ranking: an order text.
use Rattle.std.specs.Prelude.{ℕ, List, [], ◌∷◌, ◌++◌, flat_map}
use Rattle.std.specs.Fmt.{decimal}

-- a node on a line of its own, ended by one LF
abbrev pub node_line : ℕ → List ℕ
node_line v = decimal v ++ 10 ∷ []

-- the nodes of a ranking, highest rank first
abbrev pub order_lines : List ℕ → List ℕ
order_lines at = flat_map node_line at
