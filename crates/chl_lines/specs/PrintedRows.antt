-- The printed rows of a labelling.
use Rattle.std.specs.Prelude.{ℕ, ◌+◌, ◌<◌, List, [], ◌∷◌, ◌++◌, All, codes, flat_map, slice_index}
use Rattle.std.specs.Fmt.{decimal}
use Rattle.walk_laws.specs.declared.entry.Entry.{Entry}

-- ` H D`: the hub, of which the entry has the position in the ranking, and its distance
abbrev pub entry_words : List ℕ → Entry → List ℕ
entry_words at e = (32 ∷ decimal (slice_index at e.pos)) ++ (32 ∷ decimal e.dist)

-- `l V` and then the words of each entry, ended by one LF
abbrev pub row_line : List ℕ → ℕ → List Entry → List ℕ
row_line at v row = codes "l " ++ (decimal v ++ (flat_map (entry_words at) row ++ 10 ∷ []))

-- the lines of rows, of which the first is that of node v
abbrev pub lines_from : List ℕ → ℕ → List (List Entry) → List ℕ
lines_from at v [] = []
lines_from at v (row ∷ rows) = row_line at v row ++ lines_from at (v + 1) rows

-- each entry has a position of the ranking
abbrev pub HasPositions : ℕ → List Entry → Type 0
HasPositions n row = All (λ e. e.pos < n) row
