-- Lists of nodes with their distances.
use Rattle.std.specs.Prelude.{ℕ, ◌≤◌, ◌≢◌, List, All, AllPairs, map}

-- each entry is of a node 1..n
abbrev pub AreOfNodes : ℕ → List (ℕ × ℕ) → Type 0
AreOfNodes n entries = All (λ e. (1 ≤ e.0) × (e.0 ≤ n)) entries

-- no two entries are of one node
abbrev pub NamesEachOnce : List (ℕ × ℕ) → Type 0
NamesEachOnce entries = AllPairs (λ x y. x ≢ y) (map (λ e. e.0) entries)
