-- The laws of graph, pairs and edits texts. `laws` has a public function for each.
use Rattle.std.specs.Prelude.{◌≡◌, ℕ, ◌^◌, ◌<◌, ◌≤◌, List, ◌++◌, length, All, Ok}
use Rattle.walk_laws.specs.declared.graph.Edge.{Edge}
use Rattle.walk_laws.specs.Graph.{WeightedGraph, IsEdge, IsGraph}
use Rattle.dimacs_text.specs.EditsText.{edits_of_text}
use Rattle.dimacs_text.specs.GraphText.{graph_of_text}
use Rattle.dimacs_text.specs.PairsText.{pairs_of_text}
use Rattle.dimacs_text.specs.PrintedTexts.{edits_text, graph_text}

-- what a graph text stands for is a graph, of weights below 2^64
abbrev pub GraphTextsAreGraphs : Type 0
GraphTextsAreGraphs = (text : List ℕ) (g : WeightedGraph) → graph_of_text text ≡ Ok g → IsGraph g.n g.edges × All (λ e. e.w < 2 ^ 64) g.edges

-- a graph of fewer than 2^32 edges, of weights below 2^64, that is printed is read back
abbrev pub PrintedGraphsAreRead : Type 0
PrintedGraphsAreRead = (n : ℕ) (edges : List Edge) → IsGraph n edges → All (λ e. e.w < 2 ^ 64) edges → length edges < 2 ^ 32 → graph_of_text (graph_text n edges) ≡ Ok (record { n = n; edges = edges })

-- what a pairs text over the nodes 1..n stands for are pairs of these
abbrev pub PairsTextsArePairs : Type 0
PairsTextsArePairs = (n : ℕ) (text : List ℕ) (pairs : List (ℕ × ℕ)) → pairs_of_text n text ≡ Ok pairs → All (λ p. (1 ≤ p.0) × (p.0 ≤ n) × (1 ≤ p.1) × (p.1 ≤ n)) pairs

-- what an edits text over the nodes 1..n stands for are edges between these, of weights below 2^64
abbrev pub EditsTextsAreEdges : Type 0
EditsTextsAreEdges = (n : ℕ) (text : List ℕ) (edits : List Edge) → edits_of_text n text ≡ Ok edits → All (IsEdge n) edits × All (λ e. e.w < 2 ^ 64) edits

-- and a graph of n nodes with them at its end is a graph
abbrev pub EditedGraphsAreGraphs : Type 0
EditedGraphsAreGraphs = (n : ℕ) (text : List ℕ) (edges edits : List Edge) → edits_of_text n text ≡ Ok edits → IsGraph n edges → IsGraph n (edges ++ edits)

-- fewer than 2^32 such edges that are printed are read back
abbrev pub PrintedEditsAreRead : Type 0
PrintedEditsAreRead = (n : ℕ) (edits : List Edge) → n < 2 ^ 64 → All (IsEdge n) edits → All (λ e. e.w < 2 ^ 64) edits → length edits < 2 ^ 32 → edits_of_text n (edits_text edits) ≡ Ok edits
