-- The laws of vias. `laws` has a public function for each.
use Rattle.std.specs.Prelude.{◌≡◌, ◌↔◌, ℕ, ◌≤◌, List, Some, All, Contains, length, slice_get}
use Rattle.walk_laws.specs.declared.graph.Edge.{Edge}
use Rattle.walk_laws.specs.declared.entry.Entry.{Entry}
use Rattle.walk_laws.specs.Graph.{IsEdge, IsGraph}
use Rattle.walk_laws.specs.Joined.{Joined}
use Rattle.walk_laws.specs.Ranking.{IsRanking}
use Rattle.walk_laws.specs.Labelling.{IsChl, label_row}
use Rattle.walk_laws.specs.Overflow.{Overflows}
use Rattle.entry_vias.specs.Vias.{IsVia}
use Rattle.entry_vias.specs.RowVias.{IsFirstNearer, IsRowVia, AreVias, HaveVias}

-- in the canonical hub labelling each entry but the node's own has a neighbour that is nearer
abbrev pub TheViaIsThere : Type 0
TheViaIsThere = (edges : List Edge) (at : List ℕ) (rows : List (List Entry)) (v : ℕ) (e : Entry) → All (IsEdge (length at)) edges → IsRanking at → IsChl (Joined edges) at rows → 1 ≤ v → v ≤ length at → Contains (label_row rows v) e → 1 ≤ e.dist → (y : ℕ) × IsFirstNearer (Joined edges) rows v e y

-- and what the rows tell is the node before the row's node on a shortest walk from the hub
abbrev pub TheRowsTellTheVia : Type 0
TheRowsTellTheVia = (edges : List Edge) (at : List ℕ) (rows : List (List Entry)) (h v y : ℕ) (e : Entry) → All (IsEdge (length at)) edges → IsRanking at → IsChl (Joined edges) at rows → 1 ≤ v → v ≤ length at → Contains (label_row rows v) e → slice_get at e.pos ≡ Some h → IsRowVia (Joined edges) rows v e y ↔ IsVia (Joined edges) h v e.dist y

-- any rows have vias
abbrev pub EachRowHasVias : Type 0
EachRowHasVias = (edges : List Edge) (rows : List (List Entry)) → (vias : List (List ℕ)) × AreVias (Joined edges) rows vias

-- and only one list of them
abbrev pub ViasAreOne : Type 0
ViasAreOne = (edges : List Edge) (rows : List (List Entry)) (vias others : List (List ℕ)) → AreVias (Joined edges) rows vias → AreVias (Joined edges) rows others → vias ≡ others

-- those of the canonical hub labelling may stand beside its rows, where no hub is too far
abbrev pub TheLabellingHasVias : Type 0
TheLabellingHasVias = (n : ℕ) (edges : List Edge) (at : List ℕ) (rows : List (List Entry)) (vias : List (List ℕ)) → IsGraph n edges → IsRanking at → length at ≡ n → IsChl (Joined edges) at rows → ¬ Overflows (Joined edges) at → AreVias (Joined edges) rows vias → HaveVias rows vias
