-- What the audit of an index answers: the first thing that is wrong with it, if anything is. Vias are judged where there are any.
use Rattle.std.specs.Prelude.{◌≡◌, ◌≢◌, ℕ, ◌+◌, ◌<◌, ◌≤◌, List, Option, Some, None, length, slice_get, take}
use Rattle.walk_laws.specs.declared.entry.Entry.{Entry}
use Rattle.walk_laws.specs.Graph.{WeightedGraph}
use Rattle.walk_laws.specs.Joined.{Joined}
use Rattle.walk_laws.specs.Labelling.{label_row}
use Rattle.hub_index.specs.HubIndex.{HubIndex}
use Rattle.entry_vias.specs.RowVias.{IsRowVia}
use Rattle.index_audit.specs.declared.answer.Audit.{Audit}
use Rattle.index_audit.specs.declared.answer.Audit.TheVariants.{Same, Sizes, OrderDiffers, NoWalk, NotCovered, Redundant, WrongVia}
use Rattle.index_audit.specs.Checks.{IsWalked, IsCovered, IsFirstUncovered, IsRedundantBy, IsSoundEntry}
use Rattle.index_audit.specs.Beside.{GoesBy}

-- the entry e of v, whose hub is h, has no walk to it
pub record LacksWalk (J : ℕ → ℕ → ℕ → Type 0) (at : List ℕ) (rows : List (List Entry)) (v h : ℕ) (e : Entry) : Type 0 where
  pub place : slice_get at e.pos ≡ Some h
  pub none : ¬ IsWalked J rows v h e

-- it has one, and `to` is the least neighbour at which it isn't covered
pub record LacksCover (J : ℕ → ℕ → ℕ → Type 0) (at : List ℕ) (rows : List (List Entry)) (v to h : ℕ) (e : Entry) : Type 0 where
  pub place : slice_get at e.pos ≡ Some h
  pub walked : IsWalked J rows v h e
  pub first : IsFirstUncovered J rows v h e to

-- it has one and is covered at each, and `by` is the highest-ranked node that makes it redundant
pub record IsNeedless (J : ℕ → ℕ → ℕ → Type 0) (at : List ℕ) (rows : List (List Entry)) (v h by : ℕ) (e : Entry) : Type 0 where
  pub place : slice_get at e.pos ≡ Some h
  pub walked : IsWalked J rows v h e
  pub covered : IsCovered J rows v h e
  pub position : ℕ
  pub node : slice_get at position ≡ Some by
  pub redundant : IsRedundantBy rows v h e position
  pub highest : (q : ℕ) → IsRedundantBy rows v h e q → position ≤ q

-- it passes the three checks, stands at the place k, and doesn't go by `want`, its via as the rows tell it
pub record GoesAstray (J : ℕ → ℕ → ℕ → Type 0) (at : List ℕ) (rows : List (List Entry)) (vias : Option (List (List ℕ))) (v h want k : ℕ) (e : Entry) : Type 0 where
  pub place : slice_get at e.pos ≡ Some h
  pub sound : IsSoundEntry J at rows v e
  pub wanted : IsRowVia J rows v e want
  pub other : ¬ GoesBy vias v k want

-- what is wrong with the entry e at the place k of the row of v
abbrev pub IsFaultOf : (ℕ → ℕ → ℕ → Type 0) → List ℕ → List (List Entry) → Option (List (List ℕ)) → ℕ → ℕ → Entry → Audit → Type 0
IsFaultOf J at rows vias v k e Same = ⊥
IsFaultOf J at rows vias v k e (Sizes graph index) = ⊥
IsFaultOf J at rows vias v k e (OrderDiffers place) = ⊥
IsFaultOf J at rows vias v k e (NoWalk node hub) = (node ≡ v) × LacksWalk J at rows v hub e
IsFaultOf J at rows vias v k e (NotCovered node to hub) = (node ≡ v) × LacksCover J at rows v to hub e
IsFaultOf J at rows vias v k e (Redundant node hub by) = (node ≡ v) × IsNeedless J at rows v hub by e
IsFaultOf J at rows vias v k e (WrongVia node hub want) = (node ≡ v) × GoesAstray J at rows vias v hub want k e

-- nothing is wrong with the entry e at the place k of the row of v: it passes the three checks, and goes by its via, where there are vias
pub record IsSoundAt (J : ℕ → ℕ → ℕ → Type 0) (at : List ℕ) (rows : List (List Entry)) (vias : Option (List (List ℕ))) (v k : ℕ) (e : Entry) : Type 0 where
  pub sound : IsSoundEntry J at rows v e
  pub via : (y : ℕ) → IsRowVia J rows v e y → GoesBy vias v k y

-- nothing is wrong with the entries of the row of v before the place `end`
abbrev pub AreSoundUpTo : (ℕ → ℕ → ℕ → Type 0) → List ℕ → List (List Entry) → Option (List (List ℕ)) → ℕ → ℕ → Type 0
AreSoundUpTo J at rows vias v end = (k : ℕ) (e : Entry) → k < end → slice_get (label_row rows v) k ≡ Some e → IsSoundAt J at rows vias v k e

-- nothing is wrong with the entries of the row of v
abbrev pub IsSoundRow : (ℕ → ℕ → ℕ → Type 0) → List ℕ → List (List Entry) → Option (List (List ℕ)) → ℕ → Type 0
IsSoundRow J at rows vias v = (k : ℕ) (e : Entry) → slice_get (label_row rows v) k ≡ Some e → IsSoundAt J at rows vias v k e

-- nothing is wrong with the entries of the rows before that of v
abbrev pub AreSoundBefore : (ℕ → ℕ → ℕ → Type 0) → List ℕ → List (List Entry) → Option (List (List ℕ)) → ℕ → Type 0
AreSoundBefore J at rows vias v = (x : ℕ) → 1 ≤ x → x < v → IsSoundRow J at rows vias x

-- the fault is that of the first entry at fault in the row of v, by rising position
pub record IsFirstOfRow (J : ℕ → ℕ → ℕ → Type 0) (at : List ℕ) (rows : List (List Entry)) (vias : Option (List (List ℕ))) (v : ℕ) (fault : Audit) : Type 0 where
  pub k : ℕ
  pub entry : Entry
  pub there : slice_get (label_row rows v) k ≡ Some entry
  pub before : AreSoundUpTo J at rows vias v k
  pub fault_of : IsFaultOf J at rows vias v k entry fault

-- and v is the first node in whose row an entry is at fault
pub record IsFirstFault (J : ℕ → ℕ → ℕ → Type 0) (at : List ℕ) (rows : List (List Entry)) (vias : Option (List (List ℕ))) (fault : Audit) : Type 0 where
  pub v : ℕ
  pub from_one : 1 ≤ v
  pub up_to_n : v ≤ length at
  pub rows_before : AreSoundBefore J at rows vias v
  pub row : IsFirstOfRow J at rows vias v fault

-- the graph and the index have as many nodes, and the order is that of the index
pub record IsOfOrder (graph : WeightedGraph) (at : List ℕ) (index : HubIndex) : Type 0 where
  pub size : length index.order ≡ graph.n
  pub order : index.order ≡ at

-- the two orders part at this place
pub record PartAt (at others : List ℕ) (place : ℕ) : Type 0 where
  pub within : place < length at
  pub before : take place at ≡ take place others
  pub here : slice_get at place ≢ slice_get others place

-- what the audit answers of an index that may have vias, for a graph and a ranking of its nodes: sizes come first, then the order, then the entries
abbrev pub IsAuditWith : WeightedGraph → List ℕ → HubIndex → Audit → Option (List (List ℕ)) → Type 0
IsAuditWith graph at index Same vias = IsOfOrder graph at index × AreSoundBefore (Joined graph.edges) at index.rows vias (length at + 1)
IsAuditWith graph at index (Sizes nodes rows) vias = (nodes ≡ graph.n) × (rows ≡ length index.order) × (nodes ≢ rows)
IsAuditWith graph at index (OrderDiffers place) vias = (length index.order ≡ graph.n) × PartAt at index.order place
IsAuditWith graph at index (NoWalk v hub) vias = IsOfOrder graph at index × IsFirstFault (Joined graph.edges) at index.rows vias (NoWalk v hub)
IsAuditWith graph at index (NotCovered v to hub) vias = IsOfOrder graph at index × IsFirstFault (Joined graph.edges) at index.rows vias (NotCovered v to hub)
IsAuditWith graph at index (Redundant v hub by) vias = IsOfOrder graph at index × IsFirstFault (Joined graph.edges) at index.rows vias (Redundant v hub by)
IsAuditWith graph at index (WrongVia v hub want) None = ⊥
IsAuditWith graph at index (WrongVia v hub want) (Some vias) = IsOfOrder graph at index × IsFirstFault (Joined graph.edges) at index.rows (Some vias) (WrongVia v hub want)

-- what it answers of an index without vias
abbrev pub IsAuditOf : WeightedGraph → List ℕ → HubIndex → Audit → Type 0
IsAuditOf graph at index answer = IsAuditWith graph at index answer None
