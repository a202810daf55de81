-- The walk of a pair as the rows of an index and their vias tell it, whatever they are: by vias from each end to the hub that the rows say (pruned landmark labelling, SIGMOD 2013, on shortest walks).
use Rattle.std.specs.Prelude.{◌≡◌, ◌⊎◌, ℕ, ◌+◌, ◌<◌, ◌≤◌, List, [], ◌∷◌, ◌++◌, Some, None, Contains, drop, reverse, slice_get}
use Rattle.walk_laws.specs.declared.entry.Entry.{Entry}
use Rattle.walk_laws.specs.Walk.{Step, IsWalk, walk_length, nodes_of}
use Rattle.walk_laws.specs.Least.{IsLeast, AreApart}
use Rattle.walk_laws.specs.Top.{IsTop}
use Rattle.walk_laws.specs.Labelling.{label_row}
use Rattle.walk_laws.specs.Meet.{IsMeet}
use Rattle.entry_vias.specs.RowVias.{TracedHubIndex, via_row}
use Rattle.via_trace.specs.declared.trace_answer.Trace.{Trace}
use Rattle.via_trace.specs.declared.trace_answer.Trace.TheVariants.{Unreachable, Broken, Walk}

-- an entry of a position and a distance
abbrev pub entry_at : ℕ → ℕ → Entry
entry_at p d = record { pos = p; dist = d }

-- the row of x has the position p at distance d, and y is the via of this entry
pub record GoesBy (index : TracedHubIndex) (p x d y : ℕ) : Type 0 where
  pub place : ℕ
  pub entry : slice_get (label_row index.rows x) place ≡ Some (entry_at p d)
  pub via : slice_get (via_row index.vias x) place ≡ Some y

-- and the row of y has it at the lesser distance e: so one steps on to y
pub record StepsOn (index : TracedHubIndex) (p x d y e : ℕ) : Type 0 where
  pub goes : GoesBy index p x d y
  pub there : Contains (label_row index.rows y) (entry_at p e)
  pub nearer : e < d

-- from x, whose row has the position p at distance d, one comes by these nodes to z, whose row has it at e
abbrev pub ComesBy : TracedHubIndex → ℕ → ℕ → ℕ → List ℕ → ℕ → ℕ → Type 0
ComesBy index p x d [] z e = (x ≡ z) × (d ≡ e)
ComesBy index p x d (y ∷ nodes) z e = (f : ℕ) × StepsOn index p x d y f × ComesBy index p y f nodes z e

-- the way from x breaks there: it is no end, and the row of its via has the position at no lesser distance
pub record IsBroken (index : TracedHubIndex) (p x d : ℕ) : Type 0 where
  pub far : 1 ≤ d
  pub via : ℕ
  pub goes : GoesBy index p x d via
  pub none : (e : ℕ) → ¬ StepsOn index p x d via e

-- the way from u breaks at x
pub record BreaksAt (index : TracedHubIndex) (p u d x : ℕ) : Type 0 where
  pub nodes : List ℕ
  pub rest : ℕ
  pub comes : ComesBy index p u d nodes x rest
  pub broken : IsBroken index p x rest

-- the rows of u and v say that they meet at the hub, whose position is p, and that it is at a from u and at b from v
pub record MeetBy (index : TracedHubIndex) (u v hub p a b : ℕ) : Type 0 where
  pub meet : IsMeet index.order index.rows u v (Some (a + b, hub))
  pub place : slice_get index.order p ≡ Some hub
  pub from_u : Contains (label_row index.rows u) (entry_at p a)
  pub from_v : Contains (label_row index.rows v) (entry_at p b)

-- the nodes from u by vias to the hub, and then those from v to the hub backwards, the hub once
pub record IsTraced (index : TracedHubIndex) (u v d : ℕ) (nodes : List ℕ) : Type 0 where
  pub hub : ℕ
  pub p : ℕ
  pub a : ℕ
  pub b : ℕ
  pub meet : MeetBy index u v hub p a b
  pub long : a + b ≡ d
  pub forth : List ℕ
  pub back : List ℕ
  pub to_hub : ComesBy index p u a forth hub 0
  pub from_hub : ComesBy index p v b back hub 0
  pub whole : nodes ≡ (u ∷ forth) ++ drop 1 (reverse (v ∷ back))

-- the way from u to the hub breaks at x; or it comes there, and that from v breaks at x
pub record IsBrokenTrace (index : TracedHubIndex) (u v x hub : ℕ) : Type 0 where
  pub p : ℕ
  pub a : ℕ
  pub b : ℕ
  pub meet : MeetBy index u v hub p a b
  pub breaks : BreaksAt index p u a x ⊎ (((forth : List ℕ) × ComesBy index p u a forth hub 0) × BreaksAt index p v b x)

-- what is answered where the trace of u and v is asked for
abbrev pub IsTraceOf : TracedHubIndex → ℕ → ℕ → Trace → Type 0
IsTraceOf index u v Unreachable = IsMeet index.order index.rows u v None
IsTraceOf index u v (Walk long nodes) = IsTraced index u v long nodes
IsTraceOf index u v (Broken at hub) = IsBrokenTrace index u v at hub

-- a shortest walk from u to v that passes these nodes, and among them the highest-ranked node on any
pub record IsLeastTrace (J : ℕ → ℕ → ℕ → Type 0) (at : List ℕ) (u v d : ℕ) (nodes : List ℕ) : Type 0 where
  pub least : IsLeast J u v d
  pub steps : List Step
  pub walk : IsWalk J u steps v
  pub long : walk_length steps ≡ d
  pub passes : nodes_of u steps ≡ nodes
  pub top : ℕ
  pub highest : IsTop J at u v top
  pub by : Contains nodes top

-- the answer is such a walk, or that there is none
abbrev pub TellsTheTrace : (ℕ → ℕ → ℕ → Type 0) → List ℕ → ℕ → ℕ → Trace → Type 0
TellsTheTrace J at u v Unreachable = AreApart J u v
TellsTheTrace J at u v (Walk long nodes) = IsLeastTrace J at u v long nodes
TellsTheTrace J at u v (Broken x hub) = ⊥
