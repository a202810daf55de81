-- How far a search has come with its nodes, by distances alone, and what the arcs of a settled node change.
use Rattle.std.specs.Prelude.{◌≡◌, ◌⊎◌, ◌↔◌, ℕ, ◌+◌, ◌<◌, ◌≤◌, List, length, slice_get, Some}
use Rattle.walk_laws.specs.declared.graph.Arc.{Arc}
use Rattle.walk_laws.specs.Ranking.{position_of}
use Rattle.frontier.specs.declared.reach.Reach.{Reach}
use Rattle.frontier.specs.declared.reach.Reach.TheVariants.{Unreached, Queued, Settled}
use Rattle.frontier.specs.Reaches.{reach_at}

-- it is queued or settled at the distance d
abbrev pub HasDistance : {C : Type 0} → Reach C → ℕ → Type 0
HasDistance Unreached d = ⊥
HasDistance (Queued f) d = f.dist ≡ d
HasDistance (Settled f) d = f.dist ≡ d

-- it is settled at the distance d
abbrev pub IsSettledAt : {C : Type 0} → Reach C → ℕ → Type 0
IsSettledAt Unreached d = ⊥
IsSettledAt (Queued f) d = ⊥
IsSettledAt (Settled f) d = f.dist ≡ d

-- an arc of a row to x, with which a walk of the length `dist` becomes one of the length d
pub record Along (row : List Arc) (dist x d : ℕ) : Type 0 where
  pub place : ℕ
  pub arc : Arc
  pub there : slice_get row place ≡ Some arc
  pub leads : arc.to ≡ x
  pub long : dist + arc.w ≡ d

-- before and after the first `count` arcs of the row of a node at the distance `dist` were gone along, but to nodes that rank above the position p: what is settled stays, a node comes to be queued by an arc, none gets farther, and where an arc leads is a node that is settled, or no farther than by the arc
pub record IsRelaxed {C : Type 0} (at : List ℕ) (p dist count : ℕ) (row : List Arc) (before after : List (Reach C)) : Type 0 where
  pub size : length after ≡ length before
  pub settled : (x d : ℕ) → IsSettledAt (reach_at after x) d ↔ IsSettledAt (reach_at before x) d
  pub came : (x d : ℕ) → HasDistance (reach_at after x) d → HasDistance (reach_at before x) d ⊎ (Along row dist x d × (p ≤ position_of at x))
  pub kept : (x d : ℕ) → HasDistance (reach_at before x) d → (e : ℕ) × HasDistance (reach_at after x) e × (e ≤ d)
  pub lowered : (k : ℕ) (a : Arc) → k < count → slice_get row k ≡ Some a → p ≤ position_of at a.to → (e : ℕ) × HasDistance (reach_at after a.to) e × ((e ≤ dist + a.w) ⊎ IsSettledAt (reach_at after a.to) e)
