use Rattle.std.proofs.Common.{◌≡◌, ℕ, Contains, drop}
use Rattle.near_points.specs.declared.hit.Hit.{Hit}
use Rattle.near_points.specs.Merging.{IsGiven}
use Rattle.near_points.proofs.workspace.unmark.Given as goal

-- what is marked still is the node of a hit to come
abbrev pub invariant-loop-hit : goal.invariant-loop-hit
invariant-loop-hit l = (v : ℕ) → IsGiven l.given v → (h : Hit) × Contains (drop l.hit-index l.hits) h × (h.node ≡ v)
