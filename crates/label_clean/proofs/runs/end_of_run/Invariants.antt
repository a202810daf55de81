use Rattle.std.proofs.Common.{◌≡◌, ℕ, ◌<◌, ◌≤◌, get_or}
use Rattle.hub_index.specs.declared.node_entry.NodeEntry.{NodeEntry}
use Rattle.label_clean.proofs.runs.end_of_run.Given as goal

-- up to here all entries have one position
abbrev pub invariant-loop-place : goal.invariant-loop-place
invariant-loop-place l = (k : ℕ) (d : NodeEntry) → l.from ≤ k → k < l.place → (get_or l.entries k d).pos ≡ (get_or l.entries l.from d).pos
