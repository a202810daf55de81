use Rattle.std.proofs.Common.{◌≡◌, take, length}
use Rattle.walk_laws.specs.Graph.{arcs_at}
use Rattle.walk_laws.specs.Rows.{IsPlaced}
use Rattle.walk_laws.proofs.PlacedArcs.{rows_within}
use Rattle.walk_laws.proofs.rows.place_range.Given as goal

abbrev pub invariant-loop-e : goal.invariant-loop-e
invariant-loop-e l = record {
  len : length l.next ≡ length l.fn.next;
  placed : IsPlaced l.edges (rows_within (arcs_at l.edges) (arcs_at (take l.e-index l.edges)) l.shift l.range) l.arcs l.next;
}
