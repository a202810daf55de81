use Rattle.std.proofs.Common.{◌≡◌, length}
use Rattle.walk_laws.specs.Graph.{arcs_at}
use Rattle.walk_laws.specs.Rows.{IsPlaced, rows_before}
use Rattle.walk_laws.proofs.rows.place_each.Given as goal

abbrev pub invariant-loop-range : goal.invariant-loop-range
invariant-loop-range l = record {
  len : length l.next ≡ length l.fn.next;
  placed : IsPlaced l.edges (rows_before (arcs_at l.edges) l.shift l.range) l.arcs l.next;
}
