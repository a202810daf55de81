use Rattle.std.proofs.Common.{◌≡◌, ℕ, ◌-◌, ◌<◌, ◌≤◌, length}
use Rattle.std.specs.Prelude.{slice_index, slice_range}
use Rattle.walk_laws.specs.Graph.{IsRowOf}
use Rattle.walk_laws.proofs.rows.sort_rows.Given as goal

abbrev pub invariant-loop-v : goal.invariant-loop-v
invariant-loop-v l = record {
  len : length l.arcs ≡ length l.fn.arcs;
  sorted : (u : ℕ) → 1 ≤ u → u < l.v → IsRowOf (slice_range l.fn.arcs (slice_index l.ends (u - 1)) (slice_index l.ends u)) (slice_range l.arcs (slice_index l.ends (u - 1)) (slice_index l.ends u));
  left : (u : ℕ) → l.v ≤ u → u < length l.ends → slice_range l.arcs (slice_index l.ends (u - 1)) (slice_index l.ends u) ≡ slice_range l.fn.arcs (slice_index l.ends (u - 1)) (slice_index l.ends u);
}
