use Rattle.std.proofs.Common.{◌≡◌, ℕ, ◌<◌, take, length, vec_len}
use Rattle.std.specs.Prelude.{slice_index}
use Rattle.walk_laws.specs.Graph.{arcs_at}
use Rattle.walk_laws.specs.Rows.{AreWithin}
use Rattle.walk_laws.proofs.rows.degrees_of.Given as goal

abbrev pub invariant-loop-e : goal.invariant-loop-e
invariant-loop-e l = record {
  nodes : AreWithin l.edges (vec_len l.degrees);
  each : (v : ℕ) → v < vec_len l.degrees → slice_index l.degrees.items v ≡ length (arcs_at (take l.e-index l.edges) v);
}
