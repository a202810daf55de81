use Rattle.std.proofs.Common.{◌≡◌, ℕ, ◌<◌, ◌≤◌, length, vec_len}
use Rattle.std.specs.Prelude.{slice_index}
use Rattle.walk_laws.specs.Graph.{arcs_at}
use Rattle.walk_laws.specs.Rows.{AreWithin, arcs_before}
use Rattle.walk_laws.proofs.rows.starts_of.Given as goal

abbrev pub invariant-loop-v : goal.invariant-loop-v
invariant-loop-v l = record {
  len : vec_len l.starts ≡ l.v-end;
  nodes : AreWithin l.edges (vec_len l.starts);
  at : l.at ≡ arcs_before l.edges l.v;
  done : (u : ℕ) → u < l.v → slice_index l.starts.items u ≡ arcs_before l.edges u;
  left : (u : ℕ) → l.v ≤ u → u < vec_len l.starts → slice_index l.starts.items u ≡ length (arcs_at l.edges u);
}
