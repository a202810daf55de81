use Rattle.std.proofs.Common.{◌≡◌, ℕ, length}
use Rattle.walk_laws.specs.Joined.{Joined}
use Rattle.entry_vias.specs.Slots.{slot_at, sought_in}
use Rattle.entry_vias.proofs.Arcs.{IsAfterArcs}
use Rattle.entry_vias.proofs.looking.look_around.Given as goal

-- the rows at the ends of the arcs so far were looked at
abbrev pub invariant-loop-k : goal.invariant-loop-k
invariant-loop-k l = record {
  size : length l.table ≡ length l.fn.table;
  each : (p : ℕ) → IsAfterArcs (Joined l.graph.edges) l.index.rows l.v l.arcs l.k p (slot_at l.fn.table p) (slot_at l.table p);
  left : l.left ≡ sought_in l.table;
}
