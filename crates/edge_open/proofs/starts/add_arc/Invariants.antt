use Rattle.std.proofs.Common.{ℕ, All, Contains, take}
use Rattle.walk_laws.specs.Joined.{Joined}
use Rattle.resumed_tree.specs.declared.resuming.Start.{Start}
use Rattle.edge_open.specs.OpenArcs.{IsHubStart, GoesOn}
use Rattle.edge_open.proofs.starts.add_arc.Given as goal

-- each entry so far is to go on, or needn't
abbrev pub invariant-loop-hub : goal.invariant-loop-hub
invariant-loop-hub l = record {
  kept : (s : Start) → Contains l.fn.starts.items s → Contains l.starts.items s;
  may : All (IsHubStart (Joined l.graph.edges) l.ranking) l.starts.items;
  goes : (p d : ℕ) → Contains (take l.hub-index l.hub-items) (record { pos = p; dist = d }) → GoesOn l.starts.items (Joined l.graph.edges) l.ranking l.rows l.from l.to l.w p d;
}
