use Rattle.std.proofs.Common.{◌≡◌, ℕ, length}
use Rattle.walk_laws.specs.Labelling.{label_row}
use Rattle.hub_index.specs.Views.{IsNode}
use Rattle.label_clean.specs.Below.{IsRowBelow}
use Rattle.lcc_build.proofs.in_order.rows_in_order.Given as goal

-- the rows have exactly the hubs before the root that comes next
abbrev pub invariant-loop-p : goal.invariant-loop-p
invariant-loop-p g l = record {
  work : l.work ≡ l.job.graph.now.n;
  edges : l.view.edges ≡ l.job.graph.now.edges;
  order : l.view.order ≡ l.job.ranking.now;
  rows : (v : ℕ) → IsNode (length l.job.ranking.now) v → IsRowBelow l.job.graph.now.edges l.job.ranking.now l.p v (label_row l.view.rows v);
}
