use Rattle.std.proofs.Common.{sym, subst}
use Rattle.walk_laws.specs.Joined.{Joined}
use Rattle.entry_vias.specs.RowVias.{AreVias}
use Rattle.index_audit.proofs.upgrading.upgrade.Goals as goal

pub returns-in_ok-vias-in-Same : goal.returns-in_ok-vias-in-Same
returns-in_ok-vias-in-Same g c = (
  rw c.ranking.ensures.value at c.in-Same.ensures.first,
  c.new.ensures.order,
  c.new.ensures.rows,
  subst (AreVias (Joined c.args.graph.now.edges) c.args.index.rows) (sym c.new.ensures.vias) c.in_ok-vias-in-Same.ensures.vias,
)
