use Rattle.std.proofs.Common.{ap₂}
use Rattle.hub_index.specs.HubIndex.{HubIndex}
use Rattle.walk_laws.specs.Joined.{Joined}
use Rattle.walk_laws.specs.Labelling.{IsChl}
use Rattle.chl_outputs.proofs.Built.{of_built}
use Rattle.chl_cmd.proofs.commands.grid.totals_by.Goals as goal

pub labelling-requires-clause-size : goal.labelling-requires-clause-size
labelling-requires-clause-size g c = λ lifetimes live. c.requires.ranked.all

pub returns : goal.returns
returns g c = (
  c.in_ok-index.index.rows,
  of_built c.labelling.result _ c.in_ok-index.index (λ (i : HubIndex). IsChl (Joined c.args.graph.now.edges) c.args.ranking.now i.rows) c.labelling.ensures.labelling c.in_ok-index.ensures.cases,
  ap₂ (λ e d. record { entries = e; distances = d }) c.totals_of.ensures.entries c.totals_of.ensures.distances,
)
