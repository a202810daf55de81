use Rattle.std.proofs.Common.{ap, ap₂, ◌∙◌, length}
use Rattle.std.proofs.lemmas.Result.{IfOk-weaker}
use Rattle.chl_lines.specs.PrintedGrids.{grid_lines}
use Rattle.chl_cmd.proofs.Grids.{grid_told, reported}
use Rattle.chl_cmd.proofs.commands.grid.grid_text.Goals as goal

pub returns : goal.returns
returns g c = IfOk-weaker c.grid_lines.result _ _ (λ text is.
    grid_told c.args.grid.side c.args.grid.seed c.in_ok-graph.graph c.in_ok-graph.ensures.nodes c.in_ok-graph.ensures.edges c.in_ok-ranking.ranking c.in_ok-ranking.ensures
    c.in_ok-plant.plant c.in_ok-lcc.lcc c.in_ok-gll.gll text.items c.in_ok-plant.ensures c.in_ok-lcc.ensures c.in_ok-gll.ensures
    (is ∙ ap₂ (λ n m. grid_lines (reported c.args.grid.side c.args.grid.seed n m c.in_ok-plant.plant c.in_ok-lcc.lcc c.in_ok-gll.gll)) c.n.ensures.value (ap length c.edges.ensures.value))) c.grid_lines.ensures
