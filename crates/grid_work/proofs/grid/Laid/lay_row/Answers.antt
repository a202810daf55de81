use Rattle.grid_work.specs.Grid.{ends_from}
use Rattle.grid_work.proofs.Laying.{lays_more}
use Rattle.grid_work.proofs.grid.Laid.lay_row.Goals as goal

pub loop-column-preserved : goal.loop-column-preserved
loop-column-preserved c =
    lays_more c.args.self.now c.loop-column.self c.lay_node.new.self (ends_from c.args.side c.args.row) c.loop-column.column c.loop-column.invariant c.in_ok-lay_node.ensures
