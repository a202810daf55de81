use Rattle.std.specs.Prelude.{flat_map}
use Rattle.std.specs.List.{range_with_len}
use Rattle.grid_work.specs.Grid.{ends_in_row}
use Rattle.grid_work.specs.Laid.{Lays}
use Rattle.grid_work.proofs.grid.grid_graph.Given as goal

-- the edges of the rows so far are laid
abbrev pub invariant-loop-row : goal.invariant-loop-row
invariant-loop-row l = Lays l.initial.laid l.laid (flat_map (ends_in_row l.side) (range_with_len 0 l.row))
