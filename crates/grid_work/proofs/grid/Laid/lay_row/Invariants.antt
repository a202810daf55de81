use Rattle.std.specs.Prelude.{flat_map}
use Rattle.std.specs.List.{range_with_len}
use Rattle.grid_work.specs.Grid.{ends_from}
use Rattle.grid_work.specs.Laid.{Lays}
use Rattle.grid_work.proofs.grid.Laid.lay_row.Given as goal

-- the edges of the nodes so far are laid
abbrev pub invariant-loop-column : goal.invariant-loop-column
invariant-loop-column l = Lays l.initial.self l.self (flat_map (ends_from l.side l.row) (range_with_len 0 l.column))
