use Rattle.std.proofs.Common.{◌≡◌, take}
use Rattle.hub_index.specs.RootDistances.{noted}
use Rattle.hub_index.proofs.root_table.RootTable.note_row.Given as goal

-- the entries come past were noted
abbrev pub invariant-loop-entry : goal.invariant-loop-entry
invariant-loop-entry l = l.self ≡ noted l.fn.self (take l.entry-index l.row)
