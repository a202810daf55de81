use Rattle.std.proofs.Common.{◌≡◌, ◌-◌, ◌++◌, set, take}
use Rattle.walk_laws.specs.Labelling.{label_row}
use Rattle.hub_index.proofs.split_rows.SplitRows.push_all.Given as goal

-- the entries come past stand last in the row
abbrev pub invariant-loop-entry : goal.invariant-loop-entry
invariant-loop-entry l = l.self ≡ set l.fn.self (l.v - 1) (label_row l.fn.self l.v ++ take l.entry-index l.entries)
