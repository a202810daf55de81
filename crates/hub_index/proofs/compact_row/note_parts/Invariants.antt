use Rattle.std.proofs.Common.{◌≡◌, take}
use Rattle.hub_index.specs.RootDistances.{noted}
use Rattle.hub_index.proofs.CompactEntries.{all_widened}
use Rattle.hub_index.proofs.compact_row.note_parts.Given as goal

-- the entries of 8 bytes come past were noted
abbrev pub invariant-loop-entry : goal.invariant-loop-entry
invariant-loop-entry l = l.table ≡ noted l.fn.table (all_widened (take l.entry-index l.compact))
