use Rattle.std.proofs.Common.{◌≡◌, ◌++◌, take}
use Rattle.hub_index.proofs.CompactEntries.{all_widened}
use Rattle.hub_index.proofs.compact_row.joined_parts.Given as goal

-- the entries of 8 bytes so far
abbrev pub invariant-loop-entry : goal.invariant-loop-entry
invariant-loop-entry l = l.entries.items ≡ all_widened (take l.entry-index l.compact)

-- all of them, and the others so far
abbrev pub invariant-loop-entry-2 : goal.invariant-loop-entry-2
invariant-loop-entry-2 l = l.entries.items ≡ all_widened l.compact ++ take l.entry-index l.full
