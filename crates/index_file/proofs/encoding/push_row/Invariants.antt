use Rattle.std.proofs.Common.{◌≡◌, ◌+◌, ◌++◌, length, take}
use Rattle.std.specs.Prelude.{flat_map}
use Rattle.hub_index.specs.CompactRows.{row_of_parts}
use Rattle.index_file.specs.Layout.{word, entry_bytes}
use Rattle.index_file.proofs.encoding.push_row.Given as goal

-- the count and the entries so far, of those in half the room
abbrev pub invariant-loop-entry : goal.invariant-loop-entry
invariant-loop-entry l = l.out.items ≡ (l.fn.out.items ++ word (length (row_of_parts l.compact l.full))) ++ flat_map entry_bytes (take l.entry-index (row_of_parts l.compact l.full))

-- and of the others
abbrev pub invariant-loop-entry-2 : goal.invariant-loop-entry-2
invariant-loop-entry-2 l = l.out.items ≡ (l.fn.out.items ++ word (length (row_of_parts l.compact l.full))) ++ flat_map entry_bytes (take (length l.compact + l.entry-index) (row_of_parts l.compact l.full))
