use Rattle.std.proofs.Common.{◌≡◌, ◌+◌, ◌++◌, length, take, zip}
use Rattle.std.specs.Prelude.{flat_map}
use Rattle.hub_index.specs.CompactRows.{row_of_parts}
use Rattle.index_file.specs.Layout.{word, traced_entry_bytes}
use Rattle.index_file.proofs.encoding.push_traced_row.Given as goal

-- the count and the entries so far, of those in half the room
abbrev pub invariant-loop-i : goal.invariant-loop-i
invariant-loop-i l = l.out.items ≡ (l.fn.out.items ++ word (length (row_of_parts l.compact l.full))) ++ flat_map traced_entry_bytes (take l.i (zip (row_of_parts l.compact l.full) l.vias))

-- and of the others
abbrev pub invariant-loop-i-2 : goal.invariant-loop-i-2
invariant-loop-i-2 l = l.out.items ≡ (l.fn.out.items ++ word (length (row_of_parts l.compact l.full))) ++ flat_map traced_entry_bytes (take (length l.compact + l.i) (zip (row_of_parts l.compact l.full) l.vias))
