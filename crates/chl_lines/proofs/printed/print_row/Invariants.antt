use Rattle.std.proofs.Common.{◌≡◌, ◌++◌, take}
use Rattle.std.specs.Prelude.{codes, flat_map}
use Rattle.std.specs.Fmt.{decimal}
use Rattle.chl_lines.specs.PrintedRows.{entry_words}
use Rattle.chl_lines.proofs.printed.print_row.Given as goal

-- the node, and the words of the entries so far
abbrev pub invariant-loop-entry : goal.invariant-loop-entry
invariant-loop-entry l =
    l.text.items ≡ l.fn.text.items ++ (codes "l " ++ (decimal l.v ++ flat_map (entry_words l.ranking) (take l.entry-index l.row)))
