use Rattle.std.proofs.Common.{length}
use Rattle.label_clean.proofs.KeptRows.{AreReplaced}
use Rattle.label_clean.proofs.RowItems.{items_of}
use Rattle.label_clean.proofs.cleaning.replaced.Given as goal

-- the last so many rows are replaced
abbrev pub invariant-loop-row : goal.invariant-loop-row
invariant-loop-row l = AreReplaced l.ranking l.fn.tested (length l.ranking) l.kept.items (items_of l.rows.items)

abbrev pub decreases-loop-row : goal.decreases-loop-row
decreases-loop-row l = length l.kept.items
