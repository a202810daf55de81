use Rattle.std.proofs.Common.{sym, subst, arith}
use Rattle.std.proofs.lemmas.List.Elements.{All-map}
use Rattle.hub_index.specs.CompactRows.{widened}
use Rattle.hub_index.specs.Reach.{IsBelow, IsFirstFrom}
use Rattle.hub_index.proofs.CompactEntries.{all_widened}
use Rattle.hub_index.proofs.FarEntries.{IsFirstFrom-compact}
use Rattle.hub_index.proofs.CoveredEntries.{All-one_more, All-whole}
use Rattle.hub_index.proofs.compact_row.first_compact.Goals as goal

pub loop-entry-preserved : goal.loop-entry-preserved
loop-entry-preserved c =
    All-one_more (λ e. IsBelow c.args.limit (widened e)) c.args.row.now c.loop-entry.entry-index (record { pos = 0; dist = 0 }) c.loop-entry-test.true c.loop-entry.invariant (omega arith)

pub returns-then-from-limit-clause-some : goal.returns-then-from-limit-clause-some
returns-then-from-limit-clause-some c =
    subst (IsFirstFrom c.args.limit (all_widened c.args.row.now)) (sym c.widened.ensures)
    (IsFirstFrom-compact c.args.limit c.args.row.now c.loop-entry.entry-index (record { pos = 0; dist = 0 }) c.loop-entry-test.true c.loop-entry.invariant (omega arith))

pub returns-clause-none : goal.returns-clause-none
returns-clause-none c =
    All-map (IsBelow c.args.limit) (λ e. widened e) c.args.row.now (All-whole (λ e. IsBelow c.args.limit (widened e)) c.args.row.now c.loop-entry.entry-index c.loop-entry-test.false c.loop-entry.invariant)
