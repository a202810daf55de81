use Rattle.std.proofs.Common.{false}
use Rattle.std.specs.Prelude.{IsTrue}
use Rattle.hub_index.specs.RootDistances.{IsCover}
use Rattle.hub_index.proofs.CoveredEntries.{All-one_more, All-whole}
use Rattle.hub_index.specs.CompactRows.{widened}
use Rattle.hub_index.proofs.compact_row.compact_cover.Goals as goal

pub loop-entry-preserved : goal.loop-entry-preserved
loop-entry-preserved c =
    All-one_more (λ e. IsCover c.args.table.now c.args.pos c.args.dist (widened e) → ⊥) c.args.row.now c.loop-entry.entry-index (record { pos = 0; dist = 0 }) c.loop-entry-test.true c.loop-entry.invariant
    (λ cover. let found : IsTrue false = c.if-covers_compact.ensures.1 cover in absurd cc)

pub returns-clause-none : goal.returns-clause-none
returns-clause-none c = All-whole (λ e. IsCover c.args.table.now c.args.pos c.args.dist (widened e) → ⊥) c.args.row.now c.loop-entry.entry-index c.loop-entry-test.false c.loop-entry.invariant
