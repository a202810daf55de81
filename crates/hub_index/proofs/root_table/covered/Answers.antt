use Rattle.std.proofs.Common.{false, sym, subst}
use Rattle.std.proofs.lemmas.List.{get_or_read}
use Rattle.std.specs.Prelude.{IsTrue}
use Rattle.hub_index.specs.RootDistances.{IsCover}
use Rattle.hub_index.proofs.CoveredEntries.{All-one_more, All-whole}
use Rattle.hub_index.proofs.root_table.covered.Goals as goal

pub loop-entry-preserved : goal.loop-entry-preserved
loop-entry-preserved c =
    All-one_more (λ e. IsCover c.args.table.now c.args.pos c.args.dist e → ⊥) c.args.row.now c.loop-entry.entry-index (record { pos = 0; dist = 0 }) c.loop-entry-test.true c.loop-entry.invariant
    (λ cover.
    let item = get_or_read c.args.row.now c.loop-entry.entry-index _ c.loop-entry-test.true c.entry-item.is (record { pos = 0; dist = 0 }) in
    let found : IsTrue false = c.if-covers.ensures.1 (subst (IsCover c.args.table.now c.args.pos c.args.dist) (sym item) cover) in
    absurd cc)

pub returns-clause-none : goal.returns-clause-none
returns-clause-none c = All-whole (λ e. IsCover c.args.table.now c.args.pos c.args.dist e → ⊥) c.args.row.now c.loop-entry.entry-index c.loop-entry-test.false c.loop-entry.invariant
