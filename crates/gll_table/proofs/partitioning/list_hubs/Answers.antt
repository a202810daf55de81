use Rattle.std.proofs.Common.{[], ◌∷◌, ◌++◌, sym, ap, ◌∙◌}
use Rattle.gll_table.proofs.ListedHubs.{next_far, next_listed, next_own}
use Rattle.gll_table.proofs.partitioning.list_hubs.Goals as goal

pub loop-entry-preserved-then-of-below : goal.loop-entry-preserved-then-of-below
loop-entry-preserved-then-of-below c =
    c.loop-entry.invariant ∙ sym (next_far c.args.ranking.now c.args.below c.args.entries.now c.loop-entry.entry-index c.entry-item.result c.entry-item.is c.loop-entry-test.true c.pos-of.result c.pos-of.ensures.value c.if-of-below.true)

pub loop-entry-preserved-then-entry-of : goal.loop-entry-preserved-then-entry-of
loop-entry-preserved-then-entry-of c =
    c.loop-entry.invariant ∙ sym (next_own c.args.ranking.now c.args.below c.args.entries.now c.loop-entry.entry-index c.entry-item.result c.entry-item.is c.loop-entry-test.true c.pos-of.result c.pos-of.ensures.value c.if-of-below.false c.if-entry-of.true)

pub loop-entry-preserved : goal.loop-entry-preserved
loop-entry-preserved c =
    c.in_ok-push.ensures.items
    ∙ ap (λ hubs. hubs ++ record { of = c.pos-of.result; entry = c.entry.result } ∷ []) c.loop-entry.invariant
    ∙ sym (next_listed c.args.ranking.now c.args.below c.args.entries.now c.loop-entry.entry-index c.entry-item.result c.entry-item.is c.loop-entry-test.true c.pos-of.result c.entry.result c.pos-of.ensures.value c.entry.ensures c.if-of-below.false c.if-entry-of.false)
