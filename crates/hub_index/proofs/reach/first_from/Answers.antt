use Rattle.std.proofs.Common.{sym, ap, subst, arith}
use Rattle.std.proofs.lemmas.List.{get_or_read}
use Rattle.walk_laws.specs.declared.entry.Entry.{Entry}
use Rattle.hub_index.specs.Reach.{IsBelow, IsFirstFrom}
use Rattle.hub_index.proofs.CoveredEntries.{All-one_more, All-whole}
use Rattle.hub_index.proofs.FarEntries.{IsFirstFrom-at}
use Rattle.hub_index.proofs.reach.first_from.Goals as goal

pub loop-entry-preserved : goal.loop-entry-preserved
loop-entry-preserved c =
    let item = get_or_read c.args.row.now c.loop-entry.entry-index _ c.loop-entry-test.true c.entry-item.is (record { pos = 0; dist = 0 }) in
    All-one_more (IsBelow c.args.limit) c.args.row.now c.loop-entry.entry-index (record { pos = 0; dist = 0 }) c.loop-entry-test.true c.loop-entry.invariant (omega (arith, ap (λ (e : Entry). e.dist) item))

pub returns-then-get-limit-clause-some : goal.returns-then-get-limit-clause-some
returns-then-get-limit-clause-some c =
    let item = get_or_read c.args.row.now c.loop-entry.entry-index _ c.loop-entry-test.true c.entry-item.is (record { pos = 0; dist = 0 }) in
    subst (IsFirstFrom c.args.limit c.args.row.now) (sym item)
    (IsFirstFrom-at c.args.limit c.args.row.now c.loop-entry.entry-index (record { pos = 0; dist = 0 }) c.loop-entry-test.true c.loop-entry.invariant (omega (arith, ap (λ (e : Entry). e.dist) item)))

pub returns-clause-none : goal.returns-clause-none
returns-clause-none c = All-whole (IsBelow c.args.limit) c.args.row.now c.loop-entry.entry-index c.loop-entry-test.false c.loop-entry.invariant
