use Rattle.std.proofs.Common.{map, get_or}
use Rattle.std.proofs.lemmas.List.{get_or_default, get_or_read}
use Rattle.std.proofs.lemmas.List.Kept.{AllPairs-from_increasing}
use Rattle.hub_query.specs.HubTables.{far}
use Rattle.hub_query.proofs.Through.{Through-take, Through-keep, Through-none, Through-some}
use Rattle.hub_query.proofs.Walked.{nothing}
use Rattle.hub_query.proofs.hub_table.least_through.Goals as goal
use Rattle.hub_query.proofs.hub_table.least_through.Goals.{then-sum-least, else-sum-least}

pub loop-entry-preserved : goal.loop-entry-preserved
loop-entry-preserved c =
    let table = c.args.table.now in
    let row = c.args.row.now in
    let k = c.loop-entry.entry-index in
    let item = get_or_read row k _ c.loop-entry-test.true c.entry-item.is nothing in
    let place = (get_or row k nothing).pos in
    let read = get_or_default table place 0 far (c.requires.within k nothing c.loop-entry-test.true) in
    elim c.if-sum-least.branch [
      | then-sum-least w ↦ rw (w.pos-is, w.least-is, c.get_u64.ensures, item)
          (Through-take table row k c.loop-entry.pos c.loop-entry.least (get_or table place 0) c.loop-entry-test.true c.loop-entry.invariant read (AllPairs-from_increasing (map (λ e. e.pos) row) c.requires.rises) (rw (c.get_u64.ensures, item) at w.if-sum-least.true))
      | else-sum-least w ↦ rw (w.pos-is, w.least-is)
          (Through-keep table row k c.loop-entry.pos c.loop-entry.least (get_or table place 0) c.loop-entry-test.true c.loop-entry.invariant read (rw (c.get_u64.ensures, item) at w.if-sum-least.false))
    ]

pub returns-then-least : goal.returns-then-least
returns-then-least c = λ held holds fits.
    Through-none c.args.table.now c.args.row.now c.loop-entry.entry-index c.loop-entry.pos c.loop-entry.least c.loop-entry-test.false c.loop-entry.invariant held holds fits c.requires.fits c.if-least.true

pub returns-else-least : goal.returns-else-least
returns-else-least c = λ held holds fits.
    Through-some c.args.table.now c.args.row.now c.loop-entry.entry-index c.loop-entry.pos c.loop-entry.least c.loop-entry-test.false c.loop-entry.invariant held holds c.if-least.false
