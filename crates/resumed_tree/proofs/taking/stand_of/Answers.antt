use Rattle.std.proofs.Common.{length, false, refl, sym, subst, arith}
use Rattle.std.specs.Prelude.{IsTrue}
use Rattle.std.proofs.lemmas.Option.{slice_get_read}
use Rattle.walk_laws.specs.declared.entry.Entry.{Entry}
use Rattle.hub_index.specs.RootDistances.{IsCover}
use Rattle.resumed_tree.proofs.Stands.{IsPassed, passed_more, parts_last, parts_here, longer_here}
use Rattle.resumed_tree.proofs.taking.stand_of.Goals as goal

pub returns-then-other-entry : goal.returns-then-other-entry
returns-then-other-entry c =
    let f : Entry = c.index-row-place.result in
    parts_here c.args.table.now c.args.row.now c.args.entry.now c.loop-place.place c.loop-place.invariant c.requires.rising f (slice_get_read c.args.row.now (length c.args.row.now) c.loop-place.place f refl c.loop-place-test.true c.index-row-place.is) c.if-other-entry.true

pub returns-then-other-entry-2 : goal.returns-then-other-entry-2
returns-then-other-entry-2 c =
    let f : Entry = c.index-row-place.result in
    longer_here c.args.table.now c.args.row.now c.args.entry.now c.loop-place.place c.loop-place.invariant c.requires.rising f (slice_get_read c.args.row.now (length c.args.row.now) c.loop-place.place f refl c.loop-place-test.true c.index-row-place.is) c.if-other-entry-2.true
    (omega (arith, c.if-get-dist.false, c.get.ensures.value, c.get-dist.ensures.value))

pub loop-place-preserved : goal.loop-place-preserved
loop-place-preserved c =
    let f : Entry = c.index-row-place.result in
    let passed : IsPassed c.args.table.now c.args.entry.now f = (
      omega (arith, c.if-other-entry.false, c.if-other-entry-2.false),
      λ cover. let found : IsTrue false = c.if-covers.ensures.1 (subst (λ d. IsCover c.args.table.now c.args.entry.now.pos d f) (sym c.get-dist.ensures.value) cover) in absurd cc,
    ) in
    passed_more c.args.table.now c.args.row.now c.args.entry.now c.loop-place.place f c.loop-place-test.true c.loop-place.invariant (subst (IsPassed c.args.table.now c.args.entry.now) c.index-row-place.is passed)

pub returns : goal.returns
returns c = parts_last c.args.table.now c.args.row.now c.args.entry.now c.loop-place.place c.loop-place.invariant c.loop-place-test.false (length c.args.row.now) refl
