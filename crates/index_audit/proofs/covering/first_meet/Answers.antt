use Rattle.std.proofs.Common.{◌≡◌, ◌<◌, ◌≤◌, length, map, get_or, ap, subst, arith}
use Rattle.std.proofs.lemmas.List.{get_or_read}
use Rattle.std.proofs.lemmas.List.Kept.{AllPairs-from_increasing}
use Rattle.walk_laws.specs.declared.entry.Entry.{Entry}
use Rattle.index_audit.specs.Places.{BelowUpTo, pos_at}
use Rattle.index_audit.proofs.Searched.{nothing}
use Rattle.index_audit.proofs.Meets.{start, past_far, none_left, past, met, none_at_end}
use Rattle.index_audit.proofs.covering.first_meet.Goals as goal
use Rattle.index_audit.proofs.covering.first_meet.Goals.{else-other-entry-via-then-other-entry+else-near-get, else-other-entry-via-else-other-entry}

pub loop-entry-init : goal.loop-entry-init
loop-entry-init c = start c.args.first.now c.args.second.now c.args.dist

pub loop-entry-preserved-then-near-dist : goal.loop-entry-preserved-then-near-dist
loop-entry-preserved-then-near-dist c =
    let read : c.entry-item.result ≡ get_or c.args.first.now c.loop-entry.entry-index nothing = get_or_read c.args.first.now c.loop-entry.entry-index _ c.loop-entry-test.true c.entry-item.is nothing in
    past_far c.args.first.now c.args.second.now c.args.dist (AllPairs-from_increasing (map (λ e. e.pos) c.args.first.now) c.requires.first_rises) (AllPairs-from_increasing (map (λ e. e.pos) c.args.second.now) c.requires.second_rises)
    c.loop-entry.entry-index c.loop-entry.from c.loop-entry.invariant c.loop-entry-test.true (omega (arith, c.if-near-dist.true, c.get-near.ensures.value, ap (λ (e : Entry). e.dist) read))

pub returns-then-from-second : goal.returns-then-from-second
returns-then-from-second c =
    let read : c.entry-item.result ≡ get_or c.args.first.now c.loop-entry.entry-index nothing = get_or_read c.args.first.now c.loop-entry.entry-index _ c.loop-entry-test.true c.entry-item.is nothing in
    let passed : BelowUpTo c.args.second.now c.first_from-from.result (pos_at c.args.first.now c.loop-entry.entry-index) = subst (λ (e : Entry). BelowUpTo c.args.second.now c.first_from-from.result e.pos) read c.first_from-from.ensures.passed in
    none_left c.args.first.now c.args.second.now c.args.dist (AllPairs-from_increasing (map (λ e. e.pos) c.args.first.now) c.requires.first_rises) (AllPairs-from_increasing (map (λ e. e.pos) c.args.second.now) c.requires.second_rises)
    c.loop-entry.entry-index c.loop-entry.from c.loop-entry.invariant c.loop-entry-test.true c.first_from-from.result c.first_from-from.ensures.within passed (omega (arith, c.if-from-second.true))

pub returns-then-near-get : goal.returns-then-near-get
returns-then-near-get c =
    let read : c.entry-item.result ≡ get_or c.args.first.now c.loop-entry.entry-index nothing = get_or_read c.args.first.now c.loop-entry.entry-index _ c.loop-entry-test.true c.entry-item.is nothing in
    let some : c.first_from-from.result < length c.args.second.now = omega (arith, c.if-from-second.false, c.first_from-from.ensures.within) in
    let other : c.index-second-from.result ≡ get_or c.args.second.now c.first_from-from.result nothing = get_or_read c.args.second.now c.first_from-from.result _ some c.index-second-from.is nothing in
    let passed : BelowUpTo c.args.second.now c.first_from-from.result (pos_at c.args.first.now c.loop-entry.entry-index) = subst (λ (e : Entry). BelowUpTo c.args.second.now c.first_from-from.result e.pos) read c.first_from-from.ensures.passed in
    let stops : pos_at c.args.first.now c.loop-entry.entry-index ≤ pos_at c.args.second.now c.first_from-from.result = subst (λ (e : Entry). e.pos ≤ pos_at c.args.second.now c.first_from-from.result) read (c.first_from-from.ensures.stops some) in
    rw read
    (met c.args.first.now c.args.second.now c.args.dist (AllPairs-from_increasing (map (λ e. e.pos) c.args.first.now) c.requires.first_rises) (AllPairs-from_increasing (map (λ e. e.pos) c.args.second.now) c.requires.second_rises)
    c.loop-entry.entry-index c.loop-entry.from c.loop-entry.invariant c.loop-entry-test.true c.first_from-from.result c.first_from-from.ensures.within passed some stops
    (omega (arith, c.if-other-entry.true, ap (λ (e : Entry). e.pos) read, ap (λ (e : Entry). e.pos) other))
    (omega (arith, c.if-near-get.true, c.get-near.ensures.value, c.get.ensures.value, ap (λ (e : Entry). e.dist) read, ap (λ (e : Entry). e.dist) other)))

pub loop-entry-preserved : goal.loop-entry-preserved
loop-entry-preserved c =
    let read : c.entry-item.result ≡ get_or c.args.first.now c.loop-entry.entry-index nothing = get_or_read c.args.first.now c.loop-entry.entry-index _ c.loop-entry-test.true c.entry-item.is nothing in
    let some : c.first_from-from.result < length c.args.second.now = omega (arith, c.if-from-second.false, c.first_from-from.ensures.within) in
    let other : c.index-second-from.result ≡ get_or c.args.second.now c.first_from-from.result nothing = get_or_read c.args.second.now c.first_from-from.result _ some c.index-second-from.is nothing in
    let passed : BelowUpTo c.args.second.now c.first_from-from.result (pos_at c.args.first.now c.loop-entry.entry-index) = subst (λ (e : Entry). BelowUpTo c.args.second.now c.first_from-from.result e.pos) read c.first_from-from.ensures.passed in
    let stops : pos_at c.args.first.now c.loop-entry.entry-index ≤ pos_at c.args.second.now c.first_from-from.result = subst (λ (e : Entry). e.pos ≤ pos_at c.args.second.now c.first_from-from.result) read (c.first_from-from.ensures.stops some) in
    past c.args.first.now c.args.second.now c.args.dist (AllPairs-from_increasing (map (λ e. e.pos) c.args.first.now) c.requires.first_rises) (AllPairs-from_increasing (map (λ e. e.pos) c.args.second.now) c.requires.second_rises)
    c.loop-entry.entry-index c.loop-entry.from c.loop-entry.invariant c.loop-entry-test.true c.first_from-from.result c.first_from-from.ensures.within passed some stops
    (λ same. elim c.else-other-entry.branch [
      | else-other-entry-via-then-other-entry+else-near-get w ↦ omega (arith, w.if-near-get.false, c.get-near.ensures.value, w.get.ensures.value, ap (λ (e : Entry). e.dist) read, ap (λ (e : Entry). e.dist) other)
      | else-other-entry-via-else-other-entry w ↦ absurd (w.if-other-entry.false (omega (arith, same, ap (λ (e : Entry). e.pos) read, ap (λ (e : Entry). e.pos) other)))
    ])

pub returns : goal.returns
returns c = none_at_end c.args.first.now c.args.second.now c.args.dist c.loop-entry.entry-index c.loop-entry.from c.loop-entry.invariant (omega (arith, c.loop-entry-test.false))
