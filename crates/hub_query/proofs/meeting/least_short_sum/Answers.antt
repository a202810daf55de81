use Rattle.std.proofs.Common.{◌-◌, ◌^◌, map, drop, subst, sym, inl, inr, arith}
use Rattle.std.proofs.lemmas.List.{get_or_read}
use Rattle.std.proofs.lemmas.List.Kept.{AllPairs-from_increasing}
use Rattle.walk_laws.specs.Meet.{IsLeastSum}
use Rattle.hub_query.proofs.Walked.{Walked-start, Walked-step_first, Walked-step_second, Walked-step_keep, Walked-step_take, Walked-none, Walked-some, drop-either_all, nothing}
use Rattle.hub_query.proofs.meeting.least_short_sum.Goals as goal
use Rattle.hub_query.proofs.meeting.least_short_sum.Goals.{then-sum-least, else-sum-least, then-loop-i-test+else-j-second, else-loop-i-test}

pub loop-i-init : goal.loop-i-init
loop-i-init c =
    Walked-start (2 ^ 64 - 1) c.args.first.now c.args.second.now
    (AllPairs-from_increasing (map (λ e. e.pos) c.args.first.now) c.requires.first_rises)
    (AllPairs-from_increasing (map (λ e. e.pos) c.args.second.now) c.requires.second_rises)

pub loop-i-preserved-then-a-b : goal.loop-i-preserved-then-a-b
loop-i-preserved-then-a-b c = elim c.if-sum-least.branch [
  | then-sum-least w ↦ rw (w.pos-is, w.least-is) (Walked-step_take (2 ^ 64 - 1) c.args.first.now c.args.second.now c.loop-i.i c.loop-i.j c.loop-i.pos c.loop-i.least c.loop-i-test.true c.if-j-second.true c.loop-i.invariant c.index-first-i.result c.index-second-j.result (get_or_read c.args.first.now c.loop-i.i _ c.loop-i-test.true c.index-first-i.is nothing) (get_or_read c.args.second.now c.loop-i.j _ c.if-j-second.true c.index-second-j.is nothing) c.if-a-b.true _ (omega (arith, c.get_u64.ensures, c.get_u64-then-a-b.ensures)) w.if-sum-least.true)
  | else-sum-least w ↦ rw (w.pos-is, w.least-is) (Walked-step_keep (2 ^ 64 - 1) c.args.first.now c.args.second.now c.loop-i.i c.loop-i.j c.loop-i.pos c.loop-i.least c.loop-i-test.true c.if-j-second.true c.loop-i.invariant c.index-first-i.result c.index-second-j.result (get_or_read c.args.first.now c.loop-i.i _ c.loop-i-test.true c.index-first-i.is nothing) (get_or_read c.args.second.now c.loop-i.j _ c.if-j-second.true c.index-second-j.is nothing) c.if-a-b.true _ (omega (arith, c.get_u64.ensures, c.get_u64-then-a-b.ensures)) w.if-sum-least.false (2 ^ 62) (omega arith) c.requires.first_fits c.requires.second_fits)
]

pub loop-i-preserved-then-a-b-2 : goal.loop-i-preserved-then-a-b-2
loop-i-preserved-then-a-b-2 c =
    Walked-step_first (2 ^ 64 - 1) c.args.first.now c.args.second.now c.loop-i.i c.loop-i.j c.loop-i.pos c.loop-i.least c.loop-i-test.true c.if-j-second.true c.loop-i.invariant c.index-first-i.result c.index-second-j.result (get_or_read c.args.first.now c.loop-i.i _ c.loop-i-test.true c.index-first-i.is nothing) (get_or_read c.args.second.now c.loop-i.j _ c.if-j-second.true c.index-second-j.is nothing) c.if-a-b-2.true

pub loop-i-preserved : goal.loop-i-preserved
loop-i-preserved c =
    Walked-step_second (2 ^ 64 - 1) c.args.first.now c.args.second.now c.loop-i.i c.loop-i.j c.loop-i.pos c.loop-i.least c.loop-i-test.true c.if-j-second.true c.loop-i.invariant c.index-first-i.result c.index-second-j.result (get_or_read c.args.first.now c.loop-i.i _ c.loop-i-test.true c.index-first-i.is nothing) (get_or_read c.args.second.now c.loop-i.j _ c.if-j-second.true c.index-second-j.is nothing) (omega (arith, c.if-a-b.false, c.if-a-b-2.false))

pub returns-then-least : goal.returns-then-least
returns-then-least c =
    Walked-none (2 ^ 64 - 1) c.args.first.now c.args.second.now (drop c.loop-i.i c.args.first.now) (drop c.loop-i.j c.args.second.now) c.loop-i.pos c.loop-i.least c.loop-i.invariant
    (drop-either_all c.args.first.now c.args.second.now c.loop-i.i c.loop-i.j (elim c.loop-i-test.branch [ then-loop-i-test+else-j-second w ↦ inr w.if-j-second.false | else-loop-i-test w ↦ inl w.loop-i-test.false ]))
    (2 ^ 62) (omega arith) c.requires.first_fits c.requires.second_fits (omega (arith, c.if-least.true))

pub returns-else-least : goal.returns-else-least
returns-else-least c =
    subst (IsLeastSum c.args.first.now c.args.second.now c.loop-i.pos) (sym c.from.ensures)
    (Walked-some (2 ^ 64 - 1) c.args.first.now c.args.second.now (drop c.loop-i.i c.args.first.now) (drop c.loop-i.j c.args.second.now) c.loop-i.pos c.loop-i.least c.loop-i.invariant
    (drop-either_all c.args.first.now c.args.second.now c.loop-i.i c.loop-i.j (elim c.loop-i-test.branch [ then-loop-i-test+else-j-second w ↦ inr w.if-j-second.false | else-loop-i-test w ↦ inl w.loop-i-test.false ]))
    c.if-least.false)
