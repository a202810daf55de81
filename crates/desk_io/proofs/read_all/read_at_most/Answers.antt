use Rattle.std.proofs.Common.{◌+◌, ◌-◌, arith, ◌∙◌, subst}
use Rattle.std.proofs.lemmas.Result.{err_from_is_err_and}
use Rattle.std.proofs.lemmas.Grind.{common_steps}
use Rattle.desk_io.specs.HandOn.{Moves}
use Rattle.desk_io.proofs.ReadingLemmas.{at_end_after, Moves-append, HandsOn-from_moves, HandsOnAll-from_moves, HandsOnUntil-from_moves, OnFailed-at_err, OnNoMemory-at_err, IfRefused-at_err}
use Rattle.desk_io.proofs.read_all.read_at_most.Goals as goal

pub returns-in_err-count-clause-failed : goal.returns-in_err-count-clause-failed
returns-in_err-count-clause-failed g c =
    let p = err_from_is_err_and c.from_residual.result c.from_residual.ensures.1 in
    rw (p.1, p.2) (OnFailed-at_err c.in_err-count.field-0.0 c.in_err-count.ensures.failed (λ moved.
    HandsOn-from_moves g.F.Feed.feed_gives _ _ _ _ _ _ (Moves-append g.F.Feed.feed_gives _ _ _ _ _ _ _ _ c.loop-room.invariant.moved moved) (omega arith)))

pub returns-in_err-count-clause-no_memory : goal.returns-in_err-count-clause-no_memory
returns-in_err-count-clause-no_memory g c =
    let p = err_from_is_err_and c.from_residual.result c.from_residual.ensures.1 in
    rw (p.1, p.2) (OnNoMemory-at_err c.in_err-count.field-0.0 c.in_err-count.ensures.no_memory (λ moved.
    HandsOn-from_moves g.F.Feed.feed_gives _ _ _ _ _ _ (Moves-append g.F.Feed.feed_gives _ _ _ _ _ _ _ _ c.loop-room.invariant.moved moved) (omega arith)))

pub returns-in_err-count-clause-refused : goal.returns-in_err-count-clause-refused
returns-in_err-count-clause-refused g c =
    let p = err_from_is_err_and c.from_residual.result c.from_residual.ensures.1 in
    rw (p.1, p.2) (IfRefused-at_err c.in_err-count.field-0.0 c.in_err-count.ensures.refused (λ fault next.
    HandsOnUntil-from_moves g.F.Feed.feed_gives _ fault _ _ _ _ _ _ _ _ c.loop-room.invariant.moved (grind (arith, common_steps)) (grind (arith, common_steps)) next))

pub returns-then-count-eq0-clause-ok : goal.returns-then-count-eq0-clause-ok
returns-then-count-eq0-clause-ok g c =
    let was = c.loop-room.invariant in
    let read = c.in_ok-count.ensures in
    HandsOnAll-from_moves g.F.Feed.feed_gives _ _ _ _ _ _ (Moves-append g.F.Feed.feed_gives _ _ _ _ _ _ _ _ was.moved read.ok) (omega arith) (at_end_after _ _ _ read.ok.read (read.end c.if-count-eq0.true))

pub loop-room-preserved : goal.loop-room-preserved
loop-room-preserved g c =
    let was = c.loop-room.invariant in
    let read = c.in_ok-count.ensures in
    record {
      is_open = read.open;
      is_created = read.created ∙ was.is_created;
      within = omega arith;
      moved = subst (λ n. Moves g.F.Feed.feed_gives c.args.feed.now c.hand_on.new.feed (g.D.Desk.told c.args.desk.now) (g.D.Desk.told c.hand_on.new.desk) n) {x = c.args.limit - c.loop-room.room + c.in_ok-count.count} (grind (arith, common_steps)) (Moves-append g.F.Feed.feed_gives _ _ _ _ _ _ _ _ was.moved read.ok);
      input_count = read.input_count ∙ was.input_count;
      output_count = read.output_count ∙ was.output_count;
    }
