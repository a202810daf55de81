use Rattle.std.proofs.Common.{heap_items, sym, arith}
use Rattle.near_points.proofs.Begun.{Begun-start, Begun-none, Begun-push, Begun-all}
use Rattle.near_points.proofs.merging.begin.Goals as goal

pub loop-left-init : goal.loop-left-init
loop-left-init c = record {
  heap = c.requires.heap;
  begun = Begun-start c.args.words.now c.args.row.now (heap_items c.args.cursors.now) c.requires.none;
}

pub loop-left-preserved : goal.loop-left-preserved
loop-left-preserved c =
    let row = c.args.row.now in
    let left = c.loop-left.left in
    let begun = c.loop-left.invariant.begun in
    record {
      heap = c.loop-left.invariant.heap;
      begun = Begun-none c.args.words.now c.args.starts.now row (heap_items c.loop-left.cursors) left c.index-row-left.result c.requires.starts c.requires.within c.loop-left-test.true begun (sym c.index-row-left.is) c.if-starts-pos.false;
    }

pub loop-left-preserved-in-Continue-1 : goal.loop-left-preserved-in-Continue-1
loop-left-preserved-in-Continue-1 c =
    let row = c.args.row.now in
    let left = c.loop-left.left in
    let begun = c.loop-left.invariant.begun in
    record {
      heap = c.in_ok-push.ensures.heap_order c.loop-left.invariant.heap;
      begun = Begun-push c.args.words.now c.args.starts.now row (heap_items c.loop-left.cursors) left c.index-row-left.result c.requires.starts c.requires.within c.loop-left-test.true begun (sym c.index-row-left.is) c.cursor_at.result (heap_items c.push.new.self) c.if-starts-pos.true c.cursor_at.ensures.at c.cursor_at.ensures.key c.in_ok-push.ensures.permutation;
    }

pub returns-clause-begun : goal.returns-clause-begun
returns-clause-begun c = Begun-all c.args.words.now c.args.row.now (heap_items c.loop-left.cursors) c.loop-left.left (omega (arith, c.loop-left-test.false)) c.loop-left.invariant.begun
