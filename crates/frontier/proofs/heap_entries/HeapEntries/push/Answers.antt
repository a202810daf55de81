use Rattle.std.proofs.Common.{◌^◌, ◌≤◌, arith}
use Rattle.frontier.proofs.KeyLemmas.{Gains-short, Gains-far, short_by-more, far_off-more}
use Rattle.frontier.proofs.heap_entries.HeapEntries.push.Goals as goal

pub returns-in_ok-push-clause-ok : goal.returns-in_ok-push-clause-ok
returns-in_ok-push-clause-ok c = rw (← c.self.view_is) (Gains-short _ _ _ c.args.node c.args.dist c.ranges.node.fits c.in_ok-push.ensures.permutation)

pub returns-in_ok-push-2-clause-ok : goal.returns-in_ok-push-2-clause-ok
returns-in_ok-push-2-clause-ok c = rw (← c.self.view_is) (Gains-far _ _ _ _ (rw c.of.ensures at c.in_ok-push-2.ensures.permutation))

pub invariant_of-self : goal.invariant_of-self
invariant_of-self c = record {
  short_heap = c.in_ok-push.ensures.heap_order c.self.invariant.short_heap;
  far_heap = c.self.invariant.far_heap;
  short_by = short_by-more _ _ c.args.node c.args.dist c.self.invariant.short_by c.ranges.node.fits c.if-dist.true c.in_ok-push.ensures.permutation;
  far_off = c.self.invariant.far_off;
}

pub invariant_of-self-in-Continue-branch-2 : goal.invariant_of-self-in-Continue-branch-2
invariant_of-self-in-Continue-branch-2 c =
    let off : 2 ^ 32 ≤ c.args.dist = omega (arith, c.if-dist.false) in
    record {
      short_heap = c.self.invariant.short_heap;
      far_heap = c.in_ok-push-2.ensures.heap_order c.self.invariant.far_heap;
      short_by = c.self.invariant.short_by;
      far_off = far_off-more _ _ _ c.self.invariant.far_off off (rw c.of.ensures at c.in_ok-push-2.ensures.permutation);
    }
