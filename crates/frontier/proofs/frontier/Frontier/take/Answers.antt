use Rattle.std.proofs.Common.{◌≡◌, ◌<◌, length, sym, ap, ◌∙◌, arith}
use Rattle.frontier.specs.declared.reach.Reach.TheVariants.{Queued}
use Rattle.frontier.specs.Reaches.{reach_at}
use Rattle.frontier.proofs.HeapEntryLemmas.{HasHeapEntries-stale, HasHeapEntries-settled, nearest_heap_entry, heap_entry_inside}
use Rattle.frontier.proofs.frontier.Frontier.take.Goals as goal

pub invariant_of-self : goal.invariant_of-self
invariant_of-self g c =
    let inside : c.in-Some.heap_entry.node < length c.loop-heap_entry.self-inside.reaches = heap_entry_inside _ _ _ _ c.in-Some.heap_entry c.loop-heap_entry.invariant.has c.in-Some.ensures.heap_entry in
    let was : reach_at c.loop-heap_entry.self-inside.reaches c.in-Some.heap_entry.node ≡ c.get.result = sym c.get.ensures in
    rw c.settle.ensures (HasHeapEntries-settled _ _ _ _ c.in-Some.heap_entry c.in-Queued.found c.loop-heap_entry.invariant.has c.in-Some.ensures.heap_entry (was ∙ c.in-Queued.is))

pub returns-then-found-heap_entry-clause-nearest : goal.returns-then-found-heap_entry-clause-nearest
returns-then-found-heap_entry-clause-nearest g c = λ x f queued.
    let was : reach_at c.loop-heap_entry.self-inside.reaches x ≡ Queued f = ap (λ reaches. reach_at reaches x) c.loop-heap_entry.invariant.same ∙ ap (λ reaches. reach_at reaches x) c.self.view_is ∙ queued in
    omega (arith, c.if-found-heap_entry.true, nearest_heap_entry _ _ _ _ c.in-Some.heap_entry c.loop-heap_entry.invariant.has c.in-Some.ensures.heap_entry x f was)

pub loop-heap_entry-preserved-else-found-heap_entry : goal.loop-heap_entry-preserved-else-found-heap_entry
loop-heap_entry-preserved-else-found-heap_entry g c =
    let inside : c.in-Some.heap_entry.node < length c.loop-heap_entry.self-inside.reaches = heap_entry_inside _ _ _ _ c.in-Some.heap_entry c.loop-heap_entry.invariant.has c.in-Some.ensures.heap_entry in
    let was : reach_at c.loop-heap_entry.self-inside.reaches c.in-Some.heap_entry.node ≡ c.get.result = sym c.get.ensures in
    record {
      has = HasHeapEntries-stale _ _ _ _ c.in-Some.heap_entry c.loop-heap_entry.invariant.has c.in-Some.ensures.heap_entry
          (λ f queued. let both : Queued f ≡ Queued c.in-Queued.found = sym queued ∙ was ∙ c.in-Queued.is in let same : f ≡ c.in-Queued.found = cc in λ as_long. c.if-found-heap_entry.false (ap (λ k. k.dist) (sym same) ∙ as_long));
      same = c.loop-heap_entry.invariant.same;
    }

pub loop-heap_entry-preserved : goal.loop-heap_entry-preserved
loop-heap_entry-preserved g c =
    let inside : c.in-Some.heap_entry.node < length c.loop-heap_entry.self-inside.reaches = heap_entry_inside _ _ _ _ c.in-Some.heap_entry c.loop-heap_entry.invariant.has c.in-Some.ensures.heap_entry in
    let was : reach_at c.loop-heap_entry.self-inside.reaches c.in-Some.heap_entry.node ≡ c.get.result = sym c.get.ensures in
    record {
      has = HasHeapEntries-stale _ _ _ _ c.in-Some.heap_entry c.loop-heap_entry.invariant.has c.in-Some.ensures.heap_entry
          (λ f queued. absurd (c.in_default-get.not-Queued f (sym was ∙ queued)));
      same = c.loop-heap_entry.invariant.same;
    }
