use Rattle.std.proofs.Common.{◌≡◌, [], heap_items, arith}
use Rattle.std.proofs.lemmas.List.{nil_from_length}
use Rattle.frontier.proofs.KeyLemmas.{Loses-short, Loses-far, short_by-left}
use Rattle.frontier.proofs.heap_entries.HeapEntries.pop.Goals as goal

pub invariant_of-self : goal.invariant_of-self
invariant_of-self c =
    let popped = c.in-Some.ensures.heap_order c.self.invariant.short_heap in
    record {
      short_heap = popped.0;
      far_heap = c.self.invariant.far_heap;
      short_by = short_by-left _ _ c.in-Some.key c.self.invariant.short_by c.in-Some.ensures.permutation;
      far_off = c.self.invariant.far_off;
    }

pub returns-in-Some-clause-heap_entry : goal.returns-in-Some-clause-heap_entry
returns-in-Some-clause-heap_entry c =
    let popped = c.in-Some.ensures.heap_order c.self.invariant.short_heap in
    rw c.of.ensures (rw (← c.self.view_is) (Loses-short _ _ _ c.in-Some.key c.self.invariant.far_off c.self.invariant.short_by popped.1 c.in-Some.ensures.permutation))

pub returns-clause-heap_entry : goal.returns-clause-heap_entry
returns-clause-heap_entry c =
    let popped = c.in_ok-heap_entry.ensures.heap_order c.self.invariant.far_heap in
    let none : heap_items c.self.inside.short ≡ [] = nil_from_length _ (omega (arith, c.in_default.ensures.none)) in
    rw c.in_default.ensures.unchanged.0 (rw (← c.self.view_is) (Loses-far _ _ _ c.in_ok-heap_entry.heap_entry none popped.1 c.in_ok-heap_entry.ensures.permutation))
