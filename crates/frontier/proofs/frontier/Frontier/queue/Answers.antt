use Rattle.std.proofs.Common.{◌≡◌, ◌<◌, Contains, length, sym}
use Rattle.frontier.specs.Reaches.{reach_at}
use Rattle.frontier.proofs.HeapEntryLemmas.{HasHeapEntries-touched_with, HasHeapEntries-queued, touched_then}
use Rattle.frontier.proofs.frontier.Frontier.queue.Goals as goal

pub invariant_of-self-in_err-push : goal.invariant_of-self-in_err-push
invariant_of-self-in_err-push g c =
    let inside : c.args.node < length c.self.inside.reaches = rw (← c.self.view_is) at c.requires.node in
    rw c.in_err-push.ensures.err (HasHeapEntries-touched_with _ _ _ _ c.args.node c.args.reach c.self.invariant inside c.in_ok-touch.ensures.ok)

pub invariant_of-self-2 : goal.invariant_of-self-2
invariant_of-self-2 g c =
    let inside : c.args.node < length c.self.inside.reaches = rw (← c.self.view_is) at c.requires.node in
    let was : reach_at c.self.inside.reaches c.args.node ≡ c.args.reach = sym (rw (← c.self.view_is) at c.requires.reach) in
    let touched = HasHeapEntries-touched_with _ _ _ _ c.args.node c.args.reach c.self.invariant inside c.in_ok-touch.ensures.ok in
    let there : Contains c.touch.new.touched.items c.args.node = touched_then _ _ _ _ c.args.node c.args.reach c.self.invariant was c.in_ok-touch.ensures.ok in
    rw c.queue.ensures (HasHeapEntries-queued _ _ _ _ c.args.node _ touched inside there c.in_ok-push.ensures.ok)
