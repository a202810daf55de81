use Rattle.std.proofs.Common.{◌+◌, ap, ◌∙◌}
use Rattle.frontier.specs.Reaches.{reach_at}
use Rattle.frontier.proofs.HeapEntryLemmas.{HasHeapEntries-start, nothing_reached}
use Rattle.frontier.proofs.frontier.Frontier.new.Goals as goal

pub invariant_of-result : goal.invariant_of-result
invariant_of-result g c =
    HasHeapEntries-start _ _ _ (λ x. ap (λ reaches. reach_at reaches x) c.in_ok-new.ensures ∙ nothing_reached (c.args.n + 1) x) c.new-2.ensures c.new-3.ensures.items
