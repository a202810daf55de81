use Rattle.gll_merge.proofs.merging.task_for.Goals as goal

pub invariant_of-result : goal.invariant_of-result
invariant_of-result g c = (c.requires.within, c.requires.shard)
