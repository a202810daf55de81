use Rattle.index_audit.proofs.Decisive.{same_exactly}
use Rattle.index_audit.proofs.auditing.audit_on.Goals as goal

pub answer_on-requires-clause-beside : goal.answer_on-requires-clause-beside
answer_on-requires-clause-beside g c κs within = tt

pub returns-clause-same : goal.returns-clause-same
returns-clause-same g c =
    same_exactly c.args.graph.now c.args.ranking.now c.args.index.now c.answer_on.result c.answer_on.ensures.graph c.requires c.answer_on.ensures.well_formed c.answer_on.ensures.answer
