use Rattle.index_audit.proofs.Decisive.{traced_same_exactly}
use Rattle.index_audit.proofs.JoinedRanges.{answer_of_parts}
use Rattle.index_audit.proofs.auditing.audit_traced_on.Goals as goal

pub answer_on-requires-clause-beside : goal.answer_on-requires-clause-beside
answer_on-requires-clause-beside g c κs within = rw (c.index.ensures.rows, c.vias.ensures.value) c.vias.ensures.have_vias

pub returns-clause-first : goal.returns-clause-first
returns-clause-first g c =
    answer_of_parts c.args.graph.now c.args.ranking.now c.index.result.now c.vias.result.now c.args.index.now c.answer_on.result c.index.ensures.order c.index.ensures.rows c.vias.ensures.value c.answer_on.ensures.answer

pub returns-clause-same : goal.returns-clause-same
returns-clause-same g c =
    traced_same_exactly c.args.graph.now c.args.ranking.now c.args.index.now c.answer_on.result c.answer_on.ensures.graph c.requires
    (rw (c.index.ensures.order, c.index.ensures.rows) at c.answer_on.ensures.well_formed) c.vias.ensures.have_vias (returns-clause-first g c)
