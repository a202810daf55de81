use Rattle.index_audit.proofs.JoinedRanges.{answer_found, answer_none}
use Rattle.index_audit.proofs.auditing.answer_on.Goals as goal

pub returns-in-Some-clause-answer : goal.returns-in-Some-clause-answer
returns-in-Some-clause-answer g c = c.in-Some.ensures.found (g.V.Beside.vias c.args.vias.now)

pub fault_between-requires-clause-graph : goal.fault_between-requires-clause-graph
fault_between-requires-clause-graph g c κs within = c.fault_of_order.ensures.graph

pub returns-in-Some-fault_between-clause-answer : goal.returns-in-Some-fault_between-clause-answer
returns-in-Some-fault_between-clause-answer g c =
    answer_found c.args.graph.now c.args.ranking.now c.args.index.now (g.V.Beside.vias c.args.vias.now) c.in_default.ensures.found c.n-2.result c.n-2.ensures.value c.in-Some-fault_between.fault c.in-Some-fault_between.ensures

pub returns-in-None-clause-answer : goal.returns-in-None-clause-answer
returns-in-None-clause-answer g c =
    answer_none c.args.graph.now c.args.ranking.now c.args.index.now (g.V.Beside.vias c.args.vias.now) c.in_default.ensures.found c.n-2.result c.n-2.ensures.value c.in-None.ensures
