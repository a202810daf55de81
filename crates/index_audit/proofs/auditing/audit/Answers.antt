use Rattle.std.proofs.Common.{None}
use Rattle.index_audit.specs.declared.answer.Audit.TheVariants.{Same}
use Rattle.index_audit.proofs.Decisive.{same_exactly}
use Rattle.index_audit.proofs.JoinedRanges.{answer_found, answer_none}
use Rattle.index_audit.proofs.auditing.audit.Goals as goal

pub returns-in-Some-clause-first : goal.returns-in-Some-clause-first
returns-in-Some-clause-first c = c.in-Some.ensures.found None

pub returns-in-Some-clause-same : goal.returns-in-Some-clause-same
returns-in-Some-clause-same c =
    same_exactly c.args.graph.now c.args.ranking.now c.args.index.now c.in-Some.fault c.fault_of_order.ensures.graph c.requires c.fault_of_order.ensures.well_formed (returns-in-Some-clause-first c)

pub fault_in_turn-requires-clause-graph : goal.fault_in_turn-requires-clause-graph
fault_in_turn-requires-clause-graph c = c.fault_of_order.ensures.graph

pub returns-in-Some-fault_in_turn-clause-first : goal.returns-in-Some-fault_in_turn-clause-first
returns-in-Some-fault_in_turn-clause-first c =
    answer_found c.args.graph.now c.args.ranking.now c.args.index.now None c.in_default.ensures.found c.n.result c.n.ensures.value c.in-Some-fault_in_turn.fault c.in-Some-fault_in_turn.ensures

pub returns-in-Some-fault_in_turn-clause-same : goal.returns-in-Some-fault_in_turn-clause-same
returns-in-Some-fault_in_turn-clause-same c =
    same_exactly c.args.graph.now c.args.ranking.now c.args.index.now c.in-Some-fault_in_turn.fault c.fault_of_order.ensures.graph c.requires c.fault_of_order.ensures.well_formed (returns-in-Some-fault_in_turn-clause-first c)

pub fault_in_turn-requires-clause-beside : goal.fault_in_turn-requires-clause-beside
fault_in_turn-requires-clause-beside c = tt

pub returns-in-None-clause-first : goal.returns-in-None-clause-first
returns-in-None-clause-first c =
    answer_none c.args.graph.now c.args.ranking.now c.args.index.now None c.in_default.ensures.found c.n.result c.n.ensures.value c.in-None.ensures

pub returns-in-None-clause-same : goal.returns-in-None-clause-same
returns-in-None-clause-same c =
    same_exactly c.args.graph.now c.args.ranking.now c.args.index.now Same c.fault_of_order.ensures.graph c.requires c.fault_of_order.ensures.well_formed (returns-in-None-clause-first c)
