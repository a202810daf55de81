use Rattle.std.specs.Prelude.{◌+◌, ◌<◌}
use Rattle.std.proofs.Common.{arith}
use Rattle.std.proofs.lemmas.List.{take_all}
use Rattle.std.proofs.lemmas.List.Elements.{All-more}
use Rattle.walk_laws.specs.declared.graph.Edge.{Edge}
use Rattle.walk_laws.proofs.rows.last_node.Goals as goal

pub loop-e-preserved : goal.loop-e-preserved
loop-e-preserved c =
    let last = c.max-last.result in
    All-more (λ (e : Edge). (e.u < last + 1) × (e.v < last + 1)) c.args.edges.now c.loop-e.e-index (record { u = 0; v = 0; w = 0 }) c.loop-e-test.true
    (λ k d lt. (omega (arith, (c.loop-e.invariant k d lt).0, c.max-last.ensures), omega (arith, (c.loop-e.invariant k d lt).1, c.max-last.ensures)))
    (omega (arith, c.max.ensures, c.max-last.ensures), omega (arith, c.max.ensures, c.max-last.ensures))

pub returns-clause-last : goal.returns-clause-last
returns-clause-last c = rw (← take_all c.loop-e.e-index c.args.edges.now (omega (arith, c.loop-e-test.false))) c.loop-e.invariant
