use Rattle.std.proofs.Common.{rules}
use Rattle.walk_laws.specs.LightestArcs.{no_arc}
use Rattle.walk_laws.proofs.LightestRows.{lowered_there, lowered_least, least_of_run}
use Rattle.walk_laws.proofs.lightest.least_weight.Goals as goal

pub returns-then-arc-first : goal.returns-then-arc-first
returns-then-arc-first c = record {
  there = c.loop-arc.invariant.there;
  least = least_of_run c.args.arcs.now c.loop-arc.arc-index c.loop-arc.least c.args.first c.requires.rising c.requires.first (λ lt. search rules) c.loop-arc.invariant.least;
}

pub loop-arc-preserved : goal.loop-arc-preserved
loop-arc-preserved c = rw c.min-least.ensures (record {
  there = lowered_there c.args.arcs.now c.loop-arc.arc-index c.args.first.to c.loop-arc.least no_arc c.loop-arc-test.true (search rules) c.loop-arc.invariant.there;
  least = lowered_least c.args.arcs.now c.loop-arc.arc-index c.loop-arc.least no_arc c.loop-arc-test.true c.loop-arc.invariant.least;
})

pub returns : goal.returns
returns c = record {
  there = c.loop-arc.invariant.there;
  least = least_of_run c.args.arcs.now c.loop-arc.arc-index c.loop-arc.least c.args.first c.requires.rising c.requires.first (λ lt. absurd (search rules)) c.loop-arc.invariant.least;
}
