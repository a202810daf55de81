use Rattle.std.proofs.Common.{rules, ◌^◌, arith}
use Rattle.hub_index.specs.Reach.{AreBelow}
use Rattle.hub_index.proofs.FarEntries.{AreBelow-more, IsWellFormed-below, no_overflow, far_position, first_too_far}
use Rattle.hub_index.proofs.index.Index.of_labelling.Goals as goal

pub with_reach-requires-clause-well_formed : goal.with_reach-requires-clause-well_formed
with_reach-requires-clause-well_formed c =
    let short : AreBelow (2 ^ 62) c.args.rows = search rules in
    IsWellFormed-below c.args.graph.now.n c.args.graph.now.edges c.args.ranking c.args.rows c.n-n.ensures.graph c.n-ranked.ensures.ranking c.requires.nodes c.requires.labelling (AreBelow-more (2 ^ 62) (2 ^ 64) c.args.rows (omega arith) short)

pub returns-then-is_none-clause-fits : goal.returns-then-is_none-clause-fits
returns-then-is_none-clause-fits c =
    let short : AreBelow (2 ^ 62) c.args.rows = search rules in
    no_overflow c.args.graph.now.n c.args.graph.now.edges c.args.ranking c.args.rows c.n-n.ensures.graph c.n-ranked.ensures.ranking c.requires.nodes c.requires.labelling (AreBelow-more (2 ^ 62) (2 ^ 64) c.args.rows (omega arith) short)

pub at-requires : goal.at-requires
at-requires c =
    far_position c.args.graph.now.n c.args.graph.now.edges c.args.ranking c.args.rows c.n-n.ensures.graph c.n-ranked.ensures.ranking c.requires.nodes c.requires.labelling c.in-Some.far c.in-Some.ensures.some

pub returns-in-Some-clause-fault : goal.returns-in-Some-clause-fault
returns-in-Some-clause-fault c =
    first_too_far c.args.graph.now.n c.args.graph.now.edges c.args.ranking c.args.rows c.n-n.ensures.graph c.n-ranked.ensures.ranking c.requires.nodes c.requires.labelling c.in-Some.far c.at.result c.in-Some.ensures.some c.at.ensures.value

pub with_reach-requires-2-clause-well_formed : goal.with_reach-requires-2-clause-well_formed
with_reach-requires-2-clause-well_formed c =
    IsWellFormed-below c.args.graph.now.n c.args.graph.now.edges c.args.ranking c.args.rows c.n-n.ensures.graph c.n-ranked.ensures.ranking c.requires.nodes c.requires.labelling c.in_default.ensures.none

pub returns-clause-fits : goal.returns-clause-fits
returns-clause-fits c =
    no_overflow c.args.graph.now.n c.args.graph.now.edges c.args.ranking c.args.rows c.n-n.ensures.graph c.n-ranked.ensures.ranking c.requires.nodes c.requires.labelling c.in_default.ensures.none
