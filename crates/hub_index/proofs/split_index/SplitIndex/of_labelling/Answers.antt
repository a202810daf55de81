use Rattle.hub_index.proofs.FarEntries.{IsWellFormed-below, no_overflow, far_position, first_too_far}
use Rattle.hub_index.proofs.split_index.SplitIndex.of_labelling.Goals as goal

pub at-requires : goal.at-requires
at-requires c =
    far_position c.args.graph.now.n c.args.graph.now.edges c.args.ranking c.args.rows c.n-n.ensures.graph c.n-ranked.ensures.ranking c.requires.nodes c.requires.labelling c.in-Some.far c.in-Some.ensures.some

pub returns-in-Some-clause-fault : goal.returns-in-Some-clause-fault
returns-in-Some-clause-fault c =
    first_too_far c.args.graph.now.n c.args.graph.now.edges c.args.ranking c.args.rows c.n-n.ensures.graph c.n-ranked.ensures.ranking c.requires.nodes c.requires.labelling c.in-Some.far c.at.result c.in-Some.ensures.some c.at.ensures.value

pub new-requires : goal.new-requires
new-requires c =
    IsWellFormed-below c.args.graph.now.n c.args.graph.now.edges c.args.ranking c.args.rows c.n-n.ensures.graph c.n-ranked.ensures.ranking c.requires.nodes c.requires.labelling c.in_default.ensures.none

pub returns-clause-fits : goal.returns-clause-fits
returns-clause-fits c =
    no_overflow c.args.graph.now.n c.args.graph.now.edges c.args.ranking c.args.rows c.n-n.ensures.graph c.n-ranked.ensures.ranking c.requires.nodes c.requires.labelling c.in_default.ensures.none
