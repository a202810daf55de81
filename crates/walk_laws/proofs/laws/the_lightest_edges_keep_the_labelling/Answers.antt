use Rattle.walk_laws.proofs.LightestEdges.{IsLeast-lightest, IsCanonical-lightest, IsChl-lightest}
use Rattle.walk_laws.proofs.laws.the_lightest_edges_keep_the_labelling.Goals as goal

pub returns-clause-lengths : goal.returns-clause-lengths
returns-clause-lengths c edges kept u v d are = IsLeast-lightest edges kept are u v d

pub returns-clause-hubs : goal.returns-clause-hubs
returns-clause-hubs c edges kept at h v d are = IsCanonical-lightest edges kept are at h v d

pub returns-clause-labelling : goal.returns-clause-labelling
returns-clause-labelling c edges kept at rows are = IsChl-lightest edges kept are at rows
