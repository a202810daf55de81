use Rattle.walk_laws.specs.Joined.{Joined}
use Rattle.walk_laws.proofs.JoinedEdges.{Joined-positive}
use Rattle.walk_laws.proofs.OnWalks.{IsOn-nearer}
use Rattle.walk_laws.proofs.laws.nodes_before_the_end_are_nearer.Goals as goal

pub returns : goal.returns
returns c edges u x v a d weights = IsOn-nearer (Joined edges) (Joined-positive edges weights) u x v a d
