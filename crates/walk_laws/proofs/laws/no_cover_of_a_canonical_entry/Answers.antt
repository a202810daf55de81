use Rattle.walk_laws.specs.Joined.{Joined}
use Rattle.walk_laws.proofs.JoinedEdges.{Joined-sym}
use Rattle.walk_laws.proofs.CanonicalHubs.{IsCanonical-no_cover}
use Rattle.walk_laws.proofs.laws.no_cover_of_a_canonical_entry.Goals as goal

pub returns : goal.returns
returns c edges at = IsCanonical-no_cover (Joined edges) at (Joined-sym edges)
