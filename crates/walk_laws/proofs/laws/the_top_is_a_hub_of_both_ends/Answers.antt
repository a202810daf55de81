use Rattle.walk_laws.specs.Joined.{Joined}
use Rattle.walk_laws.proofs.JoinedEdges.{Joined-sym}
use Rattle.walk_laws.proofs.OnWalks.{OnParts-from_on}
use Rattle.walk_laws.proofs.Backwards.{IsLeast-back}
use Rattle.walk_laws.proofs.CanonicalHubs.{IsTop-canonical_for_start, IsTop-canonical_for_end}
use Rattle.walk_laws.proofs.laws.the_top_is_a_hub_of_both_ends.Goals as goal

pub returns : goal.returns
returns c edges at u v x top =
    let J = Joined edges in
    let p = OnParts-from_on J u x v top.on in
    ((p.before, IsTop-canonical_for_start J at (Joined-sym edges) u v x p.before top (IsLeast-back J (Joined-sym edges) u x p.before p.first)), (p.after, IsTop-canonical_for_end J at u v x p.after top p.second))
