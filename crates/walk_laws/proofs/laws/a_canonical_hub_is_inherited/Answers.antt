use Rattle.walk_laws.specs.Joined.{Joined}
use Rattle.walk_laws.proofs.OnWalks.{OnParts-from_on}
use Rattle.walk_laws.proofs.CanonicalHubs.{IsCanonical-inherited}
use Rattle.walk_laws.proofs.laws.a_canonical_hub_is_inherited.Goals as goal

pub returns : goal.returns
returns c edges at h x v d canonical on =
    let p = OnParts-from_on (Joined edges) h x v on in
    (p.before, IsCanonical-inherited (Joined edges) at h x v p.before d canonical on p.first)
