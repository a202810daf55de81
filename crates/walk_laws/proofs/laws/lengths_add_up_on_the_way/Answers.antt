use Rattle.walk_laws.specs.Joined.{Joined}
use Rattle.walk_laws.proofs.OnWalks.{OnParts-from_on, IsOn-from_parts}
use Rattle.walk_laws.proofs.laws.lengths_add_up_on_the_way.Goals as goal

pub returns : goal.returns
returns c edges u x v =
    (λ on. let p = OnParts-from_on (Joined edges) u x v on in (p.before, p.after, p.first, p.second, p.whole), λ h. IsOn-from_parts (Joined edges) u x v h.0 h.1 h.2.walk h.3.walk h.4)
