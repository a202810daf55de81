use Rattle.walk_laws.specs.Joined.{Joined}
use Rattle.walk_laws.proofs.LeastWalks.{IsLeast-prefix, IsLeast-rest}
use Rattle.walk_laws.proofs.laws.a_part_of_a_least_walk_is_least.Goals as goal

pub returns : goal.returns
returns c edges u x v a b first second whole =
    (IsLeast-prefix (Joined edges) u x v a b first second whole, IsLeast-rest (Joined edges) u x v a b first second whole)
