use Rattle.walk_laws.proofs.JoinedDecisions.{IsLeast-joined_exists, IsTop-joined_exists}
use Rattle.walk_laws.proofs.laws.the_top_exists.Goals as goal

pub returns : goal.returns
returns c edges at u v d weights ranking from_one up_to_n walk =
    let least = IsLeast-joined_exists edges weights u v d walk in
    IsTop-joined_exists edges weights at ranking u v least.0 from_one up_to_n least.1
