use Rattle.hub_query.proofs.Meetings.{meet_exists}
use Rattle.hub_query.proofs.laws.each_pair_has_a_meet.Goals as goal

pub returns : goal.returns
returns c = meet_exists
