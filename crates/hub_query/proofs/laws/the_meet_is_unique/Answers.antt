use Rattle.hub_query.proofs.Meetings.{meet_unique}
use Rattle.hub_query.proofs.laws.the_meet_is_unique.Goals as goal

pub returns : goal.returns
returns c = meet_unique
