use Rattle.walk_laws.proofs.JoinedDecisions.{IsCanonical-or_joined_cover}
use Rattle.walk_laws.proofs.laws.every_other_entry_has_a_cover.Goals as goal

pub returns : goal.returns
returns c edges at h v d weights ranking = IsCanonical-or_joined_cover edges weights at ranking h v d
