use Rattle.walk_laws.specs.Joined.{Joined}
use Rattle.walk_laws.proofs.JoinedDecisions.{IsCanonical-joined_decided}
use Rattle.walk_laws.proofs.LabellingExists.{IsChl-exists}
use Rattle.walk_laws.proofs.laws.the_labelling_exists.Goals as goal

pub returns : goal.returns
returns c edges at weights ranking = IsChl-exists (Joined edges) at ranking (IsCanonical-joined_decided edges weights at ranking)
