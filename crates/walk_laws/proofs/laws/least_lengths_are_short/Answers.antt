use Rattle.walk_laws.proofs.ShortWalks.{IsLeast-short}
use Rattle.walk_laws.proofs.laws.least_lengths_are_short.Goals as goal

pub returns : goal.returns
returns c n edges u v d all = IsLeast-short n edges all u v d
