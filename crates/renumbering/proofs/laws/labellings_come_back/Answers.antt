use Rattle.renumbering.proofs.NewNumbers.{comes_back}
use Rattle.renumbering.proofs.laws.labellings_come_back.Goals as goal

pub returns : goal.returns
returns c = comes_back
