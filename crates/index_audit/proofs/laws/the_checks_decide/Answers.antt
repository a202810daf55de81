use Rattle.index_audit.proofs.Decisive.{checks_decide}
use Rattle.index_audit.proofs.laws.the_checks_decide.Goals as goal

pub returns : goal.returns
returns c = checks_decide
