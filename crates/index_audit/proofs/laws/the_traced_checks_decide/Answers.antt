use Rattle.index_audit.proofs.Decisive.{traced_checks_decide}
use Rattle.index_audit.proofs.laws.the_traced_checks_decide.Goals as goal

pub returns : goal.returns
returns c = traced_checks_decide
