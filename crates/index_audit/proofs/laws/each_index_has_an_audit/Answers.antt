use Rattle.index_audit.proofs.Decided.{audit_exists}
use Rattle.index_audit.proofs.laws.each_index_has_an_audit.Goals as goal

pub returns : goal.returns
returns c = λ graph at index is size well. audit_exists graph at index is size well
