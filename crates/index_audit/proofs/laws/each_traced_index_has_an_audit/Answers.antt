use Rattle.index_audit.proofs.Decided.{traced_audit_exists}
use Rattle.index_audit.proofs.laws.each_traced_index_has_an_audit.Goals as goal

pub returns : goal.returns
returns c = traced_audit_exists
