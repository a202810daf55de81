use Rattle.index_audit.proofs.Faults.{traced_audit_unique}
use Rattle.index_audit.proofs.laws.the_traced_audit_is_unique.Goals as goal

pub returns : goal.returns
returns c = λ graph at index answer other size. traced_audit_unique graph at index size answer other
