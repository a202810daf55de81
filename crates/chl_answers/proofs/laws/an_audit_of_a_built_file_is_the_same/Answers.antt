use Rattle.chl_answers.proofs.BuiltAudits.{audits_same}
use Rattle.chl_answers.proofs.laws.an_audit_of_a_built_file_is_the_same.Goals as goal

pub returns : goal.returns
returns c = audits_same
