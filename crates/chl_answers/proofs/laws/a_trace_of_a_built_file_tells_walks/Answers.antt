use Rattle.chl_answers.proofs.BuiltTraces.{traces_tell}
use Rattle.chl_answers.proofs.laws.a_trace_of_a_built_file_tells_walks.Goals as goal

pub returns : goal.returns
returns c = traces_tell
