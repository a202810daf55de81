use Rattle.chl_answers.proofs.BuiltQueries.{queries_answer}
use Rattle.chl_answers.proofs.laws.a_query_of_a_built_file_solves.Goals as goal

pub returns : goal.returns
returns c = queries_answer
