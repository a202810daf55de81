use Rattle.via_trace.proofs.Told.{trace_is_least}
use Rattle.via_trace.proofs.laws.a_trace_is_a_least_walk.Goals as goal

pub returns : goal.returns
returns c = trace_is_least
