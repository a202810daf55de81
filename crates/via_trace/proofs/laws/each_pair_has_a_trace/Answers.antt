use Rattle.via_trace.proofs.EachTrace.{trace_exists}
use Rattle.via_trace.proofs.laws.each_pair_has_a_trace.Goals as goal

pub returns : goal.returns
returns c = λ index u v well have. trace_exists index well have u v
