use Rattle.via_trace.proofs.OneTrace.{trace_unique}
use Rattle.via_trace.proofs.laws.the_trace_is_one.Goals as goal

pub returns : goal.returns
returns c = λ index u v told other well have u_node u_within v_node v_within. trace_unique index well have u v u_node u_within v_node v_within told other
