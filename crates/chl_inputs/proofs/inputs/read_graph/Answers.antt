use Rattle.std.proofs.Common.{[]}
use Rattle.chl_inputs.specs.Stops.{graph_stop}
use Rattle.chl_inputs.proofs.InputFacts.{reads_as}
use Rattle.chl_inputs.proofs.inputs.read_graph.Goals as goal

pub returns : goal.returns
returns g c = reads_as graph_stop _ _ _ _ _ c.in_ok-reader.ensures.refused c.in_ok-reader.ensures.comes_to c.read_input.ensures.goes

-- a reader that has read nothing is at no fault
pub read_input-requires : goal.read_input-requires
read_input-requires g c = c.in_ok-reader.ensures.refused []
