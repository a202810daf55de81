use Rattle.std.proofs.Common.{[], refl, false, sym, ◌∙◌}
use Rattle.std.proofs.lemmas.Result.{IfOk-weaker}
use Rattle.order_text.proofs.OrderNodes.{texts_of_nodes}
use Rattle.chl_inputs.specs.Stops.{points_stop}
use Rattle.chl_inputs.proofs.InputFacts.{reads_as}
use Rattle.chl_inputs.proofs.inputs.read_points.Goals as goal

pub returns-clause-within : goal.returns-clause-within
returns-clause-within g c = IfOk-weaker c.read_input.result _ _ (λ nodes came.
    (texts_of_nodes c.args.n false came.0 nodes (sym (c.in_ok-reader.ensures.comes_to came.0) ∙ came.1)).0) c.read_input.ensures.came

pub returns-clause-distinct : goal.returns-clause-distinct
returns-clause-distinct g c = IfOk-weaker c.read_input.result _ _ (λ nodes came.
    (texts_of_nodes c.args.n false came.0 nodes (sym (c.in_ok-reader.ensures.comes_to came.0) ∙ came.1)).1 refl) c.read_input.ensures.came

pub returns-clause-goes : goal.returns-clause-goes
returns-clause-goes g c = reads_as points_stop _ _ _ _ _ c.in_ok-reader.ensures.refused c.in_ok-reader.ensures.comes_to c.read_input.ensures.goes

-- a reader that has read nothing is at no fault
pub read_input-requires : goal.read_input-requires
read_input-requires g c = c.in_ok-reader.ensures.refused []
