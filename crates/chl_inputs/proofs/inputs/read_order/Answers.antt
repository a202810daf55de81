use Rattle.std.proofs.Common.{[], sym, ◌∙◌}
use Rattle.std.proofs.lemmas.Result.{IfOk-weaker}
use Rattle.order_text.proofs.OrderNodes.{orders_rank}
use Rattle.chl_inputs.specs.Stops.{order_stop}
use Rattle.chl_inputs.proofs.InputFacts.{reads_as}
use Rattle.chl_inputs.proofs.inputs.read_order.Goals as goal

pub returns-clause-size : goal.returns-clause-size
returns-clause-size g c = IfOk-weaker c.read_input.result _ _ (λ at came.
    (orders_rank c.args.n came.0 at (sym (c.in_ok-reader.ensures.comes_to came.0) ∙ came.1)).1) c.read_input.ensures.came

pub returns-clause-ranking : goal.returns-clause-ranking
returns-clause-ranking g c = IfOk-weaker c.read_input.result _ _ (λ at came.
    (orders_rank c.args.n came.0 at (sym (c.in_ok-reader.ensures.comes_to came.0) ∙ came.1)).0) c.read_input.ensures.came

pub returns-clause-goes : goal.returns-clause-goes
returns-clause-goes g c = reads_as order_stop _ _ _ _ _ c.in_ok-reader.ensures.refused c.in_ok-reader.ensures.comes_to c.read_input.ensures.goes

-- a reader that has read nothing is at no fault
pub read_input-requires : goal.read_input-requires
read_input-requires g c = c.in_ok-reader.ensures.refused []
