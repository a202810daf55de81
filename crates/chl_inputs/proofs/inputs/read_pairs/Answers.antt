use Rattle.std.proofs.Common.{[], sym, ◌∙◌}
use Rattle.std.proofs.lemmas.Result.{IfOk-weaker}
use Rattle.dimacs_text.proofs.TextsAccepted.{pairs_accepted}
use Rattle.chl_inputs.specs.Stops.{pairs_stop}
use Rattle.chl_inputs.proofs.InputFacts.{reads_as}
use Rattle.chl_inputs.proofs.inputs.read_pairs.Goals as goal

pub returns-clause-within : goal.returns-clause-within
returns-clause-within g c = IfOk-weaker c.read_input.result _ _ (λ pairs came.
    pairs_accepted c.args.n came.0 pairs (sym (c.in_ok-reader.ensures.comes_to came.0) ∙ came.1)) c.read_input.ensures.came

pub returns-clause-goes : goal.returns-clause-goes
returns-clause-goes g c = reads_as pairs_stop _ _ _ _ _ c.in_ok-reader.ensures.refused c.in_ok-reader.ensures.comes_to c.read_input.ensures.goes

-- a reader that has read nothing is at no fault
pub read_input-requires : goal.read_input-requires
read_input-requires g c = c.in_ok-reader.ensures.refused []
