use Rattle.std.proofs.Common.{[], sym, ◌∙◌}
use Rattle.std.proofs.lemmas.Result.{IfOk-weaker}
use Rattle.dimacs_text.proofs.TextsAccepted.{edits_accepted, edited_graph}
use Rattle.chl_inputs.specs.Stops.{edits_stop}
use Rattle.chl_inputs.proofs.InputFacts.{reads_as}
use Rattle.chl_inputs.proofs.inputs.read_edits.Goals as goal

pub returns-clause-edges : goal.returns-clause-edges
returns-clause-edges g c = IfOk-weaker c.read_input.result _ _ (λ edits came.
    (edits_accepted c.args.n came.0 edits (sym (c.in_ok-reader.ensures.comes_to came.0) ∙ came.1)).0) c.read_input.ensures.came

pub returns-clause-light : goal.returns-clause-light
returns-clause-light g c = IfOk-weaker c.read_input.result _ _ (λ edits came.
    (edits_accepted c.args.n came.0 edits (sym (c.in_ok-reader.ensures.comes_to came.0) ∙ came.1)).1) c.read_input.ensures.came

pub returns-clause-graph : goal.returns-clause-graph
returns-clause-graph g c = IfOk-weaker c.read_input.result _ _ (λ edits came.
    λ edges. edited_graph c.args.n came.0 edges edits (sym (c.in_ok-reader.ensures.comes_to came.0) ∙ came.1)) c.read_input.ensures.came

pub returns-clause-goes : goal.returns-clause-goes
returns-clause-goes g c = reads_as edits_stop _ _ _ _ _ c.in_ok-reader.ensures.refused c.in_ok-reader.ensures.comes_to c.read_input.ensures.goes

-- a reader that has read nothing is at no fault
pub read_input-requires : goal.read_input-requires
read_input-requires g c = c.in_ok-reader.ensures.refused []
