use Rattle.std.proofs.Common.{◌≡◌, ◌∙◌, subst}
use Rattle.std.proofs.lemmas.Result.{IfOk-weaker}
use Rattle.hub_index.specs.HubIndex.{HubIndex}
use Rattle.walk_laws.specs.Joined.{Joined}
use Rattle.walk_laws.specs.Labelling.{IsChl}
use Rattle.walk_laws.specs.Meet.{IsMeet}
use Rattle.walk_laws.specs.Overflow.{Overflows}
use Rattle.chl_answers.specs.Commands.{AreAnswers}
use Rattle.chl_answers.proofs.Decisions.{answers_of_rows}
use Rattle.chl_inputs.proofs.StagesInTurn.{goes_reads, goes_reads_stop}
use Rattle.chl_outputs.proofs.TextAnswers.{goes_text, handed_on}
use Rattle.chl_outputs.proofs.Built.{goes_fitting, goes_unbuilt, of_built}
use Rattle.chl_cmd.proofs.commands.solve.solve_output.Goals as goal

pub returns-in_err-graph : goal.returns-in_err-graph
returns-in_err-graph g c = handed_on c.from_residual.ensures.1 (goes_reads_stop (rw c.text.ensures at c.in_err-graph.ensures))

pub returns-in_err-ranking : goal.returns-in_err-ranking
returns-in_err-ranking g c = handed_on c.from_residual-in_err-ranking.ensures.1 (goes_reads (rw c.text.ensures at c.in_ok-graph.ensures) (goes_reads_stop (rw (c.text-2.ensures, c.n.ensures.value) at c.in_err-ranking.ensures.goes)))

pub returns-in_err-pairs : goal.returns-in_err-pairs
returns-in_err-pairs g c = handed_on c.from_residual-in_err-pairs.ensures.1 (goes_reads (rw c.text.ensures at c.in_ok-graph.ensures) (goes_reads (rw (c.text-2.ensures, c.n.ensures.value) at c.in_ok-ranking.ensures.goes)
    (goes_reads_stop (rw (c.text-3.ensures, c.n-2.ensures.value) at c.in_err-pairs.ensures.goes))))

pub returns-in_err-index : goal.returns-in_err-index
returns-in_err-index g c = handed_on c.from_residual-in_err-index.ensures.1 (goes_reads (rw c.text.ensures at c.in_ok-graph.ensures) (goes_reads (rw (c.text-2.ensures, c.n.ensures.value) at c.in_ok-ranking.ensures.goes)
    (goes_reads (rw (c.text-3.ensures, c.n-2.ensures.value) at c.in_ok-pairs.ensures.goes)
    (goes_unbuilt c.in_ok-graph.graph c.in_ok-ranking.ranking _ c.labelling.result c.in_err-index.field-0.0 c.labelling.ensures.fault c.in_err-index.ensures.cases))))

pub replies_text-requires-clause-within : goal.replies_text-requires-clause-within
replies_text-requires-clause-within g c = λ lifetimes live.
    let order = of_built c.labelling.result _ c.in_ok-index.index (λ (i : HubIndex). i.order ≡ c.in_ok-ranking.ranking) c.labelling.ensures.order c.in_ok-index.ensures.cases in
    rw (order, c.in_ok-ranking.ensures.size, c.n.ensures.value) (rw c.n-2.ensures.value at c.in_ok-pairs.ensures.within)

pub returns : goal.returns
returns g c =
    let graph = c.in_ok-graph.graph in
    let at = c.in_ok-ranking.ranking in
    let pairs = c.in_ok-pairs.pairs in
    let index = c.in_ok-index.index in
    let order = of_built c.labelling.result _ index (λ (i : HubIndex). i.order ≡ at) c.labelling.ensures.order c.in_ok-index.ensures.cases in
    let chl = of_built c.labelling.result _ index (λ (i : HubIndex). IsChl (Joined graph.edges) at i.rows) c.labelling.ensures.labelling c.in_ok-index.ensures.cases in
    let fits = of_built c.labelling.result _ index (λ (i : HubIndex). ¬ Overflows (Joined graph.edges) at) c.labelling.ensures.fits c.in_ok-index.ensures.cases in
    goes_reads (rw c.text.ensures at c.in_ok-graph.ensures) (goes_reads (rw (c.text-2.ensures, c.n.ensures.value) at c.in_ok-ranking.ensures.goes)
    (goes_reads (rw (c.text-3.ensures, c.n-2.ensures.value) at c.in_ok-pairs.ensures.goes)
    (goes_fitting graph at fits
    (goes_text _ _ c.replies_text.result _
    (IfOk-weaker c.replies_text.result _ _ (λ text says. (
      says.0,
      answers_of_rows graph c.n.ensures.graph at c.in_ok-ranking.ensures.ranking (c.in_ok-ranking.ensures.size ∙ c.n.ensures.value) index.rows chl pairs (rw c.n-2.ensures.value at c.in_ok-pairs.ensures.within) says.0
          (subst (λ order. AreAnswers (IsMeet order index.rows) pairs says.0) order says.1),
      says.2,
    )) c.replies_text.ensures)
    c.text_output.ensures))))
