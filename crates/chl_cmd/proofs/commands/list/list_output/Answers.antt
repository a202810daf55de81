use Rattle.std.proofs.Common.{◌≡◌, ap, ◌∙◌}
use Rattle.std.proofs.lemmas.Result.{IfOk-weaker}
use Rattle.hub_index.specs.HubIndex.{HubIndex}
use Rattle.walk_laws.specs.Joined.{Joined}
use Rattle.walk_laws.specs.Labelling.{IsChl}
use Rattle.walk_laws.specs.Overflow.{Overflows}
use Rattle.chl_inputs.proofs.StagesInTurn.{goes_reads, goes_reads_stop}
use Rattle.chl_lines.specs.PrintedRows.{lines_from}
use Rattle.chl_outputs.proofs.TextAnswers.{goes_text, handed_on}
use Rattle.chl_outputs.proofs.Built.{goes_fitting, goes_unbuilt, of_built}
use Rattle.chl_cmd.proofs.commands.list.list_output.Goals as goal

pub returns-in_err-graph : goal.returns-in_err-graph
returns-in_err-graph g c = handed_on c.from_residual.ensures.1 (goes_reads_stop (rw c.text.ensures at c.in_err-graph.ensures))

pub returns-in_err-ranking : goal.returns-in_err-ranking
returns-in_err-ranking g c = handed_on c.from_residual-in_err-ranking.ensures.1 (goes_reads (rw c.text.ensures at c.in_ok-graph.ensures) (goes_reads_stop (rw (c.text-2.ensures, c.n.ensures.value) at c.in_err-ranking.ensures.goes)))

pub returns-in_err-index : goal.returns-in_err-index
returns-in_err-index g c = handed_on c.from_residual-in_err-index.ensures.1 (goes_reads (rw c.text.ensures at c.in_ok-graph.ensures) (goes_reads (rw (c.text-2.ensures, c.n.ensures.value) at c.in_ok-ranking.ensures.goes)
    (goes_unbuilt c.in_ok-graph.graph c.in_ok-ranking.ranking _ c.labelling.result c.in_err-index.field-0.0 c.labelling.ensures.fault c.in_err-index.ensures.cases)))

pub returns : goal.returns
returns g c =
    let index = c.in_ok-index.index in
    let order = of_built c.labelling.result _ index (λ (i : HubIndex). i.order ≡ c.in_ok-ranking.ranking) c.labelling.ensures.order c.in_ok-index.ensures.cases in
    let chl = of_built c.labelling.result _ index (λ (i : HubIndex). IsChl (Joined c.in_ok-graph.graph.edges) c.in_ok-ranking.ranking i.rows) c.labelling.ensures.labelling c.in_ok-index.ensures.cases in
    let fits = of_built c.labelling.result _ index (λ (i : HubIndex). ¬ Overflows (Joined c.in_ok-graph.graph.edges) c.in_ok-ranking.ranking) c.labelling.ensures.fits c.in_ok-index.ensures.cases in
    goes_reads (rw c.text.ensures at c.in_ok-graph.ensures) (goes_reads (rw (c.text-2.ensures, c.n.ensures.value) at c.in_ok-ranking.ensures.goes)
    (goes_fitting c.in_ok-graph.graph c.in_ok-ranking.ranking fits
    (goes_text _ _ c.row_lines.result _
    (IfOk-weaker c.row_lines.result _ _ (λ text is. (index.rows, chl, is ∙ ap (λ at. lines_from at 1 index.rows) order)) c.row_lines.ensures)
    c.text_output.ensures)))
