use Rattle.chl_inputs.proofs.StagesInTurn.{goes_reads, goes_reads_stop}
use Rattle.chl_outputs.proofs.TextAnswers.{goes_text, handed_on}
use Rattle.chl_outputs.proofs.commands.degree.degree_output.Goals as goal

pub returns-in_err-graph : goal.returns-in_err-graph
returns-in_err-graph g c = handed_on c.from_residual.ensures.1 (goes_reads_stop (rw c.text.ensures at c.in_err-graph.ensures))

pub returns : goal.returns
returns g c =
    goes_reads (rw c.text.ensures at c.in_ok-graph.ensures) (goes_text _ _ c.nodes_text.result _ c.nodes_text.ensures c.text_output.ensures)
