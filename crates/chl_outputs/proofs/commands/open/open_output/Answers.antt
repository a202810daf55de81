use Rattle.chl_inputs.proofs.StagesInTurn.{goes_reads, goes_reads_stop}
use Rattle.chl_outputs.proofs.TextAnswers.{handed_on}
use Rattle.chl_outputs.proofs.commands.open.open_output.Goals as goal

pub returns-in_err-graph : goal.returns-in_err-graph
returns-in_err-graph g c = handed_on c.from_residual.ensures.1 (goes_reads_stop (rw c.text.ensures at c.in_err-graph.ensures))

pub returns-in_err-stored : goal.returns-in_err-stored
returns-in_err-stored g c = handed_on c.from_residual-in_err-stored.ensures.1 (goes_reads (rw c.text.ensures at c.in_ok-graph.ensures) (goes_reads_stop (rw c.text-2.ensures at c.in_err-stored.ensures)))

pub returns : goal.returns
returns g c =
    goes_reads (rw c.text.ensures at c.in_ok-graph.ensures) (goes_reads (rw c.text-2.ensures at c.in_ok-stored.ensures)
    (rw (c.text-3.ensures, c.into_index.ensures) at c.edited_output.ensures))
