use Rattle.chl_inputs.proofs.StagesInTurn.{goes_reads, goes_reads_stop}
use Rattle.chl_outputs.proofs.TextAnswers.{goes_text, handed_on}
use Rattle.chl_outputs.proofs.commands.near.hits_output.Goals as goal

pub returns-in_err-points : goal.returns-in_err-points
returns-in_err-points g c = handed_on c.from_residual.ensures.1 (goes_reads_stop (rw c.n.ensures.value at c.in_err-points.ensures.goes))

pub returns-in_err-sources : goal.returns-in_err-sources
returns-in_err-sources g c = handed_on c.from_residual-in_err-sources.ensures.1 (goes_reads (rw c.n.ensures.value at c.in_ok-points.ensures.goes)
    (goes_reads_stop (rw c.n-2.ensures.value at c.in_err-sources.ensures.goes)))

pub returns : goal.returns
returns g c =
    goes_reads (rw c.n.ensures.value at c.in_ok-points.ensures.goes) (goes_reads (rw c.n-2.ensures.value at c.in_ok-sources.ensures.goes)
    (goes_text _ _ c.hits_text.result _ (rw (c.list.ensures, c.list-2.ensures) at c.hits_text.ensures) c.text_output.ensures))
