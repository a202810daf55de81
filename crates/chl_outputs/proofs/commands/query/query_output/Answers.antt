use Rattle.chl_inputs.proofs.StagesInTurn.{goes_reads, goes_reads_stop}
use Rattle.chl_outputs.proofs.TextAnswers.{goes_text, handed_on}
use Rattle.chl_outputs.proofs.commands.query.query_output.Goals as goal

pub returns-in_err-stored : goal.returns-in_err-stored
returns-in_err-stored g c = handed_on c.from_residual.ensures.1 (goes_reads_stop (rw c.text.ensures at c.in_err-stored.ensures))

pub returns-in_err-pairs : goal.returns-in_err-pairs
returns-in_err-pairs g c = handed_on c.from_residual-in_err-pairs.ensures.1 (goes_reads (rw c.text.ensures at c.in_ok-stored.ensures) (goes_reads_stop (rw (c.text-2.ensures, c.n.ensures.value, c.index-index.ensures.order) at c.in_err-pairs.ensures.goes)))

pub returns : goal.returns
returns g c =
    goes_reads (rw c.text.ensures at c.in_ok-stored.ensures) (goes_reads (rw (c.text-2.ensures, c.n.ensures.value, c.index-index.ensures.order) at c.in_ok-pairs.ensures.goes)
    (goes_text _ _ c.replies_text.result _ (rw (c.index-index.ensures.order, c.index-index.ensures.rows) at c.replies_text.ensures) c.text_output.ensures))
