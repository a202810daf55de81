use Rattle.chl_inputs.proofs.StagesInTurn.{goes_reads, goes_reads_stop}
use Rattle.chl_answers.proofs.StoredIndexes.{same_index}
use Rattle.chl_outputs.proofs.TextAnswers.{handed_on}
use Rattle.chl_outputs.proofs.commands.near.near_output.Goals as goal

pub returns-in_err-stored : goal.returns-in_err-stored
returns-in_err-stored g c = handed_on c.from_residual.ensures.1 (goes_reads_stop (rw c.text.ensures at c.in_err-stored.ensures))

pub returns : goal.returns
returns g c = goes_reads (rw c.text.ensures at c.in_ok-stored.ensures) (rw (c.text-2.ensures, c.text-3.ensures, same_index _ _ c.index.ensures.order c.index.ensures.rows) at c.hits_output.ensures)
