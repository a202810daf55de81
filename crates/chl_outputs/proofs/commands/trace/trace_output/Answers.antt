use Rattle.chl_inputs.proofs.StagesInTurn.{goes_comes, goes_reads, goes_reads_stop}
use Rattle.std.proofs.Common.{refl}
use Rattle.chl_outputs.proofs.TextAnswers.{handed_on}
use Rattle.chl_outputs.proofs.commands.trace.trace_output.Goals as goal

pub returns-in_err-stored : goal.returns-in_err-stored
returns-in_err-stored g c = handed_on c.from_residual.ensures.1 (goes_reads_stop (rw c.text.ensures at c.in_err-stored.ensures))

pub returns-in-Plain : goal.returns-in-Plain
returns-in-Plain g c = goes_reads (rw c.text.ensures at c.in_ok-stored.ensures) (rw c.in-Plain.is (goes_comes refl tt refl))

pub returns : goal.returns
returns g c = goes_reads (rw c.text.ensures at c.in_ok-stored.ensures) (rw c.in-Traced.is (rw c.text-in-Traced.ensures at c.traces_output.ensures))
