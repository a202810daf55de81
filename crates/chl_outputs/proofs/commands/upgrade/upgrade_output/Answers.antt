use Rattle.chl_inputs.proofs.StagesInTurn.{goes_reads, goes_reads_stop}
use Rattle.chl_outputs.proofs.ForSizes.{goes_sized, goes_unsized}
use Rattle.chl_outputs.proofs.TextAnswers.{handed_on}
use Rattle.chl_outputs.proofs.UpgradeAnswers.{goes_upgraded}
use Rattle.chl_outputs.proofs.commands.upgrade.upgrade_output.Goals as goal

pub returns-in_err-graph : goal.returns-in_err-graph
returns-in_err-graph g c = handed_on c.from_residual.ensures.1 (goes_reads_stop (rw c.text.ensures at c.in_err-graph.ensures))

pub returns-in_err-stored : goal.returns-in_err-stored
returns-in_err-stored g c = handed_on c.from_residual-in_err-stored.ensures.1 (goes_reads (rw c.text.ensures at c.in_ok-graph.ensures) (goes_reads_stop (rw c.text-2.ensures at c.in_err-stored.ensures)))

pub returns-then-n : goal.returns-then-n
returns-then-n g c =
    goes_reads (rw c.text.ensures at c.in_ok-graph.ensures) (goes_reads (rw c.text-2.ensures at c.in_ok-stored.ensures)
    (rw (c.n-then-n.ensures.value, c.n-then-n-2.ensures.value, c.into_index-index.ensures) (goes_unsized _ _ _ (rw (c.n.ensures.value, c.n-2.ensures.value, c.into_index-index.ensures) at c.if-n.true))))

pub returns : goal.returns
returns g c =
    goes_reads (rw c.text.ensures at c.in_ok-graph.ensures) (goes_reads (rw c.text-2.ensures at c.in_ok-stored.ensures)
    (goes_sized _ _ _ (rw (c.n.ensures.value, c.n-2.ensures.value, c.into_index-index.ensures) at c.if-n.false)
    (goes_upgraded _ _ (rw c.into_index-index.ensures at c.upgraded.ensures))))
