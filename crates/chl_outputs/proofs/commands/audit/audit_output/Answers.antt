use Rattle.chl_inputs.proofs.StagesInTurn.{goes_reads, goes_reads_stop}
use Rattle.chl_outputs.proofs.AuditAnswers.{goes_audited}
use Rattle.chl_outputs.proofs.TextAnswers.{handed_on}
use Rattle.chl_outputs.proofs.commands.audit.audit_output.Goals as goal

pub returns-in_err-graph : goal.returns-in_err-graph
returns-in_err-graph g c = handed_on c.from_residual.ensures.1 (goes_reads_stop (rw c.text.ensures at c.in_err-graph.ensures))

pub returns-in_err-ranking : goal.returns-in_err-ranking
returns-in_err-ranking g c = handed_on c.from_residual-in_err-ranking.ensures.1 (goes_reads (rw c.text.ensures at c.in_ok-graph.ensures) (goes_reads_stop (rw (c.text-2.ensures, c.n.ensures.value) at c.in_err-ranking.ensures.goes)))

pub returns-in_err-stored : goal.returns-in_err-stored
returns-in_err-stored g c = handed_on c.from_residual-in_err-stored.ensures.1 (goes_reads (rw c.text.ensures at c.in_ok-graph.ensures) (goes_reads (rw (c.text-2.ensures, c.n.ensures.value) at c.in_ok-ranking.ensures.goes)
    (goes_reads_stop (rw c.text-3.ensures at c.in_err-stored.ensures))))

pub returns : goal.returns
returns g c =
    goes_reads (rw c.text.ensures at c.in_ok-graph.ensures) (goes_reads (rw (c.text-2.ensures, c.n.ensures.value) at c.in_ok-ranking.ensures.goes)
    (goes_reads (rw c.text-3.ensures at c.in_ok-stored.ensures) (goes_audited _ _ _ c.told.ensures.0 c.told.ensures.1 c.told.ensures.2)))
