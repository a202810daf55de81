use Rattle.walk_laws.specs.Joined.{Joined}
use Rattle.walk_laws.specs.Overflow.{Overflows}
use Rattle.chl_answers.specs.Commands.{IsFileOf, longer}
use Rattle.chl_inputs.proofs.StagesInTurn.{goes_reads, goes_reads_stop}
use Rattle.chl_outputs.proofs.Built.{goes_fitting, goes_unbuilt, of_built}
use Rattle.chl_outputs.proofs.FileAnswers.{goes_filed}
use Rattle.chl_outputs.proofs.ForSizes.{goes_sized, goes_unsized}
use Rattle.chl_outputs.proofs.OpenAnswers.{goes_sound, goes_wrong}
use Rattle.chl_outputs.proofs.TextAnswers.{handed_on}
use Rattle.chl_outputs.proofs.commands.open.edited_output.Goals as goal

pub returns-in_err-edits : goal.returns-in_err-edits
returns-in_err-edits g c = handed_on c.from_residual.ensures.1 (goes_reads_stop (rw c.n.ensures.value at c.in_err-edits.ensures.goes))

pub returns-then-n : goal.returns-then-n
returns-then-n g c =
    goes_reads (rw c.n.ensures.value at c.in_ok-edits.ensures.goes)
    (rw (c.n-then-n.ensures.value, c.n-then-n-2.ensures.value) (goes_unsized _ _ _ (rw (c.n-2.ensures.value, c.n-3.ensures.value) at c.if-n.true)))

pub returns-in_err-audited : goal.returns-in_err-audited
returns-in_err-audited g c = handed_on c.from_residual-in_err-audited.ensures.1
    (goes_reads (rw c.n.ensures.value at c.in_ok-edits.ensures.goes)
    (goes_sized _ _ _ (rw (c.n-2.ensures.value, c.n-3.ensures.value) at c.if-n.false)
    (goes_wrong _ _ _ _ c.in_err-audited.ensures.differs)))

pub returns-in_err-bytes : goal.returns-in_err-bytes
returns-in_err-bytes g c = handed_on c.from_residual-in_err-bytes.ensures.1
    (goes_reads (rw c.n.ensures.value at c.in_ok-edits.ensures.goes)
    (goes_sized _ _ _ (rw (c.n-2.ensures.value, c.n-3.ensures.value) at c.if-n.false)
    (goes_sound _ _ _ c.in_ok-audited.ensures.same
    (goes_unbuilt (longer c.args.graph.now c.in_ok-edits.edits) c.args.index.order _ c.opened_bytes-made.result c.in_err-bytes.field-0.0
    (rw c.edges.ensures at c.opened_bytes-made.ensures.fault) c.in_err-bytes.ensures.cases))))

pub returns : goal.returns
returns g c =
    let whole = longer c.args.graph.now c.in_ok-edits.edits in
    let at = c.args.index.order in
    let file = of_built c.opened_bytes-made.result _ c.in_ok-bytes.bytes (IsFileOf c.args.version whole at) (rw c.edges.ensures at c.opened_bytes-made.ensures.bytes) c.in_ok-bytes.ensures.cases in
    let fits = of_built c.opened_bytes-made.result _ c.in_ok-bytes.bytes (λ _. ¬ Overflows (Joined whole.edges) at) (rw c.edges.ensures at c.opened_bytes-made.ensures.fits) c.in_ok-bytes.ensures.cases in
    goes_reads (rw c.n.ensures.value at c.in_ok-edits.ensures.goes)
    (goes_sized _ _ _ (rw (c.n-2.ensures.value, c.n-3.ensures.value) at c.if-n.false)
    (goes_sound _ _ _ c.in_ok-audited.ensures.same
    (goes_fitting whole at fits (goes_filed _ _ _ c.args.version file))))
