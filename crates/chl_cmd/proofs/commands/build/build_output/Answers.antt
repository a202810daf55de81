use Rattle.walk_laws.specs.Joined.{Joined}
use Rattle.walk_laws.specs.Overflow.{Overflows}
use Rattle.chl_answers.specs.Commands.{IsFileOf}
use Rattle.chl_inputs.proofs.StagesInTurn.{goes_reads, goes_reads_stop}
use Rattle.chl_outputs.proofs.Built.{goes_fitting, goes_unbuilt, of_built}
use Rattle.chl_outputs.proofs.FileAnswers.{goes_filed}
use Rattle.chl_outputs.proofs.TextAnswers.{handed_on}
use Rattle.chl_cmd.proofs.commands.build.build_output.Goals as goal

pub returns-in_err-graph : goal.returns-in_err-graph
returns-in_err-graph g c = handed_on c.from_residual.ensures.1 (goes_reads_stop (rw c.text.ensures at c.in_err-graph.ensures))

pub returns-in_err-ranking : goal.returns-in_err-ranking
returns-in_err-ranking g c = handed_on c.from_residual-in_err-ranking.ensures.1 (goes_reads (rw c.text.ensures at c.in_ok-graph.ensures) (goes_reads_stop (rw (c.text-2.ensures, c.n.ensures.value) at c.in_err-ranking.ensures.goes)))

pub returns-in_err-bytes : goal.returns-in_err-bytes
returns-in_err-bytes g c = handed_on c.from_residual-in_err-bytes.ensures.1 (goes_reads (rw c.text.ensures at c.in_ok-graph.ensures) (goes_reads (rw (c.text-2.ensures, c.n.ensures.value) at c.in_ok-ranking.ensures.goes)
    (goes_unbuilt c.in_ok-graph.graph c.in_ok-ranking.ranking _ c.file_bytes-made.result c.in_err-bytes.field-0.0 c.file_bytes-made.ensures.fault c.in_err-bytes.ensures.cases)))

pub returns : goal.returns
returns g c =
    let file = of_built c.file_bytes-made.result _ c.in_ok-bytes.bytes (IsFileOf c.args.version c.in_ok-graph.graph c.in_ok-ranking.ranking) c.file_bytes-made.ensures.bytes c.in_ok-bytes.ensures.cases in
    let fits = of_built c.file_bytes-made.result _ c.in_ok-bytes.bytes (λ _. ¬ Overflows (Joined c.in_ok-graph.graph.edges) c.in_ok-ranking.ranking) c.file_bytes-made.ensures.fits c.in_ok-bytes.ensures.cases in
    goes_reads (rw c.text.ensures at c.in_ok-graph.ensures) (goes_reads (rw (c.text-2.ensures, c.n.ensures.value) at c.in_ok-ranking.ensures.goes)
    (goes_fitting c.in_ok-graph.graph c.in_ok-ranking.ranking fits (goes_filed _ _ _ c.args.version file)))
