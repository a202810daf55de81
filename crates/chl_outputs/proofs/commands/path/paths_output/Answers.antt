use Rattle.std.proofs.lemmas.Slice.Zip.{AllZip-long}
use Rattle.hub_query.specs.Paths.{IsPathOf}
use Rattle.chl_inputs.proofs.StagesInTurn.{goes_reads, goes_reads_stop}
use Rattle.chl_lines.specs.PrintedWalks.{walk_lines}
use Rattle.chl_answers.specs.Commands.{walk_stop}
use Rattle.chl_outputs.proofs.ForSizes.{goes_sized, goes_unsized}
use Rattle.chl_outputs.proofs.StoppingAnswers.{goes_answered, goes_stopped, walks_stop}
use Rattle.chl_outputs.proofs.TextAnswers.{goes_told, handed_on}
use Rattle.chl_outputs.proofs.commands.path.paths_output.Goals as goal

pub returns-then-n : goal.returns-then-n
returns-then-n g c =
    rw (c.n-then-n.ensures.value, c.n-then-n-2.ensures.value) (goes_unsized _ _ _ (rw (c.n.ensures.value, c.n-2.ensures.value) at c.if-n.true))

pub returns-in_err-pairs : goal.returns-in_err-pairs
returns-in_err-pairs g c = handed_on c.from_residual.ensures.1 (goes_sized _ _ _ (rw (c.n.ensures.value, c.n-2.ensures.value) at c.if-n.false)
    (goes_reads_stop (rw c.n-3.ensures.value at c.in_err-pairs.ensures.goes)))

pub returns-in_err-walks : goal.returns-in_err-walks
returns-in_err-walks g c = handed_on c.from_residual-in_err-walks.ensures.1 (goes_sized _ _ _ (rw (c.n.ensures.value, c.n-2.ensures.value) at c.if-n.false)
    (goes_reads (rw c.n-3.ensures.value at c.in_ok-pairs.ensures.goes) (goes_stopped (IsPathOf c.args.graph.now c.args.index.now) walk_stop walk_lines _ walks_stop _ c.in_err-walks.ensures.err)))

pub walk_lines-requires : goal.walk_lines-requires
walk_lines-requires g c = rw (c.deref.ensures.value, c.list.ensures) (AllZip-long _ _ _ c.in_ok-walks.ensures.ok.0)

pub returns : goal.returns
returns g c =
    goes_sized _ _ _ (rw (c.n.ensures.value, c.n-2.ensures.value) at c.if-n.false)
    (goes_reads (rw c.n-3.ensures.value at c.in_ok-pairs.ensures.goes)
    (goes_told _ _ c.walk_lines.result _ c.walk_lines.ensures c.text_output.ensures
    (λ t is. goes_answered (IsPathOf c.args.graph.now c.args.index.now) walk_stop walk_lines _ c.in_ok-walks.walks.items t.items c.in_ok-walks.ensures.ok.0 c.in_ok-walks.ensures.ok.1 (rw (c.list.ensures, c.deref.ensures.value) at is))))
