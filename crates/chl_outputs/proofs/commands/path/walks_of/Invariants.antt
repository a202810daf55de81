use Rattle.hub_query.specs.Paths.{IsPathOf}
use Rattle.chl_answers.specs.Commands.{walk_stop}
use Rattle.chl_outputs.proofs.StoppingAnswers.{HasAnswered}
use Rattle.chl_outputs.proofs.commands.path.walks_of.Given as goal

abbrev pub invariant-loop-pair : goal.invariant-loop-pair
invariant-loop-pair l = HasAnswered (IsPathOf l.graph l.index) walk_stop l.pairs l.pair-index l.walks.items
