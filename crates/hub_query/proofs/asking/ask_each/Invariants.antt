use Rattle.std.proofs.Common.{take}
use Rattle.std.specs.List.{AllZip}
use Rattle.hub_query.specs.Meant.{IsMeetOf}
use Rattle.hub_query.proofs.asking.ask_each.Given as goal

-- the pairs so far have their answers
abbrev pub invariant-loop-pair : goal.invariant-loop-pair
invariant-loop-pair l = AllZip (IsMeetOf l.index) (take l.pair-index l.pairs) l.answers.items
