use Rattle.std.proofs.Common.{All, take}
use Rattle.hub_index.specs.Reach.{IsBelow}
use Rattle.hub_index.proofs.reach.first_from.Given as goal

-- the entries so far are below the limit
abbrev pub invariant-loop-entry : goal.invariant-loop-entry
invariant-loop-entry l = All (IsBelow l.limit) (take l.entry-index l.row)
