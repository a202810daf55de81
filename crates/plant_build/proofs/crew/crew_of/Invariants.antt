use Rattle.std.proofs.Common.{◌≡◌, ◌++◌, All}
use Rattle.plant_build.specs.Workers.{IsReady, hands_of}
use Rattle.plant_build.proofs.crew.crew_of.Given as goal

-- the hands so far have their workers
abbrev pub invariant-loop-hand : goal.invariant-loop-hand
invariant-loop-hand l = record {
  ready : All (IsReady l.n) l.members.items;
  hands : hands_of l.members.items ++ l.hand-iterator.rest.items ≡ l.initial.hand-iterator.rest.items;
}
