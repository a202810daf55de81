use Rattle.std.proofs.Common.{◌≡◌, ◌++◌, true, All, map}
use Rattle.plant_build.specs.Workers.{hands_of}
use Rattle.plant_build.specs.Harvest.{harvest_of}
use Rattle.plant_build.proofs.collecting.apart.Given as goal

-- the workers so far are taken apart, and memory has sufficed for them
abbrev pub invariant-loop-worker : goal.invariant-loop-worker
invariant-loop-worker l = record {
  hands : l.hands.items ++ hands_of l.worker-iterator.rest.items ≡ hands_of l.fn.members.items;
  harvests : l.harvests.items ++ map harvest_of l.worker-iterator.rest.items ≡ map harvest_of l.fn.members.items;
  memory : All (λ w. w.memory ≡ true) l.worker-iterator.rest.items → All (λ w. w.memory ≡ true) l.fn.members.items;
}
