use Rattle.std.proofs.Common.{◌≡◌, ℕ, ◌+◌, ◌≤◌, List, All, length}
use Rattle.std.specs.Prelude.{sum_by}
use Rattle.walk_laws.specs.declared.graph.Edge.{Edge}
use Rattle.plant_build.specs.Balance.{times}
use Rattle.plant_build.specs.Marks.{HasCome}
use Rattle.plant_build.specs.Harvest.{IsHeld, IsBelow}
use Rattle.plant_build.proofs.Harvests.{marked}
use Rattle.plant_build.proofs.collecting.bring_in.Given as goal

-- the harvests so far are in, and the others have none of their batches
abbrev pub invariant-loop-harvest : goal.invariant-loop-harvest
invariant-loop-harvest l = record {
  size : length l.come.items ≡ l.batches;
  below : All (λ h. IsBelow l.batches h.numbers.items) l.harvest-iterator.rest.items;
  once : (b : ℕ) → marked l.come.items b + sum_by (λ h. times b h.numbers.items) l.harvest-iterator.rest.items ≤ 1;
  come : (edges : List Edge) (at : List ℕ) (roots n : ℕ) → All (IsHeld edges at roots l.batches n) l.fn.harvests.items → HasCome edges at roots n l.come.items l.sinks.items × All (IsHeld edges at roots l.batches n) l.harvest-iterator.rest.items;
}
