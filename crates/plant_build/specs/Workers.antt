-- What a worker is given, and what it has done.
use Rattle.std.specs.Prelude.{◌≡◌, ℕ, ◌+◌, ◌<◌, ◌≤◌, true, List, [], All, map, nat_lt, if◌then◌else◌}
use Rattle.walk_laws.specs.declared.graph.Edge.{Edge}
use Rattle.plant_build.specs.declared.crew.Crew.{Crew}
use Rattle.plant_build.specs.declared.hand.Hand.{Hand}
use Rattle.plant_build.specs.declared.worker.PlantWorker.{PlantWorker}
use Rattle.plant_build.specs.Balance.{times}
use Rattle.plant_build.specs.Gains.{HoldsBatches, IsEmptySink}
use Rattle.plant_build.specs.Rounds.{Share, share_of, reaches, got_from, put_by}

-- it is for n nodes, and has planted nothing
pub record IsReady (n : ℕ) (w : PlantWorker) : Type 0 where
  pub planter : w.planter ≡ n
  pub sink : w.sink.n ≡ n
  pub empty : IsEmptySink w.sink
  pub none : w.numbers.items ≡ []
  pub memory : w.memory ≡ true

-- its numbers are those of batches, and none stands more often than its hand took it
pub record TookItsBatches (batches : ℕ) (w : PlantWorker) : Type 0 where
  pub below : All (λ b. b < batches) w.numbers.items
  pub took : (x : ℕ) → times x w.numbers.items ≤ got_from x (reaches w.hand)

-- where memory has sufficed it has put the trees that its batches have of the first so many roots, and it took these batches
pub record HasWorked (edges : List Edge) (at : List ℕ) (roots batches n : ℕ) (w : PlantWorker) : Type 0 where
  pub sink : w.sink.n ≡ n
  pub holds : w.memory ≡ true → HoldsBatches edges at roots batches w.numbers.items w.sink
  pub took : TookItsBatches batches w

abbrev pub hands_of : List PlantWorker → List Hand
hands_of crew = map (λ w. w.hand) crew

-- what of the hands of a crew no taking changes
abbrev pub shares_of : List PlantWorker → List Share
shares_of crew = map share_of (hands_of crew)

-- the batches 0..batches are dealt among the hands of a crew: each was put into a deque or is among those left, once, and no other number was
abbrev pub AreDealt : ℕ → Crew → Type 0
AreDealt batches crew = (x : ℕ) → put_by x (shares_of crew.members.items) + times x crew.left.items ≡ (if nat_lt x batches then 1 else 0)
