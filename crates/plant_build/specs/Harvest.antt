-- What workers have planted, apart from their hands.
use Rattle.std.specs.Prelude.{◌≡◌, ℕ, ◌<◌, List, All, sum_by}
use Rattle.walk_laws.specs.declared.graph.Edge.{Edge}
use Rattle.plant_build.specs.declared.collecting.Harvest.{Harvest}
use Rattle.plant_build.specs.declared.worker.PlantWorker.{PlantWorker}
use Rattle.plant_build.specs.Balance.{times}
use Rattle.plant_build.specs.Gains.{HoldsBatches}

abbrev pub harvest_of : PlantWorker → Harvest
harvest_of w = record { numbers = w.numbers; sink = w.sink }

-- the trees of its batches are in its sink
abbrev pub IsHeld : List Edge → List ℕ → ℕ → ℕ → ℕ → Harvest → Type 0
IsHeld edges at roots batches n h = (h.sink.n ≡ n) × HoldsBatches edges at roots batches h.numbers.items h.sink

abbrev pub IsBelow : ℕ → List ℕ → Type 0
IsBelow batches numbers = All (λ b. b < batches) numbers

-- how often a batch was planted by these workers
abbrev pub planted_by : ℕ → List PlantWorker → ℕ
planted_by b crew = sum_by (λ w. times b w.numbers.items) crew
