-- What planting gives a sink of entries.
use Rattle.std.specs.Prelude.{◌≡◌, ◌≢◌, ℕ, ◌%◌, ◌<◌, List, [], ◌++◌, AllPairs, Contains}
use Rattle.walk_laws.specs.declared.graph.Edge.{Edge}
use Rattle.walk_laws.specs.declared.entry.Entry.{Entry}
use Rattle.entry_sinks.specs.Sunk.{Sunk, sunk_at, HoldsPart}

-- each node has gained its hubs at the positions of a set, none twice
pub record GainsPart (edges : List Edge) (at : List ℕ) (InPart : ℕ → Type 0) (old new : Sunk) : Type 0 where
  pub n : new.n ≡ old.n
  pub gained : ℕ → List Entry
  pub part : HoldsPart edges at InPart gained
  pub grown : (v : ℕ) → sunk_at new v ≡ sunk_at old v ++ gained v

-- the position is one of the first so many, and of a batch
abbrev pub IsOfBatch : ℕ → ℕ → ℕ → ℕ → Type 0
IsOfBatch roots batches batch p = (p < roots) × (p % batches ≡ batch)

-- it is one of the first so many, and of one of the batches with these numbers
abbrev pub IsOfBatches : ℕ → ℕ → List ℕ → ℕ → Type 0
IsOfBatches roots batches numbers p = (p < roots) × Contains numbers (p % batches)

-- the sink holds the hubs at those of the first so many positions that are of the batches with these numbers, where no number stands twice
abbrev pub HoldsBatches : List Edge → List ℕ → ℕ → ℕ → List ℕ → Sunk → Type 0
HoldsBatches edges at roots batches numbers sink = AllPairs (λ x y. x ≢ y) numbers → HoldsPart edges at (IsOfBatches roots batches numbers) (sunk_at sink)

-- nothing was put yet
abbrev pub IsEmptySink : Sunk → Type 0
IsEmptySink sink = (v : ℕ) → sunk_at sink v ≡ []
