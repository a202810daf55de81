-- Which batches have come, a mark for each.
use Rattle.std.specs.Prelude.{◌≡◌, ◌≢◌, ◌⊎◌, ◌↔◌, ℕ, ◌%◌, ◌<◌, Bool, true, false, List, All, AllPairs, Contains, length, slice_index_or}
use Rattle.walk_laws.specs.declared.graph.Edge.{Edge}
use Rattle.entry_sinks.specs.Sunk.{Sunk, all_sunk, HoldsPart}

-- the mark of a batch
abbrev pub mark : List Bool → ℕ → Bool
mark marks b = slice_index_or marks b false

-- the numbers were not marked, none stands twice, and they are marked now, beside what was
pub record Adds (old : List Bool) (numbers : List ℕ) (new : List Bool) : Type 0 where
  pub size : length new ≡ length old
  pub once : AllPairs (λ x y. x ≢ y) numbers
  pub fresh : (b : ℕ) → Contains numbers b → mark old b ≡ false
  pub now : (b : ℕ) → (mark new b ≡ true) ↔ ((mark old b ≡ true) ⊎ Contains numbers b)

-- the position is one of the first so many, and of a batch that is marked
abbrev pub IsMarked : ℕ → List Bool → ℕ → Type 0
IsMarked roots marks p = (p < roots) × (mark marks (p % length marks) ≡ true)

-- it is one of the first so many, and of a batch that is not marked
abbrev pub IsMissing : ℕ → List Bool → ℕ → Type 0
IsMissing roots marks p = (p < roots) × (mark marks (p % length marks) ≡ false)

-- the sinks hold the hubs at those of the first so many positions that are of marked batches
pub record HasCome (edges : List Edge) (at : List ℕ) (roots n : ℕ) (marks : List Bool) (sinks : List Sunk) : Type 0 where
  pub sizes : All (λ s. s.n ≡ n) sinks
  pub holds : HoldsPart edges at (IsMarked roots marks) (all_sunk sinks)
