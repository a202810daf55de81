-- Why no index was built.
use Rattle.std.specs.Prelude.{ℕ, List}
use Rattle.walk_laws.specs.Overflow.{IsFirstTooFar}
use Rattle.hub_index.specs.declared.build_fault.BuildFault.{BuildFault}
use Rattle.hub_index.specs.declared.build_fault.BuildFault.TheVariants.{Overflow, NoMemory}

-- what the fault tells of a graph under a ranking: its first hub that is too far, or nothing
abbrev pub TellsFault : (ℕ → ℕ → ℕ → Type 0) → List ℕ → BuildFault → Type 0
TellsFault J at (Overflow v hub) = IsFirstTooFar J at hub v
TellsFault J at NoMemory = Unit {0}
