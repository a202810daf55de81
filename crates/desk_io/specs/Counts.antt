-- Counts of faults.
use Rattle.std.specs.Prelude.{◌≡◌, ℕ, ◌<◌, ◌-◌, ◌^◌, ◌⊎◌, Result, Ok, Err}
use Rattle.desk_io.specs.declared.desk.DeskFault.{DeskFault}
use Rattle.desk_io.specs.declared.desk.DeskFault.TheVariants.{Failed, NoMemory}

-- the last value of a count
abbrev pub last_count : ℕ
last_count = 2 ^ 64 - 1

-- a count has risen, or stands at its last value
abbrev pub Rises : ℕ → ℕ → Type 0
Rises old new = (old < new) ⊎ ((old ≡ last_count) × (new ≡ last_count))

-- what a call does to its count: it rises where the call failed, and else stays
abbrev pub CountsFailure : {T : Type 0} → Result T DeskFault → ℕ → ℕ → Type 0
CountsFailure (Ok x) old new = new ≡ old
CountsFailure (Err Failed) old new = Rises old new
CountsFailure (Err NoMemory) old new = new ≡ old
