-- What a feed takes.
use Rattle.std.specs.Prelude.{◌≡◌, ℕ, ◌<◌, List, [], ◌∷◌, length, Result, Ok}

-- the pieces, none of them empty, go into the feed in order, and it takes each with Ok
abbrev pub TakesAll : {F E : Type 0} → (F → List ℕ → Result (Unit {0}) E → F → Type 0) → F → List (List ℕ) → F → Type 0
TakesAll gives before [] after = after ≡ before
TakesAll {F} gives before (piece ∷ pieces) after =
    (next : F) × (0 < length piece) × gives before piece (Ok tt) next × TakesAll gives next pieces after
