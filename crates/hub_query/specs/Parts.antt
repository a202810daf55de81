-- Parts that were made side by side, put one after another.
use Rattle.std.specs.Prelude.{◌≡◌, List, [], ◌∷◌, ◌++◌, Result, Ok, Err}
use Rattle.std.specs.declared.alloc.AllocError.{AllocError}

module _ {P X : Type 0} (items : P → List X) where
  -- all parts were made, and the whole is what they have, one part after another
  abbrev pub AreJoined : List (Result P AllocError) → List X → Type 0
  AreJoined [] whole = whole ≡ []
  AreJoined (Ok part ∷ parts) whole = (rest : List X) × (whole ≡ items part ++ rest) × AreJoined parts rest
  AreJoined (Err _ ∷ parts) whole = ⊥
