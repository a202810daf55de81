-- What a reader makes of the bytes that are still to come.
use Rattle.std.specs.Prelude.{◌≡◌, ◌⊎◌, ℕ, List, [], ◌++◌, Option, Some, None, Result, Ok, Err}

module _ {R V F : Type 0} (refused : R → List ℕ → Option F) (comes_to : R → List ℕ → Result V F) where
  -- with these bytes more the reader is at this fault, whether they are all or not
  abbrev pub StandsAt : R → List ℕ → F → Type 0
  StandsAt reader bytes fault = (refused reader bytes ≡ Some fault) × (comes_to reader bytes ≡ Err fault)

  -- the new reader makes of any bytes what the old one makes of them after the piece
  pub record Follows (old : R) (piece : List ℕ) (new : R) : Type 0 where
    pub refuses : (more : List ℕ) → refused new more ≡ refused old (piece ++ more)
    pub comes : (more : List ℕ) → comes_to new more ≡ comes_to old (piece ++ more)

  -- how a reader may answer a piece: it takes it where no fault is plain by its end; it refuses it with the first one that
  -- is, or for want of memory, and stays at that fault; and one that has refused refuses again with the same
  abbrev pub TakesPiece : F → R → List ℕ → Result (Unit {0}) F → R → Type 0
  TakesPiece no_memory old piece (Ok done) new = (refused old [] ≡ None) × (refused old piece ≡ None) × Follows old piece new
  TakesPiece no_memory old piece (Err fault) new =
      ((fault ≡ no_memory) ⊎ (refused old piece ≡ Some fault))
      × ((before : F) → refused old [] ≡ Some before → fault ≡ before)
      × ((more : List ℕ) → StandsAt new more fault)
