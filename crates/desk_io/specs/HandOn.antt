-- One step of a reading.
use Rattle.std.specs.Prelude.{◌≡◌, ℕ, ◌<◌, ◌≤◌, List, length, Option, Result, Err}
use Rattle.std.specs.List.{concat}
use Rattle.desk_io.specs.Contents.{Contents, Tells}
use Rattle.desk_io.specs.Feed.{TakesAll}
use Rattle.desk_io.specs.Reading.{Reads}

module _ {F E : Type 0} (gives : F → List ℕ → Result (Unit {0}) E → F → Type 0) where
  -- the feed took pieces of so many bytes, which were read off the input in this order
  pub record Moves (before after : F) (old new : Option Contents) (size : ℕ) : Type 0 where
    pub pieces : List (List ℕ)
    pub taken : TakesAll gives before pieces after
    pub size_is : length (concat pieces) ≡ size
    pub read : Tells old new (Reads (concat pieces))

  -- the feed answered the fault to a piece of at most so many bytes, which was read off the input
  pub record RefusesNext (fault : E) (before after : F) (old new : Option Contents) (size : ℕ) : Type 0 where
    pub piece : List ℕ
    pub refused : gives before piece (Err fault) after
    pub nonempty : 0 < length piece
    pub within : length piece ≤ size
    pub read : Tells old new (Reads piece)
