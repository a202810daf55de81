-- How workers take tasks.
use Rattle.std.specs.Prelude.{◌≡◌, ℕ, ◌<◌, List, Option, None, Some, get_or, length, slice_set}

-- the task went out of one of the places, and stood in it before; the others stay as they are
pub record IsTakenFrom {T : Type 0} (was : List (Option T)) (task : T) (now : List (Option T)) : Type 0 where
  pub place : ℕ
  pub within : place < length was
  pub stood : get_or was place None ≡ Some task
  pub left : now ≡ slice_set was place None
