-- What is known of a real desk: nothing of its bytes.
use Rattle.std.specs.Prelude.{ℕ, Bool}

-- whether an input was opened, whether a file was created, and the two counts of faults
pub record Outside : Type 0 where
  pub is_open : Bool
  pub is_created : Bool
  pub input_faults : ℕ
  pub output_faults : ℕ
