-- Numbers in a row.
use Rattle.std.specs.Prelude.{ℕ, ◌-◌, List}
use Rattle.std.specs.List.{range_with_len}

-- the numbers from the first up to but not including the next
abbrev pub numbers : ℕ → ℕ → List ℕ
numbers first next = range_with_len first (next - first)
