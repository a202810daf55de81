-- The weights of a grid's edges, which come from a row of numbers.
use Rattle.std.specs.Prelude.{ℕ, ◌+◌, ◌*◌, ◌/◌, ◌%◌, ◌^◌}

-- the number after x: the linear congruence that the C standard gives as its example of `rand`
abbrev pub next_number : ℕ → ℕ
next_number x = (x * 1103515245 + 12345) % (2 ^ 31)

-- the weight that a number gives, from 1 to 8
abbrev pub weight_of : ℕ → ℕ
weight_of x = 1 + (x / 65536) % 8
