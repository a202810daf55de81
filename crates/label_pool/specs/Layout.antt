-- Which word of a pool's table holds what. Word 0 is the counter of the blocks of cells that were drawn.
use Rattle.std.specs.Prelude.{ℕ, ◌+◌, ◌*◌, ◌/◌, ◌%◌, ◌^◌}

-- the head of the node v, a number from 1
abbrev pub head_at : ℕ → ℕ
head_at v = v + 15

-- the words of a cell, a number from 0, in a pool of n nodes: the name of the next cell with the position, and the distance
abbrev pub next_at : ℕ → ℕ → ℕ
next_at n cell = 2 * (n / 2 + 17 + cell)

abbrev pub dist_at : ℕ → ℕ → ℕ
dist_at n cell = 2 * (n / 2 + 17 + cell) + 1

-- the name of the next cell and the position, in the word of both
abbrev pub name_in : ℕ → ℕ
name_in word = word / 2 ^ 32

abbrev pub pos_in : ℕ → ℕ
pos_in word = word % 2 ^ 32

-- how many words there are
abbrev pub word_count : ℕ → ℕ → ℕ
word_count n cells = 2 * (n / 2 + 17 + cells)
