use Rattle.std.proofs.Common.{◌≡◌, ℕ, ◌<◌, ◌≤◌, [], get_or, vec_len}
use Rattle.label_clean.proofs.RowItems.{items_of}
use Rattle.label_clean.proofs.hub_rows.make_empty.Given as goal

-- the rows so far are empty
abbrev pub invariant-loop-k : goal.invariant-loop-k
invariant-loop-k l = record {
  size : vec_len l.rows ≡ vec_len l.fn.rows;
  empty : (k : ℕ) → k < l.k → get_or (items_of l.rows.items) k [] ≡ [];
}

-- and so are those after them
abbrev pub invariant-loop : goal.invariant-loop
invariant-loop l = record {
  size : vec_len l.rows ≡ l.counter;
  more : vec_len l.fn.rows ≤ l.counter;
  empty : (k : ℕ) → k < l.count → get_or (items_of l.rows.items) k [] ≡ [];
}
