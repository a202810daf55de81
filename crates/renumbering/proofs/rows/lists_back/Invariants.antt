use Rattle.std.proofs.Common.{◌≡◌, ℕ, ◌+◌, ◌<◌, ◌≤◌, length, vec_len}
use Rattle.renumbering.specs.Renumbered.{number_in, list_of}
use Rattle.renumbering.proofs.rows.lists_back.Given as goal

abbrev pub invariant-loop-k : goal.invariant-loop-k
invariant-loop-k g l = record {
  size : vec_len l.back ≡ l.k;
  old : vec_len l.old ≡ length l.bfs_order;
  done : (v : ℕ) → 1 ≤ v → v < l.k + 1 → list_of l.back.items v ≡ list_of l.fn.lists.items (number_in l.bfs_order v);
  left : (v : ℕ) → l.k < v → v ≤ length l.bfs_order → list_of l.old.items (number_in l.bfs_order v) ≡ list_of l.fn.lists.items (number_in l.bfs_order v);
}
