use Rattle.std.proofs.Common.{◌≡◌, ℕ, ◌+◌, ◌<◌, length, get_or, vec_len}
use Rattle.rank_table.proofs.ranking.places_of.Given as goal

-- the nodes so far have their places
abbrev pub invariant-loop-p : goal.invariant-loop-p
invariant-loop-p l = record {
  size : vec_len l.places ≡ length l.at + 1;
  placed : (k : ℕ) → k < l.p → get_or l.places.items (get_or l.at k 0) 0 ≡ k;
}
