use Rattle.std.proofs.Common.{◌≡◌, ◌≤◌, ◌<◌, ℕ, length}
use Rattle.near_points.specs.PointWords.{AreStarts, word_at, word_pos}
use Rattle.near_points.proofs.point_words.starts_of.Given as goal

-- the positions so far have their starts, and the next one starts no earlier
abbrev pub invariant-loop-pos : goal.invariant-loop-pos
invariant-loop-pos l = record {
  size : length l.starts.items ≡ l.pos;
  starts : AreStarts l.words l.starts.items;
  known : l.start ≤ length l.words;
  before : (i : ℕ) → i < l.start → word_pos (word_at l.words i) < l.pos;
}
