use Rattle.std.proofs.Common.{◌-◌, ◌≤◌, ◌<◌, ℕ, length}
use Rattle.near_points.specs.PointWords.{word_at, word_pos}
use Rattle.near_points.proofs.point_words.start_from.Given as goal

-- all words so far are of lesser positions
abbrev pub invariant-loop-start : goal.invariant-loop-start
invariant-loop-start l = record {
  within : l.start ≤ length l.words;
  before : (i : ℕ) → i < l.start → word_pos (word_at l.words i) < l.pos;
}

abbrev pub decreases-loop-start : goal.decreases-loop-start
decreases-loop-start l = length l.words - l.start
