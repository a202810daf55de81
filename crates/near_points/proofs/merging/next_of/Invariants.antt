use Rattle.std.proofs.Common.{◌<◌, ℕ}
use Rattle.near_points.specs.Merging.{IsGiven}
use Rattle.near_points.specs.PointWords.{word_at, word_node}
use Rattle.near_points.proofs.merging.next_of.Given as goal

-- the places so far are of the same list, and their points are given
abbrev pub invariant-loop-at : goal.invariant-loop-at
invariant-loop-at l = (i : ℕ) → l.cursor.at < i → i < l.at → IsGiven l.given (word_node (word_at l.words i))
