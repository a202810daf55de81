use Rattle.std.proofs.Common.{take}
use Rattle.near_points.specs.PointWords.{AreWordsOf}
use Rattle.near_points.proofs.point_words.words_of.Given as goal

-- the nodes so far have their words
abbrev pub invariant-loop-node : goal.invariant-loop-node
invariant-loop-node l = AreWordsOf l.index.rows (take l.node-index l.nodes) l.words.items
