use Rattle.std.proofs.Common.{◌≡◌, ◌++◌, map, take}
use Rattle.near_points.specs.PointWords.{word_of}
use Rattle.near_points.proofs.point_words.add_row.Given as goal

-- the entries so far have their words
abbrev pub invariant-loop-entry : goal.invariant-loop-entry
invariant-loop-entry l = l.words.items ≡ l.fn.words.items ++ map (λ e. word_of e.pos e.dist l.node) (take l.entry-index l.row)
