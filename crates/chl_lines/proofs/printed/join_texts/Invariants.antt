use Rattle.std.proofs.Common.{ℕ, List, ◌++◌}
use Rattle.hub_query.specs.Parts.{AreJoined}
use Rattle.chl_lines.proofs.printed.join_texts.Given as goal

-- with the texts of the parts to come it is that of all parts
abbrev pub invariant-loop-part : goal.invariant-loop-part
invariant-loop-part l = (rest : List ℕ) → AreJoined (λ part. part.items) l.part-iterator.rest.items rest → AreJoined (λ part. part.items) l.fn.parts.items (l.text.items ++ rest)
