use Rattle.std.proofs.Common.{◌++◌, List}
use Rattle.hub_query.specs.declared.answer.Answer.{Answer}
use Rattle.hub_query.specs.Parts.{AreJoined}
use Rattle.hub_query.proofs.asking.join_parts.Given as goal

-- with the answers of the parts to come they are those of all parts
abbrev pub invariant-loop-part : goal.invariant-loop-part
invariant-loop-part l = (rest : List Answer) → AreJoined (λ (part : List Answer). part) l.part-iterator.rest.items rest → AreJoined (λ (part : List Answer). part) l.fn.parts.items (l.answers.items ++ rest)
