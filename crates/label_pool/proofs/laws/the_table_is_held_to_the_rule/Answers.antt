use Rattle.std.proofs.Common.{⊎_elim, ap}
use Rattle.std.proofs.lemmas.Bool.{cases_eq}
use Rattle.label_pool.proofs.Found.{finds-all}
use Rattle.label_pool.proofs.laws.the_table_is_held_to_the_rule.Goals as goal

-- the step that links leaves the looks as they were, and one that found another head changes nothing
pub returns-clause-link : goal.returns-clause-link
returns-clause-link g c = λ step me number after v at linked.
    ⊎_elim (λ is. ap (λ s. s.knows.looks) ((linked v at).0 is).view) (λ isnt. ap (λ s. s.0.knows.looks) ((linked v at).1 isnt)) (cases_eq number step.first)

-- a load of a head finds the whole chain
pub returns-clause-find : goal.returns-clause-find
returns-clause-find g c = finds-all g.F.LinkFact.fact
