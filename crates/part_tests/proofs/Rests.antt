-- What is left of a walk after a call.
use Rattle.std.proofs.Common.{ℕ, List, [], ◌∷◌}
use Rattle.std.specs.Prelude.{Option}
use Rattle.walk_laws.specs.declared.entry.Entry.{Entry}
use Rattle.label_pool.specs.declared.rule.Linked.{Linked}
use Rattle.label_pool.specs.declared.rule.Look.{Look}
use Rattle.label_pool.specs.Chains.{IsRest, IsNext}

-- a walk that gave something, or nothing, has still something left, if only the end
pub next-rest : (looks : List Look) (rest : List Linked) (given : Option Entry) (at : Option ℕ) → IsNext looks rest given at → (left : List Linked) × IsRest looks at left
next-rest looks [] given at n = ([], n.1)
next-rest looks (l ∷ ls) given at n = (ls, n.1)
