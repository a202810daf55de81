use Rattle.std.proofs.Common.{subst}
use Rattle.plant_build.specs.Hands.{Owned, IsSettled}
use Rattle.plant_build.proofs.Balances.{wholes}
use Rattle.plant_build.proofs.own.Own.left.Goals as goal

pub len_as-requires : goal.len_as-requires
len_as-requires c = wholes _ c.self.invariant.1 _

pub returns-clause-left : goal.returns-clause-left
returns-clause-left c =
    let left = c.len_as.ensures.rule in
    (left.0, left.1, subst (λ (o : Owned). IsSettled o left.0) c.self.view_is left.2)
