use Rattle.std.proofs.Common.{◌≡◌, false, eq-eqb, eqb-true, subst}
use Rattle.std.specs.Prelude.{IsTrue}
use Rattle.hub_query.specs.Paths.{AreApartBy}
use Rattle.hub_query.proofs.Onward.{one_rest}
use Rattle.hub_query.proofs.walking.are_apart_by.Goals as goal

pub returns-in-Far : goal.returns-in-Far
returns-in-Far c = (
  λ t. let none : IsTrue false = t in absurd cc,
  λ apart. absurd (c.in-Far.ensures.meet apart.1.0 c.args.dist apart.1.2.sum),
)

pub returns-in-Near : goal.returns-in-Near
returns-in-Near c =
    let near : AreApartBy c.args.index.now c.args.x c.args.v c.in-Near.far = (c.in-Near.hub, c.in-Near.ensures.meet) in (
      λ t. let same : c.in-Near.far ≡ c.args.dist = eqb-true c.in-Near.far c.args.dist t in subst (AreApartBy c.args.index.now c.args.x c.args.v) same near,
      λ apart. eq-eqb c.in-Near.far c.args.dist (one_rest c.args.index.now c.args.x c.args.v c.in-Near.far c.args.dist near apart),
    )
