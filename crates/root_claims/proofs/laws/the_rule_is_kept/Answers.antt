use Rattle.root_claims.proofs.Steps.{begins, draws, settles, splits, joins}
use Rattle.root_claims.proofs.laws.the_rule_is_kept.Goals as goal

pub returns : goal.returns
returns c = record {
  first = begins;
  draw = λ about counter views id v lawful seat on. draws about counter views id v lawful seat.0 seat.1 on;
  settle = λ about counter views id v lawful seat all. settles about counter views id v lawful seat.0 seat.1 all;
  split = λ about counter views id v give lawful seat enough. splits about counter views id v lawful seat.0 seat.1 give enough;
  join = λ about counter views id other v w lawful seat too apart. joins about counter views id v lawful seat.0 seat.1 other w apart too.0 too.1;
}
