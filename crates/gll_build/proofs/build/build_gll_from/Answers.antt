use Rattle.std.proofs.Common.{sym, subst}
use Rattle.walk_laws.specs.Joined.{Joined}
use Rattle.walk_laws.specs.Labelling.{IsChl}
use Rattle.gll_build.proofs.build.build_gll_from.Goals as goal

pub of_labelling-requires-clause-labelling : goal.of_labelling-requires-clause-labelling
of_labelling-requires-clause-labelling g c = subst (λ order. IsChl (Joined c.args.graph.now.edges) order c.in_ok-rows.rows) (sym c.in_ok-copy.ensures) c.in_ok-rows.ensures
