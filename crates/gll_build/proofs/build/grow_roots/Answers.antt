use Rattle.std.proofs.Common.{subst, arith}
use Rattle.label_clean.specs.Below.{IsChlBelow}
use Rattle.gll_build.proofs.build.grow_roots.Goals as goal

pub returns : goal.returns
returns g c =
    (c.the_whole_is_the_labelling.ensures c.args.job.now.graph.now.edges c.args.job.now.ranking.now c.in_ok-rows.rows).0
    (subst (λ p. IsChlBelow c.args.job.now.graph.now.edges c.args.job.now.ranking.now p c.in_ok-rows.rows) (omega arith) c.in_ok-rows.ensures.rows)
