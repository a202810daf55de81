use Rattle.std.proofs.Common.{sym, subst}
use Rattle.std.proofs.lemmas.Result.{IfOk-weaker}
use Rattle.walk_laws.specs.Joined.{Joined}
use Rattle.walk_laws.specs.Labelling.{IsChl}
use Rattle.renumbering.proofs.LabellingBack.{labelling_back}
use Rattle.renumbering.proofs.working.WorkingCopy.split_index.Goals as goal
use Rattle.renumbering.proofs.working.WorkingCopy.split_index.Goals.{In_ok-back}

labelled : (c : In_ok-back) → IsChl (Joined c.args.graph.now.edges) c.args.ranking.now c.in_ok-back.back
labelled c = labelling_back c.args.graph.now c.args.ranking.now c.args.self c.args.rows c.in_ok-back.back c.requires.copy c.n-bfs_ordered.ensures.ranking c.n-ranked.ensures.ranking c.requires.nodes c.requires.labelling c.in_ok-back.ensures.size c.in_ok-back.ensures.rows

pub of_labelling-requires-clause-labelling : goal.of_labelling-requires-clause-labelling
of_labelling-requires-clause-labelling c =
    subst (λ order. IsChl (Joined c.args.graph.now.edges) order c.in_ok-back.back) (sym c.in_ok-copy.ensures) (labelled (goal.at.of_labelling-requires-clause-labelling c).In_ok-back)

pub returns-clause-labelling : goal.returns-clause-labelling
returns-clause-labelling c =
    IfOk-weaker c.of_labelling.result _ _ (λ index same. subst (IsChl (Joined c.args.graph.now.edges) c.args.ranking.now) (sym same) (labelled (goal.at.returns-clause-labelling c).In_ok-back)) c.of_labelling.ensures.rows
