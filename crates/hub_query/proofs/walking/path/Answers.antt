use Rattle.std.proofs.Common.{arith}
use Rattle.std.proofs.lemmas.Result.{IfOk-weaker}
use Rattle.walk_laws.specs.Joined.{Joined}
use Rattle.walk_laws.specs.Labelling.{IsChl}
use Rattle.hub_query.specs.declared.path_answer.Path.TheVariants.{Unreachable}
use Rattle.hub_query.specs.Paths.{IsPathOf, TellsTheWalk}
use Rattle.hub_query.proofs.LabelledWalks.{path_tells}
use Rattle.hub_query.proofs.walking.path.Goals as goal

pub returns-in-Far-clause-answer : goal.returns-in-Far-clause-answer
returns-in-Far-clause-answer c = λ chl.
    path_tells c.args.graph.now c.args.index.now c.n.ensures.graph (omega arith) c.n-2.ensures.well_formed chl c.args.u c.args.v Unreachable c.requires.first c.requires.first_within c.requires.second c.requires.second_within (omega arith, c.in-Far.ensures.meet)

pub returns-in-Near-clause-answer : goal.returns-in-Near-clause-answer
returns-in-Near-clause-answer c =
    IfOk-weaker c.walk.result (IsPathOf c.args.graph.now c.args.index.now c.args.u c.args.v) (λ told. IsChl (Joined c.args.graph.now.edges) c.args.index.now.order c.args.index.now.rows → TellsTheWalk (Joined c.args.graph.now.edges) c.args.u c.args.v told)
    (λ told known chl. path_tells c.args.graph.now c.args.index.now c.n.ensures.graph (omega arith) c.n-2.ensures.well_formed chl c.args.u c.args.v told c.requires.first c.requires.first_within c.requires.second c.requires.second_within known)
    c.walk.ensures
