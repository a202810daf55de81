use Rattle.std.proofs.Common.{◌≡◌, length, subst}
use Rattle.std.specs.Prelude.{None}
use Rattle.std.proofs.lemmas.Result.{IfOk-weaker}
use Rattle.walk_laws.specs.Graph.{WeightedGraph, IsGraph}
use Rattle.walk_laws.specs.Joined.{Joined}
use Rattle.walk_laws.specs.Labelling.{IsChl}
use Rattle.walk_laws.specs.Meet.{IsMeet}
use Rattle.hub_index.specs.WellFormed.{IsWellFormed}
use Rattle.entry_vias.specs.RowVias.{AreVias}
use Rattle.via_trace.specs.declared.trace_answer.Trace.TheVariants.{Unreachable}
use Rattle.via_trace.specs.Traces.{IsTraceOf, TellsTheTrace}
use Rattle.via_trace.proofs.Told.{trace_is_least}
use Rattle.via_trace.proofs.tracing.trace.Goals as goal
use Rattle.via_trace.proofs.tracing.trace.Goals.{After-ranking-ranking, In-Far}

-- the index is well formed
well : (c : After-ranking-ranking) → IsWellFormed c.args.traced.now.order c.args.traced.now.rows
well c = subst (λ o. IsWellFormed o c.args.traced.now.rows) c.index-index.ensures.order (subst (IsWellFormed c.index-index.result.now.order) c.index-index.ensures.rows c.ranking-ranking.ensures.well_formed)

-- the rows share no hub
none : (c : In-Far) → IsTraceOf c.args.traced.now c.args.u c.args.v Unreachable
none c = subst (λ rows. IsMeet c.args.traced.now.order rows c.args.u c.args.v None) c.index-index.ensures.rows c.in-Far.ensures.meet

pub returns-in-Far-clause-trace : goal.returns-in-Far-clause-trace
returns-in-Far-clause-trace c = none c

pub returns-in-Far-clause-walk : goal.returns-in-Far-clause-walk
returns-in-Far-clause-walk c = λ graph is size chl are.
    trace_is_least graph c.args.traced.now c.args.u c.args.v Unreachable is size (well (goal.at.returns-in-Far-clause-walk c).After-ranking-ranking) chl are c.requires.first c.requires.first_within c.requires.second c.requires.second_within (none c)

pub returns-in-Near-clause-walk : goal.returns-in-Near-clause-walk
returns-in-Near-clause-walk c =
    let traced = c.args.traced.now in
    let whole = well (goal.at.returns-in-Near-clause-walk c).After-ranking-ranking in
    IfOk-weaker c.trace_by.result (IsTraceOf traced c.args.u c.args.v)
    (λ told. (graph : WeightedGraph) → IsGraph graph.n graph.edges → length traced.order ≡ graph.n → IsChl (Joined graph.edges) traced.order traced.rows → AreVias (Joined graph.edges) traced.rows traced.vias → TellsTheTrace (Joined graph.edges) traced.order c.args.u c.args.v told)
    (λ told known graph is size chl are. trace_is_least graph traced c.args.u c.args.v told is size whole chl are c.requires.first c.requires.first_within c.requires.second c.requires.second_within known)
    c.trace_by.ensures
