-- The laws of traces. `laws` has a public function for each.
use Rattle.std.specs.Prelude.{◌≡◌, ℕ, ◌≤◌, length}
use Rattle.walk_laws.specs.Graph.{WeightedGraph, IsGraph}
use Rattle.walk_laws.specs.Joined.{Joined}
use Rattle.walk_laws.specs.Labelling.{IsChl}
use Rattle.hub_index.specs.WellFormed.{IsWellFormed}
use Rattle.entry_vias.specs.RowVias.{AreVias, HaveVias, TracedHubIndex}
use Rattle.via_trace.specs.declared.trace_answer.Trace.{Trace}
use Rattle.via_trace.specs.Traces.{IsTraceOf, TellsTheTrace}

-- the trace of two nodes by the canonical hub labelling with its vias is a shortest walk by way of the highest-ranked node
abbrev pub ATraceIsALeastWalk : Type 0
ATraceIsALeastWalk = (graph : WeightedGraph) (index : TracedHubIndex) (u v : ℕ) (told : Trace) → IsGraph graph.n graph.edges → length index.order ≡ graph.n → IsWellFormed index.order index.rows → IsChl (Joined graph.edges) index.order index.rows → AreVias (Joined graph.edges) index.rows index.vias → 1 ≤ u → u ≤ length index.order → 1 ≤ v → v ≤ length index.order → IsTraceOf index u v told → TellsTheTrace (Joined graph.edges) index.order u v told

-- two nodes of an index with vias have a trace, whatever the rows and vias are
abbrev pub EachPairHasATrace : Type 0
EachPairHasATrace = (index : TracedHubIndex) (u v : ℕ) → IsWellFormed index.order index.rows → HaveVias index.rows index.vias → 1 ≤ u → u ≤ length index.order → 1 ≤ v → v ≤ length index.order → (told : Trace) × IsTraceOf index u v told

-- and only one
abbrev pub TheTraceIsOne : Type 0
TheTraceIsOne = (index : TracedHubIndex) (u v : ℕ) (told other : Trace) → IsWellFormed index.order index.rows → HaveVias index.rows index.vias → 1 ≤ u → u ≤ length index.order → 1 ≤ v → v ≤ length index.order → IsTraceOf index u v told → IsTraceOf index u v other → told ≡ other
