-- Where the rows are the canonical hub labelling and the vias are theirs, the trace is a shortest walk by way of the highest-ranked node.
use Rattle.std.specs.Prelude.{Some, None, reverse}
use Rattle.std.proofs.Common.{◌≡◌, ℕ, ◌+◌, ◌≤◌, List, ◌∷◌, ◌++◌, All, Contains, length, drop, map, sym, ap, subst, ◌∙◌, inl, inr, arith}
use Rattle.std.proofs.lemmas.List.{map-append}
use Rattle.std.proofs.lemmas.List.Elements.{Contains-append_left}
use Rattle.walk_laws.specs.declared.graph.Edge.{Edge}
use Rattle.walk_laws.specs.Graph.{WeightedGraph, IsGraph, IsEdge}
use Rattle.walk_laws.specs.Joined.{Joined}
use Rattle.walk_laws.specs.Walk.{Step}
use Rattle.walk_laws.specs.Labelling.{IsChl}
use Rattle.walk_laws.proofs.JoinedEdges.{weights_of_edges}
use Rattle.walk_laws.proofs.LeastWalks.{IsLeast-same}
use Rattle.walk_laws.proofs.Walks.{append_steps, append_length}
use Rattle.walk_laws.proofs.AnswersOfPairs.{IsMeet-IsAnswer}
use Rattle.hub_index.specs.WellFormed.{IsWellFormed}
use Rattle.entry_vias.specs.RowVias.{TracedHubIndex, AreVias}
use Rattle.via_trace.specs.declared.trace_answer.Trace.{Trace}
use Rattle.via_trace.specs.declared.trace_answer.Trace.TheVariants.{Unreachable, Broken, Walk}
use Rattle.via_trace.specs.Traces.{IsTraceOf, TellsTheTrace}
use Rattle.via_trace.proofs.Walked.{steps_of, end_there, never_breaks}

module _ (edges : List Edge) (index : TracedHubIndex) (edge : All (IsEdge (length index.order)) edges) (well : IsWellFormed index.order index.rows) (chl : IsChl (Joined edges) index.order index.rows) (are : AreVias (Joined edges) index.rows index.vias) (u v : ℕ) (u_node : 1 ≤ u) (u_within : u ≤ length index.order) (v_node : 1 ≤ v) (v_within : v ≤ length index.order) where
  pub tells_the_trace : (told : Trace) → IsTraceOf index u v told → TellsTheTrace (Joined edges) index.order u v told
  tells_the_trace Unreachable is = (IsMeet-IsAnswer edges (weights_of_edges (length index.order) edges edge) index.order well.ranking u v u_node u_within v_node v_within index.rows chl None).0 is
  tells_the_trace (Broken x hub) is = elim is.breaks [
    | inl first ↦ never_breaks edges index edge well chl are is.p first.nodes u is.a x first.rest u_node u_within first.comes first.broken
    | inr second ↦ never_breaks edges index edge well chl are is.p second.1.nodes v is.b x second.1.rest v_node v_within second.1.comes second.1.broken
  ]
  tells_the_trace (Walk long nodes) is =
      let answer = (IsMeet-IsAnswer edges (weights_of_edges (length index.order) edges edge) index.order well.ranking u v u_node u_within v_node v_within index.rows chl (Some (is.a + is.b, is.hub))).0 is.meet.meet in
      let forth = steps_of edges index edge well chl are is.p is.forth u is.a is.hub 0 u_node u_within is.to_hub in
      let back = steps_of edges index edge well chl are is.p is.back v is.b is.hub 0 v_node v_within is.from_hub in
      record {
        least = IsLeast-same (Joined edges) u v (is.a + is.b) long is.long answer.0;
        steps = forth.steps ++ back.backwards;
        walk = append_steps (Joined edges) forth.steps back.backwards u is.hub v forth.walk back.back;
        long = omega (arith, append_length (Joined edges) forth.steps back.backwards, forth.long, back.back_long, is.long);
        passes = ap (λ (l : List ℕ). u ∷ l) (map-append (λ (t : Step). t.to) forth.steps back.backwards)
            ∙ ap (λ (l : List ℕ). l ++ map (λ (t : Step). t.to) back.backwards) forth.passes
            ∙ ap (λ (l : List ℕ). (u ∷ is.forth) ++ drop 1 l) back.back_passes
            ∙ sym is.whole;
        top = is.hub;
        highest = answer.1;
        by = subst (λ (l : List ℕ). Contains l is.hub) (sym is.whole) (Contains-append_left (u ∷ is.forth) (drop 1 (reverse (v ∷ is.back))) is.hub (end_there edges index edge well chl are is.p is.forth u is.a is.hub 0 is.to_hub));
      }

pub trace_is_least : (graph : WeightedGraph) (index : TracedHubIndex) (u v : ℕ) (told : Trace) → IsGraph graph.n graph.edges → length index.order ≡ graph.n → IsWellFormed index.order index.rows → IsChl (Joined graph.edges) index.order index.rows → AreVias (Joined graph.edges) index.rows index.vias → 1 ≤ u → u ≤ length index.order → 1 ≤ v → v ≤ length index.order → IsTraceOf index u v told → TellsTheTrace (Joined graph.edges) index.order u v told
trace_is_least graph index u v told is size well chl are u_node u_within v_node v_within =
    tells_the_trace graph.edges index (subst (λ n. All (IsEdge n) graph.edges) (sym size) is.edge) well chl are u v u_node u_within v_node v_within told
