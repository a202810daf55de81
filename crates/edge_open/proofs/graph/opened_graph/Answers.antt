use Rattle.std.proofs.Common.{◌≡◌, ◌^◌, ◌<◌, List, [], ◌∷◌, ◌++◌, All, get_or, take, sym, ap, subst, ◌∙◌, arith}
use Rattle.std.proofs.lemmas.List.{append_assoc, take_all, take_more}
use Rattle.std.proofs.lemmas.List.Elements.{All-more}
use Rattle.walk_laws.specs.declared.graph.Edge.{Edge}
use Rattle.walk_laws.specs.Graph.{IsGraph}
use Rattle.edge_open.proofs.LongerGraphs.{IsGraph-append}
use Rattle.edge_open.proofs.graph.opened_graph.Goals as goal

-- where a loop reads past the end
abbrev nothing : Edge
nothing = record { u = 0; v = 0; w = 0 }

pub loop-edge-preserved : goal.loop-edge-preserved
loop-edge-preserved c =
    let old = c.args.graph.now.edges in
    let edges = c.args.edges.now in
    let k = c.loop-edge.edge-index in
    let e = get_or edges k nothing in
    let light : e.w < 2 ^ 64 = omega arith in
    record {
      items = c.in_ok-push.ensures.items ∙ ap (λ es. es ++ e ∷ []) c.loop-edge.invariant.items ∙ append_assoc old (take k edges) (e ∷ []) ∙ ap (λ es. old ++ es) (sym (take_more edges k nothing c.loop-edge-test.true));
      light = All-more (λ (f : Edge). f.w < 2 ^ 64) edges k nothing c.loop-edge-test.true c.loop-edge.invariant.light light;
    }

pub new-requires : goal.new-requires
new-requires c =
    let old = c.args.graph.now.edges in
    let edges = c.args.edges.now in
    let n = c.args.graph.now.n in
    let whole : take c.loop-edge.edge-index edges ≡ edges = take_all c.loop-edge.edge-index edges c.loop-edge-test.false in
    let is : c.loop-edge.all.items ≡ old ++ edges = c.loop-edge.invariant.items ∙ ap (λ es. old ++ es) whole in
    subst (λ m. IsGraph m c.loop-edge.all.items) (sym c.n.ensures.value) (
    subst (λ (es : List Edge). IsGraph n es) (sym is) (IsGraph-append n old edges c.n.ensures.graph c.requires (subst (All (λ (f : Edge). f.w < 2 ^ 64)) whole c.loop-edge.invariant.light))
    )
