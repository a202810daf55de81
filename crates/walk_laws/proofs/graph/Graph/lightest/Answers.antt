use Rattle.std.proofs.Common.{◌≡◌, subst, sym, arith}
use Rattle.std.proofs.lemmas.Result.{IfOk-weaker}
use Rattle.walk_laws.specs.Lightest.{AreLightest}
use Rattle.walk_laws.proofs.LightestRows.{rising_by, IsLightest-more, JoinedBelow-more, AreLightest-all, IsGraph-lightest}
use Rattle.walk_laws.proofs.graph.Graph.lightest.Goals as goal

pub push_lightest-requires : goal.push_lightest-requires
push_lightest-requires c = rising_by c.arcs.result.now c.arcs.ensures.rising

pub loop-v-preserved : goal.loop-v-preserved
loop-v-preserved c =
    let more = c.in_ok-push_lightest.ensures in
    let edges = c.args.self.now.edges in
    rw more.1 (record {
      each = IsLightest-more edges c.arcs.result.now c.loop-v.v c.arcs.ensures.joined c.loop-v.edges.items more.0 c.loop-v.invariant.each more.2;
      below = JoinedBelow-more edges c.arcs.result.now c.loop-v.v c.arcs.ensures.joined c.loop-v.edges.items more.0 c.loop-v.invariant.below more.3;
    })

pub new-requires : goal.new-requires
new-requires c = rw c.n-n.ensures.value (IsGraph-lightest c.args.self.now.edges c.args.self.now.n c.loop-v.edges.items c.n-n.ensures.graph c.loop-v.invariant.each)

pub returns-clause-lightest : goal.returns-clause-lightest
returns-clause-lightest c =
    let edges = c.args.self.now.edges in
    let are : AreLightest edges c.loop-v.edges.items =
    AreLightest-all edges c.args.self.now.n c.loop-v.v c.loop-v.edges.items c.n-n.ensures.graph.edge (omega (arith, c.loop-v-test.false, c.n-n.ensures.value)) c.loop-v.invariant.each c.loop-v.invariant.below in
    IfOk-weaker c.new.result (λ g. g.edges ≡ c.loop-v.edges.items) (λ g. AreLightest edges g.edges) (λ g is. subst (AreLightest edges) (sym is) are) c.new.ensures.edges
