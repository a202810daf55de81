use Rattle.std.proofs.Common.{subst}
use Rattle.std.proofs.lemmas.List.Elements.{All-contains}
use Rattle.std.proofs.lemmas.Result.{on_ok_weaker}
use Rattle.walk_laws.specs.Graph.{IsEdge}
use Rattle.walk_laws.specs.Joined.{Joined}
use Rattle.edge_open.specs.OpenArcs.{IsOpenBut}
use Rattle.edge_open.proofs.OpenedRows.{IsOpenBut-itself, IsOpenBut-more}
use Rattle.edge_open.proofs.starts.add_edge.Goals as goal

pub returns-then-edge-clause-there : goal.returns-then-edge-clause-there
returns-then-edge-clause-there c =
    let edge = c.args.edge in
    let is = All-contains (IsEdge c.args.graph.now.n) c.args.graph.now.edges edge c.n-n.ensures.graph.edge c.requires.edge in
    subst (λ v. IsOpenBut c.args.starts.now.items (Joined c.args.graph.now.edges) c.args.ranking.now c.args.rows.now edge.u v edge.w) c.if-edge.true (IsOpenBut-itself c.args.starts.now.items (Joined c.args.graph.now.edges) c.args.ranking.now c.args.rows.now edge.u edge.w is.weight)

pub returns-then-edge-clause-back : goal.returns-then-edge-clause-back
returns-then-edge-clause-back c =
    let edge = c.args.edge in
    let is = All-contains (IsEdge c.args.graph.now.n) c.args.graph.now.edges edge c.n-n.ensures.graph.edge c.requires.edge in
    subst (λ v. IsOpenBut c.args.starts.now.items (Joined c.args.graph.now.edges) c.args.ranking.now c.args.rows.now v edge.u edge.w) c.if-edge.true (IsOpenBut-itself c.args.starts.now.items (Joined c.args.graph.now.edges) c.args.ranking.now c.args.rows.now edge.u edge.w is.weight)

pub returns-clause-kept : goal.returns-clause-kept
returns-clause-kept c = on_ok_weaker c.add_arc-2.result (λ kept. λ s there. kept s (c.in_ok-add_arc.ensures.kept s there)) c.add_arc-2.ensures.kept

pub returns-clause-there : goal.returns-clause-there
returns-clause-there c =
    let edge = c.args.edge in
    on_ok_weaker c.add_arc-2.result (λ kept. IsOpenBut-more c.add_arc.new.starts.items c.add_arc-2.new.starts.items (Joined c.args.graph.now.edges) c.args.ranking.now c.args.rows.now edge.u edge.v edge.w kept c.in_ok-add_arc.ensures.open) c.add_arc-2.ensures.kept
