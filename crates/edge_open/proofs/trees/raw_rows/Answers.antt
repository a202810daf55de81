use Rattle.std.proofs.Common.{◌≡◌, ℕ, ◌≤◌, ◌++◌, List, All, Contains, length, sym, ap, subst, ◌∙◌, inl, inr}
use Rattle.std.proofs.lemmas.List.Elements.{All-contains_itself, All-weaker, Contains-append_right}
use Rattle.walk_laws.specs.declared.graph.Edge.{Edge}
use Rattle.walk_laws.specs.Graph.{WeightedGraph}
use Rattle.walk_laws.specs.Joined.{Joined}
use Rattle.walk_laws.proofs.JoinedEdges.{Joined-positive, weights_of_edges}
use Rattle.hub_index.specs.Views.{IsNode}
use Rattle.resumed_tree.specs.declared.resuming.Start.{Start}
use Rattle.resumed_tree.specs.Resumed.{AreWalks}
use Rattle.edge_open.specs.OpenArcs.{AreOpenBut, IsHubStart}
use Rattle.edge_open.proofs.KeptEntries.{arc_to_node}
use Rattle.edge_open.proofs.OpenedRows.{HoldsBelow-open, joined_before, joined_parts}
use Rattle.edge_open.proofs.YesterdaysRows.{AreWalks-chl, own_there, went_on}
use Rattle.edge_open.proofs.trees.raw_rows.Goals as goal
use Rattle.edge_open.proofs.trees.raw_rows.Goals.{In_ok-work}

-- the edges of the longer graph
edges_are : (c : In_ok-work) → c.args.longer.now.edges ≡ c.args.graph.now.edges ++ c.args.edges.now
edges_are c = ap (λ (g : WeightedGraph). g.edges) c.requires.longer

-- an edge of the graph is one of the longer graph
more : (c : In_ok-work) → (x y w : ℕ) → Joined c.args.graph.now.edges x y w → Joined c.args.longer.now.edges x y w
more c x y w join = subst (λ (es : List Edge). Joined es x y w) (sym (edges_are c)) (joined_before c.args.graph.now.edges c.args.edges.now x y w join)

size : (c : In_ok-work) → length c.args.ranking.now ≡ c.args.longer.now.n
size c = c.requires.nodes ∙ sym (ap (λ (g : WeightedGraph). g.n) c.requires.longer)

positive : (c : In_ok-work) → (x y w : ℕ) → Joined c.args.graph.now.edges x y w → 1 ≤ w
positive c x y w join = Joined-positive c.args.longer.now.edges (weights_of_edges c.args.longer.now.n c.args.longer.now.edges c.n.ensures.graph.edge) x y w (more c x y w join)

nodes : (c : In_ok-work) → (x y w : ℕ) → Joined c.args.graph.now.edges x y w → IsNode (length c.args.ranking.now) x × IsNode (length c.args.ranking.now) y
nodes c x y w join = arc_to_node c.args.longer.now.n c.args.longer.now.edges c.args.ranking.now c.n.ensures.graph (size c) x y w (more c x y w join)

walks : (c : In_ok-work) → AreWalks (Joined c.args.longer.now.edges) c.args.ranking.now c.args.rows
walks c = AreWalks-chl (Joined c.args.graph.now.edges) (Joined c.args.longer.now.edges) (more c) c.args.ranking.now (positive c) c.n-ranked.ensures.ranking (nodes c) c.args.rows c.requires.labelling

pub hub_starts-requires-clause-edges : goal.hub_starts-requires-clause-edges
hub_starts-requires-clause-edges c =
    All-weaker (Contains c.args.edges.now) (Contains c.args.longer.now.edges)
    (λ e there. subst (λ (es : List Edge). Contains es e) (sym (edges_are (goal.at.hub_starts-requires-clause-edges c).In_ok-work)) (Contains-append_right c.args.graph.now.edges c.args.edges.now e there)) c.args.edges.now (All-contains_itself c.args.edges.now)

pub hub_starts-requires-clause-walks : goal.hub_starts-requires-clause-walks
hub_starts-requires-clause-walks c = walks (goal.at.hub_starts-requires-clause-walks c).In_ok-work

pub resume_hubs-requires-clause-starts : goal.resume_hubs-requires-clause-starts
resume_hubs-requires-clause-starts c = subst (All (IsHubStart (Joined c.args.longer.now.edges) c.args.ranking.now)) (sym c.as_slice.ensures.value) c.in_ok-starts.ensures.starts

pub resume_hubs-requires-clause-open : goal.resume_hubs-requires-clause-open
resume_hubs-requires-clause-open c =
    let up = (goal.at.resume_hubs-requires-clause-open c).In_ok-work in
    let K = Joined c.args.graph.now.edges in
    let J = Joined c.args.longer.now.edges in
    let at = c.args.ranking.now in
    let rows = c.args.rows in
    let ranking = c.n-ranked.ensures.ranking in
    subst (λ (some : List Start). AreOpenBut some J J at rows) (sym c.as_slice.ensures.value) (record {
      walks = walks up;
      own = own_there K J (more up) at (positive up) ranking (nodes up) rows c.requires.labelling;
      arcs = λ x y w join. elim (joined_parts c.args.graph.now.edges c.args.edges.now x y w (subst (λ (es : List Edge). Joined es x y w) (edges_are up) join)) [
        | inl old ↦ λ p d there. inr (went_on K J (more up) at (positive up) ranking (nodes up) rows c.requires.labelling x y w old p d there)
        | inr new ↦ c.in_ok-starts.ensures.open x y w new
      ];
    })

pub returns-clause-held : goal.returns-clause-held
returns-clause-held c = HoldsBelow-open c.args.longer.now.n c.args.longer.now.edges c.args.ranking.now c.resume_hubs.new.rows c.n.ensures.graph c.n-ranked.ensures.ranking c.in_ok-resume_hubs.ensures
