use Rattle.std.proofs.Common.{ℕ, List, get_or, take, sym, subst}
use Rattle.std.proofs.lemmas.List.{take_all, take_more}
use Rattle.std.proofs.lemmas.List.Sorted.{All-permutation, Contains-permutation}
use Rattle.walk_laws.specs.declared.graph.Edge.{Edge}
use Rattle.walk_laws.specs.Joined.{Joined}
use Rattle.edge_open.specs.OpenArcs.{IsHubStart, IsOpenBut}
use Rattle.edge_open.proofs.OpenedRows.{IsOpenBut-more, joined_last}
use Rattle.edge_open.proofs.starts.hub_starts.Goals as goal

-- where a loop reads past the end
abbrev nothing : Edge
nothing = record { u = 0; v = 0; w = 0 }

pub add_edge-requires-clause-edge : goal.add_edge-requires-clause-edge
add_edge-requires-clause-edge c = c.requires.edges c.loop-edge.edge-index nothing c.loop-edge-test.true

pub loop-edge-preserved : goal.loop-edge-preserved
loop-edge-preserved c =
    let J = Joined c.args.graph.now.edges in
    let at = c.args.ranking.now in
    let rows = c.args.rows.now in
    let edges = c.args.edges.now in
    let k = c.loop-edge.edge-index in
    let e = get_or edges k nothing in
    let before = c.loop-edge.starts.items in
    let after = c.add_edge.new.starts.items in
    let went = c.in_ok-add_edge.ensures in
    record {
      may = went.starts;
      arcs = subst (λ (some : List Edge). (x y w : ℕ) → Joined some x y w → IsOpenBut after J at rows x y w) (sym (take_more edges k nothing c.loop-edge-test.true))
          (joined_last (λ x y w. IsOpenBut after J at rows x y w) (take k edges) e (λ x y w join. IsOpenBut-more before after J at rows x y w went.kept (c.loop-edge.invariant.arcs x y w join)) went.there went.back);
    }

pub returns-clause-starts : goal.returns-clause-starts
returns-clause-starts c = All-permutation (IsHubStart (Joined c.args.graph.now.edges) c.args.ranking.now) c.loop-edge.starts.items c.sort_unstable_by_key.new.self.items c.sort_unstable_by_key.ensures.permutation c.loop-edge.invariant.may

pub returns-clause-open : goal.returns-clause-open
returns-clause-open c = λ x y w join.
    IsOpenBut-more c.loop-edge.starts.items c.sort_unstable_by_key.new.self.items (Joined c.args.graph.now.edges) c.args.ranking.now c.args.rows.now x y w
    (λ s there. Contains-permutation c.loop-edge.starts.items c.sort_unstable_by_key.new.self.items s c.sort_unstable_by_key.ensures.permutation there)
    (c.loop-edge.invariant.arcs x y w (subst (λ (some : List Edge). Joined some x y w) (sym (take_all c.loop-edge.edge-index c.args.edges.now c.loop-edge-test.false)) join))
