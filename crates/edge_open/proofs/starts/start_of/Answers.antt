use Rattle.std.proofs.Common.{◌+◌, arith}
use Rattle.walk_laws.specs.Joined.{Joined}
use Rattle.walk_laws.proofs.CanonicalHubs.{IsCanonical-ranked}
use Rattle.pruned_tree.proofs.TreeRounds.{root_position}
use Rattle.edge_open.proofs.KeptEntries.{hub_near}
use Rattle.edge_open.proofs.starts.start_of.Goals as goal
use Rattle.edge_open.proofs.starts.start_of.Goals.{then-hub-pos-via-then-hub-pos, then-hub-pos-via-else-hub-pos+then-dist-ge-TOO_LONG}

pub returns-then-hub-pos-clause-none : goal.returns-then-hub-pos-clause-none
returns-then-hub-pos-clause-none c = λ h root hub.
    let at = c.args.ranking.now in
    let graph = c.args.graph.now in
    let p = c.args.hub.now.pos in
    let place = root_position at h p c.n-ranked.ensures.ranking root in
    let near = hub_near graph.n graph.edges at c.n-n.ensures.graph c.n-ranked.ensures.ranking c.requires.nodes h c.args.to p (c.args.hub.now.dist + c.args.w) root hub in
    elim c.then-hub-pos.branch [
      | then-hub-pos-via-then-hub-pos w ↦ absurd (IsCanonical-ranked (Joined graph.edges) at h c.args.to (c.args.hub.now.dist + c.args.w) hub (omega (arith, place, w.if-hub-pos.true, c.pos.ensures.value)))
      | then-hub-pos-via-else-hub-pos+then-dist-ge-TOO_LONG w ↦ absurd (omega (arith, near, w.if-dist-ge-TOO_LONG.true, c.get.ensures.value))
    ]
