use Rattle.renumbering.proofs.NewNumbers.{IsGraph-renumbered}
use Rattle.renumbering.proofs.renumbered.renumbered_graph.Goals as goal

pub new-requires : goal.new-requires
new-requires c =
    rw (c.in_ok-edges.ensures, c.n-n.ensures.value) (IsGraph-renumbered c.args.graph.now.n c.args.bfs_order.now c.args.graph.now.edges c.n-places.ensures.ranking c.requires c.n-n.ensures.graph)
