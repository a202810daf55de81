use Rattle.std.proofs.Common.{◌<◌, All, get_or, length, sym, subst}
use Rattle.hub_index.specs.declared.node_entry.NodeEntry.{NodeEntry}
use Rattle.hub_index.specs.Shards.{shard_number}
use Rattle.hub_index.specs.Views.{IsNode}
use Rattle.hub_index.proofs.DealtNodes.{number_below}
use Rattle.gll_table.proofs.outputs.WorkerOutput.new.Goals as goal

pub partition-requires-clause-within : goal.partition-requires-clause-within
partition-requires-clause-within g c k d low =
    let nodes = subst (All (λ (e : NodeEntry). IsNode (length g.B.Build.order) e.node)) (sym c.deref.ensures.value) c.requires.nodes in
    subst (λ shift. shard_number shift (get_or c.deref.result.now k d).node < c.args.context.now.count) (sym c.args.context.now.shards)
    (subst (λ count. shard_number g.B.Build.shift (get_or c.deref.result.now k d).node < count) (sym c.args.context.now.count_is)
    (number_below g.B.Build.shift (length g.B.Build.order) (get_or c.deref.result.now k d).node (nodes k d low)))
