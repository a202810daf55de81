use Rattle.std.proofs.Common.{◌-◌, set, ap}
use Rattle.std.proofs.lemmas.List.{get_or_read}
use Rattle.hub_index.specs.declared.node_entry.NodeEntry.{NodeEntry}
use Rattle.pool_view.proofs.Chained.{AreEmptied-more, AreEmpty-emptied}
use Rattle.pool_view.proofs.chains.Chains.clear.Goals as goal

abbrev nothing : NodeEntry
nothing = record { node = 0; pos = 0; dist = 0 }

pub loop-entry-preserved : goal.loop-entry-preserved
loop-entry-preserved c =
    let k = c.loop-entry.entry-index in
    let heads = c.loop-entry.self.heads.items in
    let item = get_or_read c.args.entries.now k c.entry-item.result c.loop-entry-test.true c.entry-item.is nothing in
    AreEmptied-more c.args.entries.now c.args.self.now c.requires.chained k nothing c.loop-entry.self _ c.loop-entry-test.true (c.requires.nodes k nothing c.loop-entry-test.true) c.loop-entry.invariant (ap (λ (e : NodeEntry). set heads (e.node - 1) 0) item)

pub returns : goal.returns
returns c = AreEmpty-emptied c.args.entries.now c.args.self.now c.requires.chained c.loop-entry.entry-index c.loop-entry.self c.loop-entry-test.false c.loop-entry.invariant
