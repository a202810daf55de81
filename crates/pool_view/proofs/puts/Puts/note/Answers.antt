use Rattle.std.proofs.Common.{◌≡◌, ◌<◌, [], ◌∷◌, List, Contains, length, sym, ap, subst, ◌∙◌, arith}
use Rattle.std.proofs.lemmas.List.Elements.{All-contains}
use Rattle.walk_laws.specs.declared.entry.Entry.{Entry}
use Rattle.hub_index.specs.declared.node_entry.NodeEntry.{NodeEntry}
use Rattle.hub_index.specs.RootDistances.{with_noted}
use Rattle.hub_index.specs.NodeEntries.{entries_of_node}
use Rattle.hub_index.proofs.NotedRows.{length-noted, noted-append}
use Rattle.hub_index.proofs.Backwards.{next_stands}
use Rattle.pool_view.proofs.puts.Puts.note.Goals as goal

pub note-requires : goal.note-requires
note-requires c =
    let entries = entries_of_node c.kept.result.now c.args.v in
    let here = next_stands entries _ c.loop-entry.yielded _ (c.into_iter-entry-iterator.ensures.into_iter_gives ∙ c.of_node-entry-items.ensures) c.loop-entry.yielded_by c.in-Some.entry _ c.in-Some.ensures.steps in
    let there = subst (λ (es : List NodeEntry). Contains (entries_of_node es c.args.v) c.in-Some.entry) c.kept.ensures here in
    let inside = All-contains (λ (e : Entry). e.pos < length c.args.table.now) (entries_of_node c.args.self.now.kept c.args.v) c.in-Some.entry c.requires.positions there in
    let size : length c.loop-entry.table ≡ length c.args.table.now = ap length c.loop-entry.invariant ∙ length-noted c.args.table.now c.loop-entry.yielded in
    omega (arith, inside, size)

pub loop-entry-preserved : goal.loop-entry-preserved
loop-entry-preserved c = c.note.ensures ∙ ap (λ t. with_noted t c.in-Some.entry) c.loop-entry.invariant ∙ sym (noted-append c.args.table.now c.loop-entry.yielded (c.in-Some.entry ∷ []))
