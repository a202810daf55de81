use Rattle.std.proofs.Common.{◌≡◌, ◌∷◌, [], ◌++◌, ◌<◌, get_or, length, refl, sym, ap, subst, ◌∙◌, arith}
use Rattle.std.proofs.Math.ListN.{length-set}
use Rattle.std.proofs.lemmas.List.Elements.{All-get_or}
use Rattle.hub_index.specs.declared.node_entry.NodeEntry.{NodeEntry}
use Rattle.hub_index.specs.Shards.{shard_number}
use Rattle.label_clean.specs.declared.runs.RunList.{RunList}
use Rattle.gll_table.proofs.PartLists.{none_there, one_more}
use Rattle.gll_table.proofs.partitioning.partition_entries.Goals as goal

pub loop-entry-init : goal.loop-entry-init
loop-entry-init c = record {
  size = refl;
  each = λ number low. none_there c.args.parts.now number c.requires.empty low;
}

pub loop-entry-preserved : goal.loop-entry-preserved
loop-entry-preserved c =
    let shift = c.args.plan.shift in
    let count = length c.args.parts.now in
    let entries = c.args.entries.now in
    let i = c.loop-entry.entry-index in
    let lists = c.loop-entry.parts in
    let place = c.number-number.result in
    let was = (get_or c.loop-entry.parts c.number-number.result c.index-parts-number.result).entries.items in
    let list : RunList = record { entries = c.push.new.self; runs = (get_or c.loop-entry.parts c.number-number.result c.index-parts-number.result).runs } in
    let e : NodeEntry = c.entry-item.result in
    let of : shard_number c.args.plan.shift c.entry-item.result.node ≡ c.number-number.result = sym c.number-number.ensures in
    let inside : c.number-number.result < length c.loop-entry.parts =
    omega (arith, of, c.loop-entry.invariant.size, subst (λ (e : NodeEntry). shard_number c.args.plan.shift e.node < length c.args.parts.now) (sym c.entry-item.is) (All-get_or (λ (e : NodeEntry). shard_number c.args.plan.shift e.node < length c.args.parts.now) entries i e c.loop-entry-test.true c.requires.within)) in
    record {
      size = length-set lists place list ∙ c.loop-entry.invariant.size;
      each = one_more shift count entries i e c.entry-item.is c.loop-entry-test.true lists c.loop-entry.invariant.each place c.index-parts-number.result list of inside
          (c.in_ok-push.ensures.items ∙ ap (λ p. was ++ record { node = p; pos = e.pos; dist = e.dist } ∷ []) c.place.ensures);
    }
