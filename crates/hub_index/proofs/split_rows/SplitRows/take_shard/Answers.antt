use Rattle.std.proofs.Common.{◌≡◌, ◌+◌, ◌-◌, ◌≤◌, ◌∷◌, List, length, set, drop, refl, sym, ap, ◌∙◌, arith}
use Rattle.std.proofs.lemmas.List.{length-map, length-set}
use Rattle.std.specs.Vec.Iter.{into_iter_items}
use Rattle.walk_laws.specs.declared.entry.Entry.{Entry}
use Rattle.hub_index.specs.CompactRows.{row_of_parts, rows_of_parts}
use Rattle.hub_index.specs.Shards.{node_at}
use Rattle.hub_index.proofs.DealtNodes.{place_within}
use Rattle.hub_index.proofs.PartedRows.{compact_lists, length-rows_of_parts}
use Rattle.hub_index.proofs.RowItems.{items_of}
use Rattle.hub_index.proofs.TakenShards.{next_row, others_next, taken_next}
use Rattle.hub_index.proofs.split_rows.SplitRows.take_shard.Goals as goal
use Rattle.hub_index.proofs.split_rows.SplitRows.take_shard.Goals.{After-into_list, In-Some-next}

-- a shard has as many rows as each of its parts
size_is : (c : After-into_list) → length c.args.shard ≡ length c.shard.inside.full
size_is c =
    let compact = c.shard.inside.compact.items in
    sym (ap length c.shard.view_is) ∙ length-rows_of_parts (compact_lists compact) c.shard.inside.full (length-map compact (λ row. row.items) ∙ c.shard.invariant.0)

-- the row that comes next
abbrev row : In-Some-next → List Entry
row c = row_of_parts c.in-Some.compact.items c.in-Some-next.full.items

-- and those after it
abbrev rest : In-Some-next → List (List Entry)
rest c = rows_of_parts (compact_lists c.next.new.self.rest.items) (items_of (into_iter_items c.next-in-loop-compact.new.self))

left : (c : In-Some-next) → row c ∷ rest c ≡ drop c.loop-compact.place c.args.shard
left c =
    sym (
    ap (λ compact. rows_of_parts (compact_lists compact) (items_of (into_iter_items c.loop-compact.full))) c.in-Some.ensures.steps.0
    ∙ ap (λ full. rows_of_parts (compact_lists (c.in-Some.compact ∷ c.next.new.self.rest.items)) (items_of full)) c.in-Some-next.ensures.items
    )
    ∙ c.loop-compact.invariant.left

pub loop-compact-init : goal.loop-compact-init
loop-compact-init c =
    let compact = c.into_iter-compact-iterator.ensures.into_iter_gives.0 in
    let full : items_of (into_iter_items c.into_iter-full.result) ≡ c.shard.inside.full = ap items_of c.into_iter-full.ensures.rest ∙ c.into_rows.ensures ∙ c.into_list.ensures in
    let same = length-map (into_iter_items c.into_iter-full.result) (λ row. row.items) in
    record {
      same = omega (arith, ap length compact, ap length full, same, c.shard.invariant.0);
      left = ap (λ rows. rows_of_parts (compact_lists rows) (items_of (into_iter_items c.into_iter-full.result))) compact ∙ ap (rows_of_parts (compact_lists c.shard.inside.compact.items)) full ∙ c.shard.view_is;
      count = omega (arith, ap length compact, c.shard.invariant.0, size_is (goal.at.loop-compact-init c).After-into_list);
      size = refl;
      taken = λ place from_one none. absurd (omega (arith, from_one, none));
      others = λ v from_one other. refl;
    }

pub overflow_add-place : goal.overflow_add-place
overflow_add-place c = omega (arith, size_is (goal.at.overflow_add-place c).After-into_list, c.shard.invariant.1, c.loop-compact.invariant.count, ap length c.in-Some.ensures.steps.0)

pub node-requires-clause-fits : goal.node-requires-clause-fits
node-requires-clause-fits c =
    let place = c.loop-compact.place + 1 in
    let within : place ≤ length c.args.shard = omega (arith, c.loop-compact.invariant.count, ap length c.in-Some.ensures.steps.0) in
    let node = place_within c.args.dealt.shift (length c.args.self.now) c.args.number place (record { from_one = omega arith; up_to_n = omega (arith, within, c.requires.size) }) in
    omega (arith, node.up_to_n, c.requires.nodes)

pub loop-compact-preserved : goal.loop-compact-preserved
loop-compact-preserved c =
    let up = (goal.at.loop-compact-preserved c).In-Some-next in
    let so_far = c.loop-compact.invariant in
    let shard = c.args.shard in
    let place = c.loop-compact.place in
    let next = next_row shard place (row up) (rest up) (left up) in
    let more_is : c.put_row.new.self ≡ set c.loop-compact.self (node_at c.args.dealt.shift c.args.number (place + 1) - 1) (row up) = c.put_row.ensures ∙ ap (λ v. set c.loop-compact.self (v - 1) (row up)) c.node.ensures in
    record {
      same = omega (arith, so_far.same, ap length c.in-Some.ensures.steps.0, ap length c.in-Some-next.ensures.items);
      left = next.2;
      count = omega (arith, so_far.count, ap length c.in-Some.ensures.steps.0);
      size = ap length more_is ∙ length-set c.loop-compact.self (node_at c.args.dealt.shift c.args.number (place + 1) - 1) (row up) ∙ so_far.size;
      taken = taken_next c.args.dealt.shift c.args.number shard c.args.self.now c.loop-compact.self c.put_row.new.self c.requires.size place next.0 (row up) next.1 so_far.size more_is so_far.taken;
      others = others_next c.args.dealt.shift c.args.number shard c.args.self.now c.loop-compact.self c.put_row.new.self c.requires.size place next.0 (row up) next.1 so_far.size more_is so_far.others;
    }
