use Rattle.std.specs.Vec.{with_items}
use Rattle.std.proofs.Common.{◌≡◌, ◌+◌, ◌-◌, ◌*◌, List, [], ◌++◌, length, sym, ap, ◌∙◌, append_assoc, arith}
use Rattle.std.proofs.lemmas.List.{get_or-replicate, length-replicate, with_items_is}
use Rattle.walk_laws.specs.declared.entry.Entry.{Entry}
use Rattle.walk_laws.specs.Labelling.{label_row}
use Rattle.hub_index.specs.NodeEntries.{entries_of_node}
use Rattle.entry_sinks.specs.Sunk.{all_of_node}
use Rattle.entry_sinks.proofs.gathering.rows_of_range.Goals as goal

abbrev nothing : List Entry
nothing = []

pub loop-of_sink-preserved : goal.loop-of_sink-preserved
loop-of_sink-preserved c =
    let once = with_items c.loop-of_sink.room c.count_entries.new.room in
    let first : length c.count_entries.new.room ≡ length c.loop-of_sink.room.items = c.count_entries.ensures ∙ ap length c.deref_mut.ensures.value in
    let kept = with_items_is c.loop-of_sink.room c.count_entries.new.room (omega (arith, first)) in
    let second : length c.count_entries-in-loop-of_sink.new.room ≡ length c.count_entries.new.room = c.count_entries-in-loop-of_sink.ensures ∙ ap length c.deref_mut-in-loop-of_sink.ensures.value ∙ ap length kept in
    ap length (with_items_is once c.count_entries-in-loop-of_sink.new.room (omega (arith, first, second))) ∙ second ∙ first ∙ c.loop-of_sink.invariant

pub loop-of_sink-2-init : goal.loop-of_sink-2-init
loop-of_sink-2-init c =
    let k = length c.deref.result.now in
    let many : length c.deref.result.now ≡ c.min-count.result = ap length c.deref.ensures.value ∙ c.loop-of_sink.invariant in
    record {
      size = ap length c.in_ok-rows.ensures ∙ length-replicate k nothing ∙ many;
      rows = λ v from to.
          let w = c.args.range * c.range_width-width.result + v in
          let rest = c.into_iter-of_sink-iterator.result.rest.items in
          ap (λ rows. label_row rows v ++ all_of_node c.into_iter-of_sink-iterator.result.rest.items (c.args.range * c.range_width-width.result + v)) c.in_ok-rows.ensures
          ∙ ap (λ row. row ++ all_of_node c.into_iter-of_sink-iterator.result.rest.items (c.args.range * c.range_width-width.result + v)) (get_or-replicate k (v - 1) nothing nothing (omega (arith, many, from, to)))
          ∙ ap (λ sinks. all_of_node sinks (c.args.range * c.range_width-width.result + v)) c.into_iter-of_sink-iterator.ensures.into_iter_gives.0;
    }

pub loop-of_sink-2-preserved : goal.loop-of_sink-2-preserved
loop-of_sink-2-preserved c =
    let was = c.loop-of_sink-2.invariant in
    let rest = c.next.new.self.rest.items in
    record {
      size = c.in_ok-place_range.ensures.size ∙ was.size;
      rows = λ v from to.
          let w = c.args.range * c.range_width-width.result + v in
          let old = label_row c.loop-of_sink-2.rows v in
          ap (λ row. row ++ all_of_node c.next.new.self.rest.items (c.args.range * c.range_width-width.result + v)) (c.in_ok-place_range.ensures.rows v from (omega (arith, to, was.size)))
          ∙ append_assoc old (entries_of_node c.in-Some.of_sink w) (all_of_node rest w)
          ∙ ap (λ sinks. label_row c.loop-of_sink-2.rows v ++ all_of_node sinks (c.args.range * c.range_width-width.result + v)) (sym c.in-Some.ensures.steps.0)
          ∙ was.rows v from to;
    }
