use Rattle.std.proofs.Common.{◌+◌, List, ◌++◌, map, sym, ap, ◌∙◌, append_assoc, arith}
use Rattle.std.proofs.lemmas.List.{map-id}
use Rattle.std.proofs.lemmas.Result.{on_ok_weaker}
use Rattle.walk_laws.specs.Labelling.{label_row}
use Rattle.hub_index.specs.declared.node_entry.NodeEntry.{NodeEntry}
use Rattle.hub_index.specs.NodeEntries.{entries_of_node}
use Rattle.hub_index.proofs.GatheredRows.{entries_of_node-append}
use Rattle.entry_sinks.specs.RangeEntries.{widened}
use Rattle.entry_sinks.proofs.gathering.place_range.Goals as goal

pub returns-clause-rows : goal.returns-clause-rows
returns-clause-rows c =
    let compact = map (λ e. widened e) c.parts.result.0.now in
    let full : List NodeEntry = c.parts.result.1.now in
    on_ok_weaker c.place_entries-2.result (λ second. λ v from to.
    let w = c.args.before + v in
    second v from (omega (arith, to, c.in_ok-place_entries.ensures.size))
    ∙ ap (λ row. row ++ entries_of_node (map (λ e. e) full) (c.args.before + v)) (c.in_ok-place_entries.ensures.rows v from to)
    ∙ append_assoc (label_row c.args.rows.now v) (entries_of_node compact (c.args.before + v)) (entries_of_node (map (λ e. e) full) (c.args.before + v))
    ∙ ap (λ es. label_row c.args.rows.now v ++ (entries_of_node compact (c.args.before + v) ++ entries_of_node es (c.args.before + v))) (map-id full)
    ∙ ap (λ es. label_row c.args.rows.now v ++ es) (sym (entries_of_node-append compact full (c.args.before + v)))
    ∙ ap (λ es. label_row c.args.rows.now v ++ entries_of_node es (c.args.before + v)) (sym c.parts.ensures)) c.place_entries-2.ensures.rows
