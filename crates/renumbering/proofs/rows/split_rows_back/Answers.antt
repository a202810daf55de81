use Rattle.std.specs.Prelude.{Vec}
use Rattle.std.proofs.Common.{◌≡◌, ℕ, ◌-◌, List, length, vec_len, refl, sym, ap, ap₂, ◌∙◌, arith, Global}
use Rattle.std.proofs.lemmas.List.{length-map}
use Rattle.walk_laws.specs.declared.entry.Entry.{Entry}
use Rattle.walk_laws.specs.Labelling.{label_row}
use Rattle.hub_index.specs.CompactRows.{row_of_parts}
use Rattle.hub_index.specs.declared.compact_row.CompactEntry.{CompactEntry}
use Rattle.hub_index.proofs.PartedRows.{compact_lists, length-rows_of_parts, parts_at}
use Rattle.renumbering.specs.Renumbered.{number_in}
use Rattle.renumbering.proofs.NewNumbers.{number_is_node}
use Rattle.renumbering.proofs.rows.split_rows_back.Goals as goal
use Rattle.renumbering.proofs.rows.split_rows_back.Goals.{After-into_parts-compact}

-- both parts have as many lists
as_many : (compact : Vec (Vec CompactEntry Global) Global) (full : List (List Entry)) (n : ℕ) → vec_len compact ≡ n → length full ≡ n → length (compact_lists compact.items) ≡ length full
as_many compact full n one other = omega (arith, length-map compact.items (λ (row : Vec CompactEntry Global). row.items), compact.ok.0, one, other)

second_size : (c : After-into_parts-compact) → length c.into_parts-compact.result.1 ≡ length c.args.bfs_order.now
second_size c =
    let compact = c.into_parts-compact.result.0 in
    let full = c.into_parts-compact.result.1 in
    let rows = length-rows_of_parts (compact_lists compact.items) full (as_many compact full (length full) c.into_parts-compact.ensures.size refl) in
    omega (arith, rows, ap length c.into_parts-compact.ensures.rows, c.requires)

pub lists_back-requires : goal.lists_back-requires
lists_back-requires c = c.into_parts-compact.ensures.size ∙ second_size (goal.at.lists_back-requires c).After-into_parts-compact

pub rows_back-requires : goal.rows_back-requires
rows_back-requires c = second_size (goal.at.rows_back-requires c).After-into_parts-compact

pub returns-clause-size : goal.returns-clause-size
returns-clause-size c =
    let compact = c.in_ok-compact.compact in
    let full = c.in_ok-full.full in
    ap length c.from_parts.ensures
    ∙ length-rows_of_parts (compact_lists compact.items) full (as_many compact full (length c.args.bfs_order.now) c.in_ok-compact.ensures.size c.in_ok-full.ensures.size)
    ∙ c.in_ok-full.ensures.size

pub returns-clause-rows : goal.returns-clause-rows
returns-clause-rows c v low high =
    let bfs_order = c.args.bfs_order.now in
    let compact = c.in_ok-compact.compact in
    let full = c.in_ok-full.full in
    let old_compact = c.into_parts-compact.result.0 in
    let old_full = c.into_parts-compact.result.1 in
    let size = second_size (goal.at.returns-clause-rows c).After-into_parts-compact in
    let number = number_is_node bfs_order v c.lists_back.ensures.ranking (low, high) in
    ap (λ rows. label_row rows v) c.from_parts.ensures
    ∙ parts_at (compact_lists compact.items) full (v - 1) (as_many compact full (length bfs_order) c.in_ok-compact.ensures.size c.in_ok-full.ensures.size) (omega (arith, low, high, c.in_ok-full.ensures.size))
    ∙ ap₂ row_of_parts (c.in_ok-compact.ensures.lists v low high) (c.in_ok-full.ensures.rows v low high)
    ∙ sym (parts_at (compact_lists old_compact.items) old_full (number_in bfs_order v - 1) (as_many old_compact old_full (length old_full) c.into_parts-compact.ensures.size refl) (omega (arith, number.0, number.1, size)))
    ∙ ap (λ rows. label_row rows (number_in bfs_order v)) c.into_parts-compact.ensures.rows
