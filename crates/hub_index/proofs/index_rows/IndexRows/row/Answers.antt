use Rattle.std.proofs.Common.{◌≡◌, ◌-◌, ◌≤◌, [], length, get_or, sym, ap, ◌∙◌, arith}
use Rattle.std.proofs.lemmas.List.{length-map, get_or-map, get_or_past}
use Rattle.hub_index.proofs.PartedRows.{compact_lists}
use Rattle.hub_index.proofs.LentRows.{length-rows_after, row_lent}
use Rattle.hub_index.proofs.index_rows.IndexRows.row.Goals as goal
use Rattle.hub_index.proofs.index_rows.IndexRows.row.Goals.{After-self}

-- a node that has a row has a second part
within : (c : After-self) → c.args.v ≤ length c.self.inside.full.now
within c = omega (arith, length-rows_after (compact_lists c.self.inside.compact.now) c.self.inside.full.now, c.self.invariant.size, ap (λ i. length i.order) c.self.view_is, c.requires.within)

pub row-full-requires-clause-within : goal.row-full-requires-clause-within
row-full-requires-clause-within c = within (goal.at.row-full-requires-clause-within c).After-self

pub returns-then-place-self-clause-value : goal.returns-then-place-self-clause-value
returns-then-place-self-clause-value c =
    let compact = c.self.inside.compact.now in
    let row = c.index-self-place.result in
    let part : c.deref.result.now ≡ get_or (compact_lists compact) (c.args.v - 1) [] = c.deref.ensures.value ∙ sym (get_or-map (λ r. r.items) compact (c.args.v - 1) row [] c.if-place-self.true) in
    row_lent (compact_lists compact) c.self.inside.full.now c.args.self.now.rows c.args.v c.deref.result.now c.row-full.result.now (ap (λ i. i.rows) c.self.view_is) c.requires.node (within (goal.at.returns-then-place-self-clause-value c).After-self) part c.row-full.ensures

pub returns-clause-value : goal.returns-clause-value
returns-clause-value c =
    let compact = c.self.inside.compact.now in
    let none : [] ≡ get_or (compact_lists compact) (c.args.v - 1) [] = sym (get_or_past (compact_lists compact) (c.args.v - 1) [] (omega (arith, length-map compact (λ row. row.items), c.if-place-self.false))) in
    row_lent (compact_lists compact) c.self.inside.full.now c.args.self.now.rows c.args.v [] c.row-full.result.now (ap (λ i. i.rows) c.self.view_is) c.requires.node (within (goal.at.returns-clause-value c).After-self) none c.row-full.ensures
