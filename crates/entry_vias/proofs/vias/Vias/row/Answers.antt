use Rattle.std.proofs.Common.{length, ap, ◌∙◌, arith}
use Rattle.std.specs.Prelude.{slice_range}
use Rattle.entry_vias.specs.RowVias.{via_row}
use Rattle.entry_vias.proofs.Lists.{length-lists, row_placed, IsPlacedRow}
use Rattle.entry_vias.proofs.vias.Vias.row.Goals as goal
use Rattle.entry_vias.proofs.vias.Vias.row.Goals.{After-row_known-2-1}

pub index-requires : goal.index-requires
index-requires c =
    let flat = c.self.inside.flat.items in
    let starts = c.self.inside.starts in
    omega (arith, length-lists flat starts.items (length flat) c.self.invariant.0, ap length c.self.view_is, starts.ok.0, c.requires.node, c.requires.within)

pub index-requires-2 : goal.index-requires-2
index-requires-2 c =
    let flat = c.self.inside.flat.items in
    let starts = c.self.inside.starts in
    omega (arith, length-lists flat starts.items (length flat) c.self.invariant.0, ap length c.self.view_is, starts.ok.0, c.requires.within)

-- where the list was read to begin and to end
placed : (c : After-row_known-2-1) → IsPlacedRow c.self.inside.flat.items c.self.inside.starts.items c.args.v c.index.result.now c.index-2.result.now
placed c = row_placed c.self.inside.flat.items c.self.inside.starts.items c.args.v c.index.result.now c.index-2.result.now c.self.invariant.0 c.requires.node (omega (arith, ap length c.self.view_is, c.requires.within)) c.index.ensures c.index-2.ensures

pub offset_bounds-deref-index : goal.offset_bounds-deref-index
offset_bounds-deref-index c = let p = placed c in omega (arith, p.up, p.within, c.deref.ensures.len, c.deref.type_inv.1, c.self.inside.flat.ok.0)

pub slice_bounds-result-count : goal.slice_bounds-result-count
slice_bounds-result-count c = (placed c).up

pub slice_bounds-result-start : goal.slice_bounds-result-start
slice_bounds-result-start c = (placed c).up

pub slice_bounds-result-end : goal.slice_bounds-result-end
slice_bounds-result-end c = let p = placed c in omega (arith, p.within, c.deref.ensures.len, c.self.inside.flat.ok.0)

pub returns : goal.returns
returns c =
    let p = placed (goal.at.returns c).After-row_known-2-1 in
    ap (λ l. slice_range l c.index.result.now c.index-2.result.now) c.deref.ensures.value ∙ p.is ∙ ap (λ rows. via_row rows c.args.v) c.self.view_is
