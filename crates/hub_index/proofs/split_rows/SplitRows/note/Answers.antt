use Rattle.std.proofs.Common.{◌<◌, All, length, sym, ap, subst, ◌∙◌, arith}
use Rattle.hub_index.specs.RootDistances.{noted}
use Rattle.hub_index.proofs.PartedRows.{within_parts, row_read}
use Rattle.hub_index.proofs.split_rows.SplitRows.note.Goals as goal

pub index-requires : goal.index-requires
index-requires c =
    let within = within_parts c.self.inside.compact.items c.self.inside.full c.args.self.now c.args.v c.self.view_is c.self.invariant.0 c.requires.within in
    omega (arith, within, c.requires.node, c.self.inside.compact.ok.0, c.self.invariant.0)

pub row-requires-clause-within : goal.row-requires-clause-within
row-requires-clause-within c = within_parts c.self.inside.compact.items c.self.inside.full c.args.self.now c.args.v c.self.view_is c.self.invariant.0 c.requires.within

pub note_parts-requires : goal.note_parts-requires
note_parts-requires c =
    let row = row_read c.self.inside.compact.items c.self.inside.full c.args.self.now c.args.v c.index.result.now c.deref.result.now c.row.result.now c.self.view_is c.self.invariant.0 c.requires.node c.requires.within c.index.ensures c.deref.ensures.value c.row.ensures in
    subst (λ row. All (λ e. e.pos < length c.args.table.now) row) (sym row) c.requires.positions

pub returns : goal.returns
returns c =
    let row = row_read c.self.inside.compact.items c.self.inside.full c.args.self.now c.args.v c.index.result.now c.deref.result.now c.row.result.now c.self.view_is c.self.invariant.0 c.requires.node c.requires.within c.index.ensures c.deref.ensures.value c.row.ensures in
    c.note_parts.ensures ∙ ap (noted c.args.table.now) row
