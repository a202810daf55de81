use Rattle.std.proofs.Common.{◌<◌, ◌^◌, All, sym, subst, arith}
use Rattle.walk_laws.specs.declared.entry.Entry.{Entry}
use Rattle.hub_index.specs.CompactRows.{row_of_parts}
use Rattle.entry_vias.proofs.RowFacts.{row_fits}
use Rattle.index_file.proofs.RowParts.{All-full}
use Rattle.index_file.proofs.Sizes.{length-row_of}
use Rattle.index_file.proofs.encoding.push_node.Goals as goal

pub push_row-requires-clause-few : goal.push_row-requires-clause-few
push_row-requires-clause-few c =
    let i = c.args.index.now in
    omega (arith, length-row_of i.order i.rows c.args.v (row_of_parts c.row.result.0.now c.row.result.1.now) c.row.ensures.well_formed c.requires.node c.requires.within c.row.ensures.value)

pub push_traced_row-requires-clause-few : goal.push_traced_row-requires-clause-few
push_traced_row-requires-clause-few c =
    let i = c.args.index.now in
    omega (arith, length-row_of i.order i.rows c.args.v (row_of_parts c.row.result.0.now c.row.result.1.now) c.row.ensures.well_formed c.requires.node c.requires.within c.row.ensures.value)

pub push_row-requires-clause-fits : goal.push_row-requires-clause-fits
push_row-requires-clause-fits c =
    let i = c.args.index.now in
    let fits : Entry → Type 0 = λ e. e.dist < 2 ^ 64 in
    All-full c.row.result.0.now c.row.result.1.now fits (subst (All fits) (sym c.row.ensures.value) (row_fits i.order i.rows c.args.v c.row.ensures.well_formed c.requires.node c.requires.within))

pub push_traced_row-requires-clause-fits : goal.push_traced_row-requires-clause-fits
push_traced_row-requires-clause-fits c =
    let i = c.args.index.now in
    let fits : Entry → Type 0 = λ e. e.dist < 2 ^ 64 in
    All-full c.row.result.0.now c.row.result.1.now fits (subst (All fits) (sym c.row.ensures.value) (row_fits i.order i.rows c.args.v c.row.ensures.well_formed c.requires.node c.requires.within))
