use Rattle.std.proofs.Common.{arith}
use Rattle.hub_index.specs.CompactRows.{row_of_parts}
use Rattle.index_file.proofs.RowParts.{length-row_of_parts}
use Rattle.index_file.proofs.Sizes.{length-row_of}
use Rattle.index_file.proofs.encoding.row_len.Goals as goal

pub returns-clause-small : goal.returns-clause-small
returns-clause-small c =
    let i = c.args.index.now in
    let compact = c.row.result.0.now in
    let full = c.row.result.1.now in
    omega (arith, length-row_of_parts compact full, length-row_of i.order i.rows c.args.v (row_of_parts compact full) c.row.ensures.well_formed c.requires.node c.requires.within c.row.ensures.value)
