use Rattle.std.proofs.Common.{arith}
use Rattle.index_file.proofs.encoding.count_entries.Goals as goal

pub loop-p-preserved : goal.loop-p-preserved
loop-p-preserved c = record {
  rows = omega (arith, c.row_len-entries.ensures.small, c.loop-p.invariant.rows);
  all = omega (arith, c.row_len-entries.ensures.small, c.loop-p.invariant.rows, c.row_len-entries.ensures.nodes, c.requires.within);
}
