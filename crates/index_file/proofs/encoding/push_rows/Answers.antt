use Rattle.std.proofs.Common.{arith}
use Rattle.std.specs.Option.{option_copied}
use Rattle.index_file.proofs.RowRuns.{run-put}
use Rattle.index_file.proofs.encoding.push_rows.Goals as goal

pub loop-p-preserved : goal.loop-p-preserved
loop-p-preserved c =
    run-put c.args.index.now.rows (option_copied c.args.vias) c.args.from c.loop-p.p c.args.out.now.items c.loop-p.out.items c.push_node.new.out.items
    c.requires.vias c.loop-p.auto.p (omega (arith, c.requires.within, c.in_ok-push_node.ensures.well_formed.size)) c.loop-p.invariant c.in_ok-push_node.ensures.row
