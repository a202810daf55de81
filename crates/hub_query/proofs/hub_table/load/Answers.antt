use Rattle.std.proofs.Common.{map, ◌∙◌, arith}
use Rattle.std.proofs.Math.ListN.{length-set}
use Rattle.std.proofs.lemmas.List.{get_or_read}
use Rattle.std.proofs.lemmas.List.Kept.{AllPairs-from_increasing}
use Rattle.hub_query.proofs.HeldRows.{HoldsRow-next}
use Rattle.hub_query.proofs.Walked.{nothing}
use Rattle.hub_query.proofs.hub_table.load.Goals as goal

pub loop-entry-preserved : goal.loop-entry-preserved
loop-entry-preserved c =
    let k = c.loop-entry.entry-index in
    record {
      size = length-set c.loop-entry.table _ _ ∙ c.loop-entry.invariant.size;
      row = rw (c.get_u64.ensures, get_or_read c.args.row.now k _ c.loop-entry-test.true c.entry-item.is nothing) (HoldsRow-next c.args.row.now k nothing c.loop-entry.table c.loop-entry-test.true
          (omega (arith, c.requires.within k nothing c.loop-entry-test.true, c.loop-entry.invariant.size))
          (AllPairs-from_increasing (map (λ e. e.pos) c.args.row.now) c.requires.rises) c.loop-entry.invariant.row);
    }
