use Rattle.std.proofs.Common.{◌+◌, sym, subst, ◌∙◌}
use Rattle.label_clean.specs.Kept.{AreKeptRows}
use Rattle.label_clean.proofs.KeptRows.{AreKeptRows-push}
use Rattle.label_clean.proofs.testing.test_in_turn.Goals as goal

pub loop-place-preserved : goal.loop-place-preserved
loop-place-preserved c = record {
  table = c.kept_row.ensures.size ∙ c.loop-place.invariant.table;
  kept =
      subst (AreKeptRows c.args.ranking.now c.args.tested.now c.args.from (c.loop-place.place + 1)) (sym c.in_ok-push.ensures.items)
      (AreKeptRows-push c.args.ranking.now c.args.tested.now c.args.from c.loop-place.place c.loop-place.kept.items c.in_ok-row.row c.loop-place.invariant.kept c.in_ok-row.ensures.kept);
}
