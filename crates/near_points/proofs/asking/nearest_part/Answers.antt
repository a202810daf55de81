use Rattle.std.proofs.Common.{get_or, take}
use Rattle.std.proofs.lemmas.List.{take_more}
use Rattle.near_points.specs.PointSets.{IsNearestOf}
use Rattle.near_points.proofs.ZippedParts.{AllZip-one_more}
use Rattle.near_points.proofs.asking.nearest_part.Goals as goal

pub loop-source-preserved : goal.loop-source-preserved
loop-source-preserved c =
    let i = c.loop-source.source-index in
    let sources = c.args.sources.now in
    record {
      size = c.in_ok-find.ensures.size;
      marked = c.in_ok-find.ensures.marked;
      told = rw (take_more sources i 0 c.loop-source-test.true, c.in_ok-push.ensures.ok, c.hits-in-loop-source.ensures)
          (AllZip-one_more (IsNearestOf c.args.points.now c.args.k) (take i sources) c.loop-source.hits (get_or sources i 0) c.find.new.self.hits.items c.loop-source.invariant.told c.in_ok-find.ensures.nearest);
    }
