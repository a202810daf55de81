use Rattle.std.proofs.Common.{◌+◌, arith}
use Rattle.lcc_build.specs.Shares.{HasWorked}
use Rattle.lcc_build.proofs.PutsTogether.{both_parts}
use Rattle.lcc_build.proofs.workers.joined.Goals as goal

pub handed_back-whole-requires : goal.handed_back-whole-requires
handed_back-whole-requires c = (both_parts (HasWorked c.args.ground.now) c.args.workers.items c.pop.new.self.items c.in-Some.last c.in-Some.ensures.items c.requires.worked).1

pub loop-worker-init : goal.loop-worker-init
loop-worker-init c = record {
  share = (0, omega (arith, c.in-Some.ensures.len), c.handed_back-whole.ensures.share);
  done = c.handed_back-whole.ensures.done;
  worked = (both_parts (HasWorked c.args.ground.now) c.args.workers.items c.pop.new.self.items c.in-Some.last c.in-Some.ensures.items c.requires.worked).0;
}

pub handed_back-share-requires : goal.handed_back-share-requires
handed_back-share-requires c = (both_parts (HasWorked c.args.ground.now) c.loop-worker.workers.items c.pop-in-loop-worker.new.self.items c.in-Some-pop.worker c.in-Some-pop.ensures.items c.loop-worker.invariant.worked).1

pub loop-worker-preserved : goal.loop-worker-preserved
loop-worker-preserved c =
    let share = c.loop-worker.invariant.share in
    record {
      share = (share.0 + 1, omega (arith, share.1, c.in-Some-pop.ensures.len), c.together-whole.ensures.share share.0 share.2);
      done = c.together-whole.ensures.done;
      worked = (both_parts (HasWorked c.args.ground.now) c.loop-worker.workers.items c.pop-in-loop-worker.new.self.items c.in-Some-pop.worker c.in-Some-pop.ensures.items c.loop-worker.invariant.worked).0;
    }
