use Rattle.std.proofs.Common.{◌≡◌, ◌<◌, true≢false, All, refl, sym, ap, ◌∙◌, subst, arith, rules}
use Rattle.std.proofs.lemmas.List.Elements.{All-nil}
use Rattle.plant_build.specs.declared.hand.Hand.{Hand}
use Rattle.plant_build.specs.Balance.{times}
use Rattle.plant_build.specs.Rounds.{reaches, got_from}
use Rattle.plant_build.proofs.Askings.{asked_none_got, asked_some_got}
use Rattle.plant_build.proofs.HeldParts.{HoldsBatches-none}
use Rattle.plant_build.proofs.worker.PlantWorker.plant.Goals as goal

pub loop-init : goal.loop-init
loop-init g c = record {
  worked = record {
    sink = c.requires.ready.sink;
    holds = λ memory. HoldsBatches-none c.args.job.now.graph.now.edges c.args.job.now.ranking.now c.args.roots c.args.batches c.args.self.now.numbers.items c.args.self.now.sink c.requires.ready.none c.requires.ready.empty;
    took = record {
      below = subst (All (λ b. b < c.args.batches)) (sym c.requires.ready.none) (All-nil (λ b. b < c.args.batches));
      took = λ x. let none = ap (times x) c.requires.ready.none in omega arith;
    };
  };
  memory = c.requires.ready.memory;
  planter = c.requires.ready.planter;
  share = refl;
}

pub returns-in_default-clause-worked : goal.returns-in_default-clause-worked
returns-in_default-clause-worked g c =
    let was = c.loop.invariant.worked in
    record {
      sink = was.sink;
      holds = was.holds;
      took = record {
        below = was.took.below;
        took = λ x. omega (arith, was.took.took x, asked_none_got x (reaches c.loop.self.hand) (reaches c.take.new.self) c.in_default.ensures.asked);
      };
    }

pub loop-preserved-then-batch-batches : goal.loop-preserved-then-batch-batches
loop-preserved-then-batch-batches g c =
    let was = c.loop.invariant.worked in
    record {
      worked = record {
        sink = was.sink;
        holds = was.holds;
        took = record {
          below = was.took.below;
          took = λ x. omega (arith, was.took.took x, asked_some_got x c.in-Some-take.batch (reaches c.loop.self.hand) (reaches c.take.new.self) c.in-Some-take.ensures.asked);
        };
      };
      memory = c.loop.invariant.memory;
      planter = c.loop.invariant.planter;
      share = c.in-Some-take.ensures.share ∙ c.loop.invariant.share;
    }

pub plant_one-requires-clause-worked : goal.plant_one-requires-clause-worked
plant_one-requires-clause-worked g c =
    let was = c.loop.invariant.worked in
    record {
      sink = was.sink;
      holds = was.holds;
      took = record {
        below = was.took.below;
        took = λ x. omega (arith, was.took.took x, asked_some_got x c.in-Some-take.batch (reaches c.loop.self.hand) (reaches c.take.new.self) c.in-Some-take.ensures.asked);
      };
    }

pub plant_one-requires-clause-took : goal.plant_one-requires-clause-took
plant_one-requires-clause-took g c x =
    omega (arith, c.loop.invariant.worked.took.took x, asked_some_got x c.in-Some-take.batch (reaches c.loop.self.hand) (reaches c.take.new.self) c.in-Some-take.ensures.asked)

pub returns-then-is_err-clause-worked : goal.returns-then-is_err-clause-worked
returns-then-is_err-clause-worked g c =
    let was = c.loop.invariant.worked in
    let same : c.plant_one.new.self.numbers.items ≡ c.loop.self.numbers.items = search rules in
    record {
      sink = c.plant_one.ensures.sink ∙ was.sink;
      holds = λ memory. absurd (true≢false (sym memory));
      took = record {
        below = subst (All (λ b. b < c.args.batches)) (sym same) was.took.below;
        took = λ x.
            let numbers = ap (times x) same in
            let hand = ap (λ (h : Hand). got_from x (reaches h)) c.plant_one.ensures.hand in
            omega (arith, was.took.took x, numbers, hand, asked_some_got x c.in-Some-take.batch (reaches c.loop.self.hand) (reaches c.take.new.self) c.in-Some-take.ensures.asked);
      };
    }
