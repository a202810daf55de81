use Rattle.std.proofs.Common.{◌≡◌, ◌<◌, All, None, length, subst, arith}
use Rattle.std.proofs.lemmas.List.{take_all}
use Rattle.gll_table.proofs.TakenTasks.{none_taken, none_there, taken_there}
use Rattle.gll_table.proofs.tasks.take_from.Goals as goal

pub returns-in-Some-clause-taken : goal.returns-in-Some-clause-taken
returns-in-Some-clause-taken g c =
    let within : c.loop-k.k < length c.args.tasks.now.items = omega arith in
    taken_there c.args.tasks.now.items c.loop-k.tasks.items c.loop-k.k c.index_mut.result.now c.take.result c.take.new.self c.in-Some.task c.loop-k.invariant within c.index_mut.ensures.value c.take.ensures.value c.in-Some.is c.take.ensures.after

pub loop-k-preserved : goal.loop-k-preserved
loop-k-preserved g c =
    none_taken c.args.tasks.now.items c.loop-k.tasks.items c.loop-k.k c.index_mut.result.now c.take.result c.take.new.self c.loop-k.invariant c.index_mut.ensures.value c.take.ensures.value c.in_default.is c.take.ensures.after

pub returns-in-Some-take-clause-taken : goal.returns-in-Some-take-clause-taken
returns-in-Some-take-clause-taken g c =
    let within : c.loop-k-2.k < length c.args.tasks.now.items = omega arith in
    taken_there c.args.tasks.now.items c.loop-k-2.tasks.items c.loop-k-2.k c.index_mut-in-loop-k-2.result.now c.take-in-loop-k-2.result c.take-in-loop-k-2.new.self c.in-Some-take.task c.loop-k-2.invariant.same within c.index_mut-in-loop-k-2.ensures.value c.take-in-loop-k-2.ensures.value c.in-Some-take.is c.take-in-loop-k-2.ensures.after

pub loop-k-2-preserved : goal.loop-k-2-preserved
loop-k-2-preserved g c =
    let within : c.loop-k-2.k < length c.args.tasks.now.items = omega arith in
    record {
      same = none_taken c.args.tasks.now.items c.loop-k-2.tasks.items c.loop-k-2.k c.index_mut-in-loop-k-2.result.now c.take-in-loop-k-2.result c.take-in-loop-k-2.new.self c.loop-k-2.invariant.same c.index_mut-in-loop-k-2.ensures.value c.take-in-loop-k-2.ensures.value c.in_default-take.is c.take-in-loop-k-2.ensures.after;
      none = none_there c.args.tasks.now.items c.loop-k-2.tasks.items c.loop-k-2.k c.index_mut-in-loop-k-2.result.now c.take-in-loop-k-2.result c.loop-k-2.invariant.same within c.index_mut-in-loop-k-2.ensures.value c.take-in-loop-k-2.ensures.value c.in_default-take.is c.loop-k-2.invariant.none;
    }

pub returns-clause-none : goal.returns-clause-none
returns-clause-none g c =
    subst (All (λ place. place ≡ None)) (take_all c.loop-k-2.k c.args.tasks.now.items (omega arith)) c.loop-k-2.invariant.none
