use Rattle.std.proofs.Common.{Result, Ok, [], ◌∷◌, ◌++◌, length, map, sym, ap, ◌∙◌, arith}
use Rattle.std.proofs.lemmas.List.{length_push, map_push}
use Rattle.std.specs.declared.alloc.AllocError.{AllocError}
use Rattle.gll_table.specs.Outputs.{Output}
use Rattle.gll_superstep.specs.Workers.{so_far}
use Rattle.gll_superstep.proofs.grown.all_joined.Goals as goal

abbrev handed_in : Output → Result Output AllocError
handed_in o = Ok o

pub loop-one-preserved : goal.loop-one-preserved
loop-one-preserved g c =
    let was = c.loop-one.invariant in
    let one = c.in_ok-one.field-0 in
    record {
      all =
          ap (map handed_in) c.in_ok-and_one.ensures
          ∙ map_push handed_in (so_far c.loop-one.all) c.in_ok-one.field-0
          ∙ ap (λ os. os ++ handed_in c.in_ok-one.field-0 ∷ []) was.all
          ∙ ap (λ o. c.loop-one.yielded ++ o ∷ []) (sym c.in_ok-one.was);
      count = omega (arith, ap length c.in_ok-and_one.ensures, length_push (so_far c.loop-one.all) one, ap length c.in-Some.ensures.steps.0, was.count);
    }

pub unreachable-requires : goal.unreachable-requires
unreachable-requires g c =
    omega (arith, ap (λ a. length (so_far a)) c.in-None-all.is, c.loop-one.invariant.count, c.in-None.ensures.steps.0, c.loop-one.one-iterator.rest.ok.0, c.requires)
