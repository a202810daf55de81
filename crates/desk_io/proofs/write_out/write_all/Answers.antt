use Rattle.std.proofs.Common.{◌∙◌, refl, arith}
use Rattle.std.proofs.lemmas.Grind.{common_steps}
use Rattle.desk_io.proofs.TakesLemmas.{taken-nil, taken-append, take-rest}
use Rattle.desk_io.proofs.write_out.write_all.Goals as goal

pub loop-done-init : goal.loop-done-init
loop-done-init g c = record {
  within = omega arith;
  taken = taken-nil c.args.out (g.D.Desk.told c.args.desk.now);
  is_open = refl;
  is_created = refl;
  input_count = refl;
  output_count = refl;
}

pub loop-done-preserved : goal.loop-done-preserved
loop-done-preserved g c =
    let was = c.loop-done.invariant in
    let more = c.in_ok-done.ensures in
    record {
      within = grind (arith, common_steps);
      taken = taken-append _ _ _ _ (take-rest c.loop-done.done c.in_ok-done.field-0 c.args.piece.now) _ _ _ was.taken more.taken;
      is_open = more.open ∙ was.is_open;
      is_created = more.created ∙ was.is_created;
      input_count = more.input_count ∙ was.input_count;
      output_count = more.output_count ∙ was.output_count;
    }
