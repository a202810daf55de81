use Rattle.std.proofs.Common.{◌≡◌, ◌-◌, ◌≤◌, length, take}
use Rattle.desk_io.specs.Contents.{Tells}
use Rattle.desk_io.specs.Takes.{Takes}
use Rattle.desk_io.proofs.write_out.write_all.Given as goal

abbrev pub invariant-loop-done : goal.invariant-loop-done
invariant-loop-done g l = record {
  within : l.done ≤ length l.piece;
  taken : Tells (g.D.Desk.told l.initial.desk) (g.D.Desk.told l.desk) (Takes l.out (take l.done l.piece));
  is_open : g.D.Desk.is_open l.desk ≡ g.D.Desk.is_open l.initial.desk;
  is_created : g.D.Desk.is_created l.desk ≡ g.D.Desk.is_created l.initial.desk;
  input_count : g.D.Desk.input_faults l.desk ≡ g.D.Desk.input_faults l.initial.desk;
  output_count : g.D.Desk.output_faults l.desk ≡ g.D.Desk.output_faults l.initial.desk;
}

abbrev pub decreases-loop-done : goal.decreases-loop-done
decreases-loop-done g l = length l.piece - l.done
