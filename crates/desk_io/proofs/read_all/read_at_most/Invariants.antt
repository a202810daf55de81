use Rattle.std.proofs.Common.{◌≡◌, ◌-◌, ◌≤◌, IsTrue}
use Rattle.desk_io.specs.HandOn.{Moves}
use Rattle.desk_io.proofs.read_all.read_at_most.Given as goal

abbrev pub invariant-loop-room : goal.invariant-loop-room
invariant-loop-room g l = record {
  is_open : IsTrue (g.D.Desk.is_open l.desk);
  is_created : g.D.Desk.is_created l.desk ≡ g.D.Desk.is_created l.initial.desk;
  within : l.room ≤ l.limit;
  moved : Moves g.F.Feed.feed_gives l.initial.feed l.feed (g.D.Desk.told l.initial.desk) (g.D.Desk.told l.desk) (l.limit - l.room);
  input_count : g.D.Desk.input_faults l.desk ≡ g.D.Desk.input_faults l.initial.desk;
  output_count : g.D.Desk.output_faults l.desk ≡ g.D.Desk.output_faults l.initial.desk;
}

abbrev pub decreases-loop-room : goal.decreases-loop-room
decreases-loop-room g l = l.room
