use Rattle.std.proofs.Common.{◌≡◌}
use Rattle.desk_io.specs.Contents.{IsSteady}
use Rattle.chl_outputs.proofs.PiecesWritten.{HasTaken}
use Rattle.chl_outputs.proofs.giving.write_pieces.Given as goal

-- the pieces so far are written
abbrev pub invariant-loop-piece : goal.invariant-loop-piece
invariant-loop-piece g l = record {
  taken : HasTaken l.out l.bytes l.others l.piece-index (g.D.Desk.told l.fn.desk) (g.D.Desk.told l.desk);
  steady : IsSteady (g.D.Desk.told l.fn.desk) → IsSteady (g.D.Desk.told l.desk);
  is_created : g.D.Desk.is_created l.desk ≡ g.D.Desk.is_created l.fn.desk;
  input_count : g.D.Desk.input_faults l.desk ≡ g.D.Desk.input_faults l.fn.desk;
  output_count : g.D.Desk.output_faults l.desk ≡ g.D.Desk.output_faults l.fn.desk;
}
