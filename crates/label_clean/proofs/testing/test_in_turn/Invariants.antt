use Rattle.std.proofs.Common.{◌≡◌, length}
use Rattle.label_clean.specs.Kept.{AreKeptRows}
use Rattle.label_clean.proofs.testing.test_in_turn.Given as goal

-- the rows so far are tested
abbrev pub invariant-loop-place : goal.invariant-loop-place
invariant-loop-place l = record {
  table : length l.table ≡ length l.ranking;
  kept : AreKeptRows l.ranking l.tested l.from l.place l.kept.items;
}
