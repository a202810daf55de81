use Rattle.std.proofs.Common.{◌≤◌, All, map}
use Rattle.std.specs.List.Sorted.{IsStrictlyIncreasing}
use Rattle.label_clean.specs.Tested.{IsCovering}
use Rattle.label_clean.proofs.taking.is_covered_late.Given as goal

-- the entries that came are late, and none of them covers
abbrev pub invariant-loop-entry : goal.invariant-loop-entry
invariant-loop-entry l = record {
  late : All (λ e. l.first ≤ e.pos) l.yielded;
  none : IsStrictlyIncreasing (map (λ e. e.pos) l.hub_row) → All (λ e. ¬ IsCovering l.hub_row l.pos l.dist e) l.yielded;
}
