use Rattle.std.proofs.Common.{ℕ, All, take}
use Rattle.std.specs.Prelude.{IsTrue}
use Rattle.walk_laws.specs.Labelling.{label_row}
use Rattle.label_clean.specs.Needless.{IsNeedless}
use Rattle.label_clean.specs.Kept.{IsKept}
use Rattle.label_clean.specs.Tested.{HoldsLeast}
use Rattle.label_clean.proofs.testing.keep.Given as goal

-- what is kept of the entries so far, and whether these are all
abbrev pub invariant-loop-entry : goal.invariant-loop-entry
invariant-loop-entry l = (v : ℕ) → HoldsLeast l.table (label_row l.tested v) →
    IsKept (IsNeedless l.ranking l.tested v) (take l.entry-index l.row) l.kept.items
    × (IsTrue l.all → All (λ e. IsNeedless l.ranking l.tested v e → ⊥) (take l.entry-index l.row))
