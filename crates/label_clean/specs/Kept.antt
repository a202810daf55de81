-- Rows of which the needless entries are left out.
use Rattle.std.specs.Prelude.{◌≡◌, ◌↔◌, ℕ, ◌+◌, ◌<◌, List, Vec, Option, Some, None, All, Contains, length, get_or}
use Rattle.std.specs.declared.alloc.Global.{Global}
use Rattle.walk_laws.specs.declared.entry.Entry.{Entry}
use Rattle.walk_laws.specs.Labelling.{label_row}
use Rattle.label_clean.specs.RawRows.{HasEachOnce}
use Rattle.label_clean.specs.Needless.{IsNeedless}

-- the entries of a row that are not of one kind, each once, in any order
pub record IsKept (P : Entry → Type 0) (row kept : List Entry) : Type 0 where
  pub once : HasEachOnce kept
  pub each : (e : Entry) → Contains kept e ↔ (Contains row e × ¬ P e)

-- the row has exactly the entries of v that are not needless, each once, in any order
abbrev pub HasSurvivors : List ℕ → List (List Entry) → ℕ → List Entry → Type 0
HasSurvivors at tested v row = IsKept (IsNeedless at tested v) (label_row tested v) row

-- what is kept of the row of v: all of it, where that is none, or else these entries
abbrev pub IsKeptRow : List ℕ → List (List Entry) → ℕ → Option (Vec Entry Global) → Type 0
IsKeptRow at tested v None = All (λ e. ¬ IsNeedless at tested v e) (label_row tested v)
IsKeptRow at tested v (Some kept) = HasSurvivors at tested v kept.items

-- what is kept of the rows of the nodes after `from` up to `to`
pub record AreKeptRows (at : List ℕ) (tested : List (List Entry)) (from to : ℕ) (kept : List (Option (Vec Entry Global))) : Type 0 where
  pub size : from + length kept ≡ to
  pub each : (k : ℕ) → k < length kept → IsKeptRow at tested (from + k + 1) (get_or kept k None)
