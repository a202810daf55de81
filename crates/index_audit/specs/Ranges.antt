-- What is wrong with the rows of neighbouring nodes.
use Rattle.std.specs.Prelude.{ℕ, ◌<◌, ◌≤◌, List, Option}
use Rattle.walk_laws.specs.declared.entry.Entry.{Entry}
use Rattle.index_audit.specs.declared.answer.Audit.{Audit}
use Rattle.index_audit.specs.Audited.{IsFirstOfRow, IsSoundRow}

-- nothing is wrong with the entries of the rows of the nodes after `from` up to `to`
abbrev pub AreSoundBetween : (ℕ → ℕ → ℕ → Type 0) → List ℕ → List (List Entry) → Option (List (List ℕ)) → ℕ → ℕ → Type 0
AreSoundBetween J at rows vias from to = (x : ℕ) → from < x → x ≤ to → IsSoundRow J at rows vias x

-- v is the first of these nodes in whose row an entry is at fault, and the fault is that of the first such entry
pub record IsFirstBetween (J : ℕ → ℕ → ℕ → Type 0) (at : List ℕ) (rows : List (List Entry)) (vias : Option (List (List ℕ))) (from to : ℕ) (fault : Audit) : Type 0 where
  pub v : ℕ
  pub after : from < v
  pub up_to : v ≤ to
  pub rows_before : (x : ℕ) → from < x → x < v → IsSoundRow J at rows vias x
  pub row : IsFirstOfRow J at rows vias v fault
