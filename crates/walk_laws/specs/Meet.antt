-- What two label rows say of the pair of their nodes (pruned landmark labelling, SIGMOD 2013).
use Rattle.std.specs.Prelude.{◌≡◌, ℕ, ◌+◌, ◌≤◌, List, Option, Some, None, Contains, slice_get}
use Rattle.walk_laws.specs.declared.entry.Entry.{Entry}
use Rattle.walk_laws.specs.Labelling.{label_row}

-- both rows have an entry at the position p, and d is the sum of their distances
pub record HasSum (first second : List Entry) (p d : ℕ) : Type 0 where
  pub before : ℕ
  pub after : ℕ
  pub in_first : Contains first (record { pos = p; dist = before })
  pub in_second : Contains second (record { pos = p; dist = after })
  pub long : before + after ≡ d

-- d is the least such sum, and p the least position that has it
pub record IsLeastSum (first second : List Entry) (p d : ℕ) : Type 0 where
  pub sum : HasSum first second p d
  pub least : (q e : ℕ) → HasSum first second q e → d ≤ e
  pub highest : (q : ℕ) → HasSum first second q d → p ≤ q

-- the rows share no position
abbrev pub ShareNone : List Entry → List Entry → Type 0
ShareNone first second = (p d : ℕ) → ¬ HasSum first second p d

-- what the rows of u and v answer: None where they share no position, else the least sum, and the node at the least position that has it
abbrev pub IsMeet : List ℕ → List (List Entry) → ℕ → ℕ → Option (ℕ × ℕ) → Type 0
IsMeet at rows u v None = ShareNone (label_row rows u) (label_row rows v)
IsMeet at rows u v (Some answer) = (p : ℕ) × (slice_get at p ≡ Some answer.1) × IsLeastSum (label_row rows u) (label_row rows v) p answer.0
