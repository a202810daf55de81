-- The vias of neighbouring nodes.
use Rattle.std.specs.Prelude.{◌≡◌, ℕ, ◌+◌, ◌-◌, ◌<◌, ◌≤◌, List, length}
use Rattle.walk_laws.specs.declared.entry.Entry.{Entry}
use Rattle.entry_vias.specs.RowVias.{AreRowVias, via_row}

-- the vias of the rows of the nodes after `from` up to `to`, those of the first of them in the first list
pub record AreViasFrom (J : ℕ → ℕ → ℕ → Type 0) (rows : List (List Entry)) (from to : ℕ) (vias : List (List ℕ)) : Type 0 where
  pub size : from + length vias ≡ to
  pub row : (v : ℕ) → from < v → v ≤ to → AreRowVias J rows v (via_row vias (v - from))
