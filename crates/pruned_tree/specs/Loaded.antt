-- The table of a root's hubs, as a tree is given it.
use Rattle.std.specs.Prelude.{ℕ, List, Option, All}
use Rattle.walk_laws.specs.declared.entry.Entry.{Entry}
use Rattle.walk_laws.specs.Labelling.{EntryFits}
use Rattle.hub_index.specs.RootDistances.{HoldsRow}

-- the table has the least distances of a row of the root h, each entry of which may stand there
pub record IsRootTable (J : ℕ → ℕ → ℕ → Type 0) (at : List ℕ) (h : ℕ) (row : List Entry) (table : List (Option ℕ)) : Type 0 where
  pub fit : All (EntryFits J at h) row
  pub held : HoldsRow table row
