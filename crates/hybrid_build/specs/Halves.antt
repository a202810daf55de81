-- What the halves of a hybrid build hand on, with how many of the first roots were planted.
use Rattle.std.specs.Prelude.{ℕ, List}
use Rattle.walk_laws.specs.declared.entry.Entry.{Entry}
use Rattle.hub_index.specs.HubIndex.{HubIndex}

-- the rows of so many planted roots
pub record Planted : Type 0 where
  pub roots : ℕ
  pub rows : List (List Entry)

-- an index, and of how many roots the trees were planted for it
pub record Hybrid : Type 0 where
  pub planted : ℕ
  pub index : HubIndex
