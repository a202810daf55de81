-- What contracts see of pools and of their seats.
use Rattle.std.specs.Prelude.{◌≡◌, ◌⊎◌, ℕ, ◌+◌, ◌<◌, ◌≤◌, Option, Some, None, List, [], ◌∷◌, ◌++◌, All, Contains, length}
use Rattle.atomic_table.specs.Seated.{TableId}
use Rattle.walk_laws.specs.declared.entry.Entry.{Entry}
use Rattle.table_seats.specs.Numbers.{numbers}
use Rattle.label_pool.specs.declared.pool_put.PoolPut.{PoolPut}
use Rattle.label_pool.specs.declared.pool_put.PoolPut.TheVariants.{Put as IsPut, Full as IsFull}
use Rattle.label_pool.specs.declared.rule.Linked.{Linked}
use Rattle.label_pool.specs.declared.rule.Look.{Look}
use Rattle.label_pool.specs.declared.rule.Put.{Put}
use Rattle.label_pool.specs.declared.rule.View.{View}
use Rattle.label_pool.specs.Chains.{IsTailOf, seen_of, puts_at}
use Rattle.label_pool.specs.Fillings.{block_cells}

-- A pool: its table, which no others have, how many nodes, cells and seats there are, how many cells are drawn at once, and the value of the fact that its entries meet
pub record PoolId (F : Type 0) : Type 0 where
  pub table : TableId
  pub n : ℕ
  pub cells : ℕ
  pub block : ℕ
  pub seats : ℕ
  pub fact : Option F

-- A seat: whose it is, how many seats may still be split from it, the blocks that it drew and the cells of its last one that it has in reserve, the cells that nobody uses, what it put and what it found, both with those of the seats that were joined into it, what it and the seat that it was split from saw, newest first, and the number past the cells that it drew
pub record Seated (F : Type 0) : Type 0 where
  pub pool : PoolId F
  pub left : ℕ
  pub blocks : List ℕ
  pub reserve : List ℕ
  pub spare : List ℕ
  pub puts : List Put
  pub looks : List Look
  pub marks : List Look
  pub past : Option ℕ

-- A cell was taken: the first in reserve; or where none was, the first of one block more, the others of which are in reserve then
abbrev pub HasTaken : ℕ → List ℕ → List ℕ → ℕ → List ℕ → List ℕ → Type 0
HasTaken size blocks reserve cell blocks_after reserve_after =
    ((reserve ≡ cell ∷ reserve_after) × (blocks_after ≡ blocks)) ⊎ ((reserve ≡ []) × ((block : ℕ) × (blocks_after ≡ blocks ++ block ∷ []) × (block_cells size block ≡ cell ∷ reserve_after)))

module _ {F : Type 0} where
  -- the pool that a seat knows, of a table
  abbrev pub pool_id : TableId → View F → PoolId F
  pool_id id v = record { table = id; n = v.n; cells = v.cells; block = v.block; seats = v.all; fact = v.fact }

  abbrev pub seated : TableId → ℕ → View F → Seated F
  seated id left v = record { pool = pool_id id v; left = left; blocks = v.blocks; reserve = v.reserve; spare = v.spare; puts = v.puts; looks = v.looks; marks = v.marks; past = v.past }

  -- the cells that a seat has found are cells of its pool
  abbrev pub AreWithin : View F → Type 0
  AreWithin v = All (λ look. All (λ l. l.cell < v.cells) look.found) v.looks

  -- A seat has the cells from the first of these numbers up to but not including the other in reserve, at most a block
  pub record HasReserve (v : View F) (next end : ℕ) : Type 0 where
    pub reserve : v.reserve ≡ numbers next end
    pub ordered : next ≤ end
    pub most : end ≤ next + v.block
    pub within : end ≤ v.cells

  -- the seat is of this pool
  abbrev pub IsSeatOf : PoolId F → Seated F → Type 0
  IsSeatOf pool seat = seat.pool ≡ pool

  -- the entry of the node v meets the fact at its value
  abbrev pub IsMet : (F → ℕ → Entry → Type 0) → Option F → ℕ → Entry → Type 0
  IsMet fact None v e = ⊥
  IsMet fact (Some value) v e = fact value v e

  -- The seat put the entry at the node v, in a cell of the pool that it took: the chain that it saw by that has its cell first, then what others put meanwhile, and what it had seen before at the end
  pub record HasPut (before : Seated F) (v : ℕ) (e : Entry) (after : Seated F) : Type 0 where
    pub cell : ℕ
    pub blocks : List ℕ
    pub reserve : List ℕ
    pub took : HasTaken before.pool.block before.blocks before.reserve cell blocks reserve
    pub within : cell < before.pool.cells
    pub older : List Linked
    pub goes_on : IsTailOf (seen_of before.marks v) older
    pub after_is : after ≡ record before { blocks = blocks; reserve = reserve; puts = before.puts ++ record { node = v; linked = record { cell = cell; entry = e } } ∷ []; marks = record { node = v; found = record { cell = cell; entry = e } ∷ older } ∷ before.marks }

  -- The seat found this chain at the node v: what it had seen before is its end, and so is each chain that it, or a seat joined into it, found there before; what these put there stands in it; all its entries meet the fact, and it has no more cells than the pool
  pub record HasFound (fact : F → ℕ → Entry → Type 0) (pool : PoolId F) (before : Seated F) (v : ℕ) (found : List Linked) (after : Seated F) : Type 0 where
    pub goes_on : IsTailOf (seen_of before.marks v) found
    pub met : All (λ l. IsMet fact pool.fact v l.entry) found
    pub most : length found ≤ pool.cells
    pub known : All (λ look. look.node ≡ v → IsTailOf look.found found) before.looks
    pub all_put : All (Contains found) (puts_at before.puts v)
    pub after_is : after ≡ record before { looks = before.looks ++ record { node = v; found = found } ∷ []; marks = record { node = v; found = found } ∷ before.marks }

-- where the entry was put, the fact holds
abbrev pub IfPut : PoolPut → Type 0 → Type 0
IfPut IsPut P = P
IfPut (IsFull cell cells) P = Unit {0}

-- where no cell was left, the fact holds of the number that was drawn and of how many cells there are
abbrev pub IfFull : PoolPut → (ℕ → ℕ → Type 0) → Type 0
IfFull IsPut P = Unit {0}
IfFull (IsFull cell cells) P = P cell cells

-- the number past the cells, of two seats
abbrev pub first_some : Option ℕ → Option ℕ → Option ℕ
first_some None other = other
first_some (Some past) other = Some past
