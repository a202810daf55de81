-- What each step of a seat at a pool tells.
use Rattle.std.specs.Prelude.{◌≡◌, ◌⊎◌, ℕ, ◌+◌, ◌*◌, ◌^◌, ◌<◌, ◌≤◌, Option, Some, None, List, [], ◌∷◌, ◌++◌, All, Contains, length, nat_lt, if◌then◌else◌}
use Rattle.atomic_table.specs.Table.{Step}
use Rattle.walk_laws.specs.declared.entry.Entry.{Entry}
use Rattle.table_seats.specs.Numbers.{numbers}
use Rattle.table_seats.specs.Seats.{knowing}
use Rattle.label_pool.specs.declared.rule.Filling.{Filling}
use Rattle.label_pool.specs.declared.rule.Linked.{Linked}
use Rattle.label_pool.specs.declared.rule.Look.{Look}
use Rattle.label_pool.specs.declared.rule.View.{View}
use Rattle.label_pool.specs.Chains.{named, first_cell, IsTailOf, puts_at, seen_of}
use Rattle.label_pool.specs.Fillings.{block_cells, filled, linked_of, with_next}
use Rattle.label_pool.specs.Layout.{head_at, next_at, dist_at, name_in, pos_in}
use Rattle.label_pool.specs.Lawful.{Sitter}
use Rattle.label_pool.specs.Seats.{IsMet}

-- what the load of a word tells of a cell in a chain that was found
pub record TellsCell (n word number : ℕ) (l : Linked) (ls : List Linked) : Type 0 where
  pub next : word ≡ next_at n l.cell → (name_in number ≡ named (first_cell ls)) × (name_in number ≤ 2 ^ 31) × (pos_in number ≡ l.entry.pos)
  pub dist : word ≡ dist_at n l.cell → number ≡ l.entry.dist

module _ {F : Type 0} where
  -- what a seat knows that drew the number of a block: the cells of that block are in reserve, or the first of them is past the cells
  abbrev pub with_drawn : View F → ℕ → View F
  with_drawn v number = if nat_lt (number * v.block) v.cells then record v { blocks = v.blocks ++ number ∷ []; reserve = block_cells v.block number } else record v { past = Some (number * v.block) }

  -- what a draw tells
  abbrev pub Drew : Step (Unit {0}) → Sitter F → ℕ → Sitter F → Type 0
  Drew step me number after = (after.0 ≡ knowing me.0 (with_drawn me.0.knows number)) × (after.1 ≡ me.1) × (number < 2 ^ 32)

  -- The seat has these cells in reserve, at least one and at most a block: those that it had, or where it had none those of one block more. Nothing else has changed
  pub record IsRefilled (me : Sitter F) (next end : ℕ) (after : Sitter F) : Type 0 where
    pub blocks : List ℕ
    pub drew : ((me.0.knows.reserve ≡ numbers next end) × (blocks ≡ me.0.knows.blocks))
        ⊎ ((me.0.knows.reserve ≡ []) × ((block : ℕ) × (blocks ≡ me.0.knows.blocks ++ block ∷ []) × (block_cells me.0.knows.block block ≡ numbers next end)))
    pub after_is : after ≡ (knowing me.0 (record me.0.knows { blocks = blocks; reserve = numbers next end }), me.1)
    pub some : next < end
    pub most : end ≤ next + me.0.knows.block
    pub within : end ≤ me.0.knows.cells

  -- what a seat knows whose open cell is this
  abbrev pub with_filling : View F → Option Filling → View F
  with_filling v filling = record v { filling = filling }

  -- what a fill tells
  abbrev pub FilledNext : Step (Unit {0}) → Sitter F → ℕ → Sitter F → Type 0
  FilledNext step me number after = (after.0 ≡ knowing me.0 (with_filling me.0.knows (with_next (Some step.first) me.0.knows.filling))) × (after.1 ≡ me.1)

  -- what a seat knows that opened this cell, the first of its reserve, and stored a distance there
  abbrev pub with_opened : View F → ℕ → List ℕ → ℕ → View F
  with_opened v cell rest dist = record v { reserve = rest; filling = Some (filled cell None dist) }

  -- what the opening of a cell tells
  abbrev pub Opened : Step (Unit {0}) → Sitter F → ℕ → Sitter F → Type 0
  Opened step me number after = (cell : ℕ) (rest : List ℕ) → me.0.knows.reserve ≡ cell ∷ rest → (after.0 ≡ knowing me.0 (with_opened me.0.knows cell rest step.first)) × (after.1 ≡ me.1)

  -- what a seat knows that found this chain
  abbrev pub with_look : View F → ℕ → List Linked → View F
  with_look v node found = record v { looks = v.looks ++ record { node = node; found = found } ∷ []; marks = record { node = node; found = found } ∷ v.marks }

  -- What the load of a head tells: the chain that it names, whose end is what the seat had seen and found before, and in which all stands that it put
  pub record IsFound (fact : F → ℕ → Entry → Type 0) (me : Sitter F) (v number : ℕ) (after : Sitter F) : Type 0 where
    pub found : List Linked
    pub first : number ≡ named (first_cell found)
    pub small : number ≤ 2 ^ 31
    pub most : length found ≤ me.0.knows.cells
    pub within : All (λ l. l.cell < me.0.knows.cells) found
    pub met : All (λ l. IsMet fact me.0.knows.fact v l.entry) found
    pub goes_on : IsTailOf (seen_of me.0.knows.marks v) found
    pub known : All (λ look. look.node ≡ v → IsTailOf look.found found) me.0.knows.looks
    pub all_put : All (Contains found) (puts_at me.0.knows.puts v)
    pub view : after.0 ≡ knowing me.0 (with_look me.0.knows v found)
    pub slots : after.1 ≡ me.1

  abbrev pub Found : (F → ℕ → Entry → Type 0) → Step (Unit {0}) → Sitter F → ℕ → Sitter F → Type 0
  Found fact step me number after = (v : ℕ) → step.word ≡ head_at v → IsFound fact me v number after

  -- what a seat knows that linked its open cell before this chain
  abbrev pub with_link : View F → ℕ → List Linked → View F
  with_link v node older = record v { filling = None; puts = v.puts ++ record { node = node; linked = linked_of v.filling } ∷ []; marks = record { node = node; found = linked_of v.filling ∷ older } ∷ v.marks }

  -- what a link tells where the head was the one that was expected
  pub record IsLink (me : Sitter F) (v : ℕ) (after : Sitter F) : Type 0 where
    pub older : List Linked
    pub goes_on : IsTailOf (seen_of me.0.knows.marks v) older
    pub view : after.0 ≡ knowing me.0 (with_link me.0.knows v older)
    pub slots : after.1 ≡ me.1

  -- where it was another, nothing has changed
  abbrev pub LinkedTo : Step (Unit {0}) → Sitter F → ℕ → Sitter F → Type 0
  LinkedTo step me number after = (v : ℕ) → step.word ≡ head_at v → (number ≡ step.first → IsLink me v after) × (¬ (number ≡ step.first) → after ≡ me)

  -- a load changes nothing
  abbrev pub Read : Step (Unit {0}) → Sitter F → ℕ → Sitter F → Type 0
  Read step me number after = (after ≡ me) × ((look : Look) (l : Linked) (ls : List Linked) → Contains me.0.knows.looks look → IsTailOf (l ∷ ls) look.found → TellsCell me.0.knows.n step.word number l ls)

  -- a look shows nothing of what a seat knows
  abbrev pub SeesNothing : View F → Type 0
  SeesNothing v = Unit {0}
