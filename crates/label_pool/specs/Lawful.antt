-- The rule of a pool, which holds between any two steps. A node's head names the first cell of its chain, each linked cell names the next one, and 0 is none. Cells are drawn in blocks, and one that was drawn and is not linked is its drawer's alone.
use Rattle.std.specs.Prelude.{◌≡◌, ℕ, ◌*◌, ◌^◌, ◌≤◌, Bool, true, false, Option, Some, None, List, [], ◌++◌, All, IsPermutation, flat_map, map, length, slice_index}
use Rattle.atomic_table.specs.Table.{State, Me}
use Rattle.walk_laws.specs.declared.entry.Entry.{Entry}
use Rattle.hub_index.specs.Views.{IsNode}
use Rattle.table_seats.specs.declared.seat_view.SeatView.{SeatView}
use Rattle.table_seats.specs.Seats.{Each, IsSeating, first_of}
use Rattle.table_seats.specs.Draws.{IsDrawn}
use Rattle.label_pool.specs.declared.rule.About.{About}
use Rattle.label_pool.specs.declared.rule.Linked.{Linked}
use Rattle.label_pool.specs.declared.rule.Look.{Look}
use Rattle.label_pool.specs.declared.rule.View.{View}
use Rattle.label_pool.specs.Chains.{named, first_cell, IsChain, IsWithin, IsTailOf, puts_at}
use Rattle.label_pool.specs.Fillings.{HoldsOpen, block_cells, open_cell}
use Rattle.label_pool.specs.Layout.{head_at, word_count}
use Rattle.label_pool.specs.Seats.{first_some}

-- the words, and what each seat knows
abbrev pub Table : Type 0 → Type 0
Table F = State (Unit {0}) (SeatView (View F))

abbrev pub Sitter : Type 0 → Type 0
Sitter F = Me (Unit {0}) (SeatView (View F))

abbrev pub is_some : Option ℕ → Bool
is_some None = false
is_some (Some past) = true

-- what was found at the node v is still the end of its chain
abbrev pub StillIn : ℕ → List Linked → List Look → Type 0
StillIn v chain looks = All (λ look. look.node ≡ v → IsTailOf look.found chain) looks

module _ {F : Type 0} where
  -- the blocks that a seat drew
  abbrev pub drawn_by : View F → List ℕ
  drawn_by v = v.blocks

  -- the cell that a seat has open, and those that it has in reserve
  abbrev pub at_hand : View F → List ℕ
  at_hand v = open_cell v.filling ++ v.reserve

  -- all cells that a seat got: those that it put, those at hand, and those that nobody uses
  abbrev pub got_by : View F → List ℕ
  got_by v = map (λ p. p.linked.cell) v.puts ++ (at_hand v ++ v.spare)

  abbrev pub is_past : View F → Bool
  is_past v = is_some v.past

  -- they are the cells of its blocks, each once
  abbrev pub HasGot : About F → View F → Type 0
  HasGot about v = IsPermutation (got_by v) (flat_map (block_cells about.block) v.blocks)

  -- a seat of this pool
  pub record IsSeated (about : About F) (v : View F) : Type 0 where
    pub n : v.n ≡ about.n
    pub cells : v.cells ≡ about.cells
    pub block : v.block ≡ about.block
    pub all : v.all ≡ about.seats
    pub fact : v.fact ≡ Some about.fact

  -- what a seat knows that was just split from one: whose it is, what that saw, and whether it drew past the cells
  abbrev pub given : View F → View F
  given v = record v { blocks = []; reserve = []; spare = []; filling = None; puts = []; looks = [] }

  -- what a seat knows into which another was joined
  abbrev pub both : View F → View F → View F
  both v w = record v { blocks = v.blocks ++ w.blocks; spare = v.spare ++ (w.reserve ++ w.spare); puts = v.puts ++ w.puts; looks = v.looks ++ w.looks; past = first_some v.past w.past }

  -- what a seat knows that was joined into another
  abbrev pub nothing : View F
  nothing = record { n = 0; cells = 0; block = 0; all = 0; fact = None; blocks = []; reserve = []; spare = []; filling = None; puts = []; looks = []; marks = []; past = None }

  -- what the first seat knows
  abbrev pub first_known : About F → View F
  first_known about = record { n = about.n; cells = about.cells; block = about.block; all = about.seats; fact = Some about.fact; blocks = []; reserve = []; spare = []; filling = None; puts = []; looks = []; marks = []; past = None }

  abbrev pub first_view : About F → SeatView (View F)
  first_view about = first_of about.seats (first_known about)

  -- The chain of the node v: its head names the first cell, and from there each names the next. Its cells are those that all seats put there, each once, and each entry meets the fact. What a seat found there is still its end
  pub record IsChainOf (fact : F → ℕ → Entry → Type 0) (about : About F) (s : Table F) (v : ℕ) (chain : List Linked) : Type 0 where
    pub head : slice_index s.words (head_at v) ≡ named (first_cell chain)
    pub linked : IsChain about.n s.words chain
    pub within : All (IsWithin about.cells) chain
    pub met : All (λ l. fact about.fact v l.entry) chain
    pub each_once : IsPermutation (flat_map (λ seat. puts_at seat.knows.puts v) s.views) chain
    pub found : Each (λ seat. StillIn v chain seat.knows.looks) s.views
    pub seen : Each (λ seat. StillIn v chain seat.knows.marks) s.views

  -- What holds of the words and the seats
  pub record IsLawful (fact : F → ℕ → Entry → Type 0) (about : About F) (s : Table F) : Type 0 where
    -- the seats, with those that may still be split from them, are as many as the pool has, and all are of this pool
    pub seating : IsSeating about.seats (IsSeated about) nothing s.views
    -- the blocks that they drew are those from 0 up to but not including the lesser of the counter and the number of blocks, each once
    pub drawn : IsDrawn drawn_by is_past 0 about.blocks about.seats (slice_index s.words 0) s.views
    -- and the cells that each got are those of its blocks
    pub got : Each (λ seat. HasGot about seat.knows) s.views
    pub blocked : about.cells ≡ about.blocks * about.block
    pub limits : (about.n ≤ 2 ^ 30) × (about.cells ≤ 2 ^ 31) × (1 ≤ about.block)
    pub words : length s.words ≡ word_count about.n about.cells
    -- the cell that a seat has opened and not linked holds what it stored there
    pub filled : Each (λ seat. HoldsOpen about.n about.cells s.words seat.knows.filling) s.views
    -- what a seat has found it found at a node
    pub noded : Each (λ seat. All (λ look. IsNode about.n look.node) seat.knows.looks) s.views
    -- each node has a chain
    pub chains : (v : ℕ) → IsNode about.n v → (chain : List Linked) × IsChainOf fact about s v chain
