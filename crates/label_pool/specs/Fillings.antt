-- Cells that were drawn and are not linked yet, and what was stored in their words.
use Rattle.std.specs.List.{range_with_len}
use Rattle.std.specs.Prelude.{◌≡◌, ℕ, ◌*◌, ◌<◌, Option, Some, None, List, [], ◌∷◌, slice_index}
use Rattle.label_pool.specs.declared.rule.Filling.{Filling}
use Rattle.label_pool.specs.declared.rule.Linked.{Linked}
use Rattle.label_pool.specs.Layout.{next_at, dist_at, pos_in}

-- a word holds what was stored there, if anything was
abbrev pub IsFilled : Option ℕ → ℕ → Type 0
IsFilled None word = Unit {0}
IsFilled (Some stored) word = word ≡ stored

-- the cell is one of so many, and its words hold what was stored in them
pub record HoldsFilling (n cells : ℕ) (words : List ℕ) (f : Filling) : Type 0 where
  pub below : f.cell < cells
  pub next : IsFilled f.next (slice_index words (next_at n f.cell))
  pub dist : IsFilled f.dist (slice_index words (dist_at n f.cell))

abbrev pub HoldsOpen : ℕ → ℕ → List ℕ → Option Filling → Type 0
HoldsOpen n cells words None = Unit {0}
HoldsOpen n cells words (Some f) = HoldsFilling n cells words f

abbrev pub open_cell : Option Filling → List ℕ
open_cell None = []
open_cell (Some f) = f.cell ∷ []

abbrev pub stored_or_0 : Option ℕ → ℕ
stored_or_0 None = 0
stored_or_0 (Some stored) = stored

-- a drawn cell with the entry that was stored in it
abbrev pub linked_of : Option Filling → Linked
linked_of None = record { cell = 0; entry = record { pos = 0; dist = 0 } }
linked_of (Some f) = record { cell = f.cell; entry = record { pos = pos_in (stored_or_0 f.next); dist = stored_or_0 f.dist } }

-- the cells of a block, a number from 0, of so many cells each
abbrev pub block_cells : ℕ → ℕ → List ℕ
block_cells size block = range_with_len (block * size) size

-- a cell in which a distance was stored, and maybe a word with the name of a next cell and a position
abbrev pub filled : ℕ → Option ℕ → ℕ → Filling
filled cell next dist = record { cell = cell; next = next; dist = Some dist }

-- the open cell, with the word of its next and its position stored
abbrev pub with_next : Option ℕ → Option Filling → Option Filling
with_next x None = None
with_next x (Some f) = Some (record f { next = x })
