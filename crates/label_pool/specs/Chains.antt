-- Chains of cells with their entries, newest first, and what seats found and put at nodes.
use Rattle.std.specs.Prelude.{◌≡◌, ℕ, ◌+◌, ◌^◌, ◌<◌, ◌≤◌, Option, Some, None, List, [], ◌∷◌, ◌++◌, All, Contains, map, filter, length, nat_eq, slice_index, if◌then◌else◌}
use Rattle.walk_laws.specs.declared.entry.Entry.{Entry}
use Rattle.label_pool.specs.declared.rule.Linked.{Linked}
use Rattle.label_pool.specs.declared.rule.Look.{Look}
use Rattle.label_pool.specs.declared.rule.Put.{Put}
use Rattle.label_pool.specs.Layout.{head_at, next_at, dist_at, name_in, pos_in}

-- the word that names a cell, and 0 for none
abbrev pub named : Option ℕ → ℕ
named None = 0
named (Some cell) = cell + 1

abbrev pub first_cell : List Linked → Option ℕ
first_cell [] = None
first_cell (l ∷ ls) = Some l.cell

-- the words of a cell hold its entry and the name of the next cell
pub record HoldsCell (n : ℕ) (words : List ℕ) (l : Linked) (name : ℕ) : Type 0 where
  pub next : name_in (slice_index words (next_at n l.cell)) ≡ name
  pub pos : pos_in (slice_index words (next_at n l.cell)) ≡ l.entry.pos
  pub dist : slice_index words (dist_at n l.cell) ≡ l.entry.dist

-- from the first cell on, each leads to the next
abbrev pub IsChain : ℕ → List ℕ → List Linked → Type 0
IsChain n words [] = Unit {0}
IsChain n words (l ∷ ls) = HoldsCell n words l (named (first_cell ls)) × IsChain n words ls

-- a cell is one of so many, and its position is one
pub record IsWithin (cells : ℕ) (l : Linked) : Type 0 where
  pub cell : l.cell < cells
  pub pos : l.entry.pos < 2 ^ 32

-- what the words say of the node v: its head names the first cell of this chain, which has no more cells than there are
pub record IsWritten (n cells : ℕ) (words : List ℕ) (v : ℕ) (chain : List Linked) : Type 0 where
  pub head : slice_index words (head_at v) ≡ named (first_cell chain)
  pub linked : IsChain n words chain
  pub within : All (IsWithin cells) chain
  pub most : length chain ≤ cells

-- the entries of a chain, newest first
abbrev pub entries_of : List Linked → List Entry
entries_of = map (λ l. l.entry)

-- the one chain is the end of the other
pub record IsTailOf (tail whole : List Linked) : Type 0 where
  pub prefix : List Linked
  pub parted : whole ≡ prefix ++ tail

-- the entries of the chain, newest first, are the end of the row
pub record EndsIn (row : List Entry) (chain : List Linked) : Type 0 where
  pub newer : List Entry
  pub parted : row ≡ newer ++ entries_of chain

-- the chain of the node v as it was last seen, by the last of these marks, which come newest first
abbrev pub seen_of : List Look → ℕ → List Linked
seen_of [] v = []
seen_of (m ∷ ms) v = if nat_eq m.node v then m.found else seen_of ms v

-- what was linked at the node v, in order
abbrev pub puts_at : List Put → ℕ → List Linked
puts_at puts v = map (λ p. p.linked) (filter (λ p. nat_eq p.node v) puts)

-- the entries that were put there, in order
abbrev pub entries_at : List Put → ℕ → List Entry
entries_at puts v = entries_of (puts_at puts v)

-- a walk that stands at this cell, or at the end, has this to give: it is the end of what a look found
pub record IsRest (looks : List Look) (at : Option ℕ) (rest : List Linked) : Type 0 where
  pub look : Look
  pub there : Contains looks look
  pub tail : IsTailOf rest look.found
  pub at_first : at ≡ first_cell rest

-- what a walk gives that has this to give, and where it stands then
abbrev pub IsNext : List Look → List Linked → Option Entry → Option ℕ → Type 0
IsNext looks [] given at = (given ≡ None) × IsRest looks at []
IsNext looks (l ∷ ls) given at = (given ≡ Some l.entry) × IsRest looks at ls
