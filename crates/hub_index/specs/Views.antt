-- What those who grow trees see of rows that others may write at the same time (Planting Trees, PVLDB 2019).
use Rattle.std.specs.Prelude.{◌≡◌, ◌⊎◌, ℕ, ◌≤◌, List, [], ◌∷◌, ◌++◌, Option, All, Contains}
use Rattle.walk_laws.specs.declared.entry.Entry.{Entry}
use Rattle.hub_index.specs.declared.row_view.Offer.{Offer}
use Rattle.hub_index.specs.declared.row_view.Offer.TheVariants.{Put, Covered, NoMemory}
use Rattle.hub_index.specs.RootDistances.{IsCover}

-- v is one of the nodes 1..n
pub record IsNode (n v : ℕ) : Type 0 where
  pub from_one : 1 ≤ v
  pub up_to_n : v ≤ n

-- the list stands in the row: its entries are there in the same order, and others may stand between them
abbrev pub StandsIn : List Entry → List Entry → Type 0
StandsIn [] row = Unit {0}
StandsIn (e ∷ es) [] = ⊥
StandsIn (e ∷ es) (x ∷ row) = ((x ≡ e) × StandsIn es row) ⊎ StandsIn (e ∷ es) row

-- a row that a call may find, of which a list was seen before: that list stands in it, and each of its entries keeps the fact
pub record IsFound (fact : Entry → Type 0) (before row : List Entry) : Type 0 where
  pub still : StandsIn before row
  pub met : All fact row

-- the row goes on from the list: that is its prefix
pub record GoesOnFrom (before row : List Entry) : Type 0 where
  pub more : List Entry
  pub grown : row ≡ before ++ more

-- a row that is found where entries are put only at the ends of rows: the list seen before is its prefix, and each of its entries keeps the fact
pub record IsFoundOnward (fact : Entry → Type 0) (before row : List Entry) : Type 0 where
  pub goes_on : GoesOnFrom before row
  pub met : All fact row

-- whether the answer to an offer of the entry is right of the row that was found: an entry of the row that covers it, or there is none
abbrev pub IsAnswerOf : List (Option ℕ) → List Entry → Entry → Offer → Type 0
IsAnswerOf table row e (Covered pos dist) = Contains row (record { pos = pos; dist = dist }) × IsCover table e.pos e.dist (record { pos = pos; dist = dist })
IsAnswerOf table row e Put = (c : Entry) → Contains row c → ¬ IsCover table e.pos e.dist c
IsAnswerOf table row e NoMemory = (c : Entry) → Contains row c → ¬ IsCover table e.pos e.dist c

-- the list with the entry after it where it was put
abbrev pub with_put : List Entry → Entry → Offer → List Entry
with_put entries e Put = entries ++ e ∷ []
with_put entries e (Covered pos dist) = entries
with_put entries e NoMemory = entries
