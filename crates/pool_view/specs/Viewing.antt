-- What one worker sees of the rows of a superstep (Planting Trees, PVLDB 2019), and what its calls change.
use Rattle.std.specs.Prelude.{◌≡◌, ◌≢◌, ◌⊎◌, ℕ, ◌^◌, ◌≤◌, Bool, true, false, List, [], ◌++◌, All, Contains, None, Some, Option, length, reverse}
use Rattle.walk_laws.specs.declared.entry.Entry.{Entry}
use Rattle.walk_laws.specs.Joined.{Joined}
use Rattle.walk_laws.specs.Labelling.{EntryFits, label_row}
use Rattle.hub_index.specs.HubIndex.{with_entry}
use Rattle.hub_index.specs.PlainRows.{IsGathered}
use Rattle.hub_index.specs.NodeEntries.{entries_of_node}
use Rattle.hub_index.specs.declared.node_entry.NodeEntry.{NodeEntry}
use Rattle.hub_index.specs.RootDistances.{IsCover}
use Rattle.hub_index.specs.Views.{IsNode, IsFound, IsAnswerOf, with_put}
use Rattle.hub_index.specs.declared.row_view.Offer.{Offer}
use Rattle.hub_index.specs.declared.row_view.Offer.TheVariants.{Put as IsPut, Covered, NoMemory}
use Rattle.label_pool.specs.declared.rule.Linked.{Linked}
use Rattle.label_pool.specs.Chains.{entries_of}
use Rattle.label_pool.specs.Seats.{PoolId, Seated, HasPut, HasFound}
use Rattle.pool_view.specs.Fitting.{Fitting, MayStand, edges_of, order_of, IsFittingPool}
use Rattle.pool_view.specs.Putting.{AreFar, Putting, listed}
use Rattle.pool_view.specs.Seen.{IsSeen, seen_chain}

-- A worker at the rows: its seat at the pool, the rows of the global table, its own rows, and the list of what it put
pub record Viewing : Type 0 where
  pub seat : Seated Fitting
  pub global : List (List Entry)
  pub own : List (List Entry)
  pub list : List NodeEntry

-- the whole row of the node v where the pool has this chain there: the global row, the chain with the oldest entry first, and the worker's own row
abbrev pub whole_row : Viewing → List Linked → ℕ → List Entry
whole_row view chain v = label_row view.global v ++ reverse (entries_of chain) ++ label_row view.own v

-- the row of v as it was last seen: the global row, what was seen of the chain with the oldest entry first, and the worker's own row
abbrev pub seen_row : Viewing → ℕ → List Entry
seen_row view v = label_row view.global v ++ reverse (seen_chain view.seat.looks view.seat.marks v) ++ label_row view.own v

-- what the worker put in the row of v: in the pool, and then in its own row
abbrev pub puts_row : Viewing → ℕ → List Entry
puts_row view v = entries_of_node view.list v

-- what no call changes: whose rows these are, how many seats may still be split, and the global table
pub record ViewKept : Type 0 where
  pub pool : PoolId Fitting
  pub left : ℕ
  pub global : List (List Entry)

abbrev pub view_kept : Viewing → ViewKept
view_kept view = record { pool = view.seat.pool; left = view.seat.left; global = view.global }

-- the entry may stand in the row of the node v
abbrev pub fact_of : Viewing → ℕ → Entry → Type 0
fact_of view v e = EntryFits (Joined (edges_of view.seat.pool.fact)) (order_of view.seat.pool.fact) v e

-- the entries of the global table and of the own rows of a worker may stand there, what it saw of chains is right, and what it put is of nodes
pub record IsViewing (view : Viewing) : Type 0 where
  pub pool : IsFittingPool view.seat.pool
  pub global : IsGathered (edges_of view.seat.pool.fact) (order_of view.seat.pool.fact) view.global
  pub own : IsGathered (edges_of view.seat.pool.fact) (order_of view.seat.pool.fact) view.own
  pub seen : (v : ℕ) → IsSeen (fact_of view v) view.seat.looks view.seat.marks v
  pub nodes : All (λ e. IsNode (length (order_of view.seat.pool.fact)) e.node) view.list

-- as long as the seat has not drawn past the last cell, what is kept at a node begins with an entry too far for a cell
abbrev pub IsOpen : Bool → Seated Fitting → Putting → Type 0
IsOpen false seat puts = (seat.past ≡ None) × AreFar puts.kept
IsOpen true seat puts = (cell : ℕ) × (seat.past ≡ Some cell)

-- a visit of v that finds this chain
abbrev pub HasVisited : Viewing → ℕ → List Linked → Viewing → Type 0
HasVisited before v found after = HasFound MayStand before.seat.pool before.seat v found after.seat × (after ≡ record before { seat = after.seat })

-- the entry was put in the pool, by a worker that has no row of its own there
pub record IsInPool (before : Viewing) (v : ℕ) (e : Entry) (after : Viewing) : Type 0 where
  pub put : HasPut before.seat v e after.seat
  pub none_own : label_row before.own v ≡ []
  pub same : after ≡ record before { seat = after.seat }

-- the seat has drawn past the last cell, and nothing else has changed
abbrev pub IsPast : Viewing → Viewing → Type 0
IsPast before after = (cell : ℕ) × (after ≡ record before { seat = record before.seat { past = Some cell } })

-- an entry at this distance is one for the own row, where the number past the cells is this: the seat has drawn past the last cell, or a cell has no room for the distance, or the own row has entries, and what is put later comes last
abbrev pub IsForOwn : Viewing → ℕ → ℕ → Option ℕ → Type 0
IsForOwn view v dist past = ((cell : ℕ) × (past ≡ Some cell)) ⊎ ((past ≡ view.seat.past) × ((2 ^ 64 ≤ dist) ⊎ (label_row view.own v ≢ [])))

-- the entry was put in the worker's own row, for which the seat may have drawn past the last cell
pub record IsInOwn (before : Viewing) (v : ℕ) (e : Entry) (after : Viewing) : Type 0 where
  pub within : v ≤ length before.own
  pub past : Option ℕ
  pub for_own : IsForOwn before v e.dist past
  pub same : after ≡ record before { seat = record before.seat { past = past }; own = with_entry before.own v e }

-- the entry was put in the one or in the other
abbrev pub IsPlaced : Viewing → ℕ → Entry → Viewing → Type 0
IsPlaced before v e after = IsInPool before v e after ⊎ IsInOwn before v e after

-- the entry was put in the one or in the other, and listed
abbrev pub HasGained : Viewing → ℕ → Entry → Viewing → Type 0
HasGained before v e after = IsPlaced (record before { list = listed before.list v e }) v e after

-- what an offer changes after its visit: nothing where an entry covers; the entry is put in the pool, or in the worker's own row, and listed; where that finds no memory nothing is gained
abbrev pub IsAfter : Viewing → ℕ → Entry → Offer → Viewing → Type 0
IsAfter before v e IsPut after = HasGained before v e after
IsAfter before v e (Covered pos dist) after = after ≡ before
IsAfter before v e NoMemory after = (after ≡ before) ⊎ IsPast before after

-- an offer that an entry of the global row covers: it is answered by that entry, the row found is the list seen before, and nothing has changed
pub record IsOfferedToGlobal (table : List (Option ℕ)) (before : Viewing) (v : ℕ) (e : Entry) (answer : Offer) (after : Viewing) : Type 0 where
  pub cover : Entry
  pub there : Contains (label_row before.global v) cover
  pub covers : IsCover table e.pos e.dist cover
  pub answer_is : answer ≡ Covered cover.pos cover.dist
  pub row : IsFound (fact_of before v) (seen_row before v) (seen_row before v)
  pub same : after ≡ before

-- an offer that went to the pool by one visit: no entry of the global row covers, the answer is right of the whole row that was found, and the list seen is then that row, with the entry after it where it was put
pub record IsOfferedToAll (table : List (Option ℕ)) (before : Viewing) (v : ℕ) (e : Entry) (answer : Offer) (after : Viewing) : Type 0 where
  pub uncovered : All (λ c. ¬ IsCover table e.pos e.dist c) (label_row before.global v)
  pub found : List Linked
  pub visited : Viewing
  pub visit : HasVisited before v found visited
  pub row : IsFound (fact_of before v) (seen_row before v) (whole_row before found v)
  pub answer_is : IsAnswerOf table (whole_row before found v) e answer
  pub after_is : IsAfter visited v e answer after
  pub seen : seen_row after v ≡ with_put (whole_row before found v) e answer
