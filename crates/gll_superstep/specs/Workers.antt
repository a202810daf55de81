-- The workers of a superstep: what each takes, and what each hands back.
use Rattle.std.specs.Prelude.{◌≡◌, ◌⊎◌, ℕ, ◌+◌, ◌*◌, ◌≤◌, true, false, List, Option, Result, [], None, Some, All, IfOk, length}
use Rattle.std.specs.declared.alloc.AllocError.{AllocError}
use Rattle.walk_laws.specs.declared.graph.Edge.{Edge}
use Rattle.walk_laws.specs.declared.entry.Entry.{Entry}
use Rattle.hub_index.specs.declared.node_entry.NodeEntry.{NodeEntry}
use Rattle.hub_index.specs.NodeEntries.{entries_of_node}
use Rattle.hub_index.specs.Views.{IsNode}
use Rattle.root_claims.specs.Seats.{Claimed, ClaimsId, IsSeatOf as IsClaimSeatOf, from}
use Rattle.label_pool.specs.Seats.{PoolId, IsSeatOf, Seated}
use Rattle.label_clean.specs.Needless.{IsNeedless}
use Rattle.pool_view.specs.Fitting.{Fitting, IsFittingPool, edges_of, order_of}
use Rattle.pool_view.specs.Putting.{IsListOf}
use Rattle.gll_table.specs.Outputs.{IsOutput, IsPutBy, Output, all_roots}
use Rattle.gll_table.specs.Tables.{ShardedTable}
use Rattle.gll_superstep.specs.declared.growing.Seats.{Seats}

-- what contracts see of a superstep
pub record SuperstepView : Type 0 where
  pub table : ShardedTable
  pub claims : ClaimsId
  pub pool : PoolId Fitting

-- the seats are of these claims and this pool, and so many may still be split from each
pub record AreSeatsOf (claims : ClaimsId) (pool : PoolId Fitting) (left : ℕ) (seats : Seats) : Type 0 where
  pub claim_seat : IsClaimSeatOf claims seats.claims
  pub pool_seat : IsSeatOf pool seats.pool
  pub claim_left : seats.claims.left ≡ left
  pub pool_left : seats.pool.left ≡ left

-- the seat is that of all workers, and nobody has claimed a root from that position on, where one is left
pub record IsFirstSeat (claims : ClaimsId) (first : ℕ) (seat : Claimed) : Type 0 where
  pub seat_is : IsClaimSeatOf (from first claims) seat
  pub all : seat.left + 1 ≡ claims.seats
  pub got : seat.got ≡ []
  pub over : seat.over ≡ true → first ≡ claims.n

-- some root was claimed with the seat, or none was left
abbrev pub HasBegun : Claimed → Type 0
HasBegun seat = (seat.over ≡ true) ⊎ (1 ≤ length seat.got)

-- the output is what trees put over the table up to that position, and the seat has got their roots, of which there is one unless none was left
pub record IsGrownWith (edges : List Edge) (at : List ℕ) (shift : ℕ) (claims : ClaimsId) (first : ℕ) (seat : Claimed) (output : Output) : Type 0 where
  pub seat_is : IsClaimSeatOf (from first claims) seat
  pub left : seat.left ≡ 0
  pub begun : HasBegun seat
  pub got : seat.got ≡ output.roots
  pub first_is : output.first ≡ first
  pub is : IsOutput edges at shift output

-- the outputs are over the table up to that position, and the seat, which was joined from theirs, has got all their roots
pub record AreJoined (edges : List Edge) (at : List ℕ) (shift : ℕ) (claims : ClaimsId) (first : ℕ) (seat : Claimed) (outputs : List Output) : Type 0 where
  pub seat_is : IsClaimSeatOf (from first claims) seat
  pub count : seat.left + 1 ≡ length outputs
  pub got : seat.got ≡ all_roots outputs
  pub over : All (λ o. o.first ≡ first) outputs
  pub are : All (IsOutput edges at shift) outputs

-- what was joined so far
abbrev pub so_far : Option (List Output) → List Output
so_far None = []
so_far (Some outputs) = outputs

-- nothing was done with the seats yet
pub record AreNew (seats : Seats) : Type 0 where
  pub over : seats.claims.over ≡ false
  pub got : seats.claims.got ≡ []
  pub puts : seats.pool.puts ≡ []
  pub past : seats.pool.past ≡ None
  pub seen : (seats.pool.looks ≡ []) × (seats.pool.marks ≡ [])

-- the pool is of the nodes of this graph under this ranking, its entries may stand in their rows, and each seat can draw a block
pub record IsPoolOf (edges : List Edge) (order : List ℕ) (pool : PoolId Fitting) : Type 0 where
  pub fitting : IsFittingPool pool
  pub edges_are : edges_of pool.fact ≡ edges
  pub order_is : order_of pool.fact ≡ order
  pub each : pool.seats * pool.block ≤ pool.cells

-- such a pool, and its first seat, with which nothing was done, and from which those of all workers may be split
pub record IsNextPool (edges : List Edge) (order : List ℕ) (workers : ℕ) (pool : PoolId Fitting) (seat : Seated Fitting) : Type 0 where
  pub pool_is : IsPoolOf edges order pool
  pub seat_is : IsSeatOf pool seat
  pub left : seat.left + 1 ≡ workers
  pub puts : seat.puts ≡ []
  pub past : seat.past ≡ None
  pub seen : (seat.looks ≡ []) × (seat.marks ≡ [])

-- the global rows of the hub of each entry and of the node v cover none
abbrev pub AreUncovered : List ℕ → List (List Entry) → ℕ → List Entry → Type 0
AreUncovered at global v entries = All (λ e. ¬ IsNeedless at global v e) entries

-- where they cover nothing that was put before, they cover nothing that was put by then
abbrev pub StayUncovered : List ℕ → List (List Entry) → (ℕ → List Entry) → (ℕ → List Entry) → Type 0
StayUncovered at global before after = (v : ℕ) → IsNode (length at) v → AreUncovered at global v (before v) → AreUncovered at global v (after v)

-- the list is what the trees of these roots put, and this global table covers none of it
pub record HavePut (edges : List Edge) (at : List ℕ) (global : List (List Entry)) (roots : List ℕ) (list : List NodeEntry) : Type 0 where
  pub nodes : All (λ e. IsNode (length at) e.node) list
  pub put : (v : ℕ) → IsNode (length at) v → IsPutBy edges at roots v (entries_of_node list v)
  pub apart : (v : ℕ) → IsNode (length at) v → AreUncovered at global v (entries_of_node list v)

-- some root was claimed with the seats, or none was left; the list is of the ranking's nodes, and at each has what its seat put in the superstep's pool, where all workers see it, and after that what it kept, as there was no room for it; and where memory sufficed the trees of all roots that were claimed are grown over the global table, the list is what they put, and the roots are listed
pub record IsDone (edges : List Edge) (at : List ℕ) (pool : PoolId Fitting) (global : List (List Entry)) (seats : Seats) (list : List NodeEntry) (listed : List ℕ) (memory : Result (Unit {0}) AllocError) : Type 0 where
  pub begun : HasBegun seats.claims
  pub nodes : All (λ e. IsNode (length at) e.node) list
  pub seat : IsSeatOf pool seats.pool
  pub puts : IsListOf seats.pool list
  pub sufficed : IfOk memory (λ _. HavePut edges at global seats.claims.got list)
  pub roots : IfOk memory (λ _. listed ≡ seats.claims.got)
