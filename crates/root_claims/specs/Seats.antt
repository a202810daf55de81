-- What contracts see of claims and of their seats.
use Rattle.std.specs.Prelude.{◌≡◌, ℕ, Bool, List}
use Rattle.atomic_table.specs.Seated.{TableId}
use Rattle.root_claims.specs.declared.rule.Bounds.{Bounds}

-- Claims: their table, which no others have, the number from which on they are drawn, the number at which they end, and how many seats there are
pub record ClaimsId : Type 0 where
  pub table : TableId
  pub first : ℕ
  pub n : ℕ
  pub seats : ℕ

-- the claims of a table
abbrev pub claims_id : TableId → Bounds → ClaimsId
claims_id id about = record { table = id; first = about.first; n = about.n; seats = about.seats }

-- A seat: whose it is, how many seats may still be split from it, the numbers that it got, and whether it is over
pub record Claimed : Type 0 where
  pub claims : ClaimsId
  pub left : ℕ
  pub got : List ℕ
  pub over : Bool

-- these claims, drawn from another number on
abbrev pub from : ℕ → ClaimsId → ClaimsId
from first claims = record { table = claims.table; first = first; n = claims.n; seats = claims.seats }

-- the seat is of these claims, drawn from that number on
abbrev pub IsSeatOf : ClaimsId → Claimed → Type 0
IsSeatOf claims seat = seat.claims ≡ claims

-- the seat is at the table of these claims, whichever number they are drawn from
abbrev pub IsSeatAt : ClaimsId → Claimed → Type 0
IsSeatAt claims seat = (seat.claims.table ≡ claims.table) × (seat.claims.n ≡ claims.n) × (seat.claims.seats ≡ claims.seats)
