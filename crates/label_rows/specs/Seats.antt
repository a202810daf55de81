-- What contracts see of rows and of their seats.
use Rattle.std.specs.Prelude.{◌≡◌, ℕ, List, [], ◌∷◌, ◌++◌}
use Rattle.atomic_table.specs.Seated.{TableId}
use Rattle.walk_laws.specs.declared.graph.Edge.{Edge}
use Rattle.label_rows.specs.declared.rule.Visit.{Visit}
use Rattle.label_rows.specs.declared.rule.View.{View}

-- Rows: their table, which no others have, the edges of their graph, its nodes by falling rank, and how many seats there are
pub record RowsId : Type 0 where
  pub table : TableId
  pub edges : List Edge
  pub order : List ℕ
  pub seats : ℕ

-- the rows of a table that a seat knows
abbrev pub rows_id : TableId → View → RowsId
rows_id id seat = record { table = id; edges = seat.edges; order = seat.order; seats = seat.all }

-- A seat: whose it is, how many seats may still be split from it, and its visits, with those of the seats that were joined into it
pub record Seated : Type 0 where
  pub rows : RowsId
  pub left : ℕ
  pub visits : List Visit

-- the seat is of these rows
abbrev pub IsSeatOf : RowsId → Seated → Type 0
IsSeatOf rows seat = seat.rows ≡ rows

-- the seat after one more visit
abbrev pub with_visit : Seated → Visit → Seated
with_visit seat visit = record seat { visits = seat.visits ++ visit ∷ [] }

-- what no visit changes of a seat: whose it is, and how many seats may still be split from it
pub record HandKept : Type 0 where
  pub rows : RowsId
  pub left : ℕ

abbrev pub hand_kept : Seated → HandKept
hand_kept seat = record { rows = seat.rows; left = seat.left }
