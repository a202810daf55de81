-- What the code answers where the judgement is as defined.
use Rattle.std.specs.Prelude.{◌≡◌, ◌⊎◌, ℕ, List, [], ◌++◌, is_some, if◌then◌else◌, Result, Ok, Err}
use Rattle.walk_laws.specs.declared.entry.Entry.{Entry}
use Rattle.index_file.specs.declared.fault.IndexFault.{IndexFault}
use Rattle.index_file.specs.declared.fault.IndexFault.TheVariants.{NoMemory}
use Rattle.index_file.specs.declared.next.Next.TheVariants.{Node, Count, Position, Via}
use Rattle.index_file.specs.Parts.{Names, ReadRows, Part}
use Rattle.index_file.specs.Judging.{Reached, fed}

-- the answer is as defined, or there was no memory for it
abbrev pub Gives : {X : Type 0} → Result X IndexFault → Result X IndexFault → Type 0
Gives (Ok x) defined = defined ≡ Ok x
Gives (Err e) defined = (e ≡ NoMemory) ⊎ (defined ≡ Err e)

-- the answer to a piece, where a reading stands after it
abbrev pub answer_of : Result Reached IndexFault → Result (Unit {0}) IndexFault
answer_of (Ok p) = Ok tt
answer_of (Err e) = Err e

-- at a node of the order, at the number of entries of a row, and at a position of a row
abbrev pub at_node : Names → ℕ → Reached
at_node names at = record { next = Node names; held = []; at = at }

abbrev pub at_count : ReadRows → ℕ → Reached
at_count done at = record { next = Count done; held = []; at = at }

abbrev pub at_position : ReadRows → Part → ℕ → Reached
at_position done part at = record { next = Position done part; held = []; at = at }

-- and at a via
abbrev pub at_via : ReadRows → Part → Entry → ℕ → Reached
at_via done part e at = record { next = Via done part e; held = []; at = at }

-- how many bytes an entry has, with its via where the index has such
abbrev pub entry_width : ReadRows → ℕ
entry_width done = if is_some done.vias then 16 else 12

-- some bytes were taken from the start of these, and led so far; the others are left
pub record Takes (old : Reached) (bytes : List ℕ) (new : Reached) (left : List ℕ) : Type 0 where
  pub taken : List ℕ
  pub parts : bytes ≡ taken ++ left
  pub leads : fed (Ok old) taken ≡ Ok new

-- why bytes may be refused: no memory, or their first fault
abbrev pub Refuses : Reached → List ℕ → IndexFault → Type 0
Refuses old bytes e = (e ≡ NoMemory) ⊎ (fed (Ok old) bytes ≡ Err e)
