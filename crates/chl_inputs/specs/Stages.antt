-- A stage of a command: what it reads and works out in turn, what the files decide of it, and how a call may go that carries
-- it out.
use Rattle.std.specs.Prelude.{◌≡◌, ◌⊎◌, ℕ, List, [], ◌++◌, length, ◌≤◌, Some, None, Result, Ok, Err, IfErr}
use Rattle.std.specs.FinMap as finite_map
use Rattle.desk_io.specs.Contents.{Contents, Files, Tells, opened}
use Rattle.desk_io.specs.Counts.{Rises}
use Rattle.desk_io.specs.Reading.{piece_limit}
use Rattle.desk_io.specs.declared.desk.Desk.{Ghosts}
use Rattle.chl_inputs.specs.Inputs.{Input, value_at}
use Rattle.chl_inputs.specs.Stops.{HasMemoryOnce, MayStop}
use Rattle.chl_inputs.specs.declared.stop.Stop.{Stop}
use Rattle.chl_inputs.specs.declared.stop.Stop.TheVariants.{ReadFailed, NoMemory}

-- a stage comes to an answer; or it works out something of which this holds, and goes on with it; or it reads an input, and
-- goes on with its value
pub data Stage (V : Type 0) : Type 1 where
  Comes : Result V Stop → Stage V
  Works : {U : Type 0} → (U → Type 0) → (U → Stage V) → Stage V
  Reads : {U : Type 0} → Input U → (U → Stage V) → Stage V

-- the reading of one input
abbrev pub reading : {V : Type 0} → Input V → Stage V
reading input = Reads input (λ value. Comes (Ok value))

-- a stage after what a stage comes to
abbrev pub with_answer : {U V : Type 0} → Result U Stop → (U → Stage V) → Stage V
with_answer (Ok value) next = next value
with_answer (Err stop) next = Comes (Err stop)

-- two stages in turn
abbrev pub in_turn : {U V : Type 0} → Stage U → (U → Stage V) → Stage V
in_turn (Comes answer) next = with_answer answer next
in_turn (Works P first) next = Works P (λ u. in_turn (first u) next)
in_turn (Reads input first) next = Reads input (λ u. in_turn (first u) next)

-- ---- what the files decide

-- what is decided after an input: where the command stops there, that; else what its value leads to
abbrev pub After : {U V : Type 0} → Result U Stop → Result V Stop → (U → Type 0) → Type 0
After (Ok value) answer Next = Next value
After (Err stop) answer Next = answer ≡ Err stop

-- what the files decide of a stage
abbrev pub Decided : {V : Type 0} → Stage V → Files → Result V Stop → Type 0
Decided (Comes is) files answer = answer ≡ is
Decided (Works {U} P next) files answer = (u : U) × P u × Decided (next u) files answer
Decided (Reads input next) files answer = After (value_at input files) answer (λ u. Decided (next u) files answer)

-- ---- what a call does to its desk

-- The input was opened and read in part, and nothing else has changed. Before the last piece of what was read no line or
-- field is at fault.
pub record ReadsPart {V : Type 0} (input : Input V) (a b : Contents) : Type 0 where
  pub prefix : List ℕ
  pub piece : List ℕ
  pub file : finite_map.get a.files input.name ≡ Some (prefix ++ (piece ++ b.rest))
  pub faultless : input.plain prefix ≡ None
  pub short : length piece ≤ piece_limit
  pub opens : b ≡ opened input.name b.rest a

-- a stop for which an input need not be opened
abbrev pub MayBeUnopened : Stop → Type 0
MayBeUnopened stop = (stop ≡ ReadFailed) ⊎ (stop ≡ NoMemory)

-- the command stops at an input, which is the last one opened
abbrev pub StopsThere : {V : Type 0} → Input V → Stop → Contents → Contents → Type 0
StopsThere input stop a b =
    MayStop a.steady stop (value_at input a.files ≡ Err stop) × ((MayBeUnopened stop × (b ≡ a)) ⊎ ReadsPart input a b)

-- How the desk may stand after a stage with this answer: each input that it had a value of was opened and read to its end, in
-- turn, and where it stopped at one that is the last one opened; memory may run out anywhere. Nothing else has changed.
abbrev pub Conformed : {V : Type 0} → Stage V → Result V Stop → Contents → Contents → Type 0
Conformed (Comes is) answer a b = ((answer ≡ is) ⊎ (answer ≡ Err NoMemory)) × (b ≡ a)
Conformed (Works {U} P next) answer a b =
    ((answer ≡ Err NoMemory) × (b ≡ a))
    ⊎ ((u : U) × P u × Conformed (next u) answer a b)
Conformed (Reads {U} input next) answer a b =
    ((stop : Stop) × (answer ≡ Err stop) × StopsThere input stop a b)
    ⊎ ((u : U) × (value_at input a.files ≡ Ok u) × Conformed (next u) answer (opened input.name [] a) b)

-- the same of a stage that had all its values
abbrev pub ReadsAll : {V : Type 0} → Stage V → Contents → Contents → Type 0
ReadsAll (Comes is) a b = b ≡ a
ReadsAll (Works {U} P next) a b = (u : U) × P u × ReadsAll (next u) a b
ReadsAll (Reads {U} input next) a b = (u : U) × (value_at input a.files ≡ Ok u) × ReadsAll (next u) (opened input.name [] a) b

-- and of one that may have ended anywhere
abbrev pub OpensInOrder : {V : Type 0} → Stage V → Contents → Contents → Type 0
OpensInOrder (Comes is) a b = b ≡ a
OpensInOrder (Works {U} P next) a b = (b ≡ a) ⊎ ((u : U) × P u × OpensInOrder (next u) a b)
OpensInOrder (Reads {U} input next) a b =
    (b ≡ a)
    ⊎ ReadsPart input a b
    ⊎ ((u : U) × (value_at input a.files ≡ Ok u) × OpensInOrder (next u) (opened input.name [] a) b)

-- what a stage does to the count of failed calls of the input: it has risen where one failed, and else stays
abbrev pub CountsStop : {V : Type 0} → Result V Stop → ℕ → ℕ → Type 0
CountsStop (Err ReadFailed) old new = Rises old new
CountsStop answer old new = new ≡ old

-- How a call may go that carries out a stage: what it does to what the desk tells; it creates no file; what it does to the
-- two counts; and it carries no reader's want of memory.
pub record Conforms {D V : Type 0} (desk : Ghosts D) (stage : Stage V) (answer : Result V Stop) (old new : D) : Type 0 where
  pub told : Tells (desk.told old) (desk.told new) (Conformed stage answer)
  pub no_file : desk.is_created new ≡ desk.is_created old
  pub input_count : CountsStop answer (desk.input_faults old) (desk.input_faults new)
  pub output_count : desk.output_faults new ≡ desk.output_faults old
  pub memory_once : IfErr answer HasMemoryOnce
