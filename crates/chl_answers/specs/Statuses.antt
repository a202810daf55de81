-- The exit statuses.
use Rattle.std.specs.Prelude.{◌≡◌, ◌≢◌, ℕ, List, Result, Ok, Err}
use Rattle.desk_io.specs.Counts.{Rises}
use Rattle.index_file.specs.declared.fault.IndexFault.TheVariants as index_faults
use Rattle.order_text.specs.declared.order_fault.OrderFault.TheVariants as order_faults
use Rattle.chl_answers.specs.declared.status.Status.{Status}
use Rattle.chl_answers.specs.declared.status.Status.TheVariants.{Done, Differs, Usage, GraphText, OrderText, PairsText, IndexBytes, Overflow, ReadFault, WriteFault, NoMemory, NotOfGraph, TooLong, NoVias, Broken, EditsText, PointsText, FromText}
use Rattle.chl_inputs.specs.declared.stop.Stop.{Stop}
use Rattle.chl_inputs.specs.declared.stop.Stop.TheVariants as stops

-- the number with which the program ends
abbrev pub number_of : Status → ℕ
number_of Done = 0
number_of (Differs audit) = 1
number_of Usage = 2
number_of (GraphText fault) = 3
number_of (OrderText fault) = 4
number_of (PairsText fault) = 5
number_of (IndexBytes fault) = 6
number_of (Overflow v hub) = 7
number_of ReadFault = 8
number_of WriteFault = 9
number_of NoMemory = 10
number_of (NotOfGraph fault) = 11
number_of TooLong = 12
number_of NoVias = 13
number_of (Broken at hub) = 14
number_of (EditsText fault) = 15
number_of (PointsText fault) = 16
number_of (FromText fault) = 17

-- the status of a command without output
abbrev pub status_of : Stop → Status
status_of (stops.Graph fault) = GraphText fault
status_of (stops.Overflow v hub) = Overflow v hub
status_of (stops.Order fault) = OrderText fault
status_of (stops.Pairs fault) = PairsText fault
status_of (stops.Points fault) = PointsText fault
status_of (stops.From fault) = FromText fault
status_of (stops.Edits fault) = EditsText fault
status_of (stops.Index fault) = IndexBytes fault
status_of (stops.Differs audit) = Differs audit
status_of (stops.NotOfGraph fault) = NotOfGraph fault
status_of stops.NoVias = NoVias
status_of (stops.Broken at hub) = Broken at hub
status_of stops.TooLong = TooLong
status_of stops.ReadFailed = ReadFault
status_of stops.NoMemory = NoMemory

-- the status of what the files decide
abbrev pub status_after : Result (List ℕ) Stop → Status
status_after (Ok bytes) = Done
status_after (Err stop) = status_of stop

-- the count of failed calls of the input has risen with a read fault, and else stays
abbrev pub CountsInput : Status → ℕ → ℕ → Type 0
CountsInput ReadFault old new = Rises old new
CountsInput status old new = new ≡ old

-- that of the output has risen with a write fault, and else stays
abbrev pub CountsOutput : Status → ℕ → ℕ → Type 0
CountsOutput WriteFault old new = Rises old new
CountsOutput status old new = new ≡ old

-- a fault that it carries is one of the input, and not want of memory
abbrev pub CarriesFaultsAlone : Status → Type 0
CarriesFaultsAlone (OrderText fault) = fault ≢ order_faults.NoMemory
CarriesFaultsAlone (PointsText fault) = fault ≢ order_faults.NoMemory
CarriesFaultsAlone (FromText fault) = fault ≢ order_faults.NoMemory
CarriesFaultsAlone (IndexBytes fault) = fault ≢ index_faults.NoMemory
CarriesFaultsAlone status = Unit {0}

-- no output was begun
abbrev pub HasNoOutput : Status → Type 0
HasNoOutput status = (status ≢ Done) × (status ≢ WriteFault) × (status ≢ NoMemory)
