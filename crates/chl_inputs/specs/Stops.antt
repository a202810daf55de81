-- Why a command has no output.
use Rattle.std.specs.Prelude.{◌≡◌, ◌≢◌, ◌⊎◌, Bool, IsTrue}
use Rattle.desk_io.specs.declared.desk.DeskFault.{DeskFault}
use Rattle.desk_io.specs.declared.desk.DeskFault.TheVariants as calls
use Rattle.desk_io.specs.declared.read_all.ReadEnd.{ReadEnd}
use Rattle.desk_io.specs.declared.read_all.ReadEnd.TheVariants as ends
use Rattle.dimacs_text.specs.declared.fault.GrFault.{GrFault}
use Rattle.dimacs_text.specs.declared.fault.GrFault.TheVariants as graph_faults
use Rattle.dimacs_text.specs.declared.fault.PairsFault.{PairsFault}
use Rattle.dimacs_text.specs.declared.fault.PairsFault.TheVariants as pairs_faults
use Rattle.index_file.specs.declared.fault.IndexFault.{IndexFault}
use Rattle.index_file.specs.declared.fault.IndexFault.TheVariants as index_faults
use Rattle.order_text.specs.declared.order_fault.OrderFault.{OrderFault}
use Rattle.order_text.specs.declared.order_fault.OrderFault.TheVariants as order_faults
use Rattle.chl_inputs.specs.declared.stop.Stop.{Stop}
use Rattle.chl_inputs.specs.declared.stop.Stop.TheVariants.{Graph, Order, Pairs, Edits, Points, From, Index, TooLong, ReadFailed, NoMemory}

-- at a fault of a graph
abbrev pub graph_stop : GrFault → Stop
graph_stop (graph_faults.Text fault) = Graph fault
graph_stop graph_faults.NoMemory = NoMemory

-- of an order
abbrev pub order_stop : OrderFault → Stop
order_stop order_faults.NoMemory = NoMemory
order_stop fault = Order fault

-- of pairs
abbrev pub pairs_stop : PairsFault → Stop
pairs_stop (pairs_faults.Text fault) = Pairs fault
pairs_stop pairs_faults.NoMemory = NoMemory

-- of edits
abbrev pub edits_stop : PairsFault → Stop
edits_stop (pairs_faults.Text fault) = Edits fault
edits_stop pairs_faults.NoMemory = NoMemory

-- of points
abbrev pub points_stop : OrderFault → Stop
points_stop order_faults.NoMemory = NoMemory
points_stop fault = Points fault

-- of sources
abbrev pub sources_stop : OrderFault → Stop
sources_stop order_faults.NoMemory = NoMemory
sources_stop fault = From fault

-- of an index
abbrev pub index_stop : IndexFault → Stop
index_stop index_faults.NoMemory = NoMemory
index_stop fault = Index fault

-- at the end of a reading
abbrev pub end_stop : {F : Type 0} → (F → Stop) → ReadEnd F → Stop
end_stop stop ends.Failed = ReadFailed
end_stop stop ends.TooLong = TooLong
end_stop stop ends.NoMemory = NoMemory
end_stop stop (ends.Refused fault) = stop fault

-- where an input can't be opened
abbrev pub opening_stop : DeskFault → Stop
opening_stop calls.Failed = ReadFailed
opening_stop calls.NoMemory = NoMemory

-- a fault that it carries is one of the input, and not want of memory
abbrev pub HasMemoryOnce : Stop → Type 0
HasMemoryOnce (Order fault) = fault ≢ order_faults.NoMemory
HasMemoryOnce (Points fault) = fault ≢ order_faults.NoMemory
HasMemoryOnce (From fault) = fault ≢ order_faults.NoMemory
HasMemoryOnce (Index fault) = fault ≢ index_faults.NoMemory
HasMemoryOnce stop = Unit {0}

-- the work stopped so as this is what the files decide; or for want of memory; or as a call of a desk that is not steady failed
abbrev pub MayStop : Bool → Stop → Type 0 → Type 0
MayStop steady stop decided = decided ⊎ (stop ≡ NoMemory) ⊎ ((stop ≡ ReadFailed) × ¬ (IsTrue steady))

-- each stop at a fault is such
pub graph_memory_once : (fault : GrFault) → HasMemoryOnce (graph_stop fault)
graph_memory_once (graph_faults.Text fault) = tt
graph_memory_once graph_faults.NoMemory = tt

pub order_memory_once : (fault : OrderFault) → HasMemoryOnce (order_stop fault)
order_memory_once order_faults.NoMemory = tt
order_memory_once fault = λ same. cc

pub pairs_memory_once : (fault : PairsFault) → HasMemoryOnce (pairs_stop fault)
pairs_memory_once (pairs_faults.Text fault) = tt
pairs_memory_once pairs_faults.NoMemory = tt

pub edits_memory_once : (fault : PairsFault) → HasMemoryOnce (edits_stop fault)
edits_memory_once (pairs_faults.Text fault) = tt
edits_memory_once pairs_faults.NoMemory = tt

pub points_memory_once : (fault : OrderFault) → HasMemoryOnce (points_stop fault)
points_memory_once order_faults.NoMemory = tt
points_memory_once fault = λ same. cc

pub sources_memory_once : (fault : OrderFault) → HasMemoryOnce (sources_stop fault)
sources_memory_once order_faults.NoMemory = tt
sources_memory_once fault = λ same. cc

pub index_memory_once : (fault : IndexFault) → HasMemoryOnce (index_stop fault)
index_memory_once index_faults.NoMemory = tt
index_memory_once fault = λ same. cc

-- and no failed call
pub graph_no_call : (fault : GrFault) → graph_stop fault ≢ ReadFailed
graph_no_call (graph_faults.Text fault) = λ same. cc
graph_no_call graph_faults.NoMemory = λ same. cc

pub order_no_call : (fault : OrderFault) → order_stop fault ≢ ReadFailed
order_no_call order_faults.NoMemory = λ same. cc
order_no_call fault = λ same. cc

pub pairs_no_call : (fault : PairsFault) → pairs_stop fault ≢ ReadFailed
pairs_no_call (pairs_faults.Text fault) = λ same. cc
pairs_no_call pairs_faults.NoMemory = λ same. cc

pub edits_no_call : (fault : PairsFault) → edits_stop fault ≢ ReadFailed
edits_no_call (pairs_faults.Text fault) = λ same. cc
edits_no_call pairs_faults.NoMemory = λ same. cc

pub points_no_call : (fault : OrderFault) → points_stop fault ≢ ReadFailed
points_no_call order_faults.NoMemory = λ same. cc
points_no_call fault = λ same. cc

pub sources_no_call : (fault : OrderFault) → sources_stop fault ≢ ReadFailed
sources_no_call order_faults.NoMemory = λ same. cc
sources_no_call fault = λ same. cc

pub index_no_call : (fault : IndexFault) → index_stop fault ≢ ReadFailed
index_no_call index_faults.NoMemory = λ same. cc
index_no_call fault = λ same. cc
