-- A desk in memory, and what its calls do.
use Rattle.std.specs.Prelude.{◌≡◌, ℕ, Bool, true, false, ◌+◌, ◌++◌, [], ◌∷◌, min, drop, ◌⊎◌, List, None, Contains}
use Rattle.std.specs.FinMap as map
use Rattle.desk_io.specs.Contents.{Contents, opened, created, written, spoken}
use Rattle.desk_io.specs.Counts.{last_count}
use Rattle.desk_io.specs.declared.desk.DeskFault.{DeskFault}
use Rattle.desk_io.specs.declared.desk.DeskFault.TheVariants.{Failed, NoMemory}
use Rattle.mem_desk.specs.declared.calls.Call.{Call}
use Rattle.mem_desk.specs.declared.calls.Call.TheVariants.{OpenIn, Read, Create, Write, Say}

-- a count, one up; at its last value it stands still
abbrev pub next : ℕ → ℕ
next count = min (count + 1) last_count

-- how many calls of each kind were made
pub record Calls : Type 0 where
  pub opens : ℕ
  pub reads : ℕ
  pub creates : ℕ
  pub writes : ℕ
  pub says : ℕ

-- its bytes; whether an input was opened, and whether a file was created; the two counts of faults; the most bytes that
-- one call moves; the calls that fail, each by its kind and its number from 1; and the calls that were made
pub record Memory : Type 0 where
  pub contents : Contents
  pub is_open : Bool
  pub is_created : Bool
  pub input_faults : ℕ
  pub output_faults : ℕ
  pub bite : ℕ
  pub failing : List (Call × ℕ)
  pub made : Calls

-- whether no call is among the failing ones
abbrev pub has_none : List (Call × ℕ) → Bool
has_none [] = true
has_none (call ∷ calls) = false

-- a desk on which nothing was done yet
abbrev pub empty_memory : ℕ → List (Call × ℕ) → Memory
empty_memory bite failing = record {
  contents = record { files = map.empty; steady = has_none failing; input = []; rest = []; earlier = []; out = []; said = [] };
  is_open = false;
  is_created = false;
  input_faults = 0;
  output_faults = 0;
  bite = bite;
  failing = failing;
  made = record { opens = 0; reads = 0; creates = 0; writes = 0; says = 0 };
}

-- m, where the file of that name has these bytes
abbrev pub with_file : Memory → List ℕ → List ℕ → Memory
with_file m name bytes = record m { contents = record m.contents { files = map.insert m.contents.files name bytes } }

-- m, with the opened input after those before it
abbrev pub with_input_kept : Memory → Memory
with_input_kept m = record m { contents = record m.contents { earlier = m.contents.earlier ++ (m.contents.input, m.contents.rest) ∷ [] } }

-- how many calls of this kind were made
abbrev pub count_of : Call → Calls → ℕ
count_of OpenIn made = made.opens
count_of Read made = made.reads
count_of Create made = made.creates
count_of Write made = made.writes
count_of Say made = made.says

-- the calls, and one more of this kind
abbrev pub with_one : Call → Calls → Calls
with_one OpenIn made = record made { opens = next made.opens }
with_one Read made = record made { reads = next made.reads }
with_one Create made = record made { creates = next made.creates }
with_one Write made = record made { writes = next made.writes }
with_one Say made = record made { says = next made.says }

-- the next call of this kind is among the failing ones
abbrev pub IsFailing : Call → Memory → Type 0
IsFailing call m = Contains m.failing (call, next (count_of call m.made))

-- the next call of `open_in` fails: it is among the failing ones, or no file has the name
abbrev pub FailsToOpen : Memory → List ℕ → Type 0
FailsToOpen m name = IsFailing OpenIn m ⊎ (map.get m.contents.files name ≡ None)

-- m, after a call of this kind, whatever else it did
abbrev pub with_call : Call → Memory → Memory
with_call call m = record m { made = with_one call m.made }

-- the count of faults that such a call may raise
abbrev pub faults_of : Call → Memory → ℕ
faults_of OpenIn m = m.input_faults
faults_of Read m = m.input_faults
faults_of call m = m.output_faults

-- m, where a fault of such a call was counted
abbrev pub with_fault_counted : Call → Memory → Memory
with_fault_counted OpenIn m = record m { input_faults = next m.input_faults }
with_fault_counted Read m = record m { input_faults = next m.input_faults }
with_fault_counted call m = record m { output_faults = next m.output_faults }

-- m, after a call of this kind that ended with the fault
abbrev pub with_fault : Call → DeskFault → Memory → Memory
with_fault call Failed m = with_fault_counted call (with_call call m)
with_fault call NoMemory m = with_call call m

-- m, after an input of these bytes was opened by its name
abbrev pub with_input : Memory → List ℕ → List ℕ → Memory
with_input m name bytes = record (with_call OpenIn m) { contents = opened name bytes m.contents; is_open = true }

-- m, after n bytes were read off the input
abbrev pub with_read : Memory → ℕ → Memory
with_read m n = record (with_call Read m) { contents = record m.contents { rest = drop n m.contents.rest } }

-- m, after the named file was created
abbrev pub with_created : Memory → List ℕ → Memory
with_created m name = record (with_call Create m) { contents = created name m.contents; is_created = true }

-- m, after these bytes were written to the created file
abbrev pub with_written : Memory → List ℕ → Memory
with_written m bytes = record (with_call Write m) { contents = written bytes m.contents }

-- m, after these bytes were said
abbrev pub with_said : Memory → List ℕ → Memory
with_said m bytes = record (with_call Say m) { contents = spoken bytes m.contents }
