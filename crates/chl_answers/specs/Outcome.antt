-- What a run does to its desk.
use Rattle.std.specs.Prelude.{◌≡◌, ◌≢◌, ◌⊎◌, ◌++◌, ℕ, IsTrue, List, take, Option, Some, None, Ok, Err}
use Rattle.std.specs.FinMap as finite_map
use Rattle.desk_io.specs.Contents.{Contents, Tells}
use Rattle.desk_io.specs.declared.desk.Desk.{Ghosts}
use Rattle.chl_inputs.specs.Stages.{OpensInOrder, ReadsAll, Conformed}
use Rattle.chl_inputs.specs.Stops.{MayStop}
use Rattle.chl_inputs.specs.declared.stop.Stop.{Stop}
use Rattle.chl_answers.specs.Commands.{Decides, stage_of, place_of}
use Rattle.chl_answers.specs.Statuses.{status_of, CarriesFaultsAlone, CountsInput, CountsOutput, HasNoOutput}
use Rattle.chl_answers.specs.declared.status.Status.{Status}
use Rattle.chl_answers.specs.declared.status.Status.TheVariants.{Done, WriteFault, NoMemory}
use Rattle.chl_words.specs.declared.asked.Asked.{Asked}

-- the desk after these bytes were said, or a file was created that has them
abbrev pub given : Option (List ℕ) → List ℕ → Contents → Contents
given None bytes a = record a { said = a.said ++ bytes }
given (Some out) bytes a = record a { files = finite_map.insert a.files out bytes; out = out }

-- a prefix of the bytes was given, or nothing, not even a file
abbrev pub GivesPrefix : Option (List ℕ) → List ℕ → Contents → Contents → Type 0
GivesPrefix place bytes a b = (b ≡ a) ⊎ ((k : ℕ) × (b ≡ given place (take k bytes) a))

-- All inputs were opened in order, and each was accepted and read to its end; then the bytes that the files decide were
-- given, and nothing else has changed.
pub record Gives (asked : Asked) (a b : Contents) : Type 0 where
  pub bytes : List ℕ
  pub decided : Decides asked a.files (Ok bytes)
  pub read : Contents
  pub reads : ReadsAll (stage_of asked) a read
  pub gives : b ≡ given (place_of asked) bytes read

-- the same of a prefix of these bytes
pub record GivesPart (asked : Asked) (a b : Contents) : Type 0 where
  pub bytes : List ℕ
  pub decided : Decides asked a.files (Ok bytes)
  pub read : Contents
  pub reads : ReadsAll (stage_of asked) a read
  pub gives : GivesPrefix (place_of asked) bytes read b

-- The command stopped as the files decide, or for want of memory, or as a call of a desk that is not steady failed. Nothing
-- was given. Each input before the last one opened was accepted and read to its end, and of that nothing was read once a line
-- or field within what was read was at fault, but for what came in one piece with it.
pub record Stops (asked : Asked) (stop : Stop) (a b : Contents) : Type 0 where
  pub cause : MayStop a.steady stop (Decides asked a.files (Err stop))
  pub unread : Conformed (stage_of asked) (Err stop) a b

-- the inputs that were opened, and what was left of each, are the same
pub record HasInputsOf (a b : Contents) : Type 0 where
  pub earlier : b.earlier ≡ a.earlier
  pub last : b.input ≡ a.input
  pub rest : b.rest ≡ a.rest

-- no other input than those of the command was opened, none before the one before it was read to its end
abbrev pub OpensNoOther : Asked → Contents → Contents → Type 0
OpensNoOther asked a b = (mid : Contents) × OpensInOrder (stage_of asked) a mid × HasInputsOf mid b

-- no file has changed but the one that the command creates
abbrev pub ChangesNoOther : Asked → Contents → Contents → Type 0
ChangesNoOther asked a b = (name : List ℕ) → place_of asked ≢ Some name → finite_map.get b.files name ≡ finite_map.get a.files name

-- how a command may end: with its bytes given; with a part of them, where writing failed, as on no steady desk, or memory
-- ran out; or stopped, with nothing given
abbrev pub Ends : Asked → Status → Contents → Contents → Type 0
Ends asked status a b =
    ((status ≡ Done) × Gives asked a b)
    ⊎ ((status ≡ WriteFault) × GivesPart asked a b × ¬ (IsTrue a.steady))
    ⊎ ((status ≡ NoMemory) × GivesPart asked a b)
    ⊎ ((stop : Stop) × (status ≡ status_of stop) × Stops asked stop a b)

-- How a command may go: what it does to what the desk tells; a file is created only for output; what it does to the two
-- counts; and its status carries no reader's want of memory.
pub record Runs {D : Type 0} (desk : Ghosts D) (asked : Asked) (status : Status) (old new : D) : Type 0 where
  pub told : Tells (desk.told old) (desk.told new) (Ends asked status)
  pub no_output : HasNoOutput status → desk.is_created new ≡ desk.is_created old
  pub no_place : place_of asked ≡ None → desk.is_created new ≡ desk.is_created old
  pub input_count : CountsInput status (desk.input_faults old) (desk.input_faults new)
  pub output_count : CountsOutput status (desk.output_faults old) (desk.output_faults new)
  pub faults_alone : CarriesFaultsAlone status
