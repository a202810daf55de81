-- The ways in which a command is carried out: its stage, and then its output.
use Rattle.std.proofs.Common.{◌≡◌, ◌∙◌, ℕ, List, refl, subst}
use Rattle.std.specs.Prelude.{None, Ok, Err}
use Rattle.desk_io.specs.Contents.{Tells, IsSteady}
use Rattle.desk_io.specs.Counts.{Rises}
use Rattle.desk_io.specs.declared.desk.Desk.{Ghosts}
use Rattle.chl_inputs.specs.Stages.{CountsStop, Conforms}
use Rattle.chl_inputs.specs.Stops.{HasMemoryOnce}
use Rattle.chl_inputs.specs.declared.stop.Stop.{Stop}
use Rattle.chl_inputs.specs.declared.stop.Stop.TheVariants as stops
use Rattle.chl_answers.specs.Commands.{stage_of, place_of}
use Rattle.chl_answers.specs.Outcome.{given, GivesPrefix, Runs}
use Rattle.chl_answers.specs.Statuses.{CarriesFaultsAlone, CountsInput, CountsOutput, status_of}
use Rattle.chl_answers.specs.declared.status.Status.TheVariants.{Done, WriteFault, NoMemory}
use Rattle.chl_words.specs.declared.asked.Asked.{Asked}
use Rattle.chl_answers.proofs.Endings.{done_from, failed_from, lost_from, stopped_from}

-- what a stop does to the counts, and what it carries, as a status
input_counts : (stop : Stop) (old new : ℕ) → CountsStop {V = List ℕ} (Err stop) old new → CountsInput (status_of stop) old new
input_counts stops.ReadFailed old new counts = counts
input_counts stop old new counts = counts

output_counts : (stop : Stop) (old new : ℕ) → new ≡ old → CountsOutput (status_of stop) old new
output_counts stops.ReadFailed old new same = same
output_counts stop old new same = same

carries : (stop : Stop) → HasMemoryOnce stop → CarriesFaultsAlone (status_of stop)
carries (stops.Order fault) once = once
carries (stops.Points fault) once = once
carries (stops.From fault) once = once
carries (stops.Index fault) once = once
carries stop once = tt

module _ {D : Type 0} {desk : Ghosts D} (asked : Asked) where
  -- without output
  pub runs_stopped : {stop : Stop} {old new : D} → Conforms desk (stage_of asked) (Err stop) old new → Runs desk asked (status_of stop) old new
  runs_stopped {stop} {old} {new} goes = record {
    told = stopped_from asked stop (status_of stop) (desk.told old) (desk.told new) refl goes.told;
    no_output = λ none. goes.no_file;
    no_place = λ none. goes.no_file;
    input_count = input_counts stop (desk.input_faults old) (desk.input_faults new) goes.input_count;
    output_count = output_counts stop (desk.output_faults old) (desk.output_faults new) goes.output_count;
    faults_alone = carries stop goes.memory_once;
  }

  module _ {bytes : List ℕ} {old mid new : D} (goes : Conforms desk (stage_of asked) (Ok bytes) old mid) (place : place_of asked ≡ None → desk.is_created new ≡ desk.is_created mid) (inputs : desk.input_faults new ≡ desk.input_faults mid) where
    -- with all of it
    pub runs_done : Tells (desk.told mid) (desk.told new) (λ a b. b ≡ given (place_of asked) bytes a) → desk.output_faults new ≡ desk.output_faults mid → Runs desk asked Done old new
    runs_done gave outputs = record {
      told = done_from asked bytes (desk.told old) (desk.told mid) (desk.told new) goes.told gave;
      no_output = λ none. absurd (none.0 refl);
      no_place = λ none. place none ∙ goes.no_file;
      input_count = inputs ∙ goes.input_count;
      output_count = outputs ∙ goes.output_count;
      faults_alone = tt;
    }

    -- with a prefix of it, as writing failed
    pub runs_failed : Tells (desk.told mid) (desk.told new) (GivesPrefix (place_of asked) bytes) → (IsSteady (desk.told mid) → ⊥) → Rises (desk.output_faults mid) (desk.output_faults new) → Runs desk asked WriteFault old new
    runs_failed prefix steady rises = record {
      told = failed_from asked bytes (desk.told old) (desk.told mid) (desk.told new) goes.told prefix steady;
      no_output = λ none. absurd (none.1 refl);
      no_place = λ none. place none ∙ goes.no_file;
      input_count = inputs ∙ goes.input_count;
      output_count = subst (λ n. Rises n (desk.output_faults new)) goes.output_count rises;
      faults_alone = tt;
    }

    -- or as memory ran out
    pub runs_lost : Tells (desk.told mid) (desk.told new) (GivesPrefix (place_of asked) bytes) → desk.output_faults new ≡ desk.output_faults mid → Runs desk asked NoMemory old new
    runs_lost prefix outputs = record {
      told = lost_from asked bytes (desk.told old) (desk.told mid) (desk.told new) goes.told prefix;
      no_output = λ none. absurd (none.2 refl);
      no_place = λ none. place none ∙ goes.no_file;
      input_count = inputs ∙ goes.input_count;
      output_count = outputs ∙ goes.output_count;
      faults_alone = tt;
    }
