-- What a run says, whatever its words are, where of each command that they may be it says what a run of that one does.
use Rattle.std.proofs.Common.{◌≡◌, ◌⊎◌, inl, inr, ℕ, List, refl, ap, subst, sym}
use Rattle.std.specs.Prelude.{Some, None}
use Rattle.desk_io.specs.Contents.{Tells}
use Rattle.desk_io.specs.declared.desk.Desk.{Ghosts}
use Rattle.chl_inputs.proofs.StagesInTurn.{goes_lost}
use Rattle.chl_inputs.proofs.ToldChanges.{unchanged}
use Rattle.chl_answers.specs.Commands.{stage_of}
use Rattle.chl_answers.specs.Outcome.{Runs}
use Rattle.chl_answers.specs.Statuses.{CarriesFaultsAlone, CountsInput, CountsOutput, HasNoOutput}
use Rattle.chl_answers.specs.Words.{IsCommand, IsNoCommand}
use Rattle.chl_answers.specs.declared.status.Status.{Status}
use Rattle.chl_answers.specs.declared.status.Status.TheVariants.{Usage, NoMemory}
use Rattle.chl_answers.proofs.Endings.{told_steady}
use Rattle.chl_answers.proofs.OneCommand.{no_command, one_command}
use Rattle.chl_answers.proofs.WaysToEnd.{runs_stopped}
use Rattle.chl_inputs.specs.declared.stop.Stop.TheVariants as stops
use Rattle.chl_words.specs.Asking.{asked_by}
use Rattle.chl_words.specs.declared.asked.Asked.{Asked}

-- want of memory, before anything else
pub runs_none : {D : Type 0} {desk : Ghosts D} (asked : Asked) {place : D} → Runs desk asked NoMemory place place
runs_none asked = runs_stopped asked {stop = stops.NoMemory} (goes_lost (stage_of asked))

-- the command that the words were read as is the one that they are
pub runs_read : {D : Type 0} {desk : Ghosts D} (words : List (List ℕ)) (read asked : Asked) {status : Status} {old new : D} → IsCommand words read → Runs desk read status old new → IsCommand words asked → Runs desk asked status old new
runs_read {desk = desk} words read asked {status} {old} {new} was runs is = subst (λ x. Runs desk x status old new) (one_command words read asked was is) runs

-- the words are no command, and the run ended at once
abbrev pub EndsAtOnce : {D : Type 0} → Status → D → D → Type 0
EndsAtOnce status old new = ((status ≡ Usage) ⊎ (status ≡ NoMemory)) × (new ≡ old)

no_faults : (status : Status) → (status ≡ Usage) ⊎ (status ≡ NoMemory) → CarriesFaultsAlone status
no_faults status (inl is) = subst CarriesFaultsAlone (sym is) tt
no_faults status (inr is) = subst CarriesFaultsAlone (sym is) tt

no_input : (status : Status) (old new : ℕ) → (status ≡ Usage) ⊎ (status ≡ NoMemory) → new ≡ old → CountsInput status old new
no_input status old new (inl is) same = subst (λ s. CountsInput s old new) (sym is) same
no_input status old new (inr is) same = subst (λ s. CountsInput s old new) (sym is) same

no_output : (status : Status) (old new : ℕ) → (status ≡ Usage) ⊎ (status ≡ NoMemory) → new ≡ old → CountsOutput status old new
no_output status old new (inl is) same = subst (λ s. CountsOutput s old new) (sym is) same
no_output status old new (inr is) same = subst (λ s. CountsOutput s old new) (sym is) same

module _ {D : Type 0} {desk : Ghosts D} (words : List (List ℕ)) (status : Status) {old new : D} (none : IsNoCommand words → EndsAtOnce status old new) (runs : (asked : Asked) → IsCommand words asked → Runs desk asked status old new) where
  -- words are a command or none
  either : (P : Type 0) → (EndsAtOnce status old new → P) → ((asked : Asked) → Runs desk asked status old new → P) → P
  either P ended ran =
      elim (asked_by words) as (λ o. asked_by words ≡ o → P) [
        | None ↦ λ is. ended (none (no_command words is))
        | Some asked ↦ λ is. ran asked (runs asked is)
      ] refl

  pub run_steady : Tells (desk.told old) (desk.told new) (λ a b. b.steady ≡ a.steady)
  run_steady = either (Tells (desk.told old) (desk.told new) (λ a b. b.steady ≡ a.steady))
      (λ ended. subst (λ d. Tells (desk.told old) (desk.told d) (λ a b. b.steady ≡ a.steady)) (sym ended.1) (unchanged (λ a b. b.steady ≡ a.steady) (desk.told old) (λ a. refl)))
      (λ asked ran. told_steady (desk.told old) (desk.told new) asked status ran.told)

  pub run_no_output : HasNoOutput status → desk.is_created new ≡ desk.is_created old
  run_no_output begun = either (desk.is_created new ≡ desk.is_created old) (λ ended. ap desk.is_created ended.1) (λ asked ran. ran.no_output begun)

  pub run_input_count : CountsInput status (desk.input_faults old) (desk.input_faults new)
  run_input_count = either (CountsInput status (desk.input_faults old) (desk.input_faults new))
      (λ ended. no_input status (desk.input_faults old) (desk.input_faults new) ended.0 (ap desk.input_faults ended.1))
      (λ asked ran. ran.input_count)

  pub run_output_count : CountsOutput status (desk.output_faults old) (desk.output_faults new)
  run_output_count = either (CountsOutput status (desk.output_faults old) (desk.output_faults new))
      (λ ended. no_output status (desk.output_faults old) (desk.output_faults new) ended.0 (ap desk.output_faults ended.1))
      (λ asked ran. ran.output_count)

  pub run_faults_alone : CarriesFaultsAlone status
  run_faults_alone = either (CarriesFaultsAlone status) (λ ended. no_faults status ended.0) (λ asked ran. ran.faults_alone)
