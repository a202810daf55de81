-- An index was built, or why none was, on the way of a stage.
use Rattle.std.proofs.Common.{◌≡◌, ℕ, List, refl, subst, sym}
use Rattle.std.specs.Prelude.{Some, None, Result, Ok, Err, IfErr, IfOk, MatchResult}
use Rattle.desk_io.specs.declared.desk.Desk.{Ghosts}
use Rattle.hub_index.specs.Faults.{TellsFault}
use Rattle.hub_index.specs.declared.build_fault.BuildFault.{BuildFault}
use Rattle.hub_index.specs.declared.build_fault.BuildFault.TheVariants as faults
use Rattle.walk_laws.specs.Graph.{WeightedGraph}
use Rattle.walk_laws.specs.Joined.{Joined}
use Rattle.walk_laws.specs.Overflow.{Overflows}
use Rattle.chl_inputs.specs.Stages.{Conforms, Stage}
use Rattle.chl_inputs.specs.declared.stop.Stop.{Stop}
use Rattle.chl_inputs.proofs.StagesInTurn.{goes_comes, goes_lost, goes_works, no_stop_in}
use Rattle.chl_answers.specs.Commands.{for_fitting}
use Rattle.chl_outputs.specs.Stops.{build_stop}

module _ {U : Type 0} (made : Result U BuildFault) where
  -- what holds of what was built, where a fault was to become another error
  pub of_built : (E : Type 0) (u : U) (P : U → Type 0) → IfOk made P → MatchResult made (λ x. ◌≡◌ {A = Result U E} (Ok u) (Ok x)) (λ fault. ⊥) → P u
  of_built E u P holds is =
      elim made as (λ r. IfOk r P → MatchResult r (λ x. ◌≡◌ {A = Result U E} (Ok u) (Ok x)) (λ fault. ⊥) → P u) [
        | Ok x ↦ λ holds is. subst P (sym (same x is)) holds
        | Err fault ↦ λ holds none. absurd none
      ] holds is
    where
      same : (x : U) → ◌≡◌ {A = Result U E} (Ok u) (Ok x) → u ≡ x
      same x is = cc

  -- the stop in the place of a fault
  abbrev pub IsStopped : Stop → Type 0
  IsStopped stop = MatchResult made (λ x. ◌≡◌ {A = Result U Stop} (Err stop) (Ok x)) (λ fault. stop ≡ build_stop fault)

  fault_of : (stop : Stop) (P : BuildFault → Type 0) → IfErr made P → IsStopped stop → (fault : BuildFault) × P fault × (stop ≡ build_stop fault)
  fault_of stop P holds is =
      elim made as (λ r. IfErr r P → MatchResult r (λ x. ◌≡◌ {A = Result U Stop} (Err stop) (Ok x)) (λ fault. stop ≡ build_stop fault) → (fault : BuildFault) × P fault × (stop ≡ build_stop fault)) [
        | Ok x ↦ λ holds none. absurd (no_stop_in x stop (sym none))
        | Err fault ↦ λ holds is. (fault, holds, is)
      ] holds is

module _ {D : Type 0} {desk : Ghosts D} (g : WeightedGraph) (at : List ℕ) where
  -- no hub is too far
  pub goes_fitting : {stage : Stage (List ℕ)} {answer : Result (List ℕ) Stop} {old new : D} → ¬ Overflows (Joined g.edges) at → Conforms desk stage answer old new → Conforms desk (for_fitting g at stage) answer old new
  goes_fitting fits rest = goes_works None fits rest

  goes_faulted : (stage : Stage (List ℕ)) (fault : BuildFault) {place : D} → TellsFault (Joined g.edges) at fault → Conforms desk (for_fitting g at stage) (Err (build_stop fault)) place place
  goes_faulted stage (faults.Overflow v hub) tells = goes_works (Some (record { v = v; hub = hub })) tells (goes_comes refl tt refl)
  goes_faulted stage faults.NoMemory tells = goes_lost (for_fitting g at stage)

  -- no index was built
  pub goes_unbuilt : {U : Type 0} (stage : Stage (List ℕ)) (made : Result U BuildFault) (stop : Stop) {place : D} → IfErr made (TellsFault (Joined g.edges) at) → IsStopped made stop → Conforms desk (for_fitting g at stage) (Err stop) place place
  goes_unbuilt stage made stop {place} tells is =
      let fault = fault_of made stop (TellsFault (Joined g.edges) at) tells is in
      subst (λ s. Conforms desk (for_fitting g at stage) (Err s) place place) (sym fault.2) (goes_faulted stage fault.0 fault.1)
