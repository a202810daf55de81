-- An index that was audited, on the way of the stage of `open`.
use Rattle.std.proofs.Common.{◌≡◌, ◌≢◌, refl, sym, subst}
use Rattle.std.specs.Prelude.{Result, Err}
use Rattle.desk_io.specs.declared.desk.Desk.{Ghosts}
use Rattle.hub_index.specs.HubIndex.{HubIndex}
use Rattle.index_audit.specs.Audited.{IsAuditOf}
use Rattle.index_audit.specs.declared.answer.Audit.{Audit}
use Rattle.index_audit.specs.declared.answer.Audit.TheVariants.{Same}
use Rattle.walk_laws.specs.Graph.{WeightedGraph}
use Rattle.chl_inputs.specs.Stages.{Comes, Conforms, Stage}
use Rattle.chl_inputs.specs.declared.stop.Stop.{Stop}
use Rattle.chl_inputs.specs.declared.stop.Stop.TheVariants.{Differs}
use Rattle.chl_inputs.proofs.StagesInTurn.{goes_comes, goes_works}
use Rattle.chl_answers.specs.Commands.{for_audited, unless_wrong}

-- a fault ends the stage
ends_wrong : {V : Type 0} (stage : Stage V) (fault : Audit) → fault ≢ Same → unless_wrong fault stage ≡ Comes (Err (Differs fault))
ends_wrong stage Same other = absurd (other refl)
ends_wrong stage fault other = refl

module _ {D V : Type 0} {desk : Ghosts D} (g : WeightedGraph) (i : HubIndex) (stage : Stage V) where
  -- nothing is wrong
  pub goes_sound : {answer : Result V Stop} {old new : D} → IsAuditOf g i.order i Same → Conforms desk stage answer old new → Conforms desk (for_audited g i stage) answer old new
  goes_sound same goes = goes_works Same same goes

  -- something is
  pub goes_wrong : {place : D} (stop : Stop) → (fault : Audit) × (fault ≢ Same) × IsAuditOf g i.order i fault × (stop ≡ Differs fault) → Conforms desk (for_audited g i stage) (Err stop) place place
  goes_wrong {place} stop wrong =
      subst (λ s. Conforms desk (for_audited g i stage) (Err s) place place) (sym wrong.3)
      (goes_works wrong.0 wrong.2 (subst (λ next. Conforms desk next (Err (Differs wrong.0)) place place) (sym (ends_wrong stage wrong.0 wrong.1)) (goes_comes refl tt refl)))
