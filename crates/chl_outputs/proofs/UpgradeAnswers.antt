-- What an upgrade comes to, as the end of its stage.
use Rattle.std.proofs.Common.{◌≡◌, ◌⊎◌, inl, inr, ℕ, List, refl, subst, sym}
use Rattle.std.specs.Prelude.{Result, Err, IfErr}
use Rattle.desk_io.specs.declared.desk.Desk.{Ghosts}
use Rattle.hub_index.specs.HubIndex.{HubIndex}
use Rattle.index_audit.specs.Upgrades.{IsUpgradeOf}
use Rattle.index_audit.specs.declared.upgraded.Upgrade.{Upgrade}
use Rattle.index_audit.specs.declared.upgraded.Upgrade.TheVariants.{Not, Made}
use Rattle.walk_laws.specs.Graph.{WeightedGraph}
use Rattle.chl_inputs.specs.Stages.{Comes, CountsStop, Conforms, Works}
use Rattle.chl_inputs.specs.Stops.{HasMemoryOnce}
use Rattle.chl_inputs.specs.declared.stop.Stop.{Stop}
use Rattle.chl_inputs.specs.declared.stop.Stop.TheVariants.{NoMemory}
use Rattle.chl_inputs.proofs.StagesInTurn.{goes_comes, goes_lost, goes_works}
use Rattle.chl_answers.specs.Commands.{upgrade_text}

memory_once : (made : Upgrade) → IfErr (upgrade_text made) HasMemoryOnce
memory_once (Not fault) = tt
memory_once (Made traced) = tt

count_stays : (made : Upgrade) (count : ℕ) → CountsStop (upgrade_text made) count count
count_stays (Not fault) count = refl
count_stays (Made traced) count = refl

module _ {D : Type 0} {desk : Ghosts D} (g : WeightedGraph) (i : HubIndex) {place : D} where
  -- what was made, or want of memory
  pub goes_upgraded : {answer : Result (List ℕ) Stop} → (answer ≡ Err NoMemory) ⊎ ((made : Upgrade) × IsUpgradeOf g i made × (answer ≡ upgrade_text made))
      → Conforms desk (Works (λ made. IsUpgradeOf g i made) (λ made. Comes (upgrade_text made))) answer place place
  goes_upgraded (inl lost) =
      subst (λ a. Conforms desk (Works (λ made. IsUpgradeOf g i made) (λ made. Comes (upgrade_text made))) a place place) (sym lost) (goes_lost _)
  goes_upgraded (inr made) =
      subst (λ a. Conforms desk (Works (λ made. IsUpgradeOf g i made) (λ made. Comes (upgrade_text made))) a place place) (sym made.2)
      (goes_works made.0 made.1 (goes_comes refl (memory_once made.0) (count_stays made.0 (desk.input_faults place))))
