-- A stage for a graph and an index of as many nodes.
use Rattle.std.proofs.Common.{◌≡◌, ◌≢◌, ℕ, Bool, true, false, refl, sym, subst, eq-eqb, eqb-true}
use Rattle.std.specs.Prelude.{◌==◌, Result, Err}
use Rattle.desk_io.specs.declared.desk.Desk.{Ghosts}
use Rattle.chl_inputs.specs.Stages.{Stage, Conforms}
use Rattle.chl_inputs.specs.declared.stop.NotOf.TheVariants.{Sizes}
use Rattle.chl_inputs.specs.declared.stop.Stop.{Stop}
use Rattle.chl_inputs.specs.declared.stop.Stop.TheVariants.{NotOfGraph}
use Rattle.chl_inputs.proofs.StagesInTurn.{goes_comes}
use Rattle.chl_answers.specs.Commands.{for_sizes, stage_if}

apart : (a b : ℕ) (equal : Bool) → (a == b) ≡ equal → a ≢ b → (a == b) ≡ false
apart a b true is other = absurd (other (eqb-true a b is))
apart a b false is other = is

module _ {D V : Type 0} {desk : Ghosts D} (graph index : ℕ) (stage : Stage V) where
  pub goes_sized : {answer : Result V Stop} {old new : D} → graph ≡ index → Conforms desk stage answer old new → Conforms desk (for_sizes graph index stage) answer old new
  goes_sized {answer} {old} {new} same goes =
      subst (λ b. Conforms desk (stage_if b (NotOfGraph (Sizes graph index)) stage) answer old new) (sym (eq-eqb graph index same)) goes

  pub goes_unsized : {place : D} → graph ≢ index → Conforms desk (for_sizes graph index stage) (Err (NotOfGraph (Sizes graph index))) place place
  goes_unsized {place} other =
      subst (λ b. Conforms desk (stage_if b (NotOfGraph (Sizes graph index)) stage) (Err (NotOfGraph (Sizes graph index))) place place) (sym (apart graph index (graph == index) refl other)) (goes_comes refl tt refl)
