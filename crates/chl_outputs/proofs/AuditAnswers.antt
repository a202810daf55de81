-- What an audit comes to, as the end of its stage.
use Rattle.std.proofs.Common.{◌≡◌, ◌⊎◌, inl, inr, ℕ, List, refl, subst, sym}
use Rattle.std.specs.Prelude.{Result, Err, IfErr}
use Rattle.desk_io.specs.declared.desk.Desk.{Ghosts}
use Rattle.index_audit.specs.declared.answer.Audit.{Audit}
use Rattle.index_audit.specs.declared.answer.Audit.TheVariants.{Same, Sizes, OrderDiffers, NoWalk, NotCovered, Redundant, WrongVia}
use Rattle.index_file.specs.declared.stored_index.StoredIndex.{StoredIndex}
use Rattle.walk_laws.specs.Graph.{WeightedGraph}
use Rattle.chl_inputs.specs.Stages.{Comes, CountsStop, Conforms, Works}
use Rattle.chl_inputs.specs.Stops.{HasMemoryOnce}
use Rattle.chl_inputs.specs.declared.stop.Stop.{Stop}
use Rattle.chl_inputs.specs.declared.stop.Stop.TheVariants.{NoMemory}
use Rattle.chl_inputs.proofs.StagesInTurn.{goes_comes, goes_lost, goes_works}
use Rattle.chl_answers.specs.Commands.{IsStoredAuditOf, audit_text}

memory_once : (found : Audit) → IfErr (audit_text found) HasMemoryOnce
memory_once Same = tt
memory_once (Sizes graph index) = tt
memory_once (OrderDiffers place) = tt
memory_once (NoWalk v hub) = tt
memory_once (NotCovered v to hub) = tt
memory_once (Redundant v hub by) = tt
memory_once (WrongVia v hub want) = tt

count_stays : (found : Audit) (count : ℕ) → CountsStop (audit_text found) count count
count_stays Same count = refl
count_stays (Sizes graph index) count = refl
count_stays (OrderDiffers place) count = refl
count_stays (NoWalk v hub) count = refl
count_stays (NotCovered v to hub) count = refl
count_stays (Redundant v hub by) count = refl
count_stays (WrongVia v hub want) count = refl

module _ {D : Type 0} {desk : Ghosts D} (g : WeightedGraph) (at : List ℕ) (stored : StoredIndex) {place : D} where
  -- what was found, or want of memory
  pub goes_audited : {answer : Result (List ℕ) Stop} (found : Audit) → IsStoredAuditOf g at stored found → (answer ≡ audit_text found) ⊎ (answer ≡ Err NoMemory)
      → Conforms desk (Works (λ found. IsStoredAuditOf g at stored found) (λ found. Comes (audit_text found))) answer place place
  goes_audited found is (inl same) =
      subst (λ a. Conforms desk (Works (λ found. IsStoredAuditOf g at stored found) (λ found. Comes (audit_text found))) a place place) (sym same)
      (goes_works found is (goes_comes refl (memory_once found) (count_stays found (desk.input_faults place))))
  goes_audited found is (inr lost) =
      subst (λ a. Conforms desk (Works (λ found. IsStoredAuditOf g at stored found) (λ found. Comes (audit_text found))) a place place) (sym lost) (goes_lost _)
