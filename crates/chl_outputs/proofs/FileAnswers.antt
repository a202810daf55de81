-- The bytes of an index file, as the end of a stage.
use Rattle.std.proofs.Common.{List, ℕ, ap, refl}
use Rattle.std.specs.Prelude.{Ok}
use Rattle.desk_io.specs.declared.desk.Desk.{Ghosts}
use Rattle.walk_laws.specs.Graph.{WeightedGraph}
use Rattle.walk_laws.specs.Joined.{Joined}
use Rattle.walk_laws.specs.Labelling.{IsChl}
use Rattle.chl_inputs.specs.Stages.{Conforms, Works}
use Rattle.chl_inputs.proofs.StagesInTurn.{goes_comes, goes_works}
use Rattle.chl_words.specs.declared.asked.Version.{Version}
use Rattle.chl_words.specs.declared.asked.Version.TheVariants.{One, Two}
use Rattle.chl_answers.specs.Commands.{IsFileOf, file_stage}

module _ {D : Type 0} {desk : Ghosts D} (g : WeightedGraph) (at bytes : List ℕ) {place : D} where
  pub goes_filed : (version : Version) → IsFileOf version g at bytes → Conforms desk (Works (λ rows. IsChl (Joined g.edges) at rows) (λ rows. file_stage version g at rows)) (Ok bytes) place place
  goes_filed One file = goes_works file.0 file.1 (goes_comes (ap Ok file.2) tt refl)
  goes_filed Two file = goes_works file.0 file.1 (goes_works file.2.0 file.2.1 (goes_comes (ap Ok file.2.2) tt refl))
