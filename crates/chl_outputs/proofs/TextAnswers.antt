-- A text, want of memory, or a stop that is handed on, as the end of a stage.
use Rattle.std.proofs.Common.{◌≡◌, ℕ, List, Vec, Global, ap, refl, subst, sym}
use Rattle.std.specs.Prelude.{Result, Ok, Err, IfOk, IsErrAnd, MatchResult}
use Rattle.std.proofs.lemmas.Result.{err_from_is_err_and}
use Rattle.desk_io.specs.declared.desk.Desk.{Ghosts}
use Rattle.chl_inputs.specs.Stages.{Comes, Conforms, Stage, Works}
use Rattle.chl_inputs.specs.declared.stop.Stop.{Stop}
use Rattle.chl_inputs.specs.declared.stop.Stop.TheVariants.{NoMemory}
use Rattle.chl_inputs.proofs.StagesInTurn.{goes_comes, goes_lost, goes_works}

-- the answer is the text, or want of memory where there is none
abbrev pub IsTextOf : {E : Type 0} → Result (Vec ℕ Global) E → Result (List ℕ) Stop → Type 0
IsTextOf text answer = MatchResult text (λ t. answer ≡ Ok t.items) (λ e. answer ≡ Err NoMemory)

module _ {D E : Type 0} {desk : Ghosts D} {place : D} where
  -- a stage that goes so with each text that it may be
  pub goes_told : (stage : Stage (List ℕ)) (P : Vec ℕ Global → Type 0) (text : Result (Vec ℕ Global) E) (answer : Result (List ℕ) Stop) → IfOk text P → IsTextOf text answer
      → ((t : Vec ℕ Global) → P t → Conforms desk stage (Ok t.items) place place) → Conforms desk stage answer place place
  goes_told stage P (Ok t) answer told is goes = subst (λ a. Conforms desk stage a place place) (sym is) (goes t told)
  goes_told stage P (Err e) answer told is goes = subst (λ a. Conforms desk stage a place place) (sym is) (goes_lost stage)

  -- the text of what was worked out
  pub goes_text : {X : Type 0} (P : X → Type 0) (f : X → List ℕ) (text : Result (Vec ℕ Global) E) (answer : Result (List ℕ) Stop) → IfOk text (λ t. (x : X) × P x × (t.items ≡ f x)) → IsTextOf text answer
      → Conforms desk (Works P (λ x. Comes (Ok (f x)))) answer place place
  goes_text {X} P f text answer told is =
      goes_told (Works P (λ x. Comes (Ok (f x)))) (λ t. (x : X) × P x × (t.items ≡ f x)) text answer told is (λ t own. goes_works own.0 own.1 (goes_comes (ap Ok own.2) tt refl))

-- a stage that goes so with a stop goes so where a `?` hands it on
pub handed_on : {D : Type 0} {desk : Ghosts D} {old new : D} {stage : Stage (List ℕ)} {stop : Stop} {answer : Result (List ℕ) Stop} → IsErrAnd answer (λ e. e ≡ stop) → Conforms desk stage (Err stop) old new → Conforms desk stage answer old new
handed_on {answer = answer} is goes =
    let p = err_from_is_err_and answer is in
    rw (p.1, p.2) goes
