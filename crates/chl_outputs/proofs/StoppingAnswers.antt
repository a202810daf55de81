-- Answers of pairs at which a command may stop, one after another, and how the stage of the command ends with them.
use Rattle.std.proofs.Common.{◌≡◌, ◌⊎◌, inl, inr, ℕ, ◌+◌, ◌<◌, ◌≤◌, List, [], ◌∷◌, ◌++◌, length, drop, get_or, refl, sym, ap, subst, ◌∙◌, append_assoc, append-nil}
use Rattle.std.specs.Prelude.{Option, Some, None, Ok, Err}
use Rattle.std.specs.Option.{option_or}
use Rattle.std.proofs.lemmas.List.{drop_all, drop_more}
use Rattle.std.proofs.lemmas.List.Elements.{All-drop}
use Rattle.std.proofs.lemmas.Option.{same_Some}
use Rattle.desk_io.specs.declared.desk.Desk.{Ghosts}
use Rattle.hub_query.specs.declared.path_answer.Path.TheVariants.{Sizes as OtherSizes, Unreachable, Walk, Stuck as StuckAt}
use Rattle.via_trace.specs.declared.trace_answer.Trace.TheVariants as traces
use Rattle.chl_inputs.specs.Inputs.{ArePairsWithin}
use Rattle.chl_inputs.specs.Stages.{Stage, Comes, CountsStop, Conforms, Works}
use Rattle.chl_inputs.specs.Stops.{HasMemoryOnce}
use Rattle.chl_inputs.specs.declared.stop.NotOf.TheVariants.{Sizes, Stuck}
use Rattle.chl_inputs.specs.declared.stop.Stop.{Stop}
use Rattle.chl_inputs.specs.declared.stop.Stop.TheVariants.{Broken, NoMemory, NotOfGraph}
use Rattle.chl_inputs.proofs.StagesInTurn.{goes_comes, goes_lost, goes_works}
use Rattle.chl_answers.specs.Commands.{AreAnswers, first_stop, trace_stop, unless_stopped, walk_stop}
use Rattle.chl_answers.proofs.PairAnswers.{answers_exist}

-- ---- one answer more

or_assoc : {A : Type 0} (a b c : Option A) → option_or (option_or a b) c ≡ option_or a (option_or b c)
or_assoc None b c = refl
or_assoc (Some x) b c = refl

module _ {A : Type 0} (stop_at : A → Option Stop) where
  first_stop-append : (xs ys : List A) → first_stop stop_at (xs ++ ys) ≡ option_or (first_stop stop_at xs) (first_stop stop_at ys)
  first_stop-append [] ys = refl
  first_stop-append (x ∷ xs) ys = ap (option_or (stop_at x)) (first_stop-append xs ys) ∙ sym (or_assoc (stop_at x) (first_stop stop_at xs) (first_stop stop_at ys))

  -- after answers without a stop
  stop_after : (answers : List A) (answer : A) (rest : List A) → first_stop stop_at answers ≡ None → first_stop stop_at (answers ++ answer ∷ rest) ≡ option_or (stop_at answer) (first_stop stop_at rest)
  stop_after answers answer rest none = first_stop-append answers (answer ∷ rest) ∙ ap (λ o. option_or o (option_or (stop_at answer) (first_stop stop_at rest))) none

module _ {A : Type 0} (IsOwn : ℕ → ℕ → A → Type 0) (stop_at : A → Option Stop) (pairs : List (ℕ × ℕ)) where
  -- these are the answers of the first k pairs, and at none of them the command stops
  pub record HasAnswered (k : ℕ) (answers : List A) : Type 0 where
    pub whole : (rest : List A) → AreAnswers IsOwn (drop k pairs) rest → AreAnswers IsOwn pairs (answers ++ rest)
    pub none : first_stop stop_at answers ≡ None

  -- the answer of the pair at k, with any answers of the pairs after it
  with_answer : (k : ℕ) (answers : List A) (d : ℕ × ℕ) (answer : A) → HasAnswered k answers → k < length pairs → IsOwn (get_or pairs k d).0 (get_or pairs k d).1 answer
      → (rest : List A) → AreAnswers IsOwn (drop (k + 1) pairs) rest → AreAnswers IsOwn pairs (answers ++ answer ∷ rest)
  with_answer k answers d answer was lt own rest others =
      was.whole (answer ∷ rest) (subst (λ l. AreAnswers IsOwn l (answer ∷ rest)) (sym (drop_more pairs k d lt)) (own, others))

  pub HasAnswered-step : (k : ℕ) (answers : List A) (d : ℕ × ℕ) (answer : A) → HasAnswered k answers → k < length pairs → IsOwn (get_or pairs k d).0 (get_or pairs k d).1 answer → stop_at answer ≡ None → HasAnswered (k + 1) (answers ++ answer ∷ [])
  HasAnswered-step k answers d answer was lt own goes_on = record {
    whole = λ rest others. subst (AreAnswers IsOwn pairs) (sym (append_assoc answers (answer ∷ []) rest)) (with_answer k answers d answer was lt own rest others);
    none = stop_after stop_at answers answer [] was.none ∙ ap (λ o. option_or o None) goes_on;
  }

  pub HasAnswered-end : (k : ℕ) (answers : List A) → HasAnswered k answers → length pairs ≤ k → AreAnswers IsOwn pairs answers
  HasAnswered-end k answers was all =
      subst (AreAnswers IsOwn pairs) (append-nil answers) (was.whole [] (subst (λ l. AreAnswers IsOwn l []) (sym (drop_all k pairs all)) tt))

  -- where it stops, whatever the answers of the other pairs are
  pub HasAnswered-stop : (n : ℕ) → ((u v : ℕ) → 1 ≤ u → u ≤ n → 1 ≤ v → v ≤ n → (a : A) × IsOwn u v a) → ArePairsWithin n pairs → (k : ℕ) (answers : List A) (d : ℕ × ℕ) (answer : A) (stop : Stop) → HasAnswered k answers → k < length pairs
      → IsOwn (get_or pairs k d).0 (get_or pairs k d).1 answer → stop_at answer ≡ Some stop → (all : List A) × AreAnswers IsOwn pairs all × (first_stop stop_at all ≡ Some stop)
  HasAnswered-stop n some within k answers d answer stop was lt own stops =
      let others = answers_exist n IsOwn some (drop (k + 1) pairs) (All-drop (λ (p : ℕ × ℕ). (1 ≤ p.0) × (p.0 ≤ n) × (1 ≤ p.1) × (p.1 ≤ n)) (k + 1) pairs within) in (
        answers ++ answer ∷ others.0,
        with_answer k answers d answer was lt own others.0 others.1,
        stop_after stop_at answers answer others.0 was.none ∙ ap (λ o. option_or o (first_stop stop_at others.0)) stops,
      )

-- ---- the end of the stage

-- a stop that carries no reader's want of memory, and is no failed call
pub record IsHarmless (stop : Stop) : Type 0 where
  pub once : HasMemoryOnce stop
  pub counts : (count : ℕ) → CountsStop {V = List ℕ} (Err stop) count count

-- so is each stop of an answer
abbrev pub StopsHarmlessly : {A : Type 0} → (A → Option Stop) → Type 0
StopsHarmlessly {A} stop_at = (answer : A) (stop : Stop) → stop_at answer ≡ Some stop → IsHarmless stop

pub walks_stop : StopsHarmlessly walk_stop
walks_stop (OtherSizes graph index) stop is = subst IsHarmless (same_Some (NotOfGraph (Sizes graph index)) stop is) (record { once = tt; counts = λ count. refl })
walks_stop Unreachable stop is = absurd cc
walks_stop (Walk long nodes) stop is = absurd cc
walks_stop (StuckAt at to) stop is = subst IsHarmless (same_Some (NotOfGraph (Stuck at to)) stop is) (record { once = tt; counts = λ count. refl })

pub traces_stop : StopsHarmlessly trace_stop
traces_stop traces.Unreachable stop is = absurd cc
traces_stop (traces.Broken at hub) stop is = subst IsHarmless (same_Some (Broken at hub) stop is) (record { once = tt; counts = λ count. refl })
traces_stop (traces.Walk long nodes) stop is = absurd cc

module _ {A : Type 0} (stop_at : A → Option Stop) (harmless : StopsHarmlessly stop_at) where
  -- and the first one
  first_is : (answers : List A) (stop : Stop) → first_stop stop_at answers ≡ Some stop → IsHarmless stop
  first_is [] stop is = absurd cc
  first_is (a ∷ answers) stop is =
      elim (stop_at a) as (λ here. stop_at a ≡ here → option_or here (first_stop stop_at answers) ≡ Some stop → IsHarmless stop) [
        | None ↦ λ none rest. first_is answers stop rest
        | Some other ↦ λ some same. harmless a stop (some ∙ same)
      ] refl is

-- the lines of pairs with their answers, or the first stop
abbrev told_stage : {A : Type 0} → (ℕ → ℕ → A → Type 0) → (A → Option Stop) → (List (ℕ × ℕ) → List A → List ℕ) → List (ℕ × ℕ) → Stage (List ℕ)
told_stage IsOwn stop_at lines pairs = Works (λ answers. AreAnswers IsOwn pairs answers) (λ answers. Comes (unless_stopped (first_stop stop_at answers) (lines pairs answers)))

module _ {D A : Type 0} {desk : Ghosts D} (IsOwn : ℕ → ℕ → A → Type 0) (stop_at : A → Option Stop) (lines : List (ℕ × ℕ) → List A → List ℕ) (pairs : List (ℕ × ℕ)) where
  pub goes_answered : {place : D} (answers : List A) (text : List ℕ) → AreAnswers IsOwn pairs answers → first_stop stop_at answers ≡ None → text ≡ lines pairs answers → Conforms desk (told_stage IsOwn stop_at lines pairs) (Ok text) place place
  goes_answered answers text own none is =
      goes_works answers own (goes_comes (ap Ok is ∙ sym (ap (λ o. unless_stopped o (lines pairs answers)) none)) tt refl)

  pub goes_stopped : {place : D} → StopsHarmlessly stop_at → (stop : Stop) → (stop ≡ NoMemory) ⊎ ((answers : List A) × AreAnswers IsOwn pairs answers × (first_stop stop_at answers ≡ Some stop)) → Conforms desk (told_stage IsOwn stop_at lines pairs) (Err stop) place place
  goes_stopped {place} harmless stop (inl lost) = subst (λ s. Conforms desk (told_stage IsOwn stop_at lines pairs) (Err s) place place) (sym lost) (goes_lost (told_stage IsOwn stop_at lines pairs))
  goes_stopped {place} harmless stop (inr stopped) =
      let is = first_is stop_at harmless stopped.0 stop stopped.2 in
      goes_works stopped.0 stopped.1 (goes_comes (sym (ap (λ o. unless_stopped o (lines pairs stopped.0)) stopped.2)) is.once (is.counts (desk.input_faults place)))
