-- A task is taken out of a place, or none is there.
use Rattle.std.proofs.Common.{◌≡◌, ℕ, ◌+◌, ◌<◌, List, All, get_or, length, slice_set, take, sym, ap, ◌∙◌}
use Rattle.std.specs.Prelude.{Option, None, Some}
use Rattle.std.proofs.lemmas.List.{get_or_default, set-get_or}
use Rattle.std.proofs.lemmas.List.Elements.{All-more}
use Rattle.gll_table.specs.Tasks.{IsTakenFrom}

-- a place where nothing was is as it was
pub none_taken : {T : Type 0} (was now : List (Option T)) (k : ℕ) (d taken after : Option T) → now ≡ was → d ≡ get_or now k d → taken ≡ d → taken ≡ None → after ≡ None → slice_set now k after ≡ was
none_taken was now k d taken after same is value none left = ap (slice_set now k) (left ∙ sym none ∙ value ∙ is) ∙ set-get_or now k d ∙ same

-- one more place is without a task
pub none_there : {T : Type 0} (was now : List (Option T)) (k : ℕ) (d taken : Option T) → now ≡ was → k < length was → d ≡ get_or now k d → taken ≡ d → taken ≡ None → All (λ place. place ≡ None) (take k was) → All (λ place. place ≡ None) (take (k + 1) was)
none_there {T = T} was now k d taken same within is value none before =
    All-more (λ (place : Option T). place ≡ None) was k d within before (ap (λ ts. get_or ts k d) (sym same) ∙ sym is ∙ sym value ∙ none)

pub taken_there : {T : Type 0} (was now : List (Option T)) (k : ℕ) (d taken after : Option T) (task : T) → now ≡ was → k < length was → d ≡ get_or now k d → taken ≡ d → taken ≡ Some task → after ≡ None → IsTakenFrom was task (slice_set now k after)
taken_there {T = T} was now k d taken after task same within is value some left =
    let nothing : Option T = None in
    record {
      place = k;
      within = within;
      stood = get_or_default was k nothing d within ∙ ap (λ ts. get_or ts k d) (sym same) ∙ sym is ∙ sym value ∙ some;
      left = ap (λ ts. slice_set ts k after) same ∙ ap (slice_set was k) left;
    }
