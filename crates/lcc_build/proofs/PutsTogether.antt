-- What workers put together, and whether memory sufficed for all of them.
use Rattle.std.proofs.Common.{◌≡◌, true, ℕ, List, [], ◌∷◌, ◌++◌, All, Contains, refl, sym, ap, subst, ◌∙◌}
use Rattle.std.specs.Prelude.{Result, Ok, Err, IsOk, OnOk, Bool, ◌||◌, flat_map, nat_eq}
use Rattle.std.specs.Result.{result_and}
use Rattle.label_rows.specs.declared.rule.Visit.{Visit}
use Rattle.label_rows.specs.Visits.{put_list, visits_of, puts_of}
use Rattle.std.proofs.lemmas.Grind.{flat_map-append}
use Rattle.std.proofs.lemmas.List.Elements.{All-contains, All-contains_itself, All-weaker, filter-append, Contains-append_left, Contains-append_right}
use mathlib.Core.Bool.{true≢false}
use Rattle.walk_laws.proofs.Members.{Contains-first}

-- of two results one after another
pub IsOk-both : {T E : Type 0} (r s : Result T E) → IsOk (result_and r s) → IsOk r × IsOk s
IsOk-both (Ok x) s ok = (refl, ok)
IsOk-both (Err e) s ok = absurd (true≢false (sym ok))

pub over_both : {T E : Type 0} (r s : Result T E) (one two over : Bool) → over ≡ (one || two) → OnOk r (one ≡ true) → OnOk (result_and r s) (over ≡ true)
over_both (Ok x) (Ok y) one two over is h = is ∙ ap (λ b. b || two) h
over_both (Ok x) (Err e) one two over is h = tt
over_both (Err e) s one two over is h = tt

-- what was put by some visits and by others
pub puts_of-append : (xs ys : List Visit) (v : ℕ) → puts_of (xs ++ ys) v ≡ puts_of xs v ++ puts_of ys v
puts_of-append xs ys v = ap (flat_map (λ x. put_list x.put)) (filter-append (λ x. nat_eq x.node v) xs ys) ∙ flat_map-append (λ x. put_list x.put) (visits_of xs v) (visits_of ys v)

-- a list with one element after
pub both_parts : {X : Type 0} (P : X → Type 0) (xs ys : List X) (x : X) → xs ≡ ys ++ x ∷ [] → All P xs → All P ys × P x
both_parts P xs ys x is all = (
  All-weaker (Contains ys) P (λ y here. All-contains P xs y all (subst (λ zs. Contains zs y) (sym is) (Contains-append_left ys (x ∷ []) y here))) ys (All-contains_itself ys),
  All-contains P xs x all (subst (λ zs. Contains zs x) (sym is) (Contains-append_right ys (x ∷ []) x (Contains-first x []))),
)
