-- Of the words of uses clap has a fault exactly where a use does not fit; else it holds their rows.
use Rattle.std.proofs.Common.{◌≡◌, ◌∙◌, ap, ap₂, sym, refl, subst, ℕ, Bool, true, false, List, [], ◌∷◌, ◌++◌, Option, Some, None, map, option_map, true≢false}
use Rattle.std.specs.Prelude.{◌&&◌}
use Rattle.std.specs.Option.{option_map_or}
use Rattle.std.specs.List.{fold}
use Rattle.clap.specs.Words.{Kinds, Row, Rule, Shape, Text}
use Rattle.clap.specs.Kinds.{or_else}
use Rattle.clap.specs.Walk.{Held, Walk, arg_by_id, reacted, settled, used, used_by_id, walk_from, walked}
use Rattle.clap.specs.Faults.{react_fault, settle_fault, turn_fault, use_fault, walk_fault}
use Rattle.clap.proofs.WalkLemmas.{both}
use Rattle.chl_words.specs.Forms.{Use, begins_with_dash, AreTyped, words_of, words_of_use}
use Rattle.chl_words.proofs.Options.{Opt, rule, named, by_id, name_found}
use Rattle.chl_words.proofs.TypedWords.{dashed}
use Rattle.chl_words.proofs.UseWalks.{IsPlainName, leaf, walked_joined, walked_first, walked_second, fault_joined, fault_first, fault_second, fault_unknown_joined, fault_unknown_split}

abbrev pub none : Kinds → Bool
none [] = true
none (k ∷ ks) = false

pub none_or : (a b : Kinds) → none (or_else a b) ≡ (none a && none b)
none_or [] b = refl
none_or (k ∷ ks) b = refl

pub none_or_none : (a : Kinds) → none (or_else a []) ≡ none a
none_or_none [] = refl
none_or_none (k ∷ ks) = refl

-- the rows with one use more
abbrev pub more : Opt → Text → List Row → List Row
more o value rows = used (rule o) (value ∷ []) rows

-- whether one use more fits
abbrev pub fits : Opt → Text → List Row → Bool
fits o value rows = none (use_fault false (rule o) (value ∷ []) rows)

-- whether uses fit, after the rows of others
abbrev pub fit : List Opt → List Row → List Use → Bool
fit opts rows [] = true
fit opts rows (u ∷ uses) = option_map_or (λ o. fits o u.value rows && fit opts (more o u.value rows) uses) (named u.name opts) false

-- the rows after uses
abbrev pub rows_of_uses : List Opt → List Row → List Use → List Row
rows_of_uses opts rows [] = rows
rows_of_uses opts rows (u ∷ uses) = option_map_or (λ o. rows_of_uses opts (more o u.value rows) uses) (named u.name opts) rows

by_joined : (t u w e f : Bool) → (w && e) ≡ f → (((t && u) && w) && e) ≡ (t && (u && f))
by_joined true true w e f is = is
by_joined true false w e f is = refl
by_joined false u w e f is = refl

by_split : (t w e u f : Bool) → (w && e) ≡ (u && f) → ((t && w) && e) ≡ (t && (u && f))
by_split true w e u f is = is
by_split false w e u f is = refl

never : (t : Bool) → false ≡ (t && false)
never true = refl
never false = refl

module _ (name : Text) (opts : List Opt) where
  abbrev c : List Rule
  c = map rule opts

  abbrev s : Shape
  s = leaf name opts

  -- what is held after the words of uses
  abbrev pub held_after : Held → List Use → Held
  held_after h uses = (fold (walked c []) (walk_from h) (words_of uses)).held

  -- what is held after one use
  abbrev held_with : Opt → Held → Text → Bool → Held
  held_with o h value true = reacted c (rule o) (value ∷ []) h
  held_with o h value false = record (settled c h) { pending = Some (o.name, value ∷ []) }

  abbrev typed_as : ℕ → Text → Text → Bool → Use
  typed_as x xs value joined = record { name = x ∷ xs; value = value; joined = joined }

  found_id : (long : Text) (o : Opt) → named long opts ≡ Some o → arg_by_id c o.name ≡ Some (rule o)
  found_id long o is = by_id opts o.name ∙ ap (λ n. option_map rule (named n opts)) (name_found opts long o is) ∙ ap (option_map rule) is

  rows_after : (o : Opt) (h : Held) (long value : Text) (joined : Bool) → named long opts ≡ Some o → (settled c (held_with o h value joined)).rows ≡ more o value (settled c h).rows
  rows_after o h long value true is = refl
  rows_after o h long value false is = ap (λ (a : Option Rule). used_by_id a (value ∷ []) (settled c h).rows) (found_id long o is)

  fault_after : (o : Opt) (h : Held) (long value : Text) → named long opts ≡ Some o → settle_fault c false (held_with o h value false) ≡ use_fault false (rule o) (value ∷ []) (settled c h).rows
  fault_after o h long value is = ap (λ (a : Option Rule). option_map_or (λ (b : Rule). use_fault false b (value ∷ []) (settled c h).rows) a []) (found_id long o is)

  module _ (x : ℕ) (xs value : Text) (plain : IsPlainName (x ∷ xs)) where
    -- the walk over the words of one use
    walked_use : (joined : Bool) (o : Opt) (h : Held) → (joined ≡ false → begins_with_dash value ≡ false) → named (x ∷ xs) opts ≡ Some o
        → fold (walked c []) (walk_from h) (words_of_use (typed_as x xs value joined)) ≡ walk_from (held_with o h value joined)
    walked_use true o h apart is = walked_joined name opts o h x xs value plain is
    walked_use false o h apart is =
        ap (λ (w : Walk). walked c [] w value) (walked_first name opts o h x xs plain is)
        ∙ walked_second name opts o (settled c h).rows (settled c h).skip (x ∷ xs) value is (apart refl)

    abbrev Judged : Held → List Use → Type 0
    Judged h uses = (none (walk_fault s [] (walk_from h) (words_of uses)) && none (settle_fault c false (held_after h uses))) ≡ (none (settle_fault c false h) && fit opts (settled c h).rows uses)

    fit_found : (joined : Bool) (o : Opt) (rows : List Row) (uses : List Use) → named (x ∷ xs) opts ≡ Some o → fit opts rows (typed_as x xs value joined ∷ uses) ≡ (fits o value rows && fit opts (more o value rows) uses)
    fit_found joined o rows uses is = ap (λ (n : Option Opt). option_map_or (λ (p : Opt). fits p value rows && fit opts (more p value rows) uses) n false) is

    fit_unknown : (joined : Bool) (rows : List Row) (uses : List Use) → named (x ∷ xs) opts ≡ None → fit opts rows (typed_as x xs value joined ∷ uses) ≡ false
    fit_unknown joined rows uses is = ap (λ (n : Option Opt). option_map_or (λ (p : Opt). fits p value rows && fit opts (more p value rows) uses) n false) is

    known : (joined : Bool) (o : Opt) (h : Held) (uses : List Use) → (joined ≡ false → begins_with_dash value ≡ false) → named (x ∷ xs) opts ≡ Some o → ((k : Held) → Judged k uses) → Judged h (typed_as x xs value joined ∷ uses)
    unfolding walk_fault
    known true o h uses apart is rest =
        let after : Held = reacted c (rule o) (value ∷ []) h in
        let step = walked_joined name opts o h x xs value plain is in
        let turned = ap₂ (λ (f : Kinds) (w : Walk). none (or_else f (walk_fault s [] w (words_of uses)))) (fault_joined name opts o h x xs value plain is) step
        ∙ none_or (or_else (react_fault c false (rule o) (value ∷ []) h) []) (walk_fault s [] (walk_from after) (words_of uses))
        ∙ ap (λ b. b && none (walk_fault s [] (walk_from after) (words_of uses))) (none_or_none (react_fault c false (rule o) (value ∷ []) h) ∙ none_or (settle_fault c false h) (use_fault false (rule o) (value ∷ []) (settled c h).rows)) in
        let ended = ap (λ (w : Walk). none (settle_fault c false (fold (walked c []) w (words_of uses)).held)) step in
        ap₂ (λ a b. a && b) turned ended
        ∙ by_joined (none (settle_fault c false h)) (fits o value (settled c h).rows) (none (walk_fault s [] (walk_from after) (words_of uses))) (none (settle_fault c false (held_after after uses))) (fit opts (more o value (settled c h).rows) uses) (rest after)
        ∙ ap (λ b. none (settle_fault c false h) && b) (sym (fit_found true o (settled c h).rows uses is))
    known false o h uses apart is rest =
        let first : Held = record (settled c h) { pending = Some (o.name, []) } in
        let after : Held = held_with o h value false in
        let one = walked_first name opts o h x xs plain is in
        let two = walked_second name opts o (settled c h).rows (settled c h).skip (x ∷ xs) value is (apart refl) in
        let turned = ap₂ (λ (f : Kinds) (w : Walk). none (or_else f (or_else (turn_fault s [] w value) (walk_fault s [] (walked c [] w value) (words_of uses))))) (fault_first name opts o h x xs plain is) one
        ∙ ap₂ (λ (f : Kinds) (w : Walk). none (or_else (or_else (settle_fault c false h) []) (or_else f (walk_fault s [] w (words_of uses))))) (fault_second name opts o first value (apart refl)) two
        ∙ none_or (or_else (settle_fault c false h) []) (walk_fault s [] (walk_from after) (words_of uses))
        ∙ ap (λ b. b && none (walk_fault s [] (walk_from after) (words_of uses))) (none_or_none (settle_fault c false h)) in
        let ended = ap (λ (w : Walk). none (settle_fault c false (fold (walked c []) w (words_of uses)).held)) (walked_use false o h apart is) in
        let later = rest after ∙ ap₂ (λ (f : Kinds) (rows : List Row). none f && fit opts rows uses) (fault_after o h (x ∷ xs) value is) (rows_after o h (x ∷ xs) value false is) in
        ap₂ (λ a b. a && b) turned ended
        ∙ by_split (none (settle_fault c false h)) (none (walk_fault s [] (walk_from after) (words_of uses))) (none (settle_fault c false (held_after after uses))) (fits o value (settled c h).rows) (fit opts (more o value (settled c h).rows) uses) later
        ∙ ap (λ b. none (settle_fault c false h) && b) (sym (fit_found false o (settled c h).rows uses is))

    unknown : (joined : Bool) (h : Held) (uses : List Use) → named (x ∷ xs) opts ≡ None → Judged h (typed_as x xs value joined ∷ uses)
    unfolding walk_fault
    unknown true h uses is =
        ap (λ (f : Kinds). none (or_else f (walk_fault s [] (walked c [] (walk_from h) (dashed ((x ∷ xs) ++ 61 ∷ value))) (words_of uses))) && none (settle_fault c false (held_after h (typed_as x xs value true ∷ uses)))) (fault_unknown_joined name opts h x xs value plain is)
        ∙ never (none (settle_fault c false h)) ∙ ap (λ b. none (settle_fault c false h) && b) (sym (fit_unknown true (settled c h).rows uses is))
    unknown false h uses is =
        ap (λ (f : Kinds). none (or_else f (walk_fault s [] (walked c [] (walk_from h) (dashed (x ∷ xs))) (value ∷ words_of uses))) && none (settle_fault c false (held_after h (typed_as x xs value false ∷ uses)))) (fault_unknown_split name opts h x xs plain is)
        ∙ never (none (settle_fault c false h)) ∙ ap (λ b. none (settle_fault c false h) && b) (sym (fit_unknown false (settled c h).rows uses is))

    one_use : (joined : Bool) (h : Held) (uses : List Use) → (joined ≡ false → begins_with_dash value ≡ false) → ((k : Held) → Judged k uses) → Judged h (typed_as x xs value joined ∷ uses)
    one_use joined h uses apart rest =
        elim (named (x ∷ xs) opts) as (λ n. named (x ∷ xs) opts ≡ n → Judged h (typed_as x xs value joined ∷ uses)) [
          | None ↦ λ is. unknown joined h uses is
          | Some o ↦ λ is. known joined o h uses apart is rest
        ] refl

  nothing : (h : Held) (b : Bool) → (none (walk_fault s [] (walk_from h) []) && b) ≡ (b && true)
  unfolding walk_fault
  nothing h true = refl
  nothing h false = refl

  -- clap has no fault of the words of uses, nor of what is held after them, exactly where they fit
  pub judged : (uses : List Use) → AreTyped uses → (h : Held)
      → (none (walk_fault s [] (walk_from h) (words_of uses)) && none (settle_fault c false (held_after h uses))) ≡ (none (settle_fault c false h) && fit opts (settled c h).rows uses)
  judged [] typed h = nothing h (none (settle_fault c false h))
  judged (u ∷ uses) typed h =
      let t = typed.0 in
      let same : record { name = t.first ∷ t.rest; value = u.value; joined = u.joined } ≡ u = ap (λ (n : Text). record { name = n; value = u.value; joined = u.joined }) (sym t.named) in
      subst (λ (v : Use). (none (walk_fault s [] (walk_from h) (words_of (v ∷ uses))) && none (settle_fault c false (held_after h (v ∷ uses)))) ≡ (none (settle_fault c false h) && fit opts (settled c h).rows (v ∷ uses))) same
      (one_use t.first t.rest u.value (subst IsPlainName t.named t.plain) u.joined h uses t.apart (λ k. judged uses typed.1 k))

  module _ (x : ℕ) (xs value : Text) (plain : IsPlainName (x ∷ xs)) where
    abbrev Holds : Held → List Use → Type 0
    Holds h uses = fit opts (settled c h).rows uses ≡ true → (settled c (held_after h uses)).rows ≡ rows_of_uses opts (settled c h).rows uses

    moved : (joined : Bool) (o : Opt) (h : Held) (uses : List Use) → (joined ≡ false → begins_with_dash value ≡ false) → named (x ∷ xs) opts ≡ Some o
        → (settled c (held_after h (typed_as x xs value joined ∷ uses))).rows ≡ (settled c (held_after (held_with o h value joined) uses)).rows
    moved true o h uses apart is = ap (λ (w : Walk). (settled c (fold (walked c []) w (words_of uses)).held).rows) (walked_use x xs value plain true o h apart is)
    moved false o h uses apart is = ap (λ (w : Walk). (settled c (fold (walked c []) w (words_of uses)).held).rows) (walked_use x xs value plain false o h apart is)

    one_held : (joined : Bool) (h : Held) (uses : List Use) → (joined ≡ false → begins_with_dash value ≡ false) → ((k : Held) → Holds k uses) → Holds h (typed_as x xs value joined ∷ uses)
    one_held joined h uses apart rest fitting =
        elim (named (x ∷ xs) opts) as (λ n. named (x ∷ xs) opts ≡ n → (settled c (held_after h (typed_as x xs value joined ∷ uses))).rows ≡ rows_of_uses opts (settled c h).rows (typed_as x xs value joined ∷ uses)) [
          | None ↦ λ is. absurd (true≢false (sym fitting ∙ fit_unknown x xs value plain joined (settled c h).rows uses is))
          | Some o ↦ λ is.
              let later : fit opts (more o value (settled c h).rows) uses ≡ true = (both _ _ (sym (fit_found x xs value plain joined o (settled c h).rows uses is) ∙ fitting)).1 in
              let same = rows_after o h (x ∷ xs) value joined is in
              moved joined o h uses apart is
              ∙ rest (held_with o h value joined) (ap (λ rows. fit opts rows uses) same ∙ later)
              ∙ ap (λ rows. rows_of_uses opts rows uses) same
              ∙ ap (λ (n : Option Opt). option_map_or (λ (p : Opt). rows_of_uses opts (more p value (settled c h).rows) uses) n (settled c h).rows) (sym is)
        ] refl

  -- and where they fit, these are their rows
  pub rows_held : (uses : List Use) → AreTyped uses → (h : Held) → fit opts (settled c h).rows uses ≡ true → (settled c (held_after h uses)).rows ≡ rows_of_uses opts (settled c h).rows uses
  rows_held [] typed h fitting = refl
  rows_held (u ∷ uses) typed h fitting =
      let t = typed.0 in
      let same : record { name = t.first ∷ t.rest; value = u.value; joined = u.joined } ≡ u = ap (λ (n : Text). record { name = n; value = u.value; joined = u.joined }) (sym t.named) in
      subst (λ (v : Use). fit opts (settled c h).rows (v ∷ uses) ≡ true → (settled c (held_after h (v ∷ uses))).rows ≡ rows_of_uses opts (settled c h).rows (v ∷ uses)) same
      (one_held t.first t.rest u.value (subst IsPlainName t.named t.plain) u.joined h uses t.apart (λ k. rows_held uses typed.1 k)) fitting
