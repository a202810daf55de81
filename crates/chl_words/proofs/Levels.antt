-- A command with uses of its options, as clap judges it.
use Rattle.std.proofs.Common.{◌≡◌, ◌∙◌, ap, ap₂, sym, refl, Bool, true, false, List, [], ◌∷◌, Option, Some, None, cond, map, option_map}
use Rattle.std.specs.Prelude.{◌&&◌, ◌||◌, not, find, option_and_then, slice_get, is_some}
use Rattle.std.specs.Option.{option_map_or}
use Rattle.std.specs.List.{fold, list_any}
use Rattle.std.specs.Str.{bytes_eq}
use Rattle.clap.specs.Words.{Kinds, Row, Rule, Text, first_of}
use Rattle.clap.specs.Kinds.{or_else}
use Rattle.clap.specs.Takes.{is_given}
use Rattle.clap.specs.Faults.{check_fault, defaults_fault, level_fault, settle_fault, walk_fault}
use Rattle.clap.specs.Walk.{nothing_held, rows_after, settled, walk_from, with_default}
use Rattle.clap.specs.declared.error.kind.ErrorKind.TheVariants.{MissingRequiredArgument}
use Rattle.clap.proofs.WalkLemmas.{both}
use Rattle.chl_words.specs.Forms.{Use, AreTyped, has_required, is_taken, option_of, takes_uses, value_of, words_of}
use Rattle.chl_words.proofs.Options.{Opt, rule}
use Rattle.chl_words.proofs.UseWalks.{leaf}
use Rattle.chl_words.proofs.UseFaults.{none, none_or, fit, held_after, judged, rows_held}
use Rattle.chl_words.proofs.UseRows.{opt_of, named_of, rows_for, rows_are, all_named, given_for, first_for, has_for, fit_takes, and_when}
use Rattle.chl_words.proofs.Defaults.{AreDistinct, DefaultsPass, default_of, no_default_fault, given_finished, first_finished}

one_missing : (r g x y : Bool) → x ≡ not y → ((r && not g) || x) ≡ not ((not r || g) && y)
one_missing true true x y is = is
one_missing true false x y is = refl
one_missing false g x y is = is

-- an option that must be there has no row exactly where one has no use
missing_is : (options : List Rule) (uses : List Use) (rows : List Row) → ((id : Text) → is_given id rows ≡ list_any (λ u. bytes_eq u.name id) uses)
    → list_any (λ a. a.required && not (is_given a.id rows)) (map rule (map opt_of options)) ≡ not (has_required options uses)
missing_is [] uses rows given = refl
missing_is (a ∷ options) uses rows given =
    ap (λ b. (a.required && not b) || list_any (λ a. a.required && not (is_given a.id rows)) (map rule (map opt_of options))) (given a.id)
    ∙ one_missing a.required (list_any (λ u. bytes_eq u.name a.id) uses) _ (has_required options uses) (missing_is options uses rows given)

not_not : (b : Bool) → not (not b) ≡ b
not_not true = refl
not_not false = refl

regroup : (w t x : Bool) → (w && (true && (t && (true && x)))) ≡ ((w && t) && x)
regroup true t x = refl
regroup false t x = refl

module _ (name : Text) (options : List Rule) (uses : List Use) (typed : AreTyped uses) where
  abbrev opts : List Opt
  opts = map opt_of options

  abbrev end_rows : List Row
  end_rows = (settled (map rule opts) (held_after name opts nothing_held uses)).rows

  taken_rows : takes_uses options [] uses ≡ true → end_rows ≡ rows_for opts uses
  taken_rows takes =
      let fitting : fit opts [] uses ≡ true = fit_takes options [] [] uses (λ x. refl) ∙ takes in
      rows_held name opts uses typed nothing_held fitting ∙ rows_are opts [] uses fitting

  given_at_end : takes_uses options [] uses ≡ true → (id : Text) → is_given id (fold with_default end_rows (map rule opts)) ≡ list_any (λ u. bytes_eq u.name id) uses
  given_at_end takes id =
      given_finished opts end_rows id ∙ ap (is_given id) (taken_rows takes)
      ∙ given_for opts uses id (all_named opts [] uses (fit_takes options [] [] uses (λ x. refl) ∙ takes))

  checked : (b : Bool) → none (cond b (MissingRequiredArgument ∷ []) []) ≡ not b
  checked true = refl
  checked false = refl

  -- clap has no fault of the command exactly where it takes the uses
  pub level_is : DefaultsPass opts → none (level_fault (leaf name opts) [] nothing_held (words_of uses) false []) ≡ is_taken options uses
  level_is pass =
      let walk = walk_fault (leaf name opts) [] (walk_from nothing_held) (words_of uses) in
      let settle = settle_fault (map rule opts) false (held_after name opts nothing_held uses) in
      let defaults = defaults_fault end_rows (map rule opts) in
      let check = check_fault (leaf name opts) (fold with_default end_rows (map rule opts)) false in
      none_or walk (or_else [] (or_else settle (or_else defaults check)))
      ∙ ap (λ b. none walk && b) (none_or settle (or_else defaults check) ∙ ap (λ b. none settle && b) (none_or defaults check ∙ ap (λ (k : Kinds). none k && none check) (no_default_fault opts end_rows pass)))
      ∙ regroup (none walk) (none settle) (none check)
      ∙ and_when (none walk && none settle) (takes_uses options [] uses) (none check) (has_required options uses)
      (judged name opts uses typed nothing_held ∙ fit_takes options [] [] uses (λ x. refl))
      (λ clean.
      let takes : takes_uses options [] uses ≡ true = sym (judged name opts uses typed nothing_held ∙ fit_takes options [] [] uses (λ x. refl)) ∙ clean in
      checked (list_any (λ a. a.required && not (is_given a.id (fold with_default end_rows (map rule opts)))) (map rule opts))
      ∙ ap not (missing_is options uses (fold with_default end_rows (map rule opts)) (given_at_end takes)) ∙ not_not (has_required options uses))

  default_is : (id : Text) → default_of opts id ≡ option_and_then (λ a. slice_get a.defaults 0) (option_of options id)
  default_is id =
      ap (option_and_then (λ (o : Opt). slice_get o.defaults 0)) (named_of options id)
      ∙ elim (option_of options id) as (λ a. option_and_then (λ (o : Opt). slice_get o.defaults 0) (option_map opt_of a) ≡ option_and_then (λ a. slice_get a.defaults 0) a) [ None ↦ refl | Some a ↦ refl ]

  by_use : (u : Option Use) (d : Option Text) → cond (is_some u) (option_map (λ (v : Use). v.value) u) d ≡ option_map_or (λ (v : Use). Some v.value) u d
  by_use None d = refl
  by_use (Some u) d = refl

  -- and then its options have the values of the uses
  pub values_are : AreDistinct opts → is_taken options uses ≡ true → (id : Text) → first_of id (rows_after (map rule opts) [] (words_of uses)) ≡ value_of options uses id
  values_are distinct taken id =
      let takes = (both _ _ taken).0 in
      let known = all_named opts [] uses (fit_takes options [] [] uses (λ x. refl) ∙ takes) in
      ap (λ (l : List Row). first_of id (fold with_default l (map rule opts))) (taken_rows takes)
      ∙ first_finished opts (rows_for opts uses) id distinct
      ∙ ap₂ (λ b d. cond b (first_of id (rows_for opts uses)) d) (has_for opts uses id known) (default_is id)
      ∙ ap (λ f. cond (is_some (find (λ u. bytes_eq u.name id) uses)) f (option_and_then (λ a. slice_get a.defaults 0) (option_of options id))) (first_for opts uses id known)
      ∙ by_use (find (λ u. bytes_eq u.name id) uses) (option_and_then (λ a. slice_get a.defaults 0) (option_of options id))
