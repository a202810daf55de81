-- Words that are no command: a stray word after uses, a first word that is no command, and a call for help.
use Rattle.std.proofs.Common.{◌≡◌, ◌∙◌, ap, ap₂, sym, refl, subst, ℕ, Bool, true, false, List, [], ◌∷◌, ◌++◌, Contains, Option, Some, None, cond, map}
use Rattle.std.specs.Prelude.{◌&&◌, if◌then◌else◌}
use Rattle.std.specs.Option.{option_map_or}
use Rattle.clap.specs.Words.{Kinds, Rule, Shape, Text}
use Rattle.clap.specs.Kinds.{or_else}
use Rattle.clap.specs.Faults.{bundle_fault, flag_word_fault, level_fault, settle_fault, step_fault, turn_fault, walk_fault, word_fault}
use Rattle.clap.specs.Walk.{Held, Walk, arg_by_index, idle, long_or_other, nothing_held, rows_after, short_or_plain, trailing, walk_from, walked}
use Rattle.clap.specs.declared.error.kind.ErrorKind.TheVariants.{UnknownArgument}
use Rattle.chl_words.specs.Literal.{commands}
use Rattle.chl_words.specs.Forms.{Use, AreTyped, begins_with_dash, words_of}
use Rattle.chl_words.specs.Asking.{asked_of, asked_by, values_in}
use Rattle.chl_words.proofs.Options.{Opt, rule, named}
use Rattle.chl_words.proofs.TypedWords.{dashed, no_long, no_short, not_dashes}
use Rattle.chl_words.proofs.UseWalks.{IsPlainName, leaf, walked_joined, walked_first, walked_second, fault_unknown_joined, fault_unknown_split}
use Rattle.chl_words.proofs.UseFaults.{none, none_or}
use Rattle.chl_words.proofs.UseRows.{opt_of}
use Rattle.chl_words.proofs.Programs.{command_is, is_judged}

pub and_false : (b : Bool) → (b && false) ≡ false
and_false true = refl
and_false false = refl

pub or_refused : (a b : Kinds) → none a ≡ false → none (or_else a b) ≡ false
or_refused a b is = none_or a b ∙ ap (λ t. t && none b) is

-- no option has a place among words without dashes
no_place : (opts : List Opt) (i : ℕ) → arg_by_index (map rule opts) i ≡ None
no_place [] i = refl
no_place (o ∷ opts) i = no_place opts i

module _ (name : Text) (opts : List Opt) (word : Text) (plain_word : begins_with_dash word ≡ false) (rest : List Text) where
  abbrev c : List Rule
  c = map rule opts

  abbrev s : Shape
  s = leaf name opts

  abbrev turn : Held → Bool → Option (Text × Option Text) → Kinds
  turn h dashes long = or_else (if dashes then [] else flag_word_fault c false long word h)
      (step_fault s 1 (if dashes then (h, trailing 1) else long_or_other c idle word long h).0 (if dashes then (h, trailing 1) else long_or_other c idle word long h).1)

  stray_turn : (h : Held) → turn_fault s [] (walk_from h) word ≡ UnknownArgument ∷ []
  stray_turn h =
      ap₂ (turn h) (not_dashes word plain_word) (no_long word plain_word)
      ∙ ap (λ (flags : Option Text). or_else (option_map_or (λ (f : Text). bundle_fault c false f h) flags []) (step_fault s 1 (short_or_plain c idle word flags h).0 (short_or_plain c idle word flags h).1)) (no_short word plain_word)
      ∙ ap (λ (a : Option Rule). option_map_or (λ (b : Rule). Rattle.clap.specs.Faults.positional_fault c false b h) a (UnknownArgument ∷ [])) (no_place opts 1)

  abbrev IsRefused : Held → List Use → Type 0
  IsRefused h uses = none (walk_fault s [] (walk_from h) (words_of uses ++ word ∷ rest)) ≡ false

  one_use : (x : ℕ) (xs value : Text) (joined : Bool) (h : Held) (uses : List Use) → IsPlainName (x ∷ xs) → (joined ≡ false → begins_with_dash value ≡ false) → ((k : Held) → IsRefused k uses)
      → IsRefused h (record { name = x ∷ xs; value = value; joined = joined } ∷ uses)
  unfolding walk_fault
  one_use x xs value true h uses plain apart after =
      elim (named (x ∷ xs) opts) as (λ n. named (x ∷ xs) opts ≡ n → IsRefused h (record { name = x ∷ xs; value = value; joined = true } ∷ uses)) [
        | None ↦ λ is. ap (λ (f : Kinds). none (or_else f (walk_fault s [] (walked c [] (walk_from h) (dashed ((x ∷ xs) ++ 61 ∷ value))) (words_of uses ++ word ∷ rest)))) (fault_unknown_joined name opts h x xs value plain is)
        | Some o ↦ λ is.
            ap (λ (w : Walk). none (or_else (turn_fault s [] (walk_from h) (dashed ((x ∷ xs) ++ 61 ∷ value))) (walk_fault s [] w (words_of uses ++ word ∷ rest)))) (walked_joined name opts o h x xs value plain is)
            ∙ none_or (turn_fault s [] (walk_from h) (dashed ((x ∷ xs) ++ 61 ∷ value))) _
            ∙ ap (λ b. none (turn_fault s [] (walk_from h) (dashed ((x ∷ xs) ++ 61 ∷ value))) && b) (after _)
            ∙ and_false (none (turn_fault s [] (walk_from h) (dashed ((x ∷ xs) ++ 61 ∷ value))))
      ] refl
  one_use x xs value false h uses plain apart after =
      elim (named (x ∷ xs) opts) as (λ n. named (x ∷ xs) opts ≡ n → IsRefused h (record { name = x ∷ xs; value = value; joined = false } ∷ uses)) [
        | None ↦ λ is. ap (λ (f : Kinds). none (or_else f (walk_fault s [] (walked c [] (walk_from h) (dashed (x ∷ xs))) (value ∷ (words_of uses ++ word ∷ rest))))) (fault_unknown_split name opts h x xs plain is)
        | Some o ↦ λ is.
            let first = walked_first name opts o h x xs plain is in
            let later : Kinds = turn_fault s [] (walked c [] (walk_from h) (dashed (x ∷ xs))) value in
            ap (λ (w : Walk). none (or_else (turn_fault s [] (walk_from h) (dashed (x ∷ xs))) (or_else later (walk_fault s [] w (words_of uses ++ word ∷ rest)))))
            (ap (λ (w : Walk). walked c [] w value) first ∙ walked_second name opts o _ _ (x ∷ xs) value is (apart refl))
            ∙ none_or (turn_fault s [] (walk_from h) (dashed (x ∷ xs))) _
            ∙ ap (λ b. none (turn_fault s [] (walk_from h) (dashed (x ∷ xs))) && b) (none_or later _ ∙ ap (λ b. none later && b) (after _) ∙ and_false (none later))
            ∙ and_false (none (turn_fault s [] (walk_from h) (dashed (x ∷ xs))))
      ] refl

  stray : (uses : List Use) → AreTyped uses → (h : Held) → IsRefused h uses
  unfolding walk_fault
  stray [] typed h = ap (λ (f : Kinds). none (or_else f (walk_fault s [] (walked c [] (walk_from h) word) rest))) (stray_turn h)
  stray (u ∷ uses) typed h =
      let t = typed.0 in
      let same : record { name = t.first ∷ t.rest; value = u.value; joined = u.joined } ≡ u = ap (λ (n : Text). record { name = n; value = u.value; joined = u.joined }) (sym t.named) in
      subst (λ (v : Use). IsRefused h (v ∷ uses)) same (one_use t.first t.rest u.value u.joined h uses (subst IsPlainName t.named t.plain) t.apart (λ k. stray uses typed.1 k))

  pub stray_level : (uses : List Use) → AreTyped uses → none (level_fault s [] nothing_held (words_of uses ++ word ∷ rest) false []) ≡ false
  stray_level uses typed =
      or_refused (walk_fault s [] (walk_from nothing_held) (words_of uses ++ word ∷ rest)) _ (stray uses typed nothing_held)

pub stray_is_none : (p : Text) (s : Shape) (uses : List Use) (word : Text) (rest : List Text) → Contains commands s → AreTyped uses → begins_with_dash word ≡ false → asked_by (p ∷ s.name ∷ (words_of uses ++ word ∷ rest)) ≡ None
stray_is_none p s uses word rest has typed plain =
    let judged = is_judged s has in
    command_is s.name (leaf s.name (map opt_of s.rules)) judged.enters p (words_of uses ++ word ∷ rest)
    ∙ ap (λ b. cond b (asked_of s.name (values_in (rows_after (map rule (map opt_of s.rules)) [] (words_of uses ++ word ∷ rest)))) None) (stray_level s.name (map opt_of s.rules) word plain rest uses typed)
