-- A first word that is no command.
use Rattle.std.proofs.Common.{◌≡◌, ◌∙◌, ap, refl, ℕ, zero, suc, Bool, true, false, List, [], ◌∷◌, length, Option, Some, None, cond, map, option_map, inl, inr, true≢false}
use Rattle.std.specs.Prelude.{◌&&◌, ◌||◌, ◌⊎◌, find, slice_get, if◌then◌else◌}
use Rattle.std.specs.Bool.{Decides}
use Rattle.std.specs.List.{list_any}
use Rattle.std.specs.Str.{bytes_eq, chars}
use Rattle.std.proofs.lemmas.Slice.Eq.{bytes_eq-Decides}
use Rattle.clap.specs.Lexer.{long_of, short_of}
use Rattle.clap.specs.Words.{Kinds, Shape, Text, fault_of, subcommand_of}
use Rattle.clap.specs.Kinds.{or_else}
use Rattle.clap.specs.Faults.{flag_word_fault, other_fault, step_fault, turn_fault, walk_fault}
use Rattle.clap.specs.Walk.{Held, Outcome, after_flag, answers_to, bundle_met, idle, long_or_other, nothing_held, plain, refused, short_or_plain, subcommand_or_other, trailing, walk_from}
use Rattle.clap.proofs.OnLiterals.{clap_on_literals}
use Rattle.chl_words.specs.Literal.{program, commands}
use Rattle.chl_words.specs.Asking.{asked_by, asked_in}
use Rattle.chl_words.proofs.UseFaults.{none, none_or}
use Rattle.chl_words.proofs.Programs.{names, top, unless_is}
use Rattle.chl_words.proofs.Strays.{and_false, or_refused}

none_found : (ss : List Shape) (name : Text) → list_any (λ s. bytes_eq s.name name) ss ≡ false → find (answers_to name) (map (λ (s : Shape). (s.name, [])) ss) ≡ None
none_found [] name unknown = refl
none_found (s ∷ ss) name unknown =
    elim (bytes_eq s.name name) as (λ b. (b || list_any (λ s. bytes_eq s.name name) ss) ≡ false → cond (b || false) (Some (s.name, [])) (find (answers_to name) (map (λ (s : Shape). (s.name, [])) ss)) ≡ None) [
      | true ↦ λ is. absurd (true≢false is)
      | false ↦ λ is. none_found ss name is
    ] unknown

-- without options a bundle of flags is refused, or is a plain word
bundle_out : (k : ℕ) (flags : Text) → (bundle_met [] k flags 0 plain nothing_held ≡ (nothing_held, plain)) ⊎ (bundle_met [] k flags 0 plain nothing_held ≡ (nothing_held, refused))
unfolding bundle_met
bundle_out zero flags = inl refl
bundle_out (suc k) flags =
    elim (slice_get (chars flags) 0) as (λ x. (Rattle.clap.specs.Walk.bundle_step [] x flags 0 plain nothing_held (bundle_met [] k) ≡ (nothing_held, plain)) ⊎ (Rattle.clap.specs.Walk.bundle_step [] x flags 0 plain nothing_held (bundle_met [] k) ≡ (nothing_held, refused))) [
      | None ↦ inl refl
      | Some x ↦ inr refl
    ]

module _ (name : Text) where
  abbrev after_bundle : Held × Outcome → Kinds
  after_bundle p = step_fault top 1 (after_flag [] idle name p.0 p.1).0 (after_flag [] idle name p.0 p.1).1

  short_stray : (flags : Option Text) → none (step_fault top 1 (short_or_plain [] idle name flags nothing_held).0 (short_or_plain [] idle name flags nothing_held).1) ≡ false
  short_stray None = refl
  short_stray (Some flags) =
      elim (bundle_out (length flags) flags) [
        | inl is ↦ ap (λ p. none (after_bundle p)) is
        | inr is ↦ ap (λ p. none (after_bundle p)) is
      ]

  long_stray : (long : Option (Text × Option Text)) → none (step_fault top 1 (long_or_other [] idle name long nothing_held).0 (long_or_other [] idle name long nothing_held).1) ≡ false
  long_stray None = short_stray (short_of name)
  long_stray (Some p) = refl

  abbrev by_name : Option Text → Kinds
  by_name m = or_else (other_fault top m name nothing_held) (step_fault top 1 (subcommand_or_other [] m idle 1 name nothing_held).0 (subcommand_or_other [] m idle 1 name nothing_held).1)

  abbrev by_dashes : Bool → Kinds
  by_dashes d = or_else (if d then [] else flag_word_fault [] false (long_of name) name nothing_held)
      (step_fault top 1 (if d then (nothing_held, trailing 1) else long_or_other [] idle name (long_of name) nothing_held).0 (if d then (nothing_held, trailing 1) else long_or_other [] idle name (long_of name) nothing_held).1)

  first_refused : list_any (λ s. bytes_eq s.name name) commands ≡ false → bytes_eq name (45 ∷ 45 ∷ []) ≡ false → none (turn_fault top names (walk_from nothing_held) name) ≡ false
  first_refused unknown dashes =
      ap (λ f. none (by_name (option_map (λ s. s.0) f))) (none_found commands name unknown)
      ∙ ap (λ d. none (by_dashes d)) dashes
      ∙ none_or (flag_word_fault [] false (long_of name) name nothing_held) _
      ∙ ap (λ b. none (flag_word_fault [] false (long_of name) name nothing_held) && b) (long_stray (long_of name))
      ∙ and_false (none (flag_word_fault [] false (long_of name) name nothing_held))

after_dashes : (p : Text) (rest : List Text) → asked_by (p ∷ (45 ∷ 45 ∷ []) ∷ rest) ≡ None
unfolding clap_on_literals
after_dashes p [] = refl
after_dashes p (x ∷ xs) = refl

walk_refused : (name : Text) (rest : List Text) → none (turn_fault top names (walk_from nothing_held) name) ≡ false → none (walk_fault top names (walk_from nothing_held) (name ∷ rest)) ≡ false
unfolding walk_fault
walk_refused name rest refuses = or_refused (turn_fault top names (walk_from nothing_held) name) _ refuses

-- where no command has the name, the words ask for nothing
pub unknown_is_none : (p name : Text) (rest : List Text) → list_any (λ s. bytes_eq s.name name) commands ≡ false → asked_by (p ∷ name ∷ rest) ≡ None
unknown_is_none p name rest unknown =
    elim (bytes_eq name (45 ∷ 45 ∷ [])) as (λ b. Decides b (name ≡ 45 ∷ 45 ∷ []) → bytes_eq name (45 ∷ 45 ∷ []) ≡ b → asked_by (p ∷ name ∷ rest) ≡ None) [
      | true ↦ λ same test. ap (λ n. asked_by (p ∷ n ∷ rest)) (same.0 refl) ∙ after_dashes p rest
      | false ↦ λ apart test.
          unless_is (fault_of program (p ∷ name ∷ rest)) (asked_in (subcommand_of program (p ∷ name ∷ rest)))
          ∙ ap (λ b. cond b (asked_in (subcommand_of program (p ∷ name ∷ rest))) None)
          (or_refused (walk_fault top names (walk_from nothing_held) (name ∷ rest)) _ (walk_refused name rest (first_refused name unknown test)))
    ] (bytes_eq-Decides name (45 ∷ 45 ∷ [])) refl
