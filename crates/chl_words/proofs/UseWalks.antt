-- The walk over the words of uses: what it holds at the end, and whether clap has a fault of them.
use Rattle.std.proofs.Common.{◌≡◌, ◌≢◌, ◌∙◌, ap, ap₂, ℕ, Bool, true, false, List, [], ◌∷◌, ◌++◌, Option, Some, None, cond, map, option_map}
use Rattle.std.specs.Prelude.{All, if◌then◌else◌, nat_lt}
use Rattle.std.specs.Option.{option_map_or}
use Rattle.clap.specs.Words.{Kinds, Row, Rule, Shape, Text}
use Rattle.clap.specs.Simple.{new_shape}
use Rattle.clap.specs.Kinds.{or_else}
use Rattle.clap.specs.Walk.{Held, Step, Waiting, Walk, after_flag, after_step, arg_by_id, arg_by_long, idle, long_met, long_or_other, option, option_word, pushed, reacted, settled, short_or_plain, trailing, walk_from, walked}
use Rattle.clap.specs.Faults.{flag_word_fault, long_fault, react_fault, settle_fault, step_fault, turn_fault, use_fault, walk_fault}
use Rattle.clap.specs.declared.error.kind.ErrorKind.TheVariants.{UnknownArgument}
use Rattle.chl_words.proofs.Options.{Opt, rule, named, by_id, by_long, name_found, same_text}
use Rattle.chl_words.proofs.TypedWords.{dashed, long_joined, long_split, no_long, no_short, not_dashes}
use Rattle.chl_words.specs.Forms.{begins_with_dash}

-- a built command of these options
abbrev pub leaf : Text → List Opt → Shape
leaf name opts = record (new_shape name) { rules = map rule opts; disable_help_flag = true; disable_help_subcommand = true; is_built = true }

abbrev pub IsPlainName : Text → Type 0
IsPlainName = All (λ byte. byte ≢ 61)

module _ (name : Text) (opts : List Opt) where
  abbrev c : List Rule
  c = map rule opts

  abbrev s : Shape
  s = leaf name opts

  abbrev pub waiting_at : Held → Text → Walk
  waiting_at h id = record (walk_from h) { waiting = option id }

  abbrev met : Waiting → Text → Bool → Option (Text × Option Text) → Held → Held × Step
  met waiting word dashes long h = if dashes then (h, trailing 1) else long_or_other c waiting word long h

  abbrev turn : Walk → Text → Bool → Option (Text × Option Text) → Walk
  turn w word dashes long = after_step c word w (met w.waiting word dashes long w.held).0 (met w.waiting word dashes long w.held).1

  -- what follows where the option is found
  abbrev flag_turn : Held → Text → Option Text → Option Rule → Walk
  flag_turn h word v a = after_step c word (walk_from h) (after_flag c idle word (long_met c a v h).0 (long_met c a v h).1).0 (after_flag c idle word (long_met c a v h).0 (long_met c a v h).1).1

  found : (long : Text) (o : Opt) → named long opts ≡ Some o → arg_by_long c long ≡ Some (rule o)
  found long o is = by_long opts long ∙ ap (option_map rule) is

  found_id : (long : Text) (o : Opt) → named long opts ≡ Some o → arg_by_id c o.name ≡ Some (rule o)
  found_id long o is = by_id opts o.name ∙ ap (λ n. option_map rule (named n opts)) (name_found opts long o is) ∙ ap (option_map rule) is

  pub walked_joined : (o : Opt) (h : Held) (x : ℕ) (xs value : Text) → IsPlainName (x ∷ xs) → named (x ∷ xs) opts ≡ Some o
      → walked c [] (walk_from h) (dashed ((x ∷ xs) ++ 61 ∷ value)) ≡ walk_from (reacted c (rule o) (value ∷ []) h)
  unfolding walked
  walked_joined o h x xs value plain is =
      ap (turn (walk_from h) (dashed ((x ∷ xs) ++ 61 ∷ value)) false) (long_joined x xs value plain)
      ∙ ap (flag_turn h (dashed ((x ∷ xs) ++ 61 ∷ value)) (Some value)) (found (x ∷ xs) o is)

  pub walked_first : (o : Opt) (h : Held) (x : ℕ) (xs : Text) → IsPlainName (x ∷ xs) → named (x ∷ xs) opts ≡ Some o
      → walked c [] (walk_from h) (dashed (x ∷ xs)) ≡ waiting_at (record (settled c h) { pending = Some (o.name, []) }) o.name
  unfolding walked
  walked_first o h x xs plain is =
      ap (turn (walk_from h) (dashed (x ∷ xs)) false) (long_split x xs plain)
      ∙ ap (flag_turn h (dashed (x ∷ xs)) None) (found (x ∷ xs) o is)

  abbrev value_turn : Walk → Text → Held × Waiting → Walk
  value_turn w word p = record w { held = p.0; waiting = p.1 }

  pub walked_second : (o : Opt) (rows : List Row) (skip : ℕ) (long value : Text) → named long opts ≡ Some o → begins_with_dash value ≡ false
      → walked c [] (waiting_at (record { rows = rows; pending = Some (o.name, []); skip = skip }) o.name) value
      ≡ walk_from (record { rows = rows; pending = Some (o.name, value ∷ []); skip = skip })
  unfolding walked
  walked_second o rows skip long value is plain =
      let h : Held = record { rows = rows; pending = Some (o.name, []); skip = skip } in
      let w : Walk = waiting_at h o.name in
      ap₂ (turn w value) (not_dashes value plain) (no_long value plain)
      ∙ ap (λ (flags : Option Text). after_step c value w (short_or_plain c (option o.name) value flags h).0 (short_or_plain c (option o.name) value flags h).1) (no_short value plain)
      ∙ ap (λ (a : Option Rule). value_turn w value (option_word a o.name value h)) (found_id long o is)
      ∙ ap (λ (b : Bool). value_turn w value (pushed o.name value h, if nat_lt (cond b 1 0) 1 then option o.name else idle)) (same_text o.name)

  -- ---- faults

  abbrev word_turn : Held → Waiting → Text → Bool → Option (Text × Option Text) → Kinds
  word_turn h waiting word dashes long = or_else (if dashes then [] else flag_word_fault c false long word h) (step_fault s 1 (met waiting word dashes long h).0 (met waiting word dashes long h).1)

  abbrev flag_fault : Held → Text → Option Text → Option Rule → Kinds
  flag_fault h word v a = or_else (long_fault c false a v h) (step_fault s 1 (after_flag c idle word (long_met c a v h).0 (long_met c a v h).1).0 (after_flag c idle word (long_met c a v h).0 (long_met c a v h).1).1)

  pub fault_joined : (o : Opt) (h : Held) (x : ℕ) (xs value : Text) → IsPlainName (x ∷ xs) → named (x ∷ xs) opts ≡ Some o
      → turn_fault s [] (walk_from h) (dashed ((x ∷ xs) ++ 61 ∷ value)) ≡ or_else (react_fault c false (rule o) (value ∷ []) h) []
  fault_joined o h x xs value plain is =
      ap (word_turn h idle (dashed ((x ∷ xs) ++ 61 ∷ value)) false) (long_joined x xs value plain)
      ∙ ap (flag_fault h (dashed ((x ∷ xs) ++ 61 ∷ value)) (Some value)) (found (x ∷ xs) o is)

  pub fault_first : (o : Opt) (h : Held) (x : ℕ) (xs : Text) → IsPlainName (x ∷ xs) → named (x ∷ xs) opts ≡ Some o
      → turn_fault s [] (walk_from h) (dashed (x ∷ xs)) ≡ or_else (settle_fault c false h) []
  fault_first o h x xs plain is =
      ap (word_turn h idle (dashed (x ∷ xs)) false) (long_split x xs plain)
      ∙ ap (flag_fault h (dashed (x ∷ xs)) None) (found (x ∷ xs) o is)

  unknown : (long : Text) → named long opts ≡ None → arg_by_long c long ≡ None
  unknown long is = by_long opts long ∙ ap (option_map rule) is

  pub fault_unknown_joined : (h : Held) (x : ℕ) (xs value : Text) → IsPlainName (x ∷ xs) → named (x ∷ xs) opts ≡ None
      → turn_fault s [] (walk_from h) (dashed ((x ∷ xs) ++ 61 ∷ value)) ≡ UnknownArgument ∷ []
  fault_unknown_joined h x xs value plain is =
      ap (word_turn h idle (dashed ((x ∷ xs) ++ 61 ∷ value)) false) (long_joined x xs value plain)
      ∙ ap (flag_fault h (dashed ((x ∷ xs) ++ 61 ∷ value)) (Some value)) (unknown (x ∷ xs) is)

  pub fault_unknown_split : (h : Held) (x : ℕ) (xs : Text) → IsPlainName (x ∷ xs) → named (x ∷ xs) opts ≡ None
      → turn_fault s [] (walk_from h) (dashed (x ∷ xs)) ≡ UnknownArgument ∷ []
  fault_unknown_split h x xs plain is =
      ap (word_turn h idle (dashed (x ∷ xs)) false) (long_split x xs plain)
      ∙ ap (flag_fault h (dashed (x ∷ xs)) None) (unknown (x ∷ xs) is)

  abbrev bare_fault : Held → Text → Text → Option Text → Kinds
  bare_fault h id word flags = or_else (flag_word_fault c false None word h) (step_fault s 1 (short_or_plain c (option id) word flags h).0 (short_or_plain c (option id) word flags h).1)

  pub fault_second : (o : Opt) (h : Held) (value : Text) → begins_with_dash value ≡ false
      → turn_fault s [] (waiting_at h o.name) value ≡ []
  fault_second o h value plain =
      ap₂ (word_turn h (option o.name) value) (not_dashes value plain) (no_long value plain)
      ∙ ap (λ (flags : Option Text). or_else (option_map_or (λ (f : Text). Rattle.clap.specs.Faults.bundle_fault c false f h) flags []) (step_fault s 1 (short_or_plain c (option o.name) value flags h).0 (short_or_plain c (option o.name) value flags h).1)) (no_short value plain)
