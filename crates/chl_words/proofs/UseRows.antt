-- The rows of uses, and whether uses fit, in plain words.
use Rattle.std.proofs.Common.{◌≡◌, ◌∙◌, ap, ap₂, sym, refl, subst, Bool, true, false, List, [], ◌∷◌, ◌++◌, Option, Some, None, cond, map, option_map, append_assoc, append-nil, true≢false}
use Rattle.std.specs.Prelude.{◌&&◌, ◌||◌, not, find, option_and_then, slice_get, is_some}
use Rattle.std.specs.Option.{option_map_or}
use Rattle.std.specs.List.{list_any}
use Rattle.std.specs.Str.{bytes_eq}
use Rattle.clap.specs.Words.{Row, Rule, Text, first_of}
use Rattle.clap.specs.ValueTests.{accepts}
use Rattle.clap.specs.Facts.{parser_of_value}
use Rattle.clap.specs.Takes.{is_given}
use Rattle.clap.specs.Walk.{at_row, has_row, more_values, reading_by, with_values}
use Rattle.clap.specs.declared.parser.matches.ValueSource.TheVariants.{CommandLine}
use Rattle.clap.proofs.WalkLemmas.{both, find-map}
use Rattle.chl_words.specs.Forms.{Use, option_of, takes_uses, takes_value}
use Rattle.chl_words.proofs.Options.{Opt, rule, named, name_found}
use Rattle.chl_words.proofs.UseFaults.{none, more, fits, fit, rows_of_uses}

-- the row of one use
abbrev pub row_of : Opt → Text → Row
row_of o value = record { id = o.name; values = value ∷ []; count = None; source = Some CommandLine; reading = reading_by (rule o) }

pub appended : (id : Text) (change : Row → List Row) (missing rows : List Row) → has_row id rows ≡ false → at_row id change missing rows ≡ rows ++ missing
appended id change missing [] none = refl
appended id change missing (r ∷ rows) none =
    elim (bytes_eq r.id id) as (λ b. (b || has_row id rows) ≡ false → cond b (change r ++ rows) (r ∷ at_row id change missing rows) ≡ r ∷ (rows ++ missing)) [
      | true ↦ λ is. absurd (true≢false is)
      | false ↦ λ is. ap (λ l. r ∷ l) (appended id change missing rows is)
    ] none

pub more_is : (o : Opt) (value : Text) (rows : List Row) → has_row o.name rows ≡ false → more o value rows ≡ rows ++ row_of o value ∷ []
more_is o value rows none =
    ap (with_values o.name (reading_by (rule o)) CommandLine (value ∷ [])) (appended o.name (λ _. []) [] rows none ∙ append-nil rows)
    ∙ appended o.name (more_values CommandLine (value ∷ [])) (row_of o value ∷ []) rows none

-- one use fits where no use before it has its name, and its option takes the value
pub fits_is : (o : Opt) (value : Text) (rows : List Row) → fits o value rows ≡ (not (has_row o.name rows) && accepts false o.parser value)
fits_is o value rows =
    elim (has_row o.name rows) as (λ b. none (Rattle.clap.specs.Kinds.or_else (cond (b && true) (Rattle.clap.specs.declared.error.kind.ErrorKind.TheVariants.ArgumentConflict ∷ []) []) (Rattle.clap.specs.Kinds.values_kinds false o.parser (value ∷ []))) ≡ (not b && accepts false o.parser value)) [
      | true ↦ refl
      | false ↦ elim (accepts false o.parser value) as (λ b. none (Rattle.clap.specs.Kinds.or_else (cond b [] (Rattle.clap.specs.Values.refused_kind o.parser ∷ [])) []) ≡ b) [ true ↦ refl | false ↦ refl ]
    ]

pub has_row-append : (x : Text) (rows : List Row) (r : Row) → has_row x (rows ++ r ∷ []) ≡ (bytes_eq r.id x || has_row x rows)
has_row-append x [] r = elim (bytes_eq r.id x) as (λ b. (b || false) ≡ (b || false)) [ true ↦ refl | false ↦ refl ]
has_row-append x (q ∷ rows) r =
    ap (λ b. bytes_eq q.id x || b) (has_row-append x rows r)
    ∙ elim (bytes_eq q.id x) as (λ b. (b || (bytes_eq r.id x || has_row x rows)) ≡ (bytes_eq r.id x || (b || has_row x rows))) [
      | true ↦ elim (bytes_eq r.id x) as (λ d. true ≡ (d || true)) [ true ↦ refl | false ↦ refl ]
      | false ↦ refl
    ]

-- the rows of uses by themselves
abbrev pub rows_for : List Opt → List Use → List Row
rows_for opts [] = []
rows_for opts (u ∷ uses) = option_map_or (λ o. row_of o u.value ∷ rows_for opts uses) (named u.name opts) []

pub and_when : (f g x y : Bool) → f ≡ g → (f ≡ true → x ≡ y) → (f && x) ≡ (g && y)
and_when true g x y is same = subst (λ b. x ≡ (b && y)) is (same refl)
and_when false g x y is same = subst (λ b. false ≡ (b && y)) is refl

not_true : (b : Bool) → not b ≡ true → b ≡ false
not_true true is = absurd (true≢false (sym is))
not_true false is = refl

-- after rows, uses that fit add their own rows
pub rows_are : (opts : List Opt) (rows : List Row) (uses : List Use) → fit opts rows uses ≡ true → rows_of_uses opts rows uses ≡ rows ++ rows_for opts uses
rows_are opts rows [] fitting = sym (append-nil rows)
rows_are opts rows (u ∷ uses) fitting =
    elim (named u.name opts) as (λ n. option_map_or (λ o. fits o u.value rows && fit opts (more o u.value rows) uses) n false ≡ true → option_map_or (λ o. rows_of_uses opts (more o u.value rows) uses) n rows ≡ rows ++ option_map_or (λ o. row_of o u.value ∷ rows_for opts uses) n []) [
      | None ↦ λ fitting. absurd (true≢false (sym fitting))
      | Some o ↦ λ fitting.
          let parts = both _ _ fitting in
          let new = not_true _ (both _ _ (sym (fits_is o u.value rows) ∙ parts.0)).0 in
          let adds = more_is o u.value rows new in
          rows_are opts (more o u.value rows) uses parts.1 ∙ ap (λ l. l ++ rows_for opts uses) adds ∙ append_assoc rows (row_of o u.value ∷ []) (rows_for opts uses)
    ] fitting

-- uses that fit are each of an option
abbrev pub AllNamed : List Opt → List Use → Type 0
AllNamed opts [] = Unit {0}
AllNamed opts (u ∷ uses) = ((o : Opt) × (named u.name opts ≡ Some o)) × AllNamed opts uses

pub all_named : (opts : List Opt) (rows : List Row) (uses : List Use) → fit opts rows uses ≡ true → AllNamed opts uses
all_named opts rows [] fitting = tt
all_named opts rows (u ∷ uses) fitting =
    elim (named u.name opts) as (λ n. named u.name opts ≡ n → option_map_or (λ o. fits o u.value rows && fit opts (more o u.value rows) uses) n false ≡ true → AllNamed opts (u ∷ uses)) [
      | None ↦ λ is fitting. absurd (true≢false (sym fitting))
      | Some o ↦ λ is fitting. ((o, is), all_named opts (more o u.value rows) uses (both _ _ fitting).1)
    ] refl fitting

pub given_for : (opts : List Opt) (uses : List Use) (id : Text) → AllNamed opts uses → is_given id (rows_for opts uses) ≡ list_any (λ u. bytes_eq u.name id) uses
given_for opts [] id known = refl
given_for opts (u ∷ uses) id known =
    let o = known.0.0 in
    let name = name_found opts u.name o known.0.1 in
    ap (λ (n : Option Opt). is_given id (option_map_or (λ p. row_of p u.value ∷ rows_for opts uses) n [])) known.0.1
    ∙ ap (λ (n : Text). option_map_or (λ (r : Row). Rattle.clap.specs.Facts.explicit_source r.source) (cond (bytes_eq n id) (Some (row_of o u.value)) (find (λ r. bytes_eq r.id id) (rows_for opts uses))) false) name
    ∙ elim (bytes_eq u.name id) as (λ b. option_map_or (λ (r : Row). Rattle.clap.specs.Facts.explicit_source r.source) (cond b (Some (row_of o u.value)) (find (λ r. bytes_eq r.id id) (rows_for opts uses))) false ≡ (b || list_any (λ v. bytes_eq v.name id) uses)) [
      | true ↦ refl
      | false ↦ given_for opts uses id known.1
    ]

pub first_for : (opts : List Opt) (uses : List Use) (id : Text) → AllNamed opts uses → first_of id (rows_for opts uses) ≡ option_map (λ (u : Use). u.value) (find (λ u. bytes_eq u.name id) uses)
first_for opts [] id known = refl
first_for opts (u ∷ uses) id known =
    let o = known.0.0 in
    let name = name_found opts u.name o known.0.1 in
    ap (λ (n : Option Opt). first_of id (option_map_or (λ p. row_of p u.value ∷ rows_for opts uses) n [])) known.0.1
    ∙ ap (λ (n : Text). option_and_then (λ (r : Row). slice_get r.values 0) (cond (bytes_eq n id) (Some (row_of o u.value)) (find (λ r. bytes_eq r.id id) (rows_for opts uses)))) name
    ∙ elim (bytes_eq u.name id) as (λ b. option_and_then (λ (r : Row). slice_get r.values 0) (cond b (Some (row_of o u.value)) (find (λ r. bytes_eq r.id id) (rows_for opts uses))) ≡ option_map (λ (v : Use). v.value) (cond b (Some u) (find (λ v. bytes_eq v.name id) uses))) [
      | true ↦ refl
      | false ↦ first_for opts uses id known.1
    ]

pub has_for : (opts : List Opt) (uses : List Use) (id : Text) → AllNamed opts uses → has_row id (rows_for opts uses) ≡ is_some (find (λ u. bytes_eq u.name id) uses)
has_for opts [] id known = refl
has_for opts (u ∷ uses) id known =
    let o = known.0.0 in
    let name = name_found opts u.name o known.0.1 in
    ap (λ (n : Option Opt). has_row id (option_map_or (λ p. row_of p u.value ∷ rows_for opts uses) n [])) known.0.1
    ∙ ap (λ (n : Text). bytes_eq n id || has_row id (rows_for opts uses)) name
    ∙ elim (bytes_eq u.name id) as (λ b. (b || has_row id (rows_for opts uses)) ≡ is_some (cond b (Some u) (find (λ v. bytes_eq v.name id) uses))) [
      | true ↦ refl
      | false ↦ has_for opts uses id known.1
    ]

-- ---- by the options of a command

abbrev pub opt_of : Rule → Opt
opt_of a = record { name = a.id; required = a.required; defaults = a.defaults; parser = parser_of_value a.parser }

pub named_of : (options : List Rule) (name : Text) → named name (map opt_of options) ≡ option_map opt_of (option_of options name)
named_of options name = sym (find-map (λ (o : Opt). bytes_eq o.name name) opt_of options)

-- names so far are those of the rows
abbrev pub SameNames : List Row → List Text → Type 0
SameNames rows names = (x : Text) → has_row x rows ≡ list_any (λ n. bytes_eq n x) names

-- uses fit exactly where the options take them
pub fit_takes : (options : List Rule) (names : List Text) (rows : List Row) (uses : List Use) → SameNames rows names → fit (map opt_of options) rows uses ≡ takes_uses options names uses
fit_takes options names rows [] same = refl
fit_takes options names rows (u ∷ uses) same =
    ap (λ (n : Option Opt). option_map_or (λ o. fits o u.value rows && fit (map opt_of options) (more o u.value rows) uses) n false) (named_of options u.name)
    ∙ elim (option_of options u.name) as (λ a. option_of options u.name ≡ a → option_map_or (λ o. fits o u.value rows && fit (map opt_of options) (more o u.value rows) uses) (option_map opt_of a) false
    ≡ (option_map_or (λ a. not (list_any (λ n. bytes_eq n u.name) names) && takes_value a u.value) a false && takes_uses options (u.name ∷ names) uses)) [
      | None ↦ λ is. refl
      | Some a ↦ λ is.
          let o : Opt = opt_of a in
          let name : o.name ≡ u.name = name_found (map opt_of options) u.name o (named_of options u.name ∙ ap (option_map opt_of) is) in
          let known : fits o u.value rows ≡ (not (list_any (λ n. bytes_eq n u.name) names) && takes_value a u.value) = fits_is o u.value rows ∙ ap (λ b. not b && accepts false o.parser u.value) (ap (λ n. has_row n rows) name ∙ same u.name) in
          and_when _ _ _ _ known (λ fitting.
          let new : has_row o.name rows ≡ false = not_true _ (both _ _ (sym (fits_is o u.value rows) ∙ fitting)).0 in
          ap (λ l. fit (map opt_of options) l uses) (more_is o u.value rows new)
          ∙ fit_takes options (u.name ∷ names) (rows ++ row_of o u.value ∷ []) uses (λ x. has_row-append x rows (row_of o u.value) ∙ ap₂ (λ a b. a || b) (ap (λ n. bytes_eq n x) name) (same x)))
    ] refl
