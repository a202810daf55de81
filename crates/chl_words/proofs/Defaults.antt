-- What the defaults add to the rows of uses.
use Rattle.std.proofs.Common.{◌≡◌, ◌∙◌, ap, ap₂, sym, refl, subst, Bool, true, false, List, [], ◌∷◌, ◌++◌, Option, Some, None, cond, map, true≢false}
use Rattle.std.specs.Prelude.{◌||◌, find, option_and_then, slice_get}
use Rattle.std.specs.Bool.{Decides}
use Rattle.std.specs.Option.{option_map_or}
use Rattle.std.specs.List.{fold}
use Rattle.std.specs.Str.{bytes_eq}
use Rattle.std.proofs.lemmas.Slice.Eq.{bytes_eq-Decides}
use Rattle.clap.specs.Words.{Kinds, Row, Text, first_of}
use Rattle.clap.specs.Facts.{explicit_source}
use Rattle.clap.specs.Kinds.{or_else}
use Rattle.clap.specs.Takes.{is_given}
use Rattle.clap.specs.Faults.{defaults_fault, values_fault}
use Rattle.clap.specs.Walk.{default_rows, has_row, is_empty, more_values, reading_by, with_default}
use Rattle.clap.specs.declared.parser.matches.ValueSource.TheVariants.{DefaultValue}
use Rattle.chl_words.proofs.Options.{Opt, rule, named}
use Rattle.chl_words.proofs.UseRows.{appended, has_row-append}

-- ---- no default is a fault

abbrev pub DefaultsPass : List Opt → Type 0
DefaultsPass [] = Unit {0}
DefaultsPass (o ∷ opts) = (values_fault (rule o) o.defaults ≡ []) × DefaultsPass opts

pub no_default_fault : (opts : List Opt) (rows : List Row) → DefaultsPass opts → defaults_fault rows (map rule opts) ≡ []
unfolding defaults_fault
no_default_fault [] rows pass = refl
no_default_fault (o ∷ opts) rows pass =
    ap (λ (f : Kinds). or_else f (defaults_fault (with_default rows (rule o)) (map rule opts)))
    (elim (has_row o.name rows || is_empty o.defaults) as (λ b. cond b [] (values_fault (rule o) o.defaults) ≡ []) [ true ↦ refl | false ↦ pass.0 ])
    ∙ no_default_fault opts (with_default rows (rule o)) pass.1

-- ---- what is given stays so, and nothing else is

default_row : Opt → Text → List Text → Row
default_row o v vs = record { id = o.name; values = v ∷ vs; count = None; source = Some DefaultValue; reading = reading_by (rule o) }

given_after : (id : Text) (rows : List Row) (r : Row) → explicit_source r.source ≡ false → is_given id (rows ++ r ∷ []) ≡ is_given id rows
given_after id [] r is = elim (bytes_eq r.id id) as (λ b. option_map_or (λ (q : Row). explicit_source q.source) (cond b (Some r) None) false ≡ false) [ true ↦ is | false ↦ refl ]
given_after id (q ∷ rows) r is =
    elim (bytes_eq q.id id) as (λ b. option_map_or (λ (p : Row). explicit_source p.source) (cond b (Some q) (find (λ p. bytes_eq p.id id) (rows ++ r ∷ []))) false ≡ option_map_or (λ (p : Row). explicit_source p.source) (cond b (Some q) (find (λ p. bytes_eq p.id id) rows)) false) [
      | true ↦ refl
      | false ↦ given_after id rows r is
    ]

added : (o : Opt) (v : Text) (vs : List Text) (rows : List Row) → has_row o.name rows ≡ false → default_rows o.name (reading_by (rule o)) (v ∷ vs) rows ≡ rows ++ default_row o v vs ∷ []
unfolding default_row
added o v vs rows none = appended o.name (more_values DefaultValue (v ∷ vs)) (default_row o v vs ∷ []) rows none

given_default : (o : Opt) (ds : List Text) (id : Text) (rows : List Row) → has_row o.name rows ≡ false → is_given id (default_rows o.name (reading_by (rule o)) ds rows) ≡ is_given id rows
unfolding default_row
given_default o [] id rows none = refl
given_default o (v ∷ vs) id rows none = ap (is_given id) (added o v vs rows none) ∙ given_after id rows (default_row o v vs) refl

given_one : (o : Opt) (id : Text) (rows : List Row) → is_given id (with_default rows (rule o)) ≡ is_given id rows
given_one o id rows =
    elim (has_row o.name rows) as (λ b. has_row o.name rows ≡ b → is_given id (cond b rows (default_rows o.name (reading_by (rule o)) o.defaults rows)) ≡ is_given id rows) [
      | true ↦ λ is. refl
      | false ↦ λ is. given_default o o.defaults id rows is
    ] refl

pub given_finished : (opts : List Opt) (rows : List Row) (id : Text) → is_given id (fold with_default rows (map rule opts)) ≡ is_given id rows
given_finished [] rows id = refl
given_finished (o ∷ opts) rows id = given_finished opts (with_default rows (rule o)) id ∙ given_one o id rows

-- ---- values

no_first : (id : Text) (rows : List Row) → has_row id rows ≡ false → first_of id rows ≡ None
no_first id [] none = refl
no_first id (r ∷ rows) none =
    elim (bytes_eq r.id id) as (λ b. (b || has_row id rows) ≡ false → option_and_then (λ (q : Row). slice_get q.values 0) (cond b (Some r) (find (λ q. bytes_eq q.id id) rows)) ≡ None) [
      | true ↦ λ is. absurd (true≢false is)
      | false ↦ λ is. no_first id rows is
    ] none

first_stays : (id : Text) (rows : List Row) (r : Row) → has_row id rows ≡ true → first_of id (rows ++ r ∷ []) ≡ first_of id rows
first_stays id [] r has = absurd (true≢false (sym has))
first_stays id (q ∷ rows) r has =
    elim (bytes_eq q.id id) as (λ b. (b || has_row id rows) ≡ true → option_and_then (λ (p : Row). slice_get p.values 0) (cond b (Some q) (find (λ p. bytes_eq p.id id) (rows ++ r ∷ []))) ≡ option_and_then (λ (p : Row). slice_get p.values 0) (cond b (Some q) (find (λ p. bytes_eq p.id id) rows))) [
      | true ↦ λ is. refl
      | false ↦ λ is. first_stays id rows r is
    ] has

first_new : (id : Text) (rows : List Row) (r : Row) → has_row id rows ≡ false → first_of id (rows ++ r ∷ []) ≡ option_and_then (λ (q : Row). slice_get q.values 0) (cond (bytes_eq r.id id) (Some r) None)
first_new id [] r none = refl
first_new id (q ∷ rows) r none =
    elim (bytes_eq q.id id) as (λ b. (b || has_row id rows) ≡ false → option_and_then (λ (p : Row). slice_get p.values 0) (cond b (Some q) (find (λ p. bytes_eq p.id id) (rows ++ r ∷ []))) ≡ option_and_then (λ (p : Row). slice_get p.values 0) (cond (bytes_eq r.id id) (Some r) None)) [
      | true ↦ λ is. absurd (true≢false is)
      | false ↦ λ is. first_new id rows r is
    ] none

or_true : (b : Bool) → (b || true) ≡ true
or_true true = refl
or_true false = refl

abbrev after : Opt → List Row → List Row
after o rows = with_default rows (rule o)

-- one default: the rows stay, or get one at the end where there is none of this option
one_default : (o : Opt) (rows : List Row) (P : List Row → Type 0) → (has_row o.name rows ≡ true → P rows) → (has_row o.name rows ≡ false → o.defaults ≡ [] → P rows)
    → ((v : Text) (vs : List Text) → has_row o.name rows ≡ false → o.defaults ≡ v ∷ vs → P (rows ++ default_row o v vs ∷ [])) → P (after o rows)
one_default o rows P there none new =
    elim (has_row o.name rows) as (λ b. has_row o.name rows ≡ b → P (cond b rows (default_rows o.name (reading_by (rule o)) o.defaults rows))) [
      | true ↦ λ is. there is
      | false ↦ λ is. by_defaults o.defaults refl is
    ] refl
  where
    by_defaults : (ds : List Text) → o.defaults ≡ ds → has_row o.name rows ≡ false → P (default_rows o.name (reading_by (rule o)) ds rows)
    by_defaults [] e is = none is e
    by_defaults (v ∷ vs) e is = subst P (sym (added o v vs rows is)) (new v vs is e)

first_kept : (opts : List Opt) (rows : List Row) (id : Text) → has_row id rows ≡ true → first_of id (fold with_default rows (map rule opts)) ≡ first_of id rows
first_kept [] rows id has = refl
first_kept (o ∷ opts) rows id has =
    one_default o rows (λ l. first_of id (fold with_default l (map rule opts)) ≡ first_of id rows)
    (λ there. first_kept opts rows id has)
    (λ none e. first_kept opts rows id has)
    (λ v vs none e. first_kept opts (rows ++ default_row o v vs ∷ []) id (has_row-append id rows (default_row o v vs) ∙ ap (λ b. bytes_eq (default_row o v vs).id id || b) has ∙ or_true (bytes_eq (default_row o v vs).id id)) ∙ first_stays id rows (default_row o v vs) has)

-- no two options have one name
abbrev pub AreDistinct : List Opt → Type 0
AreDistinct [] = Unit {0}
AreDistinct (o ∷ opts) = (named o.name opts ≡ None) × AreDistinct opts

abbrev pub default_of : List Opt → Text → Option Text
default_of opts id = option_and_then (λ (o : Opt). slice_get o.defaults 0) (named id opts)

first_default : (opts : List Opt) (rows : List Row) (id : Text) → AreDistinct opts → has_row id rows ≡ false → first_of id (fold with_default rows (map rule opts)) ≡ default_of opts id
unfolding default_row
first_default [] rows id distinct none = no_first id rows none
first_default (o ∷ opts) rows id distinct none =
    elim (bytes_eq o.name id) as (λ b. Decides b (o.name ≡ id) → bytes_eq o.name id ≡ b → first_of id (fold with_default (after o rows) (map rule opts)) ≡ option_and_then (λ (p : Opt). slice_get p.defaults 0) (cond b (Some o) (named id opts))) [
      | true ↦ λ same test.
          let name : o.name ≡ id = same.0 refl in
          let alone : named id opts ≡ None = ap (λ n. named n opts) (sym name) ∙ distinct.0 in
          one_default o rows (λ l. first_of id (fold with_default l (map rule opts)) ≡ slice_get o.defaults 0)
          (λ there. absurd (true≢false (sym there ∙ ap (λ n. has_row n rows) name ∙ none)))
          (λ new e. first_default opts rows id distinct.1 none ∙ ap (option_and_then (λ (p : Opt). slice_get p.defaults 0)) alone ∙ ap (λ ds. slice_get ds 0) (sym e))
          (λ v vs new e. first_kept opts (rows ++ default_row o v vs ∷ []) id (has_row-append id rows (default_row o v vs) ∙ ap (λ b. b || has_row id rows) test)
          ∙ first_new id rows (default_row o v vs) none ∙ ap (λ b. option_and_then (λ (q : Row). slice_get q.values 0) (cond b (Some (default_row o v vs)) None)) test ∙ ap (λ ds. slice_get ds 0) (sym e))
      | false ↦ λ apart test.
          one_default o rows (λ l. first_of id (fold with_default l (map rule opts)) ≡ default_of opts id)
          (λ there. first_default opts rows id distinct.1 none)
          (λ new e. first_default opts rows id distinct.1 none)
          (λ v vs new e. first_default opts (rows ++ default_row o v vs ∷ []) id distinct.1 (has_row-append id rows (default_row o v vs) ∙ ap₂ (λ a b. a || b) test none))
    ] (bytes_eq-Decides o.name id) refl

pub first_finished : (opts : List Opt) (rows : List Row) (id : Text) → AreDistinct opts → first_of id (fold with_default rows (map rule opts)) ≡ cond (has_row id rows) (first_of id rows) (default_of opts id)
first_finished opts rows id distinct =
    elim (has_row id rows) as (λ b. has_row id rows ≡ b → first_of id (fold with_default rows (map rule opts)) ≡ cond b (first_of id rows) (default_of opts id)) [
      | true ↦ λ is. first_kept opts rows id is
      | false ↦ λ is. first_default opts rows id distinct is
    ] refl
