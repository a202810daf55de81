-- What clap makes of the words of a use.
use Rattle.std.proofs.Common.{◌≡◌, ◌≢◌, ◌∙◌, ap, ap₂, refl, ℕ, false, [], ◌∷◌, ◌++◌, Option, Some, None, cond}
use Rattle.std.specs.Prelude.{All, ◌==◌}
use Rattle.std.specs.Str.{bytes_eq}
use Rattle.std.specs.List.{after_first}
use Rattle.clap.specs.Lexer.{long_of, short_of, name_and_value}
use Rattle.clap.specs.Words.{Text}
use Rattle.clap.proofs.CutLemmas.{Lacks, before_first-Lacks, before_first-at, after_first-at, list_any-Lacks, list_any-at}
use Rattle.chl_words.specs.Forms.{begins_with_dash}

abbrev pub dashed : Text → Text
dashed rest = 45 ∷ 45 ∷ rest

lacks : (name : Text) → All (λ byte. byte ≢ 61) name → Lacks 61 name
lacks name plain i lt = plain i 0 lt

cut_at : (name value : Text) → All (λ byte. byte ≢ 61) name → name_and_value (name ++ 61 ∷ value) ≡ (name, Some value)
cut_at name value plain =
    ap₂ (λ (n : Text) (v : Option Text). (n, v)) (before_first-at 61 name value (lacks name plain)) (ap (λ b. cond b (Some (after_first (λ x. x == 61) (name ++ 61 ∷ value))) None) (list_any-at 61 name value) ∙ ap Some (after_first-at 61 name value (lacks name plain)))

uncut : (name : Text) → All (λ byte. byte ≢ 61) name → name_and_value name ≡ (name, None)
uncut name plain =
    ap₂ (λ (n : Text) (v : Option Text). (n, v)) (before_first-Lacks 61 name (lacks name plain)) (ap (λ b. cond b (Some (after_first (λ x. x == 61) name)) None) (list_any-Lacks 61 name (lacks name plain)))

pub long_joined : (x : ℕ) (xs value : Text) → All (λ byte. byte ≢ 61) (x ∷ xs) → long_of (dashed ((x ∷ xs) ++ 61 ∷ value)) ≡ Some (x ∷ xs, Some value)
long_joined x xs value plain = ap Some (cut_at (x ∷ xs) value plain)

pub long_split : (x : ℕ) (xs : Text) → All (λ byte. byte ≢ 61) (x ∷ xs) → long_of (dashed (x ∷ xs)) ≡ Some (x ∷ xs, None)
long_split x xs plain = ap Some (uncut (x ∷ xs) plain)

pub no_long : (value : Text) → begins_with_dash value ≡ false → long_of value ≡ None
no_long [] plain = refl
no_long (x ∷ xs) plain = rw plain refl

pub no_short : (value : Text) → begins_with_dash value ≡ false → short_of value ≡ None
no_short [] plain = refl
no_short (x ∷ xs) plain = rw plain refl

pub not_dashes : (value : Text) → begins_with_dash value ≡ false → bytes_eq value (45 ∷ 45 ∷ []) ≡ false
not_dashes [] plain = refl
not_dashes (x ∷ xs) plain = rw plain refl

pub more_than_dashes : (x : ℕ) (xs : Text) → bytes_eq (dashed (x ∷ xs)) (45 ∷ 45 ∷ []) ≡ false
more_than_dashes x xs = refl
