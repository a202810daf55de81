-- Counts within their limits are kept as they are.
use Rattle.std.proofs.Common.{◌≡◌, inl, inr, ℕ, zero, suc, ◌^◌, ◌<◌, ◌≤◌, Bool, true, false, min, leb, All, List, [], ◌∷◌, length, get_or, Some, Ok, refl, ap, sym, ◌∙◌, arith}
use Rattle.std.specs.Prelude.{◌&&◌}
use Rattle.std.proofs.lemmas.Bool.{leb-true, le-leb, lt-leb, false≢true}
use Rattle.std.proofs.lemmas.Bool.Decides.{leb_tells}
use Rattle.std.proofs.lemmas.List.{length-map}
use Rattle.text_lines.specs.Words.{words_of}
use Rattle.dimacs_text.specs.Counted.{Wording, kept, are_within, last_of, after_words, numbers_in, declared_counts, within_limits}

both : (a b : Bool) → (a && b) ≡ true → (a ≡ true) × (b ≡ true)
both true b is = (refl, is)
both false b is = absurd (false≢true is)

pub least : (n limit : ℕ) → limit < 2 ^ 64 → min n (2 ^ 64) ≤ limit → min n (2 ^ 64) ≡ n
least n limit small within = omega arith

after : (limit : ℕ) (limits : List ℕ) → All (λ l. l < 2 ^ 64) (limit ∷ limits) → All (λ l. l < 2 ^ 64) limits
after limit limits small = λ k d h. small (suc k) d (omega arith)

pub kept-within : (limits counts : List ℕ) → All (λ l. l < 2 ^ 64) limits → length counts ≡ length limits → are_within limits (kept counts) ≡ true → kept counts ≡ counts
kept-within [] [] small size within = refl
kept-within [] (n ∷ counts) small size within = absurd (omega arith)
kept-within (limit ∷ limits) [] small size within = refl
kept-within (limit ∷ limits) (n ∷ counts) small size within =
    let tests = both (leb (min n (2 ^ 64)) limit) (are_within limits (kept counts)) within in
    let first = least n limit (small 0 0 (omega arith)) (leb-true _ _ tests.0) in
    ap (λ m. m ∷ kept counts) first ∙ ap (λ ns. n ∷ ns) (kept-within limits counts (after limit limits small) (omega arith) tests.1)

same_test : (n limit : ℕ) → limit < 2 ^ 64 → leb (min n (2 ^ 64)) limit ≡ leb n limit
same_test n limit low = elim (leb_tells n limit) [
  | inl within ↦ le-leb (min n (2 ^ 64)) limit (omega (arith, within.1)) ∙ sym within.0
  | inr above ↦ lt-leb (min n (2 ^ 64)) limit (omega (arith, above.1)) ∙ sym above.0
]

-- whether they are within is told by those that are kept
pub are_within-kept : (limits counts : List ℕ) → All (λ l. l < 2 ^ 64) limits → are_within limits (kept counts) ≡ are_within limits counts
are_within-kept [] counts small = refl
are_within-kept (limit ∷ limits) [] small = refl
are_within-kept (limit ∷ limits) (n ∷ counts) small =
    let low : limit < 2 ^ 64 = small 0 0 (omega arith) in
    ap (λ t. t && are_within limits (kept counts)) (same_test n limit low)
    ∙ ap (λ t. leb n limit && t) (are_within-kept limits counts (after limit limits small))

-- the last count, by its place
pub last_of-get : (counts : List ℕ) (k : ℕ) → length counts ≡ suc k → get_or counts k 0 ≡ last_of counts
last_of-get [] k size = absurd (omega arith)
last_of-get (n ∷ []) k size = let first : k ≡ 0 = omega arith in rw first refl
last_of-get (n ∷ m ∷ counts) zero size = absurd (omega arith)
last_of-get (n ∷ m ∷ counts) (suc k) size = last_of-get (m ∷ counts) k (omega arith)

-- what is declared by counts that are kept
pub counts_declared : (w : Wording) (words after : List (List ℕ)) (values counts : List ℕ) → after_words (words_of w.fixed) words ≡ Some after → numbers_in (length w.limits) after ≡ Ok values → counts ≡ kept values → All (λ l. l < 2 ^ 64) w.limits → length counts ≡ length w.limits → declared_counts w words ≡ within_limits w.limits counts
counts_declared w words after values counts is_after is_values are_kept small size =
    let few : length values ≡ length w.limits = omega (arith, ap length are_kept, length-map values (λ n. min n (2 ^ 64))) in
    rw (is_after, is_values, are_kept) (answer (are_within w.limits values) few refl)
  where
    answer : (test : Bool) → length values ≡ length w.limits → are_within w.limits values ≡ test → within_limits w.limits values ≡ within_limits w.limits (kept values)
    answer true few told =
        ap (within_limits w.limits) (sym (kept-within w.limits values small few (are_within-kept w.limits values small ∙ told)))
    answer false few told = rw (told, are_within-kept w.limits values small, told) refl
