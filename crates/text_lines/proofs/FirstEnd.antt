-- The first LF of some bytes.
use Rattle.std.proofs.Common.{◌≡◌, ◌≢◌, ℕ, ◌+◌, ◌<◌, All, List, ◌∷◌, ◌++◌, Some, None, length, get_or, take, drop, refl, ap, sym, ◌∙◌, arith, add-one, drop-cons}
use Rattle.std.proofs.lemmas.Bool.{eq-eqb, eqb-true}
use Rattle.std.proofs.lemmas.List.{take-append-drop, get_or-take, length-take, get_or_default}
use Rattle.memchr.specs.Find.{IsFirstByte, is_byte}

-- no LF stands before it
pub no_end_before : (bytes : List ℕ) (end : ℕ) → IsFirstByte (is_byte 10) bytes (Some end) → All (λ b. b ≢ 10) (take end bytes)
no_end_before bytes end first = λ k d h is.
    let high : end < length bytes = first.0.high in
    let inside : k < end = omega (arith, length-take end bytes) in
    let here : k < length bytes = omega arith in
    let byte : get_or bytes k 0 ≡ 10 = get_or_default bytes k 0 d here ∙ sym (get_or-take end bytes k d inside) ∙ is in
    first.0.before k (omega arith) inside (eq-eqb _ _ byte)

-- it parts them in two
pub parted : (bytes : List ℕ) (end : ℕ) → IsFirstByte (is_byte 10) bytes (Some end) → bytes ≡ take end bytes ++ 10 ∷ drop (end + 1) bytes
parted bytes end first =
    let high : end < length bytes = first.0.high in
    let is : get_or bytes end 0 ≡ 10 = eqb-true (get_or bytes end 0) 10 first.1 in
    sym (take-append-drop end bytes) ∙ ap (λ rest. take end bytes ++ rest) (drop-cons bytes end 0 high ∙ rw (is, add-one) refl)

-- there may be none
pub no_end : (bytes : List ℕ) → IsFirstByte (is_byte 10) bytes None → All (λ b. b ≢ 10) bytes
no_end bytes first = λ k d h is. first k (omega arith) h (eq-eqb _ _ (get_or_default bytes k 0 d h ∙ is))
