-- What a read of some bytes leaves of an input.
use Rattle.std.proofs.Common.{◌≡◌, ℕ, ◌+◌, ◌-◌, List, ◌++◌, length, take, drop, sym, ◌∙◌, ap, length-drop}
use Rattle.std.proofs.Math.Seq.{take-length}
use Rattle.std.proofs.lemmas.List.{take_at, drop-drop, take-append-drop}

-- n bytes after the place `at` are moved to the start of a buffer, and what is left begins n bytes later
pub read_off : (at n : ℕ) (input moved tail : List ℕ) → length moved ≡ n → moved ≡ take n (take (length input - at) (drop at input)) → drop at input ≡ take n (moved ++ tail) ++ drop (at + n) input
read_off at n input moved tail moved_len moved_is =
    sym (take-append-drop n (drop at input))
    ∙ ap (λ xs. take n xs ++ drop n (drop at input)) (sym (take-length (drop at input)))
    ∙ ap (λ m. take n (take m (drop at input)) ++ drop n (drop at input)) (length-drop at input)
    ∙ ap (λ xs. xs ++ drop n (drop at input)) (sym moved_is ∙ sym (take_at moved tail n moved_len))
    ∙ ap (λ xs. take n (moved ++ tail) ++ xs) (drop-drop n at input)
