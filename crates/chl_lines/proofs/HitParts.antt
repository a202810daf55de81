-- The lines of hits, in parts.
use Rattle.std.proofs.Common.{◌≡◌, ℕ, zero, suc, ◌+◌, ◌-◌, ◌*◌, ◌<◌, ◌≤◌, min, List, [], ◌∷◌, ◌++◌, length, take, drop, get_or, refl, sym, ap, ap₂, ◌∙◌, append_assoc, append-nil, arith}
use Rattle.std.specs.Prelude.{slice_range}
use Rattle.std.proofs.lemmas.List.{get_or-drop, length-drop, length-take-le, take_more}
use Rattle.near_points.specs.declared.hit.Hit.{Hit}
use Rattle.chl_lines.specs.PrintedHits.{near_line, near_lines, near_part_lines}
use Rattle.chl_lines.proofs.PartLines.{cut}

no_hits : (rest : List ℕ) → near_lines rest [] ≡ []
no_hits [] = refl
no_hits (s ∷ sources) = refl

-- the lines of the first n sources, and then those of the others
pub hits_cut : (n : ℕ) (sources : List ℕ) (hits : List (List Hit)) → near_lines (take n sources) (take n hits) ++ near_lines (drop n sources) (drop n hits) ≡ near_lines sources hits
hits_cut zero sources hits = refl
hits_cut (suc n) [] hits = refl
hits_cut (suc n) (source ∷ sources) [] = no_hits (drop n sources)
hits_cut (suc n) (source ∷ sources) (own ∷ hits) =
    append_assoc (near_line source own) (near_lines (take n sources) (take n hits)) (near_lines (drop n sources) (drop n hits))
    ∙ ap (λ text. near_line source own ++ text) (hits_cut n sources hits)

-- one more source has its line
line_more : (sources : List ℕ) (hits : List (List Hit)) (source : ℕ) (own : List Hit) → length hits ≡ length sources → near_lines (sources ++ source ∷ []) (hits ++ own ∷ []) ≡ near_lines sources hits ++ near_line source own
line_more [] [] source own same = append-nil (near_line source own)
line_more [] (h ∷ hits) source own same = absurd (omega (arith, same))
line_more (s ∷ sources) [] source own same = absurd (omega (arith, same))
line_more (s ∷ sources) (h ∷ hits) source own same =
    ap (λ text. near_line s h ++ text) (line_more sources hits source own (omega (arith, same)))
    ∙ sym (append_assoc (near_line s h) (near_lines sources hits) (near_line source own))

range_more : {X : Type 0} (begin i : ℕ) (xs : List X) (d : X) → begin ≤ i → i < length xs → slice_range xs begin (i + 1) ≡ slice_range xs begin i ++ get_or xs i d ∷ []
range_more begin i xs d from inside =
    let count : i + 1 - begin ≡ i - begin + 1 = omega (arith, from) in
    let place : begin + (i - begin) ≡ i = omega (arith, from) in
    let short : i - begin < length (drop begin xs) = omega (arith, length-drop begin xs, from, inside) in
    ap (λ n. take n (drop begin xs)) count
    ∙ take_more (drop begin xs) (i - begin) d short
    ∙ ap (λ x. slice_range xs begin i ++ x ∷ []) (get_or-drop begin xs (i - begin) d ∙ ap (λ k. get_or xs k d) place)

length-range : {X : Type 0} (begin i : ℕ) (xs : List X) → i ≤ length xs → length (slice_range xs begin i) ≡ i - begin
length-range begin i xs within = length-take-le (i - begin) (drop begin xs) (omega (arith, length-drop begin xs, within))

-- the lines up to the next source
pub lines_up_to : (sources : List ℕ) (hits : List (List Hit)) (begin i : ℕ) → length hits ≡ length sources → begin ≤ i → i < length sources → near_lines (slice_range sources begin (i + 1)) (slice_range hits begin (i + 1)) ≡ near_lines (slice_range sources begin i) (slice_range hits begin i) ++ near_line (get_or sources i 0) (get_or hits i [])
lines_up_to sources hits begin i same from inside =
    let within : i ≤ length sources = omega (arith, inside) in
    let also : i ≤ length hits = omega (arith, inside, same) in
    ap₂ near_lines (range_more begin i sources 0 from inside) (range_more begin i hits [] from (omega (arith, inside, same)))
    ∙ line_more (slice_range sources begin i) (slice_range hits begin i) (get_or sources i 0) (get_or hits i []) (length-range begin i hits also ∙ sym (length-range begin i sources within))

-- no lines yet
pub no_lines_yet : (sources : List ℕ) (hits : List (List Hit)) (begin : ℕ) → near_lines (slice_range sources begin begin) (slice_range hits begin begin) ≡ []
no_lines_yet sources hits begin =
    let none : begin - begin ≡ 0 = omega arith in
    ap (λ n. near_lines (take n (drop begin sources)) (take n (drop begin hits))) none

-- the lines of so many sources as a part has
pub hit_part_is : (sources : List ℕ) (hits : List (List Hit)) (k begin end : ℕ) → length hits ≡ length sources → begin ≡ k * 1024 → end ≡ begin + min 1024 (length sources - begin) → near_lines (slice_range sources begin end) (slice_range hits begin end) ≡ near_part_lines sources hits k
hit_part_is sources hits k begin end same is until =
    let count : end - begin ≡ min 1024 (length sources - begin) = omega (arith, until) in
    ap (λ n. near_lines (take n (drop begin sources)) (take n (drop begin hits))) count
    ∙ ap₂ near_lines (cut 1024 begin sources) (ap (λ n. take (min 1024 (n - begin)) (drop begin hits)) (sym same) ∙ cut 1024 begin hits)
    ∙ ap (λ b. near_lines (take 1024 (drop b sources)) (take 1024 (drop b hits))) is
