-- Lists of hits that stand one after another in one list.
use Rattle.std.proofs.Common.{◌≡◌, ℕ, zero, suc, ◌+◌, ◌-◌, ◌<◌, ◌≤◌, List, [], ◌∷◌, ◌++◌, length, take, drop, get_or, refl, sym, ap, ap₂, ◌∙◌, arith}
use Rattle.std.specs.Prelude.{slice_range}
use Rattle.std.proofs.lemmas.List.{take-append-le, take_all}
use Rattle.near_points.specs.declared.hit.Hit.{Hit}
use Rattle.near_points.specs.HitLists.{lists_from, AreEnds}

pub length-lists : (from : ℕ) (hits : List Hit) (ends : List ℕ) → length (lists_from from hits ends) ≡ length ends
length-lists from hits [] = refl
length-lists from hits (end ∷ ends) = ap suc (length-lists end hits ends)

-- the list at a place
pub lists_at : (from : ℕ) (hits : List Hit) (ends : List ℕ) (k : ℕ) → k < length ends → get_or (lists_from from hits ends) k [] ≡ slice_range hits (get_or (from ∷ ends) k 0) (get_or ends k 0)
lists_at from hits [] k lt = absurd (omega (arith, lt))
lists_at from hits (end ∷ ends) zero lt = refl
lists_at from hits (end ∷ ends) (suc k) lt = lists_at end hits ends k (omega (arith, lt))

ends_within : (from : ℕ) (ends : List ℕ) (last : ℕ) → AreEnds from ends last → from ≤ last
ends_within from [] last are = omega (arith, are)
ends_within from (end ∷ ends) last are = let rest = ends_within end ends last are.1 in omega (arith, are.0, rest)

-- it begins where it ends or before, and within the hits
pub ends_rise : (from : ℕ) (ends : List ℕ) (last k : ℕ) → AreEnds from ends last → k < length ends → (get_or (from ∷ ends) k 0 ≤ get_or ends k 0) × (get_or ends k 0 ≤ last)
ends_rise from [] last k are lt = absurd (omega (arith, lt))
ends_rise from (end ∷ ends) last zero are lt = (are.0, ends_within end ends last are.1)
ends_rise from (end ∷ ends) last (suc k) are lt = ends_rise end ends last k are.1 (omega (arith, lt))

-- more hits behind them change no list
range_still : (from end : ℕ) (hits more : List Hit) → end ≤ length hits → slice_range (hits ++ more) from end ≡ slice_range hits from end
range_still zero end hits more within =
    let all : end - 0 ≡ end = omega arith in
    ap (λ n. take n (hits ++ more)) all ∙ take-append-le end hits more within ∙ sym (ap (λ n. take n hits) all)
range_still (suc from) zero hits more within =
    let none : 0 - suc from ≡ 0 = omega arith in
    ap (λ n. take n (drop (suc from) (hits ++ more))) none ∙ sym (ap (λ n. take n (drop (suc from) hits)) none)
range_still (suc from) (suc end) [] more within = absurd (omega (arith, within))
range_still (suc from) (suc end) (h ∷ hits) more within =
    let fewer : suc end - suc from ≡ end - from = omega arith in
    ap (λ n. take n (drop from (hits ++ more))) fewer ∙ range_still from end hits more (omega (arith, within)) ∙ sym (ap (λ n. take n (drop from hits)) fewer)

drop_seam : (hits more : List Hit) → drop (length hits) (hits ++ more) ≡ more
drop_seam [] more = refl
drop_seam (h ∷ hits) more = drop_seam hits more

range_whole : (hits more : List Hit) → slice_range (hits ++ more) (length hits) (length hits + length more) ≡ more
range_whole hits more =
    let behind : drop (length hits) (hits ++ more) ≡ more = drop_seam hits more in
    let count : length hits + length more - length hits ≡ length more = omega arith in
    ap₂ take count behind ∙ take_all (length more) more (omega arith)

pub AreEnds-push : (from : ℕ) (ends : List ℕ) (last end : ℕ) → AreEnds from ends last → last ≤ end → AreEnds from (ends ++ end ∷ []) end
AreEnds-push from [] last end are le = (omega (arith, are, le), refl)
AreEnds-push from (e ∷ ends) last end are le = (are.0, AreEnds-push e ends last end are.1 le)

-- one more list behind the others
pub lists_push : (from : ℕ) (hits more : List Hit) (ends : List ℕ) (last : ℕ) → AreEnds from ends last → last ≡ length hits → lists_from from (hits ++ more) (ends ++ (length hits + length more) ∷ []) ≡ lists_from from hits ends ++ more ∷ []
lists_push from hits more [] last are is =
    let begin : from ≡ length hits = are ∙ is in
    ap (λ l. l ∷ []) (ap (λ f. slice_range (hits ++ more) f (length hits + length more)) begin ∙ range_whole hits more)
lists_push from hits more (end ∷ ends) last are is =
    let within : end ≤ length hits = let le = ends_within end ends last are.1 in omega (arith, le, is) in
    ap₂ (λ (l : List Hit) (ls : List (List Hit)). l ∷ ls) (range_still from end hits more within) (lists_push end hits more ends last are.1 is)
