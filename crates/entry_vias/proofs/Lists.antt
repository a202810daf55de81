-- Lists that stand one after another in one list.
use Rattle.std.specs.Prelude.{slice_range}
use Rattle.std.proofs.Common.{◌≡◌, ℕ, zero, suc, ◌+◌, ◌-◌, ◌<◌, ◌≤◌, List, [], ◌∷◌, ◌++◌, All, length, map, take, drop, get_or, refl, sym, ap, subst, ◌∙◌, arith, length-append, length-drop}
use Rattle.std.proofs.lemmas.List.{take_all, drop_at, get_or_default, take-append-le, drop-append-le}
use Rattle.std.proofs.lemmas.List.Elements.{All-nil, All-cons}
use Rattle.std.proofs.Math.Seq.{drop-append-add}
use Rattle.entry_vias.specs.RowVias.{via_row}
use Rattle.entry_vias.specs.ViaLists.{lists_from, lists_of, RiseFrom, RiseUpTo}

-- they never begin past the end
starts_within : (start : ℕ) (starts : List ℕ) (end : ℕ) → RiseFrom start starts end → start ≤ end
starts_within start [] end up = omega (arith, up)
starts_within start (next ∷ starts) end up = omega (arith, up.0, starts_within next starts end up.1)

length_from : (flat : List ℕ) (start : ℕ) (starts : List ℕ) → length (lists_from flat start starts) ≡ length starts
length_from flat start [] = refl
length_from flat start (next ∷ starts) = ap suc (length_from flat next starts)

-- there is one place more than there are lists
pub length-lists : (flat starts : List ℕ) (end : ℕ) → RiseUpTo starts end → length (lists_of flat starts) + 1 ≡ length starts
length-lists flat [] end up = absurd up
length-lists flat (start ∷ starts) end up = omega (arith, length_from flat start starts)

-- where a list begins and ends
pub record IsPlacedAt (flat starts : List ℕ) (k : ℕ) : Type 0 where
  pub up : get_or starts k 0 ≤ get_or starts (k + 1) 0
  pub within : get_or starts (k + 1) 0 ≤ length flat
  pub is : get_or (lists_of flat starts) k [] ≡ slice_range flat (get_or starts k 0) (get_or starts (k + 1) 0)

placed_from : (flat : List ℕ) (start : ℕ) (starts : List ℕ) (k : ℕ) → RiseFrom start starts (length flat) → k < length starts → IsPlacedAt flat (start ∷ starts) k
placed_from flat start [] k up lt = absurd (omega (arith, lt))
placed_from flat start (next ∷ starts) zero up lt = record { up = up.0; within = starts_within next starts (length flat) up.1; is = refl }
placed_from flat start (next ∷ starts) (suc k) up lt =
    let later = placed_from flat next starts k up.1 (omega (arith, lt)) in
    let step : suc k + 1 ≡ suc (k + 1) = omega arith in
    record {
      up = subst (λ i. get_or (next ∷ starts) k 0 ≤ get_or (start ∷ next ∷ starts) i 0) (sym step) later.up;
      within = subst (λ i. get_or (start ∷ next ∷ starts) i 0 ≤ length flat) (sym step) later.within;
      is = subst (λ i. get_or (lists_from flat next starts) k [] ≡ slice_range flat (get_or (next ∷ starts) k 0) (get_or (start ∷ next ∷ starts) i 0)) (sym step) later.is;
    }

pub list_placed : (flat starts : List ℕ) (k : ℕ) → RiseUpTo starts (length flat) → k + 1 < length starts → IsPlacedAt flat starts k
list_placed flat [] k up lt = absurd up
list_placed flat (start ∷ starts) k up lt = placed_from flat start starts k up.1 (omega (arith, lt))

-- the list of the node v, by two places that were read
pub record IsPlacedRow (flat starts : List ℕ) (v start end : ℕ) : Type 0 where
  pub up : start ≤ end
  pub within : end ≤ length flat
  pub is : slice_range flat start end ≡ via_row (lists_of flat starts) v

pub row_placed : (flat starts : List ℕ) (v start end : ℕ) → RiseUpTo starts (length flat) → 1 ≤ v → v ≤ length (lists_of flat starts) → start ≡ get_or starts (v - 1) start → end ≡ get_or starts v end → IsPlacedRow flat starts v start end
row_placed flat starts v start end up from_one up_to_n begins ends =
    let more = length-lists flat starts (length flat) up in
    let p = list_placed flat starts (v - 1) up (omega (arith, from_one, up_to_n, more)) in
    let next : v - 1 + 1 ≡ v = omega (arith, from_one) in
    let first : start ≡ get_or starts (v - 1) 0 = begins ∙ get_or_default starts (v - 1) start 0 (omega (arith, from_one, up_to_n, more)) in
    let last : end ≡ get_or starts (v - 1 + 1) 0 = ends ∙ get_or_default starts v end 0 (omega (arith, up_to_n, more)) ∙ ap (λ i. get_or starts i 0) (sym next) in
    record {
      up = omega (arith, p.up, first, last);
      within = omega (arith, p.within, last);
      is = ap (λ a. slice_range flat a end) first ∙ ap (slice_range flat (get_or starts (v - 1) 0)) last ∙ sym p.is;
    }

-- ---- more lists after others

same_part : (flat more : List ℕ) (a b : ℕ) → a ≤ b → b ≤ length flat → slice_range (flat ++ more) a b ≡ slice_range flat a b
same_part flat more a b up within =
    let dropped : drop a (flat ++ more) ≡ drop a flat ++ more = drop-append-le a flat more (omega (arith, up, within)) in
    ap (take (b - a)) dropped ∙ take-append-le (b - a) (drop a flat) more (omega (arith, up, within, length-drop a flat))

-- with more in the list and more places the first lists are the same
longer_from : (flat more : List ℕ) (ends : List ℕ) (start : ℕ) (starts : List ℕ) → RiseFrom start starts (length flat) → lists_from (flat ++ more) start (starts ++ ends) ≡ lists_from flat start starts ++ lists_from (flat ++ more) (length flat) ends
longer_from flat more ends start [] up = ap (λ s. lists_from (flat ++ more) s ends) up
longer_from flat more ends start (next ∷ starts) up =
    ap (λ l. l ∷ lists_from (flat ++ more) next (starts ++ ends)) (same_part flat more start next up.0 (starts_within next starts (length flat) up.1))
    ∙ ap (λ ls. slice_range flat start next ∷ ls) (longer_from flat more ends next starts up.1)

rise_on : (start : ℕ) (starts ends : List ℕ) (mid end : ℕ) → RiseFrom start starts mid → RiseFrom mid ends end → RiseFrom start (starts ++ ends) end
rise_on start [] ends mid end up more = subst (λ s. RiseFrom s ends end) (sym up) more
rise_on start (next ∷ starts) ends mid end up more = (up.0, rise_on next starts ends mid end up.1 more)

-- one list more
pub lists-push : (flat row starts : List ℕ) (end : ℕ) → end ≡ length flat + length row → RiseUpTo starts (length flat) → lists_of (flat ++ row) (starts ++ end ∷ []) ≡ lists_of flat starts ++ row ∷ []
lists-push flat row [] end is up = absurd up
lists-push flat row (start ∷ starts) end is up =
    let dropped : drop (length flat) (flat ++ row) ≡ row = drop_at flat row (length flat) refl in
    let last : slice_range (flat ++ row) (length flat) end ≡ row = ap (take (end - length flat)) dropped ∙ take_all (end - length flat) row (omega (arith, is)) in
    longer_from flat row (end ∷ []) start starts up.1 ∙ ap (λ l. lists_from flat start starts ++ l ∷ []) last

pub rise-push : (flat row starts : List ℕ) (end : ℕ) → end ≡ length flat + length row → RiseUpTo starts (length flat) → RiseUpTo (starts ++ end ∷ []) end
rise-push flat row [] end is up = absurd up
rise-push flat row (start ∷ starts) end is up = (up.0, rise_on start starts (end ∷ []) (length flat) end up.1 (omega (arith, is), refl))

-- lists after others
moved_from : (flat more : List ℕ) (start : ℕ) (starts : List ℕ) → lists_from (flat ++ more) (start + length flat) (map (λ s. s + length flat) starts) ≡ lists_from more start starts
moved_from flat more start [] = refl
moved_from flat more start (next ∷ starts) =
    let n = length flat in
    let turned : start + length flat ≡ length flat + start = omega arith in
    let dropped : drop (start + length flat) (flat ++ more) ≡ drop start more = ap (λ i. drop i (flat ++ more)) turned ∙ drop-append-add flat more start in
    let long : next + length flat - (start + length flat) ≡ next - start = omega arith in
    let part : slice_range (flat ++ more) (start + length flat) (next + length flat) ≡ slice_range more start next = ap (take (next + n - (start + n))) dropped ∙ ap (λ k. take k (drop start more)) long in
    ap (λ l. l ∷ lists_from (flat ++ more) (next + n) (map (λ s. s + n) starts)) part ∙ ap (λ ls. slice_range more start next ∷ ls) (moved_from flat more next starts)

moved_rise : (n start : ℕ) (starts : List ℕ) (end : ℕ) → RiseFrom start starts end → RiseFrom (start + n) (map (λ s. s + n) starts) (end + n)
moved_rise n start [] end up = omega (arith, up)
moved_rise n start (next ∷ starts) end up = (omega (arith, up.0), moved_rise n next starts end up.1)

-- what the lists that stand after others have, without the first place, which is 0
pub lists-join : (flat starts more others : List ℕ) → RiseUpTo starts (length flat) → RiseUpTo others (length more) → lists_of (flat ++ more) (starts ++ map (λ s. s + length flat) (drop 1 others)) ≡ lists_of flat starts ++ lists_of more others
lists-join flat [] more others up others_up = absurd up
lists-join flat (start ∷ starts) more [] up others_up = absurd others_up
lists-join flat (start ∷ starts) more (first ∷ others) up others_up =
    let begin : length flat ≡ first + length flat = omega (arith, others_up.0) in
    longer_from flat more (map (λ s. s + length flat) others) start starts up.1
    ∙ ap (λ ls. lists_from flat start starts ++ ls) (ap (λ s. lists_from (flat ++ more) s (map (λ s. s + length flat) others)) begin ∙ moved_from flat more first others)

pub rise-join : (flat starts more others : List ℕ) → RiseUpTo starts (length flat) → RiseUpTo others (length more) → RiseUpTo (starts ++ map (λ s. s + length flat) (drop 1 others)) (length (flat ++ more))
rise-join flat [] more others up others_up = absurd up
rise-join flat (start ∷ starts) more [] up others_up = absurd others_up
rise-join flat (start ∷ starts) more (first ∷ others) up others_up =
    let begin : first + length flat ≡ length flat = omega (arith, others_up.0) in
    let end : length more + length flat ≡ length (flat ++ more) = omega (arith, length-append flat more) in
    let moved = subst (RiseFrom (length flat) (map (λ s. s + length flat) others)) end (subst (λ s. RiseFrom s (map (λ s. s + length flat) others) (length more + length flat)) begin (moved_rise (length flat) first others (length more) others_up.1)) in
    (up.0, rise_on start starts (map (λ s. s + length flat) others) (length flat) (length (flat ++ more)) up.1 moved)

-- no place is past the end
all_within : (start : ℕ) (starts : List ℕ) (end : ℕ) → RiseFrom start starts end → All (λ s. s ≤ end) starts
all_within start [] end up = All-nil (λ s. s ≤ end)
all_within start (next ∷ starts) end up = All-cons (λ s. s ≤ end) next starts (starts_within next starts end up.1) (all_within next starts end up.1)

pub starts-within : (starts : List ℕ) (end : ℕ) → RiseUpTo starts end → All (λ s. s ≤ end) (drop 1 starts)
starts-within [] end up = absurd up
starts-within (start ∷ starts) end up = all_within start starts end up.1

-- all places but the first
pub without_first : (xs : List ℕ) → take (length xs - 1) (drop 1 xs) ≡ drop 1 xs
without_first xs = take_all (length xs - 1) (drop 1 xs) (omega (arith, length-drop 1 xs))
