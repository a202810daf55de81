-- Deques that are asked in their order.
use Rattle.std.proofs.Common.{◌≡◌, ℕ, zero, suc, ◌+◌, ◌<◌, ◌≤◌, ◌==◌, List, [], ◌∷◌, ◌++◌, length, take, drop, set, map, get_or, refl, sym, ap, ◌∙◌, arith, drop-cons, add-one, append_assoc}
use Rattle.std.specs.Prelude.{Option, Some, None, if◌then◌else◌, slice_get}
use Rattle.std.proofs.lemmas.List.{length-map, length-take, map-append, append-nil, take_more, take_all}
use Rattle.std.proofs.Math.Seq.{set-append_seam, get_or-append_seam}
use Rattle.std.proofs.Math.ListN.{drop_of_length-le}
use Rattle.std.proofs.lemmas.List.Sums.{sum_by-cons, sum_by-append}
use Rattle.std.proofs.lemmas.Option.{slice_get-get_or}
use Rattle.plant_build.specs.Hands.{DequeId, Reached, found_empty, taken_from, Asked}
use Rattle.plant_build.specs.Balance.{times}
use Rattle.plant_build.specs.Rounds.{deques_of, got_from}
use Rattle.plant_build.proofs.HandLists.{times_push}

-- where the first i were found empty, the others are as they were
abbrev pub emptied : ℕ → List Reached → List Reached
emptied i old = map found_empty (take i old) ++ drop i old

emptied_split : (old : List Reached) (i : ℕ) (d : Reached) → i < length old → emptied i old ≡ map found_empty (take i old) ++ get_or old i d ∷ drop (i + 1) old
emptied_split old i d within = ap (λ t. map found_empty (take i old) ++ t) (drop-cons old i d within ∙ ap (λ k. get_or old i d ∷ drop k old) (sym (add-one i)))

length_emptied : (old : List Reached) (i : ℕ) → i < length old → length (map found_empty (take i old)) ≡ i
length_emptied old i within = omega (arith, length-map (take i old) found_empty, length-take i old)

-- the next one stands at its place
pub emptied_at : (old : List Reached) (i : ℕ) (d : Reached) → i < length old → get_or (emptied i old) i d ≡ get_or old i d
emptied_at old i d within =
    let at = length_emptied old i within in
    ap (λ xs. get_or xs i d) (emptied_split old i d within)
    ∙ ap (λ k. get_or (map found_empty (take i old) ++ get_or old i d ∷ drop (i + 1) old) k d) (sym at)
    ∙ get_or-append_seam (map found_empty (take i old)) (get_or old i d) (drop (i + 1) old) d

pub emptied_set : (old : List Reached) (i : ℕ) (d y : Reached) → i < length old → set (emptied i old) i y ≡ map found_empty (take i old) ++ y ∷ drop (i + 1) old
emptied_set old i d y within =
    let at = length_emptied old i within in
    ap (λ xs. set xs i y) (emptied_split old i d within)
    ∙ ap (λ k. set (map found_empty (take i old) ++ get_or old i d ∷ drop (i + 1) old) k y) (sym at)
    ∙ set-append_seam (map found_empty (take i old)) (get_or old i d) (drop (i + 1) old) y

-- the next one is found empty, too
pub emptied_more : (old : List Reached) (i : ℕ) (d : Reached) → i < length old → set (emptied i old) i (found_empty (get_or old i d)) ≡ emptied (i + 1) old
emptied_more old i d within =
    let prefix = map found_empty (take i old) in
    let x = found_empty (get_or old i d) in
    let more : map found_empty (take (i + 1) old) ≡ prefix ++ x ∷ [] = ap (map found_empty) (take_more old i d within) ∙ map-append found_empty (take i old) (get_or old i d ∷ []) in
    emptied_set old i d x within ∙ sym (ap (λ xs. xs ++ drop (i + 1) old) more ∙ append_assoc prefix (x ∷ []) (drop (i + 1) old))

-- the next one gives a batch
pub asked_gives : (old items : List Reached) (i : ℕ) (d y : Reached) (b : ℕ) → i < length old → items ≡ emptied i old → y ≡ taken_from (get_or items i d) b → Asked (Some b) old (set items i y)
asked_gives old items i d y b within so_far is =
    let same : get_or items i d ≡ get_or old i d = ap (λ xs. get_or xs i d) so_far ∙ emptied_at old i d within in (
      i,
      get_or old i d,
      slice_get-get_or old i d within,
      ap (λ xs. set xs i y) so_far ∙ emptied_set old i d y within ∙ ap (λ r. map found_empty (take i old) ++ r ∷ drop (i + 1) old) (is ∙ ap (λ r. taken_from r b) same),
    )

pub asked_on : (old items : List Reached) (i : ℕ) (d y : Reached) → i < length old → items ≡ emptied i old → y ≡ found_empty (get_or items i d) → set items i y ≡ emptied (i + 1) old
asked_on old items i d y within so_far is =
    let same : get_or items i d ≡ get_or old i d = ap (λ xs. get_or xs i d) so_far ∙ emptied_at old i d within in
    ap (λ xs. set xs i y) so_far ∙ ap (λ r. set (emptied i old) i r) (is ∙ ap found_empty same) ∙ emptied_more old i d within

pub asked_all : (old items : List Reached) (i : ℕ) → length old ≤ i → items ≡ emptied i old → Asked None old items
asked_all old items i whole so_far =
    so_far ∙ ap (λ xs. map found_empty xs ++ drop i old) (take_all i old whole) ∙ ap (λ xs. map found_empty old ++ xs) (drop_of_length-le old whole) ∙ append-nil (map found_empty old)

-- the first one gives a batch
pub asked_first : (o : Reached) (os : List Reached) (b : ℕ) → Asked (Some b) (o ∷ os) (taken_from o b ∷ os)
asked_first o os b = (0, o, refl, refl)

-- the first one was found empty
pub asked_later : (answer : Option ℕ) (o : Reached) (os ns : List Reached) → Asked answer os ns → Asked answer (o ∷ os) (found_empty o ∷ ns)
asked_later None o os ns all = ap (λ xs. found_empty o ∷ xs) all
asked_later (Some b) o os ns (k, r, at, new) =
    (suc k, r, at, ap (λ xs. found_empty o ∷ xs) new ∙ ap (λ j. found_empty o ∷ (map found_empty (take k os) ++ taken_from r b ∷ drop j (o ∷ os))) (let e : suc (k + 1) ≡ suc k + 1 = omega arith in e))

emptied_deques : (rs : List Reached) → deques_of (map found_empty rs) ≡ deques_of rs
emptied_deques [] = refl
emptied_deques (r ∷ rs) = ap (λ ds. r.deque ∷ ds) (emptied_deques rs)

split_at : (rs : List Reached) (k : ℕ) (r : Reached) → slice_get rs k ≡ Some r → rs ≡ take k rs ++ r ∷ drop (k + 1) rs
split_at [] k r at = absurd (let none : None ≡ Some r = at in cc)
split_at (q ∷ qs) zero r at = ap (λ p. p ∷ qs) (let e : Some q ≡ Some r = at in cc)
split_at (q ∷ qs) (suc k) r at = ap (λ ps. q ∷ ps) (split_at qs k r at) ∙ ap (λ j. q ∷ (take k qs ++ r ∷ drop j (q ∷ qs))) (let e : suc (k + 1) ≡ suc k + 1 = omega arith in e)

-- which deques they are does not change
pub asked_deques : (answer : Option ℕ) (old new : List Reached) → Asked answer old new → deques_of new ≡ deques_of old
asked_deques None old new all = ap deques_of all ∙ emptied_deques old
asked_deques (Some b) old new (k, r, at, is) =
    let deque_of : Reached → DequeId = λ q. q.deque in
    ap deques_of is ∙ map-append deque_of (map found_empty (take k old)) (taken_from r b ∷ drop (k + 1) old)
    ∙ ap (λ ds. ds ++ r.deque ∷ deques_of (drop (k + 1) old)) (emptied_deques (take k old))
    ∙ sym (map-append deque_of (take k old) (r ∷ drop (k + 1) old)) ∙ ap deques_of (sym (split_at old k r at))

emptied_got : (x : ℕ) (rs : List Reached) → got_from x (map found_empty rs) ≡ got_from x rs
emptied_got x [] = refl
emptied_got x (r ∷ rs) = omega (arith, sum_by-cons (λ (q : Reached). times x q.got) (found_empty r) (map found_empty rs), sum_by-cons (λ (q : Reached). times x q.got) r rs, emptied_got x rs)

-- what was taken in all
pub asked_none_got : (x : ℕ) (old new : List Reached) → Asked None old new → got_from x new ≡ got_from x old
asked_none_got x old new all = ap (got_from x) all ∙ emptied_got x old

pub asked_some_got : (x b : ℕ) (old new : List Reached) → Asked (Some b) old new → got_from x new ≡ got_from x old + (if b == x then 1 else 0)
asked_some_got x b old new (k, r, at, is) =
    let got : Reached → ℕ = λ q. times x q.got in
    omega (
      arith,
      ap (got_from x) is,
      sum_by-append got (map found_empty (take k old)) (taken_from r b ∷ drop (k + 1) old),
      emptied_got x (take k old),
      sum_by-cons got (taken_from r b) (drop (k + 1) old),
      times_push x r.got b,
      ap (got_from x) (split_at old k r at),
      sum_by-append got (take k old) (r ∷ drop (k + 1) old),
      sum_by-cons got r (drop (k + 1) old),
    )
