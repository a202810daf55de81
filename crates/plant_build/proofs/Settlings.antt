-- Deques that come back to their owners.
use Rattle.std.proofs.Common.{◌≡◌, ℕ, zero, suc, ◌+◌, ◌%◌, ◌<◌, ◌≤◌, List, [], ◌∷◌, ◌++◌, Vec, Global, vec_len, length, map, get_or, refl, sym, ap, ◌∙◌, arith}
use Rattle.std.specs.Prelude.{Some, sum_by, slice_get}
use Rattle.std.proofs.Math.Nat.{mod-eq_of_lt}
use Rattle.std.proofs.lemmas.List.Sums.{sum_by-cons}
use Rattle.std.proofs.lemmas.List.{length-map, map-append}
use Rattle.std.proofs.lemmas.Option.{slice_get_within}
use Rattle.plant_build.specs.declared.hand.Hand.{Hand}
use Rattle.plant_build.specs.Hands.{DequeId, Reached, Owned, IsSettled}
use Rattle.plant_build.specs.Balance.{times}
use Rattle.plant_build.specs.Rounds.{Share, share_of, put_by, taken_by, got_from, deques_of, reaches, IsOneRound}
use Rattle.plant_build.specs.Dealt.{others_of, lent_by, back_by, borrowed_by}
use Rattle.plant_build.specs.Settled.{kept_of, owned_deques, put_into, got_of, left_of, AreAfter, EachAfter, AreSettled}
use Rattle.plant_build.proofs.HandLists.{slice_get_prefix, slice_get_last, slice_get_map, map_at, length_push, lent_total, borrowed_total}

deques_by_kept : (owns : List Owned) → owned_deques owns ≡ map (λ t. t.2) (map kept_of owns)
deques_by_kept [] = refl
deques_by_kept (o ∷ os) = ap (λ ds. o.reached.deque ∷ ds) (deques_by_kept os)

pub kept_deques : (old new : List Owned) → map kept_of new ≡ map kept_of old → owned_deques new ≡ owned_deques old
kept_deques old new same = deques_by_kept new ∙ ap (map (λ (t : List ℕ × ℕ × DequeId). t.2)) same ∙ sym (deques_by_kept old)

puts_by_kept : (x : ℕ) (owns : List Owned) → put_into x owns ≡ sum_by (λ t. times x t.0) (map kept_of owns)
puts_by_kept x [] = refl
puts_by_kept x (o ∷ os) = omega (arith, sum_by-cons (λ (own : Owned). times x own.put) o os, sum_by-cons (λ (t : List ℕ × ℕ × DequeId). times x t.0) (kept_of o) (map kept_of os), puts_by_kept x os)

pub kept_puts : (x : ℕ) (old new : List Owned) → map kept_of new ≡ map kept_of old → put_into x new ≡ put_into x old
kept_puts x old new same = puts_by_kept x new ∙ ap (sum_by (λ (t : List ℕ × ℕ × DequeId). times x t.0)) same ∙ sym (puts_by_kept x old)

lent_by_kept : (owns : List Owned) → sum_by (λ own. own.lent) owns ≡ sum_by (λ t. t.1) (map kept_of owns)
lent_by_kept [] = refl
lent_by_kept (o ∷ os) = omega (arith, sum_by-cons (λ (own : Owned). own.lent) o os, sum_by-cons (λ (t : List ℕ × ℕ × DequeId). t.1) (kept_of o) (map kept_of os), lent_by_kept os)

pub kept_lent : (old new : List Owned) → map kept_of new ≡ map kept_of old → sum_by (λ own. own.lent) new ≡ sum_by (λ own. own.lent) old
kept_lent old new same = lent_by_kept new ∙ ap (sum_by (λ (t : List ℕ × ℕ × DequeId). t.1)) same ∙ sym (lent_by_kept old)

pub owned_at : (owns : List Owned) (i : ℕ) (d : Owned) → i < length owns → slice_get (owned_deques owns) i ≡ Some (get_or owns i d).reached.deque
owned_at [] i d within = absurd (omega (arith, within))
owned_at (o ∷ os) zero d within = refl
owned_at (o ∷ os) (suc i) d within = owned_at os i d (omega (arith, within))

deques_push : (os : List Reached) (o : Reached) → deques_of (os ++ o ∷ []) ≡ deques_of os ++ o.deque ∷ []
deques_push os o = map-append (λ (r : Reached). r.deque) os (o ∷ [])

deques_length : (os : List Reached) → length (deques_of os) ≡ length os
deques_length os = length-map os (λ (r : Reached). r.deque)

pub after_prefix : (all : List DequeId) (place : ℕ) (os : List Reached) (o : Reached) → AreAfter all place (deques_of (os ++ o ∷ [])) → AreAfter all place (deques_of os)
after_prefix all place os o after k within =
    let longer = ap length (deques_push os o) in
    sym (slice_get_prefix (deques_of os) (o.deque ∷ []) k within) ∙ ap (λ ds. slice_get ds k) (sym (deques_push os o)) ∙ after k (omega (arith, within, longer, length_push (deques_of os) o.deque))

pub after_last : (all : List DequeId) (place : ℕ) (os : List Reached) (o : Reached) → AreAfter all place (deques_of (os ++ o ∷ [])) → slice_get all ((place + 1 + length os) % length all) ≡ Some o.deque
after_last all place os o after =
    let longer = ap length (deques_push os o) in
    sym (after (length os) (omega (arith, longer, length_push (deques_of os) o.deque, deques_length os)))
    ∙ ap (λ ds. slice_get ds (length os)) (deques_push os o) ∙ slice_get_last (deques_of os) o.deque (length os) (sym (deques_length os))

pub each_prefix : (all : List DequeId) (rounds : List (List Reached)) (round : List Reached) → EachAfter all (rounds ++ round ∷ []) → EachAfter all rounds
each_prefix all rounds round each place others at = each place others (slice_get_prefix rounds (round ∷ []) place (slice_get_within rounds place others at) ∙ at)

pub each_last : (all : List DequeId) (rounds : List (List Reached)) (round : List Reached) → EachAfter all (rounds ++ round ∷ []) → AreAfter all (length rounds) (deques_of round)
each_last all rounds round each = each (length rounds) round (slice_get_last rounds round (length rounds) refl)

-- what is left in some deques, and in one more
pub settled_push : (owns : List Owned) (rests : List (List ℕ)) (own : Owned) (rest : List ℕ) → AreSettled owns rests → IsSettled own rest → AreSettled (owns ++ own ∷ []) (rests ++ rest ∷ [])
settled_push [] [] own rest all one = (one, tt)
settled_push [] (r ∷ rs) own rest all one = absurd all
settled_push (o ∷ os) [] own rest all one = absurd all
settled_push (o ∷ os) (r ∷ rs) own rest all one = (all.0, settled_push os rs own rest all.1 one)

settled_bound : (owns : List Owned) (rests : List (List ℕ)) → AreSettled owns rests → sum_by (λ own. own.back) owns ≤ sum_by (λ own. own.lent) owns
settled_bound [] [] all = omega arith
settled_bound [] (r ∷ rs) all = absurd all
settled_bound (o ∷ os) [] all = absurd all
settled_bound (o ∷ os) (r ∷ rs) all = omega (arith, sum_by-cons (λ (own : Owned). own.back) o os, sum_by-cons (λ (own : Owned). own.lent) o os, settled_bound os rs all.1, all.0.0)

-- where all that was lent came back, all is accounted for
pub settled_total : (x : ℕ) (owns : List Owned) (rests : List (List ℕ)) → AreSettled owns rests → sum_by (λ own. own.lent) owns ≡ sum_by (λ own. own.back) owns → put_into x owns ≡ got_of x owns + left_of x rests
settled_total x [] [] all home = refl
settled_total x [] (r ∷ rs) all home = absurd all
settled_total x (o ∷ os) [] all home = absurd all
settled_total x (o ∷ os) (r ∷ rs) all home =
    let lent = sum_by-cons (λ (own : Owned). own.lent) o os in
    let back = sum_by-cons (λ (own : Owned). own.back) o os in
    let bound = settled_bound os rs all.1 in
    let most = all.0.0 in
    let here : o.lent ≡ o.back = omega (arith, lent, back, bound, most, home) in
    let there : sum_by (λ own. own.lent) os ≡ sum_by (λ own. own.back) os = omega (arith, lent, back, bound, most, home) in
    omega (arith, all.0.1 here x, settled_total x os rs all.1 there, sum_by-cons (λ (own : Owned). times x own.put) o os, sum_by-cons (λ (own : Owned). times x own.reached.got) o os, sum_by-cons (λ (rest : List ℕ). times x rest) r rs)

-- lists that agree at each place are the same
same_list : {X : Type 0} (xs ys : List X) → length xs ≡ length ys → ((k : ℕ) → k < length xs → slice_get xs k ≡ slice_get ys k) → xs ≡ ys
same_list [] [] size each = refl
same_list [] (y ∷ ys) size each = absurd (omega (arith, size))
same_list (x ∷ xs) [] size each = absurd (omega (arith, size))
same_list (x ∷ xs) (y ∷ ys) size each =
    let first : Some x ≡ Some y = each 0 (omega arith) in
    let head : x ≡ y = cc in
    let rest = same_list xs ys (omega (arith, size)) (λ k within. each (suc k) (omega (arith, within))) in
    λ j. head j ∷ rest j

hand_at : (hands : List Hand) (k : ℕ) → k < length hands → (h : Hand) × (slice_get hands k ≡ Some h)
hand_at [] k within = absurd (omega (arith, within))
hand_at (h ∷ hs) zero within = (h, refl)
hand_at (h ∷ hs) (suc k) within = hand_at hs k (omega (arith, within))

-- what a hand asks first is its own
pub all_are_owned : (hands : List Hand) (round : IsOneRound (map share_of hands)) → round.all ≡ owned_deques (map (λ h. h.own) hands)
all_are_owned hands round =
    let all = round.all in
    let own : Hand → Owned = λ h. h.own in
    let size : length round.all ≡ length hands = round.count ∙ length-map hands share_of in
    same_list all (owned_deques (map own hands)) (size ∙ sym (length-map (map own hands) (λ (o : Owned). o.reached.deque) ∙ length-map hands own))
    (λ k within.
    let found = hand_at hands k (omega (arith, within, size)) in
    let h = found.0 in
    let is = (round.rounds k (share_of h) (map_at share_of hands k h found.1)).1 0 (omega (arith, within)) in
    let place : (k + 0) % length round.all ≡ k = ap (λ j. j % length round.all) (let e : k + 0 ≡ k = omega arith in e) ∙ mod-eq_of_lt within in
    sym (ap (slice_get all) place) ∙ sym is ∙ sym (map_at (λ (o : Owned). o.reached.deque) (map own hands) k h.own (map_at own hands k h found.1)))

pub round_each_after : (hands : List Hand) → IsOneRound (map share_of hands) → EachAfter (owned_deques (map (λ h. h.own) hands)) (others_of hands)
round_each_after hands round place others at k within =
    let found = slice_get_map (λ (h : Hand). h.others.items) hands place others at in
    let h = found.0 in
    let is = round.rounds place (share_of h) (map_at share_of hands place h found.1) in
    let deques : deques_of h.others.items ≡ deques_of others = ap deques_of found.2 in
    let inside : suc k < length round.all = omega (arith, within, ap length deques, is.0) in
    let all_is = all_are_owned hands round in
    ap (λ ds. slice_get ds k) (sym deques) ∙ is.1 (suc k) inside
    ∙ ap (λ j. slice_get round.all (j % length round.all)) (let e : place + suc k ≡ place + 1 + k = omega arith in e)
    ∙ ap (λ (ds : List DequeId). slice_get ds ((place + 1 + k) % length ds)) all_is

pub round_lent : (hands : List Hand) → IsOneRound (map share_of hands) → lent_by hands ≡ back_by hands + borrowed_by hands
round_lent hands round = omega (arith, lent_total hands, borrowed_total hands, round.lent)

pub owns_lent : (hands : List Hand) → sum_by (λ own. own.lent) (map (λ h. h.own) hands) ≡ lent_by hands
owns_lent [] = refl
owns_lent (h ∷ hs) = omega (arith, sum_by-cons (λ (own : Owned). own.lent) h.own (map (λ (g : Hand). g.own) hs), sum_by-cons (λ (g : Hand). g.own.lent) h hs, owns_lent hs)

pub owns_back : (hands : List Hand) → sum_by (λ own. own.back) (map (λ h. h.own) hands) ≡ back_by hands
owns_back [] = refl
owns_back (h ∷ hs) = omega (arith, sum_by-cons (λ (own : Owned). own.back) h.own (map (λ (g : Hand). g.own) hs), sum_by-cons (λ (g : Hand). g.own.back) h hs, owns_back hs)

pub owns_put : (x : ℕ) (hands : List Hand) → put_into x (map (λ h. h.own) hands) ≡ put_by x (map share_of hands)
owns_put x [] = refl
owns_put x (h ∷ hs) = omega (arith, sum_by-cons (λ (own : Owned). times x own.put) h.own (map (λ (g : Hand). g.own) hs), sum_by-cons (λ (s : Share). times x s.put) (share_of h) (map share_of hs), owns_put x hs)

-- what hands have taken, from their own deques and from others
pub hands_taken : (x : ℕ) (hands : List Hand) → taken_by x hands ≡ got_of x (map (λ h. h.own) hands) + sum_by (λ os. got_from x os) (others_of hands)
hands_taken x [] = refl
hands_taken x (h ∷ hs) =
    omega (arith, sum_by-cons (λ (g : Hand). got_from x (reaches g)) h hs, sum_by-cons (λ (r : Reached). times x r.got) h.own.reached h.others.items, sum_by-cons (λ (own : Owned). times x own.reached.got) h.own (map (λ (g : Hand). g.own) hs), sum_by-cons (λ (os : List Reached). got_from x os) h.others.items (others_of hs), hands_taken x hs)

pub rounds_got : (x : ℕ) (rounds : List (Vec Reached Global)) → sum_by (λ os. got_from x os.items) rounds ≡ sum_by (λ os. got_from x os) (map (λ os. os.items) rounds)
rounds_got x [] = refl
rounds_got x (r ∷ rs) = omega (arith, sum_by-cons (λ (os : Vec Reached Global). got_from x os.items) r rs, sum_by-cons (λ (os : List Reached). got_from x os) r.items (map (λ (os : Vec Reached Global). os.items) rs), rounds_got x rs)

pub rounds_size : (rounds : List (Vec Reached Global)) → sum_by vec_len rounds ≡ sum_by (λ os. length os) (map (λ os. os.items) rounds)
rounds_size [] = refl
rounds_size (r ∷ rs) = omega (arith, sum_by-cons (λ (os : Vec Reached Global). vec_len os) r rs, sum_by-cons (λ (os : List Reached). length os) r.items (map (λ (os : Vec Reached Global). os.items) rs), rounds_size rs, r.ok.0)
