-- Lists of hands, of which one changes.
use Rattle.std.proofs.Common.{◌≡◌, ◌≢◌, ◌⊎◌, ℕ, zero, suc, ◌+◌, ◌%◌, ◌<◌, ◌==◌, List, [], ◌∷◌, ◌++◌, All, length, map, set, get_or, refl, sym, ap, ◌∙◌, subst, inl, inr, arith, cond, nat_lt}
use Rattle.std.specs.Prelude.{Some, None, sum_by, slice_get, if◌then◌else◌}
use Rattle.std.proofs.Math.ListN.{length-set}
use Rattle.std.proofs.Math.Nat.{mod-eq_of_lt}
use Rattle.std.proofs.lemmas.Bool.{cases_lt}
use Rattle.std.proofs.lemmas.Bool.Decides.{nat_tests}
use Rattle.std.proofs.lemmas.List.Sums.{sum_by-cons, sum_by_push}
use Rattle.std.proofs.lemmas.List.{map-set, length-map, length-append, map-append}
use Rattle.std.proofs.lemmas.List.Elements.{All-nil, All-cons, All-head, All-tail, All-push}
use Rattle.std.proofs.lemmas.Option.{slice_get_within, slice_get-get_or}
use Rattle.plant_build.specs.declared.hand.Hand.{Hand}
use Rattle.plant_build.specs.Hands.{DequeId, Reached, unused}
use Rattle.plant_build.specs.Balance.{times}
use Rattle.plant_build.specs.Rounds.{Share, share_of, put_by, deques_of, IsRound, IsOneRound, HasTakenNothing}
use Rattle.plant_build.specs.Dealt.{owns_of, puts_of, others_of, lent_by, back_by, borrowed_by, AreUnused, AreAtHome, IsRest, AreLent}

pub slice_get_set : {X : Type 0} (xs : List X) (i j : ℕ) (y x : X) → slice_get (set xs i y) j ≡ Some x → ((j ≡ i) × (y ≡ x)) ⊎ ((j ≢ i) × (slice_get xs j ≡ Some x))
slice_get_set [] i j y x at = inr ((λ _. absurd (let none : None ≡ Some x = at in cc)), at)
slice_get_set (z ∷ zs) zero zero y x at = inl (refl, (let e : Some y ≡ Some x = at in cc))
slice_get_set (z ∷ zs) zero (suc j) y x at = inr ((λ e. absurd (omega (arith, e))), at)
slice_get_set (z ∷ zs) (suc i) zero y x at = inr ((λ e. absurd (omega (arith, e))), at)
slice_get_set (z ∷ zs) (suc i) (suc j) y x at = elim (slice_get_set zs i j y x at) [
  | inl here ↦ inl (ap suc here.0, here.1)
  | inr apart ↦ inr ((λ e. apart.0 (omega (arith, e))), apart.1)
]

pub slice_get_prefix : {X : Type 0} (xs ys : List X) (k : ℕ) → k < length xs → slice_get (xs ++ ys) k ≡ slice_get xs k
slice_get_prefix [] ys k within = absurd (omega (arith, within))
slice_get_prefix (x ∷ xs) ys zero within = refl
slice_get_prefix (x ∷ xs) ys (suc k) within = slice_get_prefix xs ys k (omega (arith, within))

pub slice_get_last : {X : Type 0} (xs : List X) (y : X) (k : ℕ) → k ≡ length xs → slice_get (xs ++ y ∷ []) k ≡ Some y
slice_get_last [] y zero last = refl
slice_get_last [] y (suc k) last = absurd (omega (arith, last))
slice_get_last (x ∷ xs) y zero last = absurd (omega (arith, last))
slice_get_last (x ∷ xs) y (suc k) last = slice_get_last xs y k (omega (arith, last))

pub slice_get_map : {X Y : Type 0} (f : X → Y) (xs : List X) (k : ℕ) (y : Y) → slice_get (map f xs) k ≡ Some y → (x : X) × (slice_get xs k ≡ Some x) × (f x ≡ y)
slice_get_map f [] k y at = absurd (let none : None ≡ Some y = at in cc)
slice_get_map f (x ∷ xs) zero y at = (x, refl, (let e : Some (f x) ≡ Some y = at in cc))
slice_get_map f (x ∷ xs) (suc k) y at = slice_get_map f xs k y at

pub map_at : {X Y : Type 0} (f : X → Y) (xs : List X) (k : ℕ) (x : X) → slice_get xs k ≡ Some x → slice_get (map f xs) k ≡ Some (f x)
map_at f [] k x at = absurd (let none : None ≡ Some x = at in cc)
map_at f (z ∷ zs) zero x at = let e : z ≡ x = (let s : Some z ≡ Some x = at in cc) in ap (λ u. Some (f u)) e
map_at f (z ∷ zs) (suc k) x at = map_at f zs k x at

pub All_at : {X : Type 0} (P : X → Type 0) (xs : List X) (k : ℕ) (x : X) → All P xs → slice_get xs k ≡ Some x → P x
All_at P [] k x all at = absurd (let none : None ≡ Some x = at in cc)
All_at P (z ∷ zs) zero x all at = subst P (let s : Some z ≡ Some x = at in cc) (All-head P z zs all)
All_at P (z ∷ zs) (suc k) x all at = All_at P zs k x (All-tail P z zs all) at

pub times_push : (x : ℕ) (xs : List ℕ) (b : ℕ) → times x (xs ++ b ∷ []) ≡ times x xs + (if b == x then 1 else 0)
times_push x xs b = sum_by_push (λ (y : ℕ). cond (y == x) 1 0) xs b

pub put_by_set : (x : ℕ) (hands : List Hand) (i : ℕ) (h d : Hand) → i < length hands → put_by x (map share_of (set hands i h)) + times x (get_or hands i d).own.put ≡ put_by x (map share_of hands) + times x h.own.put
put_by_set x [] i h d within = absurd (omega (arith, within))
put_by_set x (g ∷ gs) zero h d within = omega (arith, sum_by-cons (λ (s : Share). times x s.put) (share_of h) (map share_of gs), sum_by-cons (λ (s : Share). times x s.put) (share_of g) (map share_of gs))
put_by_set x (g ∷ gs) (suc i) h d within =
    omega (arith, sum_by-cons (λ (s : Share). times x s.put) (share_of g) (map share_of gs), sum_by-cons (λ (s : Share). times x s.put) (share_of g) (map share_of (set gs i h)), put_by_set x gs i h d (omega (arith, within)))

-- a batch is put into one of the deques
pub put_one : (x : ℕ) (hands : List Hand) (i : ℕ) (h d : Hand) (b : ℕ) → i < length hands → h.own.put ≡ (get_or hands i d).own.put ++ b ∷ [] → put_by x (map share_of (set hands i h)) ≡ put_by x (map share_of hands) + (if b == x then 1 else 0)
put_one x hands i h d b within put = omega (arith, put_by_set x hands i h d within, ap (times x) put, times_push x (get_or hands i d).own.put b)

pub put_none : (x : ℕ) (hands : List Hand) (i : ℕ) (h d : Hand) → i < length hands → h.own.put ≡ (get_or hands i d).own.put → put_by x (map share_of (set hands i h)) ≡ put_by x (map share_of hands)
put_none x hands i h d within put = omega (arith, put_by_set x hands i h d within, ap (times x) put)

pub nothing_put : (x : ℕ) (hands : List Hand) → All (λ put. put ≡ []) (puts_of hands) → put_by x (map share_of hands) ≡ 0
nothing_put x [] all = refl
nothing_put x (h ∷ hs) all =
    let empty = ap (times x) (All-head (λ (put : List ℕ). put ≡ []) h.own.put (puts_of hs) all) in
    omega (arith, sum_by-cons (λ (s : Share). times x s.put) (share_of h) (map share_of hs), nothing_put x hs (All-tail (λ (put : List ℕ). put ≡ []) h.own.put (puts_of hs) all))

pub home_set : (puts : List (List ℕ)) (i b : ℕ) (put old : List ℕ) → slice_get puts i ≡ Some old → put ≡ old ++ b ∷ [] → b % length puts ≡ i → AreAtHome puts → AreAtHome (set puts i put)
home_set puts i b put old here is home all k p at =
    let IsHome : ℕ → ℕ → Type 0 = λ n y. y % n ≡ k in
    let size : length puts ≡ length (set puts i put) = sym (length-set puts i put) in
    elim (slice_get_set puts i k put p at) [
      | inl now ↦
          let grown : All (IsHome (length puts)) (old ++ b ∷ []) = All-push (IsHome (length puts)) old b (subst (λ (j : ℕ). All (λ y. y % length puts ≡ j) old) (sym now.0) (all i old here)) (home ∙ sym now.0) in
          subst (λ (n : ℕ). All (IsHome n) p) size (subst (All (IsHome (length puts))) (sym is ∙ now.1) grown)
      | inr apart ↦ subst (λ (n : ℕ). All (IsHome n) p) size (all k p apart.1)
    ]

pub home_put : (hands : List Hand) (i : ℕ) (h d : Hand) (b : ℕ) → i < length hands → h.own.put ≡ (get_or hands i d).own.put ++ b ∷ [] → b % length hands ≡ i → AreAtHome (puts_of hands) → AreAtHome (puts_of (set hands i h))
home_put hands i h d b within put home all =
    let put_of : Hand → List ℕ = λ g. g.own.put in
    let here : slice_get (puts_of hands) i ≡ Some (get_or hands i d).own.put = map_at put_of hands i (get_or hands i d) (slice_get-get_or hands i d within) in
    subst AreAtHome (sym (map-set put_of hands i h)) (home_set (puts_of hands) i b h.own.put (get_or hands i d).own.put here put (ap (λ n. b % n) (length-map hands put_of) ∙ home) all)

pub nothing_home : (puts : List (List ℕ)) → All (λ put. put ≡ []) puts → AreAtHome puts
nothing_home puts all k put at = subst (λ (p : List ℕ). All (λ b. b % length puts ≡ k) p) (sym (All_at (λ (p : List ℕ). p ≡ []) puts k put all at)) (All-nil (λ (b : ℕ). b % length puts ≡ k))

pub once_more : (x b : ℕ) → (if nat_lt x (b + 1) then 1 else 0) ≡ (if nat_lt x b then 1 else 0) + (if b == x then 1 else 0)
once_more x b = grind (arith, nat_tests)

pub once_none : (x : ℕ) → ◌≡◌ {A = ℕ} (if nat_lt x 0 then 1 else 0) 0
once_none x = grind (arith, nat_tests)

pub own_at : (hands : List Hand) (i : ℕ) (d : Hand) → i < length hands → slice_get (deques_of (owns_of hands)) i ≡ Some (get_or hands i d).own.reached.deque
own_at [] i d within = absurd (omega (arith, within))
own_at (h ∷ hs) zero d within = refl
own_at (h ∷ hs) (suc i) d within = own_at hs i d (omega (arith, within))

pub length_push : {X : Type 0} (xs : List X) (y : X) → length (xs ++ y ∷ []) ≡ length xs + 1
length_push xs y = length-append xs (y ∷ [])

before_or_last : (k n : ℕ) → k < n + 1 → (k < n) ⊎ (k ≡ n)
before_or_last k n within = elim (cases_lt k n) [ inl early ↦ inl early | inr late ↦ inr (omega arith) ]

-- the round of all deques is the first one and then the rest
round_of_rest : (all : List DequeId) (place : ℕ) (own : DequeId) (rest : List DequeId) → slice_get all place ≡ Some own → IsRest all place rest → IsRound all place (own ∷ rest)
round_of_rest all place own rest here is = (
  omega (arith, is.0),
  elim [
    | zero ↦ λ _. sym here ∙ ap (slice_get all) (sym (ap (λ j. j % length all) (let e : place + 0 ≡ place = omega arith in e) ∙ mod-eq_of_lt (slice_get_within all place own here)))
    | suc k ↦ λ within. is.1 k (omega (arith, within, is.0)) ∙ ap (λ j. slice_get all (j % length all)) (let e : place + 1 + k ≡ place + suc k = omega arith in e)
  ],
)

pub lent_total : (hands : List Hand) → sum_by (λ s. s.lent + 1) (map share_of hands) ≡ lent_by hands + length hands
lent_total [] = refl
lent_total (h ∷ hs) = omega (arith, sum_by-cons (λ (s : Share). s.lent + 1) (share_of h) (map share_of hs), sum_by-cons (λ (g : Hand). g.own.lent) h hs, lent_total hs)

pub borrowed_total : (hands : List Hand) → sum_by (λ s. s.back + length s.deques) (map share_of hands) ≡ back_by hands + borrowed_by hands + length hands
borrowed_total [] = refl
borrowed_total (h ∷ hs) =
    omega (arith, sum_by-cons (λ (g : Hand). g.own.back) h hs, sum_by-cons (λ (s : Share). s.back + length s.deques) (share_of h) (map share_of hs), sum_by-cons (λ (os : List Reached). length os) h.others.items (others_of hs), length-map h.others.items (λ (r : Reached). r.deque), borrowed_total hs)

-- one deque more is lent
pub rest_more : (all : List DequeId) (place : ℕ) (os : List Reached) (o : Reached) → ((k : ℕ) → k < length (deques_of os) → slice_get (deques_of os) k ≡ slice_get all ((place + 1 + k) % length all)) → slice_get all ((place + 1 + length os) % length all) ≡ Some o.deque
    → (k : ℕ) → k < length (deques_of (os ++ o ∷ [])) → slice_get (deques_of (os ++ o ∷ [])) k ≡ slice_get all ((place + 1 + k) % length all)
rest_more all place os o so_far now k within =
    let deque_of : Reached → DequeId = λ r. r.deque in
    let size = length-map os deque_of in
    let split : deques_of (os ++ o ∷ []) ≡ deques_of os ++ o.deque ∷ [] = map-append deque_of os (o ∷ []) in
    let room = ap length split in
    ap (λ ds. slice_get ds k) split ∙ elim (before_or_last k (length (deques_of os)) (omega (arith, within, room, length_push (deques_of os) o.deque))) [
      | inl early ↦ slice_get_prefix (deques_of os) (o.deque ∷ []) k early ∙ so_far k early
      | inr last ↦ slice_get_last (deques_of os) o.deque k last ∙ sym now ∙ ap (λ j. slice_get all ((place + 1 + j) % length all)) (sym (last ∙ size))
    ]

pub IsOneRound-lent : (hands : List Hand) → lent_by hands ≡ borrowed_by hands → back_by hands ≡ 0 → AreLent (deques_of (owns_of hands)) (others_of hands) → IsOneRound (map share_of hands)
IsOneRound-lent hands lent back others = record {
  all = deques_of (owns_of hands);
  count = length-map (owns_of hands) (λ (r : Reached). r.deque) ∙ length-map hands (λ (h : Hand). h.own.reached) ∙ sym (length-map hands share_of);
  rounds = λ place s at.
      let found = slice_get_map share_of hands place s at in
      let h = found.0 in
      let rest = (others place h.others.items (map_at (λ (g : Hand). g.others.items) hands place h found.1)).0 in
      subst (λ (t : Share). IsRound (deques_of (owns_of hands)) place t.deques) found.2
      (round_of_rest (deques_of (owns_of hands)) place h.own.reached.deque (deques_of h.others.items) (map_at (λ (r : Reached). r.deque) (owns_of hands) place h.own.reached (map_at (λ (g : Hand). g.own.reached) hands place h found.1)) rest);
  lent = omega (arith, lent_total hands, borrowed_total hands, lent, back);
}

pub nothing_borrowed : (others : List (List Reached)) → All (λ os. os ≡ []) others → sum_by (λ os. length os) others ≡ 0
nothing_borrowed [] all = refl
nothing_borrowed (os ∷ rest) all =
    let IsNone : List Reached → Type 0 = λ xs. xs ≡ [] in
    let empty = ap length (All-head IsNone os rest all) in
    omega (arith, sum_by-cons (λ (xs : List Reached). length xs) os rest, nothing_borrowed rest (All-tail IsNone os rest all))

pub put_by_puts : (x : ℕ) (hands : List Hand) → put_by x (map share_of hands) ≡ sum_by (λ put. times x put) (puts_of hands)
put_by_puts x [] = refl
put_by_puts x (h ∷ hs) = omega (arith, sum_by-cons (λ (s : Share). times x s.put) (share_of h) (map share_of hs), sum_by-cons (λ (put : List ℕ). times x put) h.own.put (puts_of hs), put_by_puts x hs)

pub nothing_taken : (hands : List Hand) (all : List DequeId) → AreUnused (owns_of hands) → AreLent all (others_of hands) → All HasTakenNothing hands
nothing_taken hands all owns others k d within =
    let h = get_or hands k d in
    let at : slice_get hands k ≡ Some h = slice_get-get_or hands k d within in
    let IsUnused : Reached → Type 0 = λ r. r ≡ unused r.deque in
    All-cons IsUnused h.own.reached h.others.items (All_at IsUnused (owns_of hands) k h.own.reached owns (map_at (λ (g : Hand). g.own.reached) hands k h at)) (others k h.others.items (map_at (λ (g : Hand). g.others.items) hands k h at)).1
