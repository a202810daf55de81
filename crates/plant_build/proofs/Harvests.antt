-- What workers have planted, brought in: no batch stands twice.
use Rattle.std.proofs.Common.{◌≡◌, ◌≢◌, ℕ, zero, suc, ◌+◌, ◌<◌, ◌≤◌, ◌==◌, Bool, true, false, List, [], ◌∷◌, ◌++◌, All, AllPairs, Contains, length, map, get_or, take, cond, inl, inr, refl, sym, ap, ◌∙◌, subst, arith}
use Rattle.std.specs.Prelude.{sum_by, nat_lt, if◌then◌else◌}
use Rattle.std.proofs.lemmas.Bool.Decides.{nat_tests}
use Rattle.std.proofs.lemmas.List.Sums.{sum_by-cons}
use Rattle.std.proofs.lemmas.List.{get_or-take, length-take, append-nil}
use Rattle.std.proofs.lemmas.List.Elements.{All-head, All-tail, Contains-get_or}
use Rattle.walk_laws.proofs.Members.{Contains-empty, Contains-cons_cases}
use Rattle.plant_build.specs.declared.collecting.Harvest.{Harvest}
use Rattle.plant_build.specs.declared.hand.Hand.{Hand}
use Rattle.plant_build.specs.declared.worker.PlantWorker.{PlantWorker}
use Rattle.plant_build.specs.Balance.{times}
use Rattle.plant_build.specs.Harvest.{harvest_of}
use Rattle.plant_build.specs.Marks.{mark, Adds}
use Rattle.plant_build.specs.Rounds.{taken_by, got_from, reaches, share_of}
use Rattle.plant_build.specs.Workers.{TookItsBatches, hands_of, shares_of}

one_same : (x b : ℕ) → x ≡ b → cond {A = ℕ} (x == b) 1 0 ≡ 1
one_same x b same = grind (arith, nat_tests)

pub times_contains : (b : ℕ) (xs : List ℕ) → Contains xs b → 1 ≤ times b xs
times_contains b [] there = absurd (Contains-empty b there)
times_contains b (x ∷ xs) there = elim (Contains-cons_cases x b xs there) [
  | inl here ↦ omega (arith, sum_by-cons (λ (y : ℕ). cond {A = ℕ} (y == b) 1 0) x xs, one_same x b here)
  | inr later ↦ omega (arith, sum_by-cons (λ (y : ℕ). cond {A = ℕ} (y == b) 1 0) x xs, times_contains b xs later)
]

-- numbers of which none stands twice
pub differ_by_times : (xs : List ℕ) → ((b : ℕ) → times b xs ≤ 1) → AllPairs (λ x y. x ≢ y) xs
differ_by_times [] once i j d lt within = absurd (omega (arith, within))
differ_by_times (x ∷ xs) once i zero d lt within = absurd (omega (arith, lt))
differ_by_times (x ∷ xs) once zero (suc j) d lt within = λ same.
    let there : Contains xs x = subst (Contains xs) (sym same) (Contains-get_or xs j d (omega (arith, within))) in
    absurd (omega (arith, once x, sum_by-cons (λ (y : ℕ). cond {A = ℕ} (y == x) 1 0) x xs, one_same x x refl, times_contains x xs there))
differ_by_times (x ∷ xs) once (suc i) (suc j) d lt within = differ_by_times xs (λ b. omega (arith, once b, sum_by-cons (λ (y : ℕ). cond {A = ℕ} (y == b) 1 0) x xs)) i j d (omega (arith, lt)) (omega (arith, within))

-- a mark counts 1
abbrev pub marked : List Bool → ℕ → ℕ
marked marks b = cond (mark marks b) 1 0

pub marked_none : (marks : List Bool) (b : ℕ) → mark marks b ≡ false → marked marks b ≡ 0
marked_none marks b none = ap (λ (m : Bool). cond {A = ℕ} m 1 0) none

pub is_free : (m : Bool) → cond {A = ℕ} m 1 0 ≡ 0 → m ≡ false
is_free true none = absurd (omega (arith, none))
is_free false none = refl

pub marked_more : (old new : List Bool) (numbers : List ℕ) (b : ℕ) → Adds old numbers new → marked new b ≤ marked old b + times b numbers
marked_more old new numbers b adds = bound (mark new b) refl
  where
    bound : (m : Bool) → mark new b ≡ m → cond {A = ℕ} m 1 0 ≤ marked old b + times b numbers
    bound false is = omega arith
    bound true is = elim ((adds.now b).0 is) [
      | inl was ↦ let one : cond {A = ℕ} (mark old b) 1 0 ≡ 1 = ap (λ (m : Bool). cond {A = ℕ} m 1 0) was in omega arith
      | inr there ↦ let some = times_contains b numbers there in omega arith
    ]

-- what has a mark is not among the next
pub fresh_by_times : (marks : List Bool) (numbers : List ℕ) (b : ℕ) → marked marks b + times b numbers ≤ 1 → Contains numbers b → mark marks b ≡ false
fresh_by_times marks numbers b once there = is_free (mark marks b) (omega (arith, once, times_contains b numbers there))

-- the next of numbers that differ is none of those before
pub not_before : (xs : List ℕ) (i : ℕ) → AllPairs (λ x y. x ≢ y) xs → i < length xs → Contains (take i xs) (get_or xs i 0) → ⊥
not_before xs i differ within (k, inside, is) =
    let early : k < i = omega (arith, inside, length-take i xs) in
    differ k i 0 early within (sym (get_or-take i xs k 0 early) ∙ same_default k inside is)
  where
    any_default : (ys : List ℕ) (k d e : ℕ) → k < length ys → get_or ys k d ≡ get_or ys k e
    any_default [] k d e lt = absurd (omega (arith, lt))
    any_default (y ∷ ys) zero d e lt = refl
    any_default (y ∷ ys) (suc k) d e lt = any_default ys k d e (omega (arith, lt))

    same_default : (k : ℕ) → k < length (take i xs) → get_or (take i xs) k (get_or xs i 0) ≡ get_or xs i 0 → get_or (take i xs) k 0 ≡ get_or xs i 0
    same_default k inside is = any_default (take i xs) k 0 (get_or xs i 0) inside ∙ is

-- no batch was planted more often than it was taken
pub planted_taken : (batches b : ℕ) (crew : List PlantWorker) → All (TookItsBatches batches) crew → sum_by (λ h. times b h.numbers.items) (map harvest_of crew) ≤ taken_by b (hands_of crew)
planted_taken batches b [] all = omega arith
planted_taken batches b (w ∷ ws) all =
    let first = All-head (TookItsBatches batches) w ws all in
    omega (arith, first.took b, sum_by-cons (λ (h : Harvest). times b h.numbers.items) (harvest_of w) (map harvest_of ws), sum_by-cons (λ (h : Hand). got_from b (reaches h)) w.hand (hands_of ws), planted_taken batches b ws (All-tail (TookItsBatches batches) w ws all))

-- lists that a function can't tell apart at any place
pub same_map : {X Y : Type 0} (f : X → Y) (xs ys : List X) → length ys ≡ length xs → ((i : ℕ) (d : X) → i < length xs → f (get_or ys i d) ≡ f (get_or xs i d)) → map f ys ≡ map f xs
same_map f [] [] size each = refl
same_map f [] (y ∷ ys) size each = absurd (omega (arith, size))
same_map f (x ∷ xs) [] size each = absurd (omega (arith, size))
same_map f (x ∷ xs) (y ∷ ys) size each =
    let head : f y ≡ f x = each 0 x (omega arith) in
    let rest = same_map f xs ys (omega (arith, size)) (λ i d within. each (suc i) d (omega (arith, within))) in
    λ j. head j ∷ rest j

pub shares_map : (crew : List PlantWorker) → shares_of crew ≡ map (λ w. share_of w.hand) crew
shares_map [] = refl
shares_map (w ∷ ws) = ap (λ ss. share_of w.hand ∷ ss) (shares_map ws)

-- a batch is one of those that were dealt, once
pub dealt_once : (x batches put left : ℕ) → put + left ≡ (if nat_lt x batches then 1 else 0) → put ≤ 1
dealt_once x batches put left whole = let most = at_most_one (nat_lt x batches) in omega (arith, whole, most)
  where
    at_most_one : (b : Bool) → (if b then 1 else 0) ≤ 1
    at_most_one true = omega arith
    at_most_one false = omega arith

pub nothing_long : {X : Type 0} (xs : List X) → length xs ≡ 0 → xs ≡ []
nothing_long [] none = refl
nothing_long (x ∷ xs) none = absurd (omega (arith, none))

pub whole_of_prefix : {X : Type 0} (prefix rest : List X) {all : List X} → rest ≡ [] → prefix ++ rest ≡ all → prefix ≡ all
whole_of_prefix prefix rest none whole = sym (append-nil prefix) ∙ ap (λ xs. prefix ++ xs) (sym none) ∙ whole
