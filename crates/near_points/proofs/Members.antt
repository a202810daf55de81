-- Which entries and hits a list has.
use Rattle.std.proofs.Common.{◌≡◌, ◌⊎◌, ℕ, ◌<◌, Bool, true, false, List, [], ◌∷◌, Contains, length, map, get_or, set, get_or-set_other, get_or-set_same, refl, sym, ap, subst, ◌∙◌, inl, inr, arith}
use Rattle.std.proofs.Math.ListN.{get_or-eq_default}
use Rattle.std.proofs.lemmas.Bool.{cases_eq, cases_lt}
use Rattle.walk_laws.specs.declared.entry.Entry.{Entry}
use Rattle.walk_laws.proofs.LabelRows.{Rises, Rises-first, Rises-rest}
use Rattle.walk_laws.proofs.Members.{Contains-first, Contains-next, Contains-cons_cases, Contains-empty}
use Rattle.near_points.specs.Merging.{IsGiven}

abbrev pub pos_of : Entry → ℕ
pos_of e = e.pos

-- a row has one entry at a position
pub one_entry : (row : List Entry) → Rises pos_of row → (a b : Entry) → Contains row a → Contains row b → a.pos ≡ b.pos → a ≡ b
one_entry [] up a b first second same = absurd (Contains-empty a first)
one_entry (x ∷ row) up a b first second same = elim (Contains-cons_cases x a row first) [
  | inl here ↦ elim (Contains-cons_cases x b row second) [
    | inl there ↦ sym here ∙ there
    | inr later ↦ absurd (omega (arith, same, ap pos_of here, Rises-first pos_of x b row up later))
  ]
  | inr after ↦ elim (Contains-cons_cases x b row second) [
    | inl there ↦ absurd (omega (arith, same, ap pos_of there, Rises-first pos_of x a row up after))
    | inr later ↦ one_entry row (Rises-rest pos_of x row up) a b after later same
  ]
]

pub Contains-map : {X Y : Type 0} (f : X → Y) (xs : List X) (x : X) → Contains xs x → Contains (map f xs) (f x)
Contains-map f [] x there = absurd (Contains-empty x there)
Contains-map f (y ∷ xs) x there = elim (Contains-cons_cases y x xs there) [
  | inl same ↦ subst (Contains (map f (y ∷ xs))) (ap f same) (Contains-first (f y) (map f xs))
  | inr later ↦ Contains-next (f y) (f x) (map f xs) (Contains-map f xs x later)
]

-- a bit is one or the other
pub is_bit : (b : Bool) → (b ≡ true) ⊎ (b ≡ false)
is_bit true = inl refl
is_bit false = inr refl

-- a node that isn't marked
pub not_given : (given : List Bool) (v : ℕ) → get_or given v false ≡ false → IsGiven given v → ⊥
not_given given v is marked = let both : true ≡ false = sym marked ∙ is in absurd cc

-- a marked node has a mark
pub given_inside : (given : List Bool) (v : ℕ) → IsGiven given v → v < length given
given_inside given v marked = elim (cases_lt v (length given)) [
  | inl inside ↦ inside
  | inr outside ↦ absurd (not_given given v (get_or-eq_default given false outside) marked)
]

-- one more mark leaves the others
pub given_still : (given : List Bool) (v x : ℕ) → v < length given → IsGiven given x → IsGiven (set given v true) x
given_still given v x inside marked = elim (cases_eq x v) [
  | inl here ↦ subst (λ y. IsGiven (set given v true) y) (sym here) (get_or-set_same given v true false inside)
  | inr other ↦ get_or-set_other given v x true false other ∙ marked
]

pub given_now : (given : List Bool) (v : ℕ) → v < length given → IsGiven (set given v true) v
given_now given v inside = get_or-set_same given v true false inside

-- and none other is made
pub given_before : (given : List Bool) (v x : ℕ) → v < length given → IsGiven (set given v true) x → (x ≡ v) ⊎ IsGiven given x
given_before given v x inside marked = elim (cases_eq x v) [
  | inl here ↦ inl here
  | inr other ↦ inr (sym (get_or-set_other given v x true false other) ∙ marked)
]
