-- The entries of a row from a position on, which come first from the last one on.
use Rattle.std.proofs.Common.{◌≡◌, ◌⊎◌, ◌↔◌, inl, inr, ℕ, ◌<◌, ◌≤◌, List, [], ◌∷◌, ◌++◌, All, Contains, map, reverse, sym, ap, subst, ◌∙◌, arith}
use Rattle.std.specs.List.Sorted.{IsStrictlyIncreasing}
use Rattle.std.proofs.lemmas.List.{append_assoc, reverse-append, reverse-reverse}
use Rattle.std.proofs.lemmas.List.Elements.{All-contains, Contains-append_left, Contains-append_right, Contains-append_cases}
use Rattle.std.proofs.lemmas.List.Kept.{AllPairs-from_increasing}
use Rattle.walk_laws.specs.declared.entry.Entry.{Entry}
use Rattle.walk_laws.proofs.LabelRows.{Rises, Rises-first, Rises-rest}
use Rattle.walk_laws.proofs.Members.{Contains-first, Contains-cons_cases, Contains-empty}
use Rattle.hub_index.proofs.Backwards.{Came, Contains-backwards, came_by}
use Rattle.label_clean.proofs.Covering.{pos_of}

-- in a rising row what stands before an entry is below it
pub before_is_below : (xs ys : List Entry) (e x : Entry) → Rises pos_of (xs ++ e ∷ ys) → Contains xs x → x.pos < e.pos
before_is_below [] ys e x up there = absurd (Contains-empty x there)
before_is_below (z ∷ xs) ys e x up there = elim (Contains-cons_cases z x xs there) [
  | inl same ↦ subst (λ (w : Entry). w.pos < e.pos) same (Rises-first pos_of z e (xs ++ e ∷ ys) up (Contains-append_right xs (e ∷ ys) e (Contains-first e ys)))
  | inr later ↦ before_is_below xs ys e x (Rises-rest pos_of z (xs ++ e ∷ ys) up) later
]

-- and what is below it stands before it
pub below_is_before : (xs ys : List Entry) (e x : Entry) → Rises pos_of (xs ++ e ∷ ys) → Contains (xs ++ e ∷ ys) x → x.pos < e.pos → Contains xs x
below_is_before xs ys e x up there low = elim (Contains-append_cases xs (e ∷ ys) x there) [
  | inl before ↦ before
  | inr from ↦ elim (Contains-cons_cases e x ys from) [
    | inl same ↦ absurd (omega (arith, low, ap pos_of same))
    | inr after ↦ absurd (omega (arith, low, Rises-first pos_of e x ys (rest xs up) after))
  ]
]
  where
    rest : (zs : List Entry) → Rises pos_of (zs ++ e ∷ ys) → Rises pos_of (e ∷ ys)
    rest [] all = all
    rest (z ∷ zs) all = rest zs (Rises-rest pos_of z (zs ++ e ∷ ys) all)

-- nothing is left, or the next one is too early
abbrev IsOver : ℕ → List Entry → Type 0
IsOver first left = (left ≡ []) ⊎ ((e : Entry) × (es : List Entry) × (left ≡ e ∷ es) × (e.pos < first))

module _ (row rest came left : List Entry) (whole : rest ≡ reverse row) (y : Came rest came left) where
  all : reverse row ≡ came ++ left
  all = sym whole ∙ came_by rest came left y

  -- what came stands in the row
  stands : (e : Entry) → Contains came e → Contains row e
  stands e h = (Contains-backwards row e).1 (subst (λ es. Contains es e) (sym all) (Contains-append_left came left e h))

  module _ (first : ℕ) (late : All (λ e. first ≤ e.pos) came) (over : IsOver first left) (rising : IsStrictlyIncreasing (map pos_of row)) where
    early : (x : Entry) → Contains left x → x.pos < first
    early x there = elim over [
      | inl none ↦ absurd (Contains-empty x (subst (λ es. Contains es x) none there))
      | inr next ↦
          let e = next.0 in
          let es = next.1 in
          let row_is : row ≡ reverse es ++ e ∷ reverse came =
          sym (reverse-reverse row) ∙ ap reverse (all ∙ ap (λ fs. came ++ fs) next.2) ∙ reverse-append came (e ∷ es) ∙ ap (λ fs. fs ++ reverse came) (reverse-append (e ∷ []) es) ∙ append_assoc (reverse es) (e ∷ []) (reverse came) in
          elim (Contains-cons_cases e x es (subst (λ es. Contains es x) next.2 there)) [
            | inl same ↦ subst (λ (w : Entry). w.pos < first) same next.3
            | inr later ↦
                let up : Rises pos_of (reverse es ++ e ∷ reverse came) = subst (Rises pos_of) row_is (AllPairs-from_increasing (map pos_of row) rising) in
                let low : x.pos < e.pos = before_is_below (reverse es) (reverse came) e x up ((Contains-backwards es x).0 later) in
                omega (arith, low, next.3)
          ]
    ]

    -- what came are the late ones
    pub late_came : (x : Entry) → Contains came x ↔ (Contains row x × (first ≤ x.pos))
    late_came x = (
      λ h. (stands x h, All-contains (λ (e : Entry). first ≤ e.pos) came x late h),
      λ h. elim (Contains-append_cases came left x (subst (λ es. Contains es x) all ((Contains-backwards row x).0 h.0))) [
        | inl here ↦ here
        | inr there ↦ absurd (omega (arith, h.1, early x there))
      ],
    )
