-- The sums of two rows, as they are walked from their starts.
use Rattle.std.proofs.Common.{◌≡◌, ◌⊎◌, ℕ, ◌+◌, ◌<◌, List, ◌∷◌, Contains, sym, ap, inl, inr, arith}
use Rattle.walk_laws.specs.declared.entry.Entry.{Entry}
use Rattle.walk_laws.specs.Meet.{HasSum}
use Rattle.walk_laws.proofs.LabelRows.{Rises, Rises-first}
use Rattle.walk_laws.proofs.Members.{Contains-cons_cases}

abbrev pub pos_of : Entry → ℕ
pos_of e = e.pos

-- rows with more entries have more sums
pub HasSum-more : (xs ys first second : List Entry) (q e : ℕ) → ((x : Entry) → Contains xs x → Contains first x) → ((y : Entry) → Contains ys y → Contains second y) → HasSum xs ys q e → HasSum first second q e
HasSum-more xs ys first second q e first_has second_has s =
    record { before = s.before; after = s.after; in_first = first_has (record { pos = q; dist = s.before }) s.in_first; in_second = second_has (record { pos = q; dist = s.after }) s.in_second; long = s.long }

module _ (a b : Entry) (xs ys : List Entry) (q e : ℕ) (s : HasSum (a ∷ xs) (b ∷ ys) q e) where
  entry_of_first : Entry
  entry_of_first = record { pos = q; dist = s.before }

  entry_of_second : Entry
  entry_of_second = record { pos = q; dist = s.after }

  first_cases : (a ≡ record { pos = q; dist = s.before }) ⊎ Contains xs (record { pos = q; dist = s.before })
  first_cases = Contains-cons_cases a (record { pos = q; dist = s.before }) xs s.in_first

  second_cases : (b ≡ record { pos = q; dist = s.after }) ⊎ Contains ys (record { pos = q; dist = s.after })
  second_cases = Contains-cons_cases b (record { pos = q; dist = s.after }) ys s.in_second

  -- a lesser position before the first row is in no sum
  pub HasSum-past_first : Rises pos_of (b ∷ ys) → a.pos < b.pos → HasSum xs (b ∷ ys) q e
  HasSum-past_first up less = elim first_cases [
    | inr later ↦ record { before = s.before; after = s.after; in_first = later; in_second = s.in_second; long = s.long }
    | inl here ↦ absurd (elim second_cases [
      | inl there ↦ omega (arith, ap pos_of here, ap pos_of there)
      | inr later ↦ omega (arith, ap pos_of here, Rises-first pos_of b (record { pos = q; dist = s.after }) ys up later)
    ])
  ]

  -- nor is one before the second
  pub HasSum-past_second : Rises pos_of (a ∷ xs) → b.pos < a.pos → HasSum (a ∷ xs) ys q e
  HasSum-past_second up less = elim second_cases [
    | inr later ↦ record { before = s.before; after = s.after; in_first = s.in_first; in_second = later; long = s.long }
    | inl here ↦ absurd (elim first_cases [
      | inl there ↦ omega (arith, ap pos_of here, ap pos_of there)
      | inr later ↦ omega (arith, ap pos_of here, Rises-first pos_of a (record { pos = q; dist = s.before }) xs up later)
    ])
  ]

  -- one position before both rows is in one sum
  pub HasSum-past_both : Rises pos_of (a ∷ xs) → Rises pos_of (b ∷ ys) → a.pos ≡ b.pos → ((q ≡ a.pos) × (e ≡ a.dist + b.dist)) ⊎ HasSum xs ys q e
  HasSum-past_both up others_up same = elim first_cases [
    | inl here ↦ elim second_cases [
      | inl there ↦ inl (sym (ap pos_of here), omega (arith, ap (λ (x : Entry). x.dist) here, ap (λ (x : Entry). x.dist) there, s.long))
      | inr later ↦ absurd (omega (arith, ap pos_of here, Rises-first pos_of b (record { pos = q; dist = s.after }) ys others_up later))
    ]
    | inr later ↦ elim second_cases [
      | inl there ↦ absurd (omega (arith, ap pos_of there, Rises-first pos_of a (record { pos = q; dist = s.before }) xs up later))
      | inr too ↦ inr (record { before = s.before; after = s.after; in_first = later; in_second = too; long = s.long })
    ]
  ]
