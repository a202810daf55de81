-- What a well formed row is to a table of positions: its positions rise and are those of the ranking, and its distances fit in 64 bits.
use Rattle.std.proofs.Common.{ℕ, ◌^◌, ◌<◌, ◌≤◌, List, [], ◌∷◌, ◌++◌, All, Contains, length, map, ap, subst, inl, inr, arith}
use Rattle.std.specs.List.Sorted.{IsStrictlyIncreasing}
use Rattle.std.proofs.lemmas.List.Elements.{All-contains, All-contains_itself, All-weaker, Contains-append_cases, Contains-append_right}
use Rattle.std.proofs.lemmas.List.Kept.{AllPairs-from_increasing}
use Rattle.walk_laws.specs.declared.entry.Entry.{Entry}
use Rattle.walk_laws.specs.Labelling.{label_row}
use Rattle.walk_laws.proofs.LabelRows.{Rises, Rises-first, Rises-rest}
use Rattle.walk_laws.proofs.Members.{Contains-first, Contains-cons_cases, Contains-empty}
use Rattle.walk_laws.proofs.Positions.{position-lt}
use Rattle.hub_index.specs.WellFormed.{own_entry, IsWellFormed, IsWellFormedRow}

abbrev pub pos_of : Entry → ℕ
pos_of e = e.pos

abbrev pub nothing : Entry
nothing = record { pos = 0; dist = 0 }

-- in a rising list each other element is below the last
before_last : (others : List Entry) (last e : Entry) → Rises pos_of (others ++ last ∷ []) → Contains others e → e.pos < last.pos
before_last [] last e up there = absurd (Contains-empty e there)
before_last (x ∷ others) last e up there = elim (Contains-cons_cases x e others there) [
  | inl same ↦
      let less : x.pos < last.pos = Rises-first pos_of x last (others ++ last ∷ []) up (Contains-append_right others (last ∷ []) last (Contains-first last [])) in
      omega (arith, ap pos_of same)
  | inr later ↦ before_last others last e (Rises-rest pos_of x (others ++ last ∷ []) up) later
]

module _ (at : List ℕ) (rows : List (List Entry)) (v : ℕ) (well : IsWellFormed at rows) (from_one : 1 ≤ v) (up_to_n : v ≤ length at) where
  row_is : IsWellFormedRow at v (label_row rows v)
  row_is = well.row v from_one up_to_n

  pub row_rises : IsStrictlyIncreasing (map (λ (e : Entry). e.pos) (label_row rows v))
  row_rises = row_is.rising

  pub row_up : Rises pos_of (label_row rows v)
  row_up = AllPairs-from_increasing (map (λ e. e.pos) (label_row rows v)) row_is.rising

  -- an entry of the row is one of the others or the node's own
  pub entry_facts : (e : Entry) → Contains (label_row rows v) e → (e.pos < length at) × (e.dist < 2 ^ 64)
  entry_facts e there =
      let own = own_entry at v in
      let up = subst (Rises pos_of) row_is.ends row_up in
      elim (Contains-append_cases row_is.others (own ∷ []) e (subst (λ row. Contains row e) row_is.ends there)) [
        | inl other ↦ (
          omega (arith, before_last row_is.others own e up other, position-lt at v well.ranking from_one up_to_n),
          (All-contains (λ (x : Entry). (1 ≤ x.dist) × (x.dist < 2 ^ 64)) row_is.others e row_is.far other).1,
        )
        | inr last ↦ elim (Contains-cons_cases own e [] last) [
          | inl same ↦ (omega (arith, ap pos_of same, position-lt at v well.ranking from_one up_to_n), omega (arith, ap (λ (x : Entry). x.dist) same))
          | inr none ↦ absurd (Contains-empty e none)
        ]
      ]

  pub row_within : All (λ (e : Entry). e.pos < length at) (label_row rows v)
  row_within = All-weaker (Contains (label_row rows v)) (λ (e : Entry). e.pos < length at) (λ e there. (entry_facts e there).0) (label_row rows v) (All-contains_itself (label_row rows v))

  pub row_fits : All (λ (e : Entry). e.dist < 2 ^ 64) (label_row rows v)
  row_fits = All-weaker (Contains (label_row rows v)) (λ (e : Entry). e.dist < 2 ^ 64) (λ e there. (entry_facts e there).1) (label_row rows v) (All-contains_itself (label_row rows v))
