-- What a well formed row is to one who walks it: positions of the ranking, which rise, and distances below 2^64.
use Rattle.std.proofs.Common.{ℕ, ◌^◌, ◌<◌, ◌≤◌, List, [], ◌∷◌, ◌++◌, All, Contains, length, map, sym, ap, subst, inl, inr, arith}
use Rattle.std.specs.List.Sorted.{IsStrictlyIncreasing}
use Rattle.std.proofs.lemmas.List.Elements.{All-append, All-contains, All-cons, All-nil, All-weaker, All-contains_itself, Contains-append_right}
use Rattle.std.proofs.lemmas.List.Kept.{AllPairs-from_increasing}
use Rattle.walk_laws.specs.declared.entry.Entry.{Entry}
use Rattle.walk_laws.specs.Labelling.{label_row}
use Rattle.walk_laws.specs.Ranking.{position_of}
use Rattle.walk_laws.specs.Meet.{HasSum}
use Rattle.walk_laws.proofs.LabelRows.{Rises, Rises-first, Rises-rest}
use Rattle.walk_laws.proofs.Members.{Contains-first, Contains-cons_cases, Contains-empty}
use Rattle.walk_laws.proofs.Positions.{position-lt}
use Rattle.hub_index.specs.WellFormed.{own_entry, IsWellFormed, IsWellFormedRow}
use Rattle.hub_query.proofs.Sums.{pos_of}

-- in a rising list all others are below the last
others_below : (others : List Entry) (last e : Entry) → Rises pos_of (others ++ last ∷ []) → Contains others e → e.pos < last.pos
others_below [] last e up there = absurd (Contains-empty e there)
others_below (x ∷ others) last e up there = elim (Contains-cons_cases x e others there) [
  | inl same ↦
      let less : x.pos < last.pos = Rises-first pos_of x last (others ++ last ∷ []) up (Contains-append_right others (last ∷ []) last (Contains-first last [])) in
      omega (arith, ap pos_of same)
  | inr later ↦ others_below others last e (Rises-rest pos_of x (others ++ last ∷ []) up) later
]

-- what holds of the others and of the last holds of each entry of the row
row_All : (P : Entry → Type 0) (at : List ℕ) (v : ℕ) (row : List Entry) (is : IsWellFormedRow at v row) → All P is.others → P (own_entry at v) → All P row
row_All P at v row is others own =
    subst (All P) (sym is.ends) (All-append P is.others (own_entry at v ∷ []) others (All-cons P (own_entry at v) [] own (All-nil P)))

module _ (at : List ℕ) (rows : List (List Entry)) (v : ℕ) (well : IsWellFormed at rows) (from_one : 1 ≤ v) (up_to_n : v ≤ length at) where
  row_is : IsWellFormedRow at v (label_row rows v)
  row_is = well.row v from_one up_to_n

  pub row_rises : IsStrictlyIncreasing (map (λ (e : Entry). e.pos) (label_row rows v))
  row_rises = row_is.rising

  -- each distance fits in 64 bits
  pub row_fits : All (λ (e : Entry). e.dist < 2 ^ 64) (label_row rows v)
  row_fits =
      row_All (λ (e : Entry). e.dist < 2 ^ 64) at v (label_row rows v) row_is
      (λ k d lt. (row_is.far k d lt).1)
      (omega arith)

  -- no position is past that of the node
  pub row_ranked : All (λ (e : Entry). e.pos ≤ position_of at v) (label_row rows v)
  row_ranked =
      let up = subst (Rises pos_of) row_is.ends (AllPairs-from_increasing (map (λ e. e.pos) (label_row rows v)) row_is.rising) in
      row_All (λ (e : Entry). e.pos ≤ position_of at v) at v (label_row rows v) row_is
      (All-weaker (Contains row_is.others) (λ (e : Entry). e.pos ≤ position_of at v) (λ e here. omega (arith, others_below row_is.others (own_entry at v) e up here)) row_is.others (All-contains_itself row_is.others))
      (omega arith)

  -- so each position is one of the ranking
  pub row_positions : All (λ (e : Entry). e.pos < length at) (label_row rows v)
  row_positions = λ k d lt. omega (arith, row_ranked k d lt, position-lt at v well.ranking from_one up_to_n)

  -- and the node's own is there
  pub row_own : Contains (label_row rows v) (own_entry at v)
  row_own = subst (λ row. Contains row (own_entry at v)) (sym row_is.ends) (Contains-append_right row_is.others (own_entry at v ∷ []) (own_entry at v) (Contains-first (own_entry at v) []))

-- so the position of a sum is one of the ranking, too
pub HasSum-position : (first second : List Entry) (p d n : ℕ) → HasSum first second p d → All (λ (e : Entry). e.pos < n) first → p < n
HasSum-position first second p d n s within = All-contains (λ (e : Entry). e.pos < n) first (record { pos = p; dist = s.before }) within s.in_first
