-- What the rows of an index and their vias are to one who steps along them.
use Rattle.std.specs.Prelude.{slice_get, Some}
use Rattle.std.proofs.Common.{◌≡◌, ℕ, ◌+◌, ◌^◌, ◌<◌, ◌≤◌, List, [], ◌∷◌, Contains, length, map, get_or, refl, sym, ap, subst, ◌∙◌, inl, inr, arith}
use Rattle.std.proofs.lemmas.Bool.{cases_lt}
use Rattle.std.proofs.lemmas.List.{get_or_append_left, get_or_push, length-append, length-map, get_or-map}
use Rattle.std.proofs.lemmas.List.Elements.{All-contains, Contains-get_or, Contains-append_cases}
use Rattle.std.proofs.lemmas.List.Kept.{AllPairs-from_increasing}
use Rattle.std.proofs.lemmas.Option.{slice_get-get_or, slice_get_within, get_or_from_slice_get, same_Some}
use Rattle.walk_laws.specs.declared.entry.Entry.{Entry}
use Rattle.walk_laws.specs.Ranking.{IsRanking, position_of}
use Rattle.walk_laws.specs.Labelling.{label_row}
use Rattle.walk_laws.proofs.LabelRows.{Rises}
use Rattle.walk_laws.proofs.Members.{Contains-cons_cases, Contains-empty}
use Rattle.walk_laws.proofs.Positions.{position-get_or, slice_get-position}
use Rattle.hub_index.specs.WellFormed.{own_entry, IsWellFormed, IsWellFormedRow}
use Rattle.hub_query.proofs.Sums.{pos_of}
use Rattle.entry_vias.specs.RowVias.{TracedHubIndex, via_row, IsViaRow, HaveVias}
use Rattle.via_trace.specs.Traces.{entry_at, GoesBy}

abbrev pub nothing : Entry
nothing = record { pos = 0; dist = 0 }

-- the node at a position has that position
pub place_of : (at : List ℕ) (p x : ℕ) → IsRanking at → slice_get at p ≡ Some x → position_of at x ≡ p
place_of at p x ranking is =
    subst (λ y. position_of at y ≡ p) (get_or_from_slice_get at p x 0 is) (position-get_or at p 0 ranking.once (slice_get_within at p x is))

-- what stands at a place is there
pub contains_at : (row : List Entry) (k : ℕ) (e : Entry) → slice_get row k ≡ Some e → Contains row e
contains_at row k e is = subst (Contains row) (get_or_from_slice_get row k e nothing is) (Contains-get_or row k nothing (slice_get_within row k e is))

module _ (index : TracedHubIndex) (well : IsWellFormed index.order index.rows) (x : ℕ) (from_one : 1 ≤ x) (up_to_n : x ≤ length index.order) where
  row_is : IsWellFormedRow index.order x (label_row index.rows x)
  row_is = well.row x from_one up_to_n

  up : Rises pos_of (label_row index.rows x)
  up = AllPairs-from_increasing (map (λ e. e.pos) (label_row index.rows x)) row_is.rising

  -- a place of a position is the only one
  pub one_place : (i j : ℕ) (e f : Entry) → slice_get (label_row index.rows x) i ≡ Some e → slice_get (label_row index.rows x) j ≡ Some f → e.pos ≡ f.pos → i ≡ j
  one_place i j e f here there same =
      let row = label_row index.rows x in
      let i_within = slice_get_within row i e here in
      let j_within = slice_get_within row j f there in
      let first : get_or (map pos_of row) i 0 ≡ e.pos = get_or-map pos_of row i nothing 0 i_within ∙ ap pos_of (get_or_from_slice_get row i e nothing here) in
      let second : get_or (map pos_of row) j 0 ≡ f.pos = get_or-map pos_of row j nothing 0 j_within ∙ ap pos_of (get_or_from_slice_get row j f nothing there) in
      elim (cases_lt i j) [
        | inl before ↦ absurd (omega (arith, up i j 0 before (omega (arith, j_within, length-map row pos_of)), first, second, same))
        | inr not_before ↦ elim (cases_lt j i) [
          | inl after ↦ absurd (omega (arith, up j i 0 after (omega (arith, i_within, length-map row pos_of)), first, second, same))
          | inr not_after ↦ omega (arith, not_before, not_after)
        ]
      ]

  -- so a position has one distance
  pub one_distance : (p d e : ℕ) → Contains (label_row index.rows x) (entry_at p d) → Contains (label_row index.rows x) (entry_at p e) → d ≡ e
  one_distance p d e here there =
      let row = label_row index.rows x in
      let first : slice_get row here.0 ≡ Some (entry_at p d) = slice_get-get_or row here.0 (entry_at p d) here.1 ∙ ap Some here.2 in
      let second : slice_get row there.0 ≡ Some (entry_at p e) = slice_get-get_or row there.0 (entry_at p e) there.1 ∙ ap Some there.2 in
      let same = one_place here.0 there.0 (entry_at p d) (entry_at p e) first second refl in
      let is : entry_at p d ≡ entry_at p e = same_Some (entry_at p d) (entry_at p e) (sym first ∙ ap (slice_get row) same ∙ second) in
      ap (λ (z : Entry). z.dist) is

  -- the distance 0 stands at the hub alone
  pub own_at_zero : (p : ℕ) → Contains (label_row index.rows x) (entry_at p 0) → slice_get index.order p ≡ Some x
  own_at_zero p there =
      let own = own_entry index.order x in
      let level : p ≡ position_of index.order x = elim (Contains-append_cases row_is.others (own ∷ []) (entry_at p 0) (subst (λ row. Contains row (entry_at p 0)) row_is.ends there)) [
        | inl other ↦ absurd (omega (arith, (All-contains (λ (e : Entry). (1 ≤ e.dist) × (e.dist < 2 ^ 64)) row_is.others (entry_at p 0) row_is.far other).0))
        | inr last ↦ elim (Contains-cons_cases own (entry_at p 0) [] last) [
          | inl same ↦ sym (ap pos_of same)
          | inr none ↦ absurd (Contains-empty (entry_at p 0) none)
        ]
      ] in
      subst (λ q. slice_get index.order q ≡ Some x) (sym level) (slice_get-position index.order x well.ranking from_one up_to_n)

  -- the via of another entry is a node
  pub via_is_node : HaveVias index.rows index.vias → (p d y : ℕ) → 1 ≤ d → GoesBy index p x d y → (1 ≤ y) × (y ≤ length index.order)
  via_is_node have p d y far goes =
      let row = label_row index.rows x in
      let vias = via_row index.vias x in
      let own = own_entry index.order x in
      let is : IsViaRow (length index.rows) x row vias = have.row x from_one (omega (arith, up_to_n, well.size)) in
      let k = goes.place in
      let within = slice_get_within row k (entry_at p d) goes.entry in
      let long : length row ≡ length row_is.others + 1 = ap length row_is.ends ∙ length-append row_is.others (own ∷ []) in
      let vias_long : length vias ≡ length is.others + 1 = ap length is.ends ∙ length-append is.others (0 ∷ []) in
      let before : k < length is.others = elim (cases_lt k (length is.others)) [
        | inl less ↦ less
        | inr last ↦
            let place : length row_is.others ≡ k = omega (arith, last, within, long, vias_long, is.size) in
            let here : get_or row k nothing ≡ entry_at p d = get_or_from_slice_get row k (entry_at p d) nothing goes.entry in
            let there : get_or row k nothing ≡ own = ap (λ (r : List Entry). get_or r k nothing) row_is.ends ∙ get_or_push row_is.others own nothing k place in
            let none : d ≡ 0 = ap (λ (e : Entry). e.dist) (sym here ∙ there) in
            absurd (omega (arith, far, none))
      ] in
      let read : get_or is.others k 0 ≡ y = sym (get_or_append_left is.others (0 ∷ []) 0 k before) ∙ ap (λ (r : List ℕ). get_or r k 0) (sym is.ends) ∙ get_or_from_slice_get vias k y 0 goes.via in
      let node = is.node k 0 before in
      (omega (arith, node.0, read), omega (arith, node.1, read, well.size))
