-- Where an entry is to stand in a row by rising position, by its entries from the front.
use Rattle.std.proofs.Common.{◌≡◌, inl, inr, ℕ, ◌+◌, ◌<◌, ◌≤◌, Option, List, All, Contains, length, map, get_or, take, sym, ap, subst, ◌∙◌, arith}
use Rattle.std.specs.Prelude.{Some, slice_get}
use Rattle.std.specs.List.Sorted.{IsStrictlyIncreasing}
use Rattle.std.proofs.lemmas.Bool.{cases_eq, cases_lt}
use Rattle.std.proofs.lemmas.List.{get_or-drop, get_or-map, get_or-take, length-drop, length-map, length-take, take_all, take_more}
use Rattle.std.proofs.lemmas.List.Elements.{All-contains, All-push, All-weaker}
use Rattle.std.proofs.lemmas.List.Kept.{AllPairs-from_increasing}
use Rattle.std.proofs.lemmas.Option.{slice_get_within, get_or_from_slice_get}
use Rattle.walk_laws.specs.declared.entry.Entry.{Entry}
use Rattle.hub_index.specs.RootDistances.{IsCover}
use Rattle.resumed_tree.specs.Taken.{IsUncovered, IsLonger, PartsAt}

abbrev pub pos_of : Entry → ℕ
pos_of e = e.pos

-- in a row by rising position a later entry has a greater one
pub rises : (row : List Entry) → IsStrictlyIncreasing (map pos_of row) → (i j : ℕ) (d : Entry) → i < j → j < length row → (get_or row i d).pos < (get_or row j d).pos
rises row rising i j d before within =
    let up = AllPairs-from_increasing (map pos_of row) rising i j 0 before (omega (arith, within, length-map row pos_of)) in
    omega (arith, up, get_or-map pos_of row i d 0 (omega (arith, before, within)), get_or-map pos_of row j d 0 within)

-- an entry that ranks above and doesn't cover
abbrev pub IsPassed : List (Option ℕ) → Entry → Entry → Type 0
IsPassed table e f = (f.pos < e.pos) × ¬ IsCover table e.pos e.dist f

-- one more is passed
pub passed_more : (table : List (Option ℕ)) (row : List Entry) (e : Entry) (k : ℕ) (d : Entry) → k < length row → All (IsPassed table e) (take k row) → IsPassed table e (get_or row k d) → All (IsPassed table e) (take (k + 1) row)
passed_more table row e k d within so_far last = subst (All (IsPassed table e)) (sym (take_more row k d within)) (All-push (IsPassed table e) (take k row) (get_or row k d) so_far last)

-- the first entries have been passed
module _ (table : List (Option ℕ)) (row : List Entry) (e : Entry) (k : ℕ) (so_far : All (IsPassed table e) (take k row)) where
  -- no other ranks above: then none covers
  uncovered : ((j : ℕ) (d : Entry) → k ≤ j → j < length row → e.pos ≤ (get_or row j d).pos) → IsUncovered table row e
  uncovered low c there cover = elim (cases_lt there.0 k) [
    | inl early ↦
        let passed : Contains (take k row) c = (there.0, omega (arith, early, there.1, length-take k row), get_or-take k row there.0 c early ∙ there.2) in
        (All-contains (IsPassed table e) (take k row) c so_far passed).1 cover
    | inr late ↦ omega (arith, cover.above, low there.0 c late there.1, ap pos_of there.2)
  ]

  parts : k ≤ length row → ((j : ℕ) (d : Entry) → k ≤ j → j < length row → e.pos < (get_or row j d).pos) → PartsAt row k e
  parts within low = record {
    within = within;
    lesser = All-weaker (IsPassed table e) (λ f. f.pos < e.pos) (λ f passed. passed.0) (take k row) so_far;
    greater = λ j d inside.
        let far : k + j < length row = omega (arith, inside, length-drop k row) in
        omega (arith, low (k + j) d (omega arith) far, ap pos_of (get_or-drop k row j d));
  }

  -- all of them
  pub parts_last : length row ≤ k → (n : ℕ) → n ≡ length row → IsUncovered table row e × PartsAt row n e
  parts_last all n size = (
    uncovered (λ j d late within. absurd (omega (arith, all, late, within))),
    record {
      within = omega (arith, size);
      lesser = subst (All (λ f. f.pos < e.pos)) (take_all k row all ∙ sym (take_all n row (omega (arith, size)))) (All-weaker (IsPassed table e) (λ f. f.pos < e.pos) (λ f passed. passed.0) (take k row) so_far);
      greater = λ j d inside. absurd (omega (arith, inside, size, length-drop n row));
    },
  )

  module _ (rising : IsStrictlyIncreasing (map pos_of row)) (f : Entry) (there : slice_get row k ≡ Some f) where
    -- from there on no position is less
    no_less : (j : ℕ) (d : Entry) → k ≤ j → j < length row → f.pos ≤ (get_or row j d).pos
    no_less j d late within =
        let here = ap pos_of (get_or_from_slice_get row k f d there) in
        elim (cases_eq k j) [
          | inl same ↦ omega (arith, here, ap (λ i. (get_or row i d).pos) same)
          | inr other ↦ omega (arith, here, rises row rising k j d (omega (arith, late, other)) within)
        ]

    -- the next one ranks below
    pub parts_here : e.pos < f.pos → IsUncovered table row e × PartsAt row k e
    parts_here below = (
      uncovered (λ j d late within. omega (arith, below, no_less j d late within)),
      parts (omega (arith, slice_get_within row k f there)) (λ j d late within. omega (arith, below, no_less j d late within)),
    )

    -- the next one is of the hub, and longer
    pub longer_here : f.pos ≡ e.pos → e.dist < f.dist → IsUncovered table row e × IsLonger row k e
    longer_here own long = (
      uncovered (λ j d late within. omega (arith, own, no_less j d late within)),
      record { entry = f; there = there; hub = own; long = long },
    )
