-- A row that was the labelling up to a position, and entries that join it: it takes the hubs' alone.
use Rattle.std.proofs.Common.{◌≡◌, ◌⊎◌, ℕ, ◌+◌, ◌<◌, ◌≤◌, inl, inr, List, [], ◌∷◌, ◌++◌, Contains, map, refl, sym, ap, subst, ◌∙◌, append_assoc, arith}
use Rattle.std.specs.Prelude.{Some, slice_get}
use Rattle.std.specs.List.Sorted.{IsStrictlyIncreasing}
use Rattle.std.proofs.lemmas.Bool.{cases_lt}
use Rattle.std.proofs.lemmas.List.Elements.{All-contains, Contains-append_left, Contains-append_right, Contains-push, Contains-push_cases}
use Rattle.std.proofs.lemmas.List.Kept.{AllPairs-from_increasing}
use Rattle.std.proofs.lemmas.Option.{slice_get_within}
use Rattle.walk_laws.specs.declared.graph.Edge.{Edge}
use Rattle.walk_laws.specs.declared.entry.Entry.{Entry}
use Rattle.walk_laws.specs.Joined.{Joined}
use Rattle.walk_laws.specs.Ranking.{IsRanking, position_of}
use Rattle.walk_laws.specs.Labelling.{EntryFits, IsHubEntry}
use Rattle.walk_laws.proofs.CanonicalHubs.{IsCanonical-ranked}
use Rattle.walk_laws.proofs.JoinedDecisions.{IsCanonical-or_joined_cover}
use Rattle.walk_laws.proofs.LabelRows.{Rises}
use Rattle.walk_laws.proofs.Members.{Contains-first, Contains-empty}
use Rattle.walk_laws.proofs.Positions.{slice_get-at_position}
use Rattle.label_clean.specs.Below.{IsRowBelow}
use Rattle.label_clean.specs.Joining.{IsCoveredBelow, IsHubRow, JoinsRow}
use Rattle.label_clean.specs.RootRuns.{EndsBelow, HasHubs, JoinsNext}
use Rattle.label_clean.specs.Tested.{IsCovering}
use Rattle.label_clean.proofs.Cleaned.{hub_node, hub_place, hub_uncovered}
use Rattle.label_clean.proofs.Covering.{entry, pos_of}
use Rattle.label_clean.proofs.KeptEntries.{Rises-push}
use Rattle.label_clean.proofs.LateParts.{before_is_below, below_is_before}
use Rattle.label_clean.proofs.RowFacts.{same_entry}

-- a hub's entry may stand in the row
pub EntryFits-from_hub : (edges : List Edge) (at : List ℕ) → IsRanking at → (v : ℕ) (e : Entry) → IsHubEntry (Joined edges) at v e → EntryFits (Joined edges) at v e
EntryFits-from_hub edges at ranking v e hub = record {
  ranked = elim (cases_lt (position_of at v) e.pos) [
    | inl above ↦ absurd (IsCanonical-ranked (Joined edges) at hub.0 v e.dist hub.2 (omega (arith, above, hub_place at ranking e.pos hub.0 hub.1)))
    | inr below ↦ below
  ];
  walk = (hub.0, hub.1, hub.2.least.walk);
}

-- while a run is put: the next entry, with some before it
module _ (edges : List Edge) (at : List ℕ) (p c q v : ℕ) (hub_row before done run more : List Entry) (next : JoinsNext edges at p c q v hub_row before done run more) (some rest : List Entry) (e : Entry) (cut : run ≡ some ++ e ∷ rest) (row : List Entry) (has : HasHubs edges at v before (done ++ some) row) where
  abbrev all : List Entry
  all = done ++ (run ++ more)

  parted : done ++ (run ++ more) ≡ (done ++ some) ++ e ∷ (rest ++ more)
  parted = ap (λ es. done ++ (es ++ more)) cut ∙ ap (λ es. done ++ es) (append_assoc some (e ∷ rest) more) ∙ sym (append_assoc done some (e ∷ (rest ++ more)))

  there : Contains (done ++ (run ++ more)) e
  there = subst (λ es. Contains es e) (sym parted) (Contains-append_right (done ++ some) (e ∷ (rest ++ more)) e (Contains-first e (rest ++ more)))

  rises : Rises pos_of ((done ++ some) ++ e ∷ (rest ++ more))
  rises = subst (Rises pos_of) parted (AllPairs-from_increasing (map pos_of all) next.rising)

  is_pos : e.pos ≡ q
  is_pos = All-contains (λ (x : Entry). x.pos ≡ q) run e next.one (subst (λ es. Contains es e) (sym cut) (Contains-append_right some (e ∷ rest) e (Contains-first e rest)))

  is_from : p ≤ e.pos
  is_from = All-contains (λ (x : Entry). p ≤ x.pos) all e next.joins.from there

  is_below : e.pos < c
  is_below = All-contains (λ (x : Entry). x.pos < c) all e next.joins.below there

  fits : EntryFits (Joined edges) at v e
  fits = All-contains (EntryFits (Joined edges) at v) all e next.joins.fit there

  hub_at : slice_get at q ≡ Some fits.walk.0
  hub_at = subst (λ r. slice_get at r ≡ Some fits.walk.0) is_pos fits.walk.1

  late : IsHubRow edges at p q fits.walk.0 hub_row
  late = next.hub fits.walk.0 hub_at

  pub hub_row_rises : IsStrictlyIncreasing (map pos_of hub_row)
  hub_row_rises = late.rising

  -- all entries of the row are below it
  row_is_below : (x : Entry) → Contains row x → x.pos < e.pos
  row_is_below x h = elim ((has.each x).0 h) [
    | inl old ↦ omega (arith, ((next.before_is.each x).0 old).1, is_from)
    | inr new ↦ before_is_below (done ++ some) (rest ++ more) e x rises new.0
  ]

  pub row_ends_below : EndsBelow q row
  row_ends_below front x is = omega (arith, is_pos, row_is_below x (subst (λ es. Contains es x) (sym is) (Contains-push front x)))

  row_fits : (x : Entry) → Contains row x → EntryFits (Joined edges) at v x
  row_fits x h = EntryFits-from_hub edges at next.ranking v x (elim ((has.each x).0 h) [ inl old ↦ ((next.before_is.each x).0 old).0 | inr new ↦ new.1 ])

  -- its row and its hub's cover it
  abbrev Covered : Type 0
  Covered = (x : Entry) × Contains row x × (p ≤ x.pos) × IsCovering hub_row q e.dist x

  -- no hub's entry is covered
  hub_is_free : IsHubEntry (Joined edges) at v e → Covered → ⊥
  hub_is_free hub one =
      let x = one.0 in
      let meets = one.3.1 in
      let to_hub = All-contains (EntryFits (Joined edges) at fits.walk.0) hub_row (entry x.pos meets.0) late.fit meets.1 in
      hub_uncovered at next.ranking edges fits.walk.0 v e (entry x.pos meets.0) x fits.walk.1 hub to_hub (row_fits x one.1) refl (omega (arith, is_pos, one.3.0)) (omega (arith, meets.2))

  -- and each other one is
  others_are_covered : (Covered → ⊥) → IsHubEntry (Joined edges) at v e
  others_are_covered free =
      let h = fits.walk.0 in
      let node = hub_node at next.ranking e.pos h fits.walk.1 in
      elim (IsCanonical-or_joined_cover edges next.weights at next.ranking h v e.dist node.0 node.1 fits.walk.2) [
        | inl hub ↦
            let is_hub : IsHubEntry (Joined edges) at v (entry e.pos hub.0) = (h, fits.walk.1, hub.2) in
            let stands = next.joins.hubs (entry e.pos hub.0) is_hub is_from is_below in
            let same : entry e.pos hub.0 ≡ e = same_entry all (entry e.pos hub.0) e next.joins.once stands there refl in
            subst (IsHubEntry (Joined edges) at v) same is_hub
        | inr cover ↦
            let r = position_of at cover.hub in
            let above : position_of at cover.hub < e.pos = omega (arith, cover.above, hub_place at next.ranking e.pos h fits.walk.1) in
            let stands = slice_get-at_position at cover.hub (omega (arith, above, slice_get_within at e.pos h fits.walk.1)) in
            let to_start : IsHubEntry (Joined edges) at fits.walk.0 (entry (position_of at cover.hub) cover.before) = (cover.hub, stands, cover.to_start) in
            let to_end : IsHubEntry (Joined edges) at v (entry (position_of at cover.hub) cover.after) = (cover.hub, stands, cover.to_end) in
            elim (cases_lt (position_of at cover.hub) p) [
              | inl low ↦
                  absurd (All-contains (λ x. ¬ IsCoveredBelow edges at p v x) all e next.joins.apart there (record {
                    hub = h;
                    hub_is = fits.walk.1;
                    of_hub = entry r cover.before;
                    of_node = entry r cover.after;
                    is_hubs = to_start;
                    is_nodes = to_end;
                    shared = refl;
                    below = low;
                    short = cover.short;
                  }))
              | inr from ↦
                  let in_hub_row = late.hubs (entry r cover.before) to_start from (omega (arith, above, is_pos)) in
                  let joins = next.joins.hubs (entry r cover.after) to_end from (omega (arith, above, is_below)) in
                  let is_done = below_is_before (done ++ some) (rest ++ more) e (entry r cover.after) rises (subst (λ es. Contains es (entry r cover.after)) parted joins) above in
                  let in_row = (has.each (entry r cover.after)).1 (inr (is_done, to_end)) in
                  absurd (free (entry r cover.after, in_row, from, (omega (arith, above, is_pos), (cover.before, in_hub_row, omega (arith, cover.short)))))
            ]
      ]

  -- an entry among those so far, or the next one
  so_far_or : (x : Entry) → Contains (done ++ (some ++ e ∷ [])) x → Contains (done ++ some) x ⊎ (e ≡ x)
  so_far_or x h = Contains-push_cases (done ++ some) e x (subst (λ es. Contains es x) (sym (append_assoc done some (e ∷ []))) h)

  so_far : (x : Entry) → Contains (done ++ some) x → Contains (done ++ (some ++ e ∷ [])) x
  so_far x h = subst (λ es. Contains es x) (append_assoc done some (e ∷ [])) (Contains-append_left (done ++ some) (e ∷ []) x h)

  -- where it is covered it is left out
  pub HasHubs-without : Covered → HasHubs edges at v before (done ++ (some ++ e ∷ [])) row
  HasHubs-without covered = record {
    rising = has.rising;
    each = λ x. (
      λ h. elim ((has.each x).0 h) [ inl old ↦ inl old | inr new ↦ inr (so_far x new.0, new.1) ],
      λ h. (has.each x).1 (elim h [
        | inl old ↦ inl old
        | inr new ↦ elim (so_far_or x new.0) [
          | inl earlier ↦ inr (earlier, new.1)
          | inr is ↦ absurd (hub_is_free (subst (IsHubEntry (Joined edges) at v) (sym is) new.1) covered)
        ]
      ]),
    );
  }

  -- and else it is put after the row
  pub HasHubs-with : (Covered → ⊥) → HasHubs edges at v before (done ++ (some ++ e ∷ [])) (row ++ e ∷ [])
  HasHubs-with free = record {
    rising = λ k within. up k (k + 1) 0 (omega arith) within;
    each = λ x. (
      λ h. elim (Contains-push_cases row e x h) [
        | inl earlier ↦ elim ((has.each x).0 earlier) [ inl old ↦ inl old | inr new ↦ inr (so_far x new.0, new.1) ]
        | inr is ↦ subst (λ y. Contains before y ⊎ (Contains (done ++ (some ++ e ∷ [])) y × IsHubEntry (Joined edges) at v y)) is (inr (last, others_are_covered free))
      ],
      λ h. elim h [
        | inl old ↦ Contains-append_left row (e ∷ []) x ((has.each x).1 (inl old))
        | inr new ↦ elim (so_far_or x new.0) [
          | inl earlier ↦ Contains-append_left row (e ∷ []) x ((has.each x).1 (inr (earlier, new.1)))
          | inr is ↦ subst (Contains (row ++ e ∷ [])) is (Contains-push row e)
        ]
      ],
    );
  }
    where
      up : Rises pos_of (row ++ e ∷ [])
      up = Rises-push row e (AllPairs-from_increasing (map pos_of row) has.rising) row_is_below

      last : Contains (done ++ (some ++ e ∷ [])) e
      last = subst (λ es. Contains es e) (append_assoc done some (e ∷ [])) (Contains-push (done ++ some) e)

-- before any entry has joined
pub HasHubs-none : (edges : List Edge) (at : List ℕ) (p v : ℕ) (before : List Entry) → IsRowBelow edges at p v before → HasHubs edges at v before [] before
HasHubs-none edges at p v before is = record {
  rising = is.rising;
  each = λ x. (λ h. inl h, λ h. elim h [ inl old ↦ old | inr new ↦ absurd (Contains-empty x new.0) ]);
}

-- once all have, the row is the labelling up to c
pub IsRowBelow-joined : (edges : List Edge) (at : List ℕ) (p c v : ℕ) (before entries row : List Entry) → p ≤ c → IsRowBelow edges at p v before → JoinsRow edges at p c v entries → HasHubs edges at v before entries row → IsRowBelow edges at c v row
IsRowBelow-joined edges at p c v before entries row up is joins has = record {
  rising = has.rising;
  each = λ e. (
    λ h. elim ((has.each e).0 h) [
      | inl old ↦ let known = (is.each e).0 old in (known.0, omega (arith, known.1, up))
      | inr new ↦ (new.1, All-contains (λ (x : Entry). x.pos < c) entries e joins.below new.0)
    ],
    λ hub. (has.each e).1 (elim (cases_lt e.pos p) [
      | inl low ↦ inl ((is.each e).1 (hub.0, low))
      | inr from ↦ inr (joins.hubs e hub.0 from hub.1, hub.0)
    ]),
  );
}
