-- How the lists of a source's hubs are merged: what stays true as hits are given and cursors go on.
use Rattle.std.proofs.Common.{◌≡◌, ◌⊎◌, ℕ, ◌+◌, ◌-◌, ◌^◌, ◌<◌, ◌≤◌, Bool, true, false, List, [], ◌∷◌, ◌++◌, All, Contains, length, get_or, set, sym, ap, ap₂, subst, ◌∙◌, inl, inr, arith}
use Rattle.std.specs.List.Sorted.{IsNonDecreasing, IsPermutation}
use Rattle.std.proofs.lemmas.Bool.{cases_eq, cases_lt}
use Rattle.std.proofs.lemmas.List.Elements.{All-contains, All-contains_itself, All-cons, All-head, All-tail, All-nil, All-push, All-weaker, Contains-append_left, Contains-push}
use Rattle.std.proofs.lemmas.List.Quantifiers.{all_pairs_push}
use Rattle.std.proofs.lemmas.List.Sorted.{All-permutation, Contains-permutation}
use Rattle.walk_laws.specs.declared.entry.Entry.{Entry}
use Rattle.walk_laws.proofs.LabelRows.{Rises}
use Rattle.walk_laws.proofs.Members.{Contains-first, Contains-next, Contains-cons_cases, Contains-empty}
use Rattle.near_points.specs.declared.cursor.Cursor.{Cursor}
use Rattle.near_points.specs.declared.hit.Hit.{Hit}
use Rattle.near_points.specs.Nearest.{IsBefore, AreFirst}
use Rattle.near_points.specs.PointWords.{word_at, word_pos, word_dist, word_node}
use Rattle.near_points.specs.Merging.{key_of, key_by, hit_of, IsOfHub, IsCursor, IsGiven, HasCursor, IsLeastBy, AreMarked, IsMerged, IsNext, IsLast, IsTaken, AreBegun}
use Rattle.near_points.proofs.HitOrder.{same_hit}
use Rattle.near_points.proofs.Members.{pos_of, one_entry, is_bit, not_given, given_still, given_now, given_before}
use Rattle.near_points.proofs.WordFacts.{word_node-fits, word_rest-rises, words_rise, hit_of-key, key_order, key_dist}

module _ (words : List ℕ) (row : List Entry) (rising : IsNonDecreasing words) (up : Rises pos_of row) where
  -- the places of one list are of one hub
  one_hub : (e f : Entry) (i j : ℕ) → IsOfHub words row e i → IsOfHub words row f j → word_pos (word_at words i) ≡ word_pos (word_at words j) → e ≡ f
  one_hub e f i j first second same = one_entry row up e f first.entry second.entry (sym first.same ∙ same ∙ second.same)

  -- later in a list keys are no less
  later_key : (e : Entry) (i j : ℕ) → i ≤ j → j < length words → word_pos (word_at words i) ≡ word_pos (word_at words j) → key_by e (word_at words i) ≤ key_by e (word_at words j)
  later_key e i j le inside same =
      let more : word_at words i ≤ word_at words j = words_rise words rising i j le inside in
      let rest = word_rest-rises (word_at words i) (word_at words j) more same in
      omega (arith, rest)

  -- a cursor at a place or before it has no greater key
  cursor_key : (cursors : List Cursor) → All (IsCursor words row) cursors → (e : Entry) (i : ℕ) → IsOfHub words row e i → (has : HasCursor words cursors i) → has.cursor.key.0 ≤ key_by e (word_at words i)
  cursor_key cursors are e i hub has =
      let own = All-contains (IsCursor words row) cursors has.cursor are has.there in
      let same : own.entry ≡ e = one_hub own.entry e has.cursor.at i own.hub hub has.same in
      let key : has.cursor.key.0 ≡ key_by e (word_at words has.cursor.at) = subst (λ f. has.cursor.key.0 ≡ key_by f (word_at words has.cursor.at)) same own.key in
      omega (arith, key, later_key e has.cursor.at i has.before hub.inside has.same)

  -- the node of a cursor's key
  cursor_hit : (c : Cursor) (is : IsCursor words row c) → hit_of c.key.0 ≡ record { node = word_node (word_at words c.at); dist = is.entry.dist + word_dist (word_at words c.at) }
  cursor_hit c is = ap hit_of is.key ∙ hit_of-key (is.entry.dist + word_dist (word_at words c.at)) (word_node (word_at words c.at)) (word_node-fits (word_at words c.at))

  pub cursor_node : (c : Cursor) → IsCursor words row c → (hit_of c.key.0).node ≡ word_node (word_at words c.at)
  cursor_node c is = ap (λ (h : Hit). h.node) (cursor_hit c is)

  cursor_dist : (c : Cursor) (is : IsCursor words row c) → (hit_of c.key.0).dist ≡ is.entry.dist + word_dist (word_at words c.at)
  cursor_dist c is = ap (λ (h : Hit). h.dist) (cursor_hit c is)

  cursor_key_is : (c : Cursor) → IsCursor words row c → key_of (hit_of c.key.0).dist (hit_of c.key.0).node ≡ c.key.0
  cursor_key_is c is = ap₂ key_of (cursor_dist c is) (cursor_node c is) ∙ sym is.key

  module _ (cursors rest : List Cursor) (c : Cursor) (given : List Bool) (hits : List Hit) (was : IsMerged words row cursors given hits) (moved : IsPermutation cursors (c ∷ rest)) where
    -- the same cursors in another order
    popped : IsMerged words row (c ∷ rest) given hits
    popped = record {
      are = All-permutation (IsCursor words row) cursors (c ∷ rest) moved was.are;
      covered = λ e i hub. elim (was.covered e i hub) [
        | inl is ↦ inl is
        | inr has ↦ inr (record { cursor = has.cursor; there = Contains-permutation cursors (c ∷ rest) has.cursor moved has.there; before = has.before; same = has.same })
      ];
      marked = was.marked;
      least = was.least;
      rising = was.rising;
      before = All-permutation (λ c. All (λ h. key_of h.dist h.node ≤ c.key.0) hits) cursors (c ∷ rest) moved was.before;
    }

    pub of_popped : IsCursor words row c
    of_popped = All-head (IsCursor words row) c rest popped.are

    pub popped_inside : All (λ v. word_node v < length given) words → (hit_of c.key.0).node < length given
    popped_inside nodes = subst (λ v. v < length given) (sym (cursor_node c of_popped)) (nodes c.at 0 of_popped.hub.inside)

    module _ (front : All (λ x. c.key.0 ≤ x.key.0) (c ∷ rest)) where
      abbrev hit : Hit
      hit = hit_of c.key.0

      -- a hit that isn't given yet is the nearest by its hubs
      hit_least : (IsGiven given hit.node → ⊥) → IsLeastBy words row hit
      hit_least fresh = record {
        entry = of_popped.entry;
        place = c.at;
        hub = of_popped.hub;
        node = sym (cursor_node c of_popped);
        sum = sym (cursor_dist c of_popped);
        least = λ e i hub node. elim (popped.covered e i hub) [
          | inl is ↦ absurd (fresh (subst (IsGiven given) node is))
          | inr has ↦
              let first : c.key.0 ≤ has.cursor.key.0 = All-contains (λ x. c.key.0 ≤ x.key.0) (c ∷ rest) has.cursor front has.there in
              let then : has.cursor.key.0 ≤ key_by e (word_at words i) = cursor_key (c ∷ rest) popped.are e i hub has in
              key_dist hit.dist (e.dist + word_dist (word_at words i)) hit.node (word_node (word_at words i)) (omega (arith, first, then, cursor_key_is c of_popped)) (word_node-fits (word_at words i))
        ];
      }

      -- and comes after all that are
      hit_after : (IsGiven given hit.node → ⊥) → (h : Hit) → Contains hits h → IsBefore h hit
      hit_after fresh h there =
          let le : key_of h.dist h.node ≤ c.key.0 = All-contains (λ h. key_of h.dist h.node ≤ c.key.0) hits h (All-head (λ c. All (λ h. key_of h.dist h.node ≤ c.key.0) hits) c rest popped.before) there in
          let small : hit.node < 2 ^ 32 = subst (λ v. v < 2 ^ 32) (sym (cursor_node c of_popped)) (word_node-fits (word_at words c.at)) in
          elim (key_order h.dist hit.dist h.node hit.node (omega (arith, le, cursor_key_is c of_popped)) small) [
            | inl nearer ↦ inl nearer
            | inr both ↦ elim (cases_lt h.node hit.node) [
              | inl low ↦ inr (both.0, low)
              | inr not_low ↦
                  let same : h.node ≡ hit.node = omega (arith, not_low, both.1) in
                  absurd (fresh (subst (IsGiven given) same (All-contains (λ h. IsGiven given h.node) hits h was.marked.each there)))
            ]
          ]

      -- the hit is given
      given_more : (IsGiven given hit.node → ⊥) → hit.node < length given → IsMerged words row (c ∷ rest) (set given hit.node true) (hits ++ hit ∷ [])
      given_more fresh inside = record {
        are = popped.are;
        covered = λ e i hub. elim (popped.covered e i hub) [
          | inl is ↦ inl (given_still given hit.node (word_node (word_at words i)) inside is)
          | inr has ↦ inr has
        ];
        marked = record {
          each = All-push (λ h. IsGiven (set given hit.node true) h.node) hits hit
              (All-weaker (λ h. IsGiven given h.node) (λ h. IsGiven (set given hit.node true) h.node) (λ h is. given_still given hit.node h.node inside is) hits was.marked.each)
              (given_now given hit.node inside);
          others = λ v is. elim (given_before given hit.node v inside is) [
            | inl here ↦ (hit, Contains-push hits hit, sym here)
            | inr old ↦ let of = was.marked.others v old in (of.0, Contains-append_left hits (hit ∷ []) of.0 of.1, of.2)
          ];
        };
        least = All-push (IsLeastBy words row) hits hit was.least (hit_least fresh);
        rising = all_pairs_push IsBefore hits hit was.rising (λ k d lt. hit_after fresh (get_or hits k d) (All-contains_itself hits k d lt));
        before = λ k d lt. All-push (λ h. key_of h.dist h.node ≤ (get_or (c ∷ rest) k d).key.0) hits hit (popped.before k d lt) (let first = front k d lt in omega (arith, first, cursor_key_is c of_popped));
      }

      -- whether it was given before or is now, it is given
      pub taken : (given_then : List Bool) (hits_then : List Hit) → hit.node < length given → IsTaken c.key.0 given hits given_then hits_then → IsMerged words row (c ∷ rest) given_then hits_then × IsGiven given_then (word_node (word_at words c.at))
      taken given_then hits_then inside how = elim how [
        | inl old ↦ (
          subst (λ g. IsMerged words row (c ∷ rest) g hits_then) (sym old.1) (subst (IsMerged words row (c ∷ rest) given) (sym old.2) popped),
          subst (λ g. IsGiven g (word_node (word_at words c.at))) (sym old.1) (subst (IsGiven given) (cursor_node c of_popped) old.0),
        )
        | inr new ↦ (
          subst (λ g. IsMerged words row (c ∷ rest) g hits_then) (sym new.1) (subst (IsMerged words row (c ∷ rest) (set given hit.node true)) (sym new.2) (given_more new.0 inside)),
          subst (λ g. IsGiven g (word_node (word_at words c.at))) (sym new.1) (subst (IsGiven (set given hit.node true)) (cursor_node c of_popped) (given_now given hit.node inside)),
        )
      ]

  module _ (rest : List Cursor) (c : Cursor) (given : List Bool) (hits : List Hit) (was : IsMerged words row (c ∷ rest) given hits) (done : IsGiven given (word_node (word_at words c.at))) where
    rest_before : All (λ c. All (λ h. key_of h.dist h.node ≤ c.key.0) hits) rest
    rest_before = All-tail (λ c. All (λ h. key_of h.dist h.node ≤ c.key.0) hits) c rest was.before

    -- where the cursor's place is, it has its word
    at_cursor : (i : ℕ) → i ≡ c.at → IsGiven given (word_node (word_at words i))
    at_cursor i here = subst (λ j. IsGiven given (word_node (word_at words j))) (sym here) done

    -- a list that has no other point has no cursor any more
    pub dropped : IsLast words given c.at → IsMerged words row rest given hits
    dropped last = record {
      are = All-tail (IsCursor words row) c rest was.are;
      covered = λ e i hub. elim (was.covered e i hub) [
        | inl is ↦ inl is
        | inr has ↦ elim (Contains-cons_cases c has.cursor rest has.there) [
          | inr other ↦ inr (record { cursor = has.cursor; there = other; before = has.before; same = has.same })
          | inl own ↦
              let before : c.at ≤ i = subst (λ x. x.at ≤ i) (sym own) has.before in
              let same : word_pos (word_at words c.at) ≡ word_pos (word_at words i) = subst (λ x. word_pos (word_at words x.at) ≡ word_pos (word_at words i)) (sym own) has.same in
              elim (cases_eq i c.at) [
                | inl here ↦ inl (at_cursor i here)
                | inr later ↦ inl (last i (omega (arith, before, later)) hub.inside (sym same))
              ]
        ]
      ];
      marked = was.marked;
      least = was.least;
      rising = was.rising;
      before = rest_before;
    }

    module _ (next : Cursor) (is : IsNext words given c.at next.at) (key : next.key.0 ≡ c.key.0 + (word_at words next.at - word_at words c.at)) where
      of_cursor : IsCursor words row c
      of_cursor = All-head (IsCursor words row) c rest was.are

      more : word_at words c.at ≤ word_at words next.at
      more = words_rise words rising c.at next.at (let later = is.later in omega (arith, later)) is.inside

      of_next : IsCursor words row next
      of_next = record {
        entry = of_cursor.entry;
        hub = record { entry = of_cursor.hub.entry; inside = is.inside; same = is.same ∙ of_cursor.hub.same };
        key =
            let rest = word_rest-rises (word_at words c.at) (word_at words next.at) more (sym is.same) in
            omega (arith, key, rest, of_cursor.key);
      }

      -- the cursor goes on to the next point of its list
      pub went_on : IsMerged words row (next ∷ rest) given hits
      went_on = record {
        are = All-cons (IsCursor words row) next rest of_next (All-tail (IsCursor words row) c rest was.are);
        covered = λ e i hub. elim (was.covered e i hub) [
          | inl is ↦ inl is
          | inr has ↦ elim (Contains-cons_cases c has.cursor rest has.there) [
            | inr other ↦ inr (record { cursor = has.cursor; there = Contains-next next has.cursor rest other; before = has.before; same = has.same })
            | inl own ↦
                let before : c.at ≤ i = subst (λ x. x.at ≤ i) (sym own) has.before in
                let same : word_pos (word_at words c.at) ≡ word_pos (word_at words i) = subst (λ x. word_pos (word_at words x.at) ≡ word_pos (word_at words i)) (sym own) has.same in
                elim (cases_eq i c.at) [
                  | inl here ↦ inl (at_cursor i here)
                  | inr later ↦ elim (cases_lt i next.at) [
                    | inl between ↦ inl (is.between i (omega (arith, before, later)) between)
                    | inr from ↦ inr (record { cursor = next; there = Contains-first next rest; before = omega (arith, from); same = is.same ∙ same })
                  ]
                ]
          ]
        ];
        marked = was.marked;
        least = was.least;
        rising = was.rising;
        before = All-cons (λ c. All (λ h. key_of h.dist h.node ≤ c.key.0) hits) next rest
            (All-weaker (λ h. key_of h.dist h.node ≤ c.key.0) (λ h. key_of h.dist h.node ≤ next.key.0) (λ h le. omega (arith, le, key)) hits (All-head (λ c. All (λ h. key_of h.dist h.node ≤ c.key.0) hits) c rest was.before))
            rest_before;
      }

  -- the cursors in another order
  pub reordered : (cursors others : List Cursor) (given : List Bool) (hits : List Hit) → IsPermutation cursors others → IsMerged words row cursors given hits → IsMerged words row others given hits
  reordered cursors others given hits moved was = record {
    are = All-permutation (IsCursor words row) cursors others moved was.are;
    covered = λ e i hub. elim (was.covered e i hub) [
      | inl is ↦ inl is
      | inr has ↦ inr (record { cursor = has.cursor; there = Contains-permutation cursors others has.cursor moved has.there; before = has.before; same = has.same })
    ];
    marked = was.marked;
    least = was.least;
    rising = was.rising;
    before = All-permutation (λ c. All (λ h. key_of h.dist h.node ≤ c.key.0) hits) cursors others moved was.before;
  }

  module _ (cursors : List Cursor) (given : List Bool) (hits : List Hit) (k : ℕ) (was : IsMerged words row cursors given hits) where
    -- a hit whose node is marked is given
    given_is : (h : Hit) → IsLeastBy words row h → IsGiven given h.node → Contains hits h
    given_is h least is =
        let of = was.marked.others h.node is in
        let own = All-contains (IsLeastBy words row) hits of.0 was.least of.1 in
        let no_nearer : of.0.dist ≤ h.dist = let le = own.least least.entry least.place least.hub (least.node ∙ sym of.2) in omega (arith, le, least.sum) in
        let no_farther : h.dist ≤ of.0.dist = let le = least.least own.entry own.place own.hub (own.node ∙ of.2) in omega (arith, le, own.sum) in
        subst (Contains hits) (same_hit of.0 h of.2 (omega (arith, no_nearer, no_farther))) of.1

    -- all others come after those that are given
    others_after : (h : Hit) (least : IsLeastBy words row h) → (IsGiven given h.node → ⊥) → HasCursor words cursors least.place → (x : Hit) → Contains hits x → IsBefore x h
    others_after h least fresh has x there =
        let first : key_of x.dist x.node ≤ has.cursor.key.0 = All-contains (λ h. key_of h.dist h.node ≤ has.cursor.key.0) hits x (All-contains (λ c. All (λ h. key_of h.dist h.node ≤ c.key.0) hits) cursors has.cursor was.before has.there) there in
        let then : has.cursor.key.0 ≤ key_by least.entry (word_at words least.place) = cursor_key cursors was.are least.entry least.place least.hub has in
        let small : h.node < 2 ^ 32 = subst (λ v. v < 2 ^ 32) least.node (word_node-fits (word_at words least.place)) in
        elim (key_order x.dist h.dist x.node h.node (omega (arith, first, then, least.sum, least.node)) small) [
          | inl nearer ↦ inl nearer
          | inr both ↦ elim (cases_lt x.node h.node) [
            | inl low ↦ inr (both.0, low)
            | inr not_low ↦
                let same : x.node ≡ h.node = omega (arith, not_low, both.1) in
                absurd (fresh (subst (IsGiven given) same (All-contains (λ h. IsGiven given h.node) hits x was.marked.each there)))
          ]
        ]

    -- where no cursor is left, or k are given, they are the first
    pub AreFirst-merged : (cursors ≡ []) ⊎ (k ≤ length hits) → length hits ≤ k → AreFirst (IsLeastBy words row) k hits
    AreFirst-merged over few = record {
      each = was.least;
      rising = was.rising;
      few = few;
      others = λ h least. elim (is_bit (get_or given h.node false)) [
        | inl is ↦ inl (given_is h least is)
        | inr is_not ↦
            let fresh = not_given given h.node is_not in
            elim (was.covered least.entry least.place least.hub) [
              | inl is ↦ absurd (fresh (subst (IsGiven given) least.node is))
              | inr has ↦ elim over [
                | inl none ↦ absurd (Contains-empty has.cursor (subst (λ cs. Contains cs has.cursor) none has.there))
                | inr enough ↦ inr (omega (arith, enough, few), λ i d lt. others_after h least fresh has (get_or hits i d) (All-contains_itself hits i d lt))
              ]
            ]
      ];
    }

  -- before any hit is given
  pub IsMerged-start : (cursors : List Cursor) (given : List Bool) → AreBegun words row cursors → AreMarked given [] → IsMerged words row cursors given []
  IsMerged-start cursors given begun marked = record {
    are = begun.are;
    covered = λ e i hub. inr (begun.covered e i hub);
    marked = marked;
    least = All-nil (IsLeastBy words row);
    rising = λ i j d lt inside. absurd (omega (arith, inside));
    before = λ k d lt. All-nil (λ h. key_of h.dist h.node ≤ (get_or cursors k d).key.0);
  }
