-- The runs of many lists in turn, by position: the entries of a row come by rising position.
use Rattle.std.proofs.Common.{◌≡◌, inl, inr, ℕ, suc, ◌+◌, ◌-◌, ◌<◌, ◌≤◌, List, [], ◌∷◌, ◌++◌, All, Contains, length, get_or, take, drop, filter, flat_map, refl, sym, ap, subst, ◌∙◌, ◌==◌, arith}
use Rattle.std.specs.List.{sum_by}
use Rattle.std.specs.List.Sorted.{IsNonDecreasingBy}
use Rattle.std.proofs.lemmas.Bool.{cases_lt}
use Rattle.std.proofs.lemmas.Grind.{flat_map-append}
use Rattle.std.proofs.lemmas.List.{append_assoc, append-nil, length-drop, length-take, take-append-drop, take_more}
use Rattle.std.proofs.lemmas.List.Concat.{flat_map-cons}
use Rattle.std.proofs.lemmas.List.Elements.{All-contains, All-contains_itself, All-filter, All-head, All-map, All-tail, All-weaker, Contains-get_or}
use Rattle.std.proofs.lemmas.List.Sorted.{Contains-permutation, IsPermutation-sym, sum_by-IsPermutation}
use Rattle.std.proofs.lemmas.List.Sums.{sum_by-append}
use Rattle.walk_laws.specs.declared.graph.Edge.{Edge}
use Rattle.walk_laws.specs.declared.entry.Entry.{Entry}
use Rattle.walk_laws.specs.Joined.{Joined}
use Rattle.walk_laws.specs.Labelling.{EntryFits}
use Rattle.walk_laws.proofs.LabelRows.{Rises}
use Rattle.walk_laws.proofs.Members.{Contains-first}
use Rattle.hub_index.specs.declared.node_entry.NodeEntry.{NodeEntry}
use Rattle.hub_index.specs.NodeEntries.{entries_of_node, entry_of}
use Rattle.hub_index.proofs.GatheredRows.{entries_of_node-append}
use Rattle.label_clean.specs.declared.runs.RunList.{RunList}
use Rattle.label_clean.specs.declared.turns.Turn.{Turn}
use Rattle.label_clean.specs.Joining.{IsCoveredBelow, JoinsRow}
use Rattle.label_clean.specs.RawRows.{HasEachOnce}
use Rattle.label_clean.specs.RunLists.{AreTurnsOf, IsTurnOf, all_entries, entries_at, part_of}
use Rattle.label_clean.specs.Sorted.{IsSortedRow}
use Rattle.label_clean.proofs.Covering.{pos_of}
use Rattle.label_clean.proofs.KeptEntries.{Rises-append}
use Rattle.label_clean.proofs.KeptRows.{once_from_rising}
use Rattle.label_clean.proofs.RowFacts.{All-sorted}
use Rattle.label_clean.proofs.TimesOf.{Contains-joined, at_least_one, at_most_one, joined_of, node_entry, of_node, one_if, times-joined, to_node}

-- entries of one position, of which there is one at most
Rises-one : (q : ℕ) (es : List Entry) → All (λ e. e.pos ≡ q) es → sum_by (one_if q) es ≤ 1 → Rises pos_of es
Rises-one q [] one few = λ i j d lt within. absurd (omega (arith, within))
Rises-one q (e ∷ []) one few = λ i j d lt within. absurd (omega (arith, lt, within))
Rises-one q (e ∷ f ∷ es) one few =
    let first = at_least_one q (e ∷ []) e (Contains-first e []) (All-head (λ (x : Entry). x.pos ≡ q) e (f ∷ es) one) in
    let second = at_least_one q (f ∷ es) f (Contains-first f es) (All-head (λ (x : Entry). x.pos ≡ q) f es (All-tail (λ (x : Entry). x.pos ≡ q) e (f ∷ es) one)) in
    absurd (omega (arith, few, first, second, sum_by-append (one_if q) (e ∷ []) (f ∷ es)))

-- lists that come by position, of which each has one, together rise where no position stands twice
module _ {X : Type 0} (key : X → ℕ) (f : X → List Entry) where
  Rises-joined : (xs : List X) → IsNonDecreasingBy key xs → All (λ x. All (λ e. e.pos ≡ key x) (f x)) xs → ((q : ℕ) → sum_by (one_if q) (flat_map f xs) ≤ 1) → Rises pos_of (flat_map f xs)
  Rises-joined [] up one few = λ i j d lt within. absurd (omega (arith, within))
  Rises-joined (x ∷ xs) up one few =
      subst (Rises pos_of) (sym (flat_map-cons f x xs))
      (Rises-append (f x) (flat_map f xs) (Rises-one (key x) (f x) first (omega (arith, few (key x), both (key x)))) (Rises-joined xs up_rest rest (λ q. omega (arith, few q, both q))) apart)
    where
      first : All (λ (e : Entry). e.pos ≡ key x) (f x)
      first = All-head (λ y. All (λ (e : Entry). e.pos ≡ key y) (f y)) x xs one

      rest : All (λ y. All (λ (e : Entry). e.pos ≡ key y) (f y)) xs
      rest = All-tail (λ y. All (λ (e : Entry). e.pos ≡ key y) (f y)) x xs one

      up_rest : IsNonDecreasingBy key xs
      up_rest i j d le lt = up (suc i) (suc j) d (omega arith) (omega arith)

      both : (q : ℕ) → sum_by (one_if q) (flat_map f (x ∷ xs)) ≡ sum_by (one_if q) (f x) + sum_by (one_if q) (flat_map f xs)
      both q = ap (sum_by (one_if q)) (flat_map-cons f x xs) ∙ sum_by-append (one_if q) (f x) (flat_map f xs)

      apart : (e g : Entry) → Contains (f x) e → Contains (flat_map f xs) g → e.pos < g.pos
      apart e g here later =
          let of = joined_of f xs g later in
          let y = of.0 in
          let e_is : e.pos ≡ key x = All-contains (λ (e : Entry). e.pos ≡ key x) (f x) e first here in
          let g_is : g.pos ≡ key of.0 = All-contains (λ (e : Entry). e.pos ≡ key y) (f y) g (All-contains (λ y. All (λ (e : Entry). e.pos ≡ key y) (f y)) xs y rest of.1) of.2 in
          let le : key x ≤ key of.0 = omega (arith, up 0 (suc of.1.0) y (omega arith) (omega (arith, of.1.1)), ap key of.1.2) in
          elim (cases_lt e.pos g.pos) [
            | inl low ↦ low
            | inr from ↦
                let same : g.pos ≡ key x = omega (arith, from, e_is, g_is, le) in
                absurd (omega (arith, few (key x), both (key x), at_least_one (key x) (f x) e here e_is, at_least_one (key x) (flat_map f xs) g later same))
          ]

module _ (lists : List RunList) (turns : List Turn) (are : AreTurnsOf lists turns) where
  in_lists : (turn : Turn) → Contains turns turn → (e : NodeEntry) → Contains (part_of lists turn) e → Contains (all_entries lists) e
  in_lists turn there e h = subst (λ es. Contains es e) are.whole (Contains-joined (part_of lists) are.pieces turn e (Contains-permutation turns are.pieces turn (IsPermutation-sym are.pieces turns are.moved) there) h)

  in_turn : (e : NodeEntry) → Contains (all_entries lists) e → Contains (flat_map (part_of lists) turns) e
  in_turn e h =
      let one = joined_of (part_of lists) are.pieces e (subst (λ es. Contains es e) (sym are.whole) h) in
      Contains-joined (part_of lists) turns one.0 e (Contains-permutation are.pieces turns one.0 are.moved one.1) one.2

  -- what holds of all entries holds of those of a run
  pub all_in_turn : (P : NodeEntry → Type 0) → All P (all_entries lists) → (turn : Turn) → Contains turns turn → All P (part_of lists turn)
  all_in_turn P all turn there = All-weaker (Contains (part_of lists turn)) P (λ e h. All-contains P (all_entries lists) e all (in_lists turn there e h)) (part_of lists turn) (All-contains_itself (part_of lists turn))

  -- the position of a run is one of an entry
  pub turn_has : (P : ℕ → Type 0) → All (λ e. P e.pos) (all_entries lists) → (turn : Turn) → Contains turns turn → P turn.run.pos
  turn_has P all turn there =
      let none : NodeEntry = record { node = 0; pos = 0; dist = 0 } in
      let is = (All-contains (IsTurnOf lists) turns turn are.each there).run in
      let list = entries_at lists turn.list in
      let long : 0 < length (part_of lists turn) = omega (arith, is.some, is.within, length-take (turn.run.to - turn.run.from) (drop turn.run.from list), length-drop turn.run.from list) in
      subst P (is.one 0 none long) (all_in_turn (λ (e : NodeEntry). P e.pos) all turn there 0 none long)

  module _ (k : ℕ) where
    row_of_joined : (ts : List Turn) → entries_of_node (flat_map (part_of lists) ts) k ≡ flat_map (λ turn. entries_of_node (part_of lists turn) k) ts
    row_of_joined [] = refl
    row_of_joined (t ∷ ts) =
        ap (λ es. entries_of_node es k) (flat_map-cons (part_of lists) t ts) ∙ entries_of_node-append (part_of lists t) (flat_map (part_of lists) ts) k
        ∙ ap (λ es. entries_of_node (part_of lists t) k ++ es) (row_of_joined ts) ∙ sym (flat_map-cons (λ turn. entries_of_node (part_of lists turn) k) t ts)

    -- the entries of a run at the row have its position
    one_of_turn : (turn : Turn) → IsTurnOf lists turn → All (λ e. e.pos ≡ turn.run.pos) (entries_of_node (part_of lists turn) k)
    one_of_turn turn is =
        All-map (λ (e : Entry). e.pos ≡ turn.run.pos) (λ (e : NodeEntry). entry_of e) (filter (λ (e : NodeEntry). e.node == k) (part_of lists turn))
        (All-filter (λ (e : NodeEntry). e.node == k) (λ (e : NodeEntry). e.pos ≡ turn.run.pos) (part_of lists turn) is.run.one)

    -- no position stands there more often than in all lists
    times_same : (q : ℕ) → sum_by (one_if q) (entries_of_node (flat_map (part_of lists) turns) k) ≡ sum_by (one_if q) (entries_of_node (all_entries lists) k)
    times_same q =
        let count : Turn → ℕ = λ turn. sum_by (one_if q) (entries_of_node (part_of lists turn) k) in
        let f : Turn → List Entry = λ turn. entries_of_node (part_of lists turn) k in
        ap (sum_by (one_if q)) (row_of_joined turns) ∙ times-joined q f turns ∙ sum_by-IsPermutation count are.pieces turns are.moved
        ∙ sym (ap (λ es. sum_by (one_if q) (entries_of_node es k)) (sym are.whole) ∙ ap (sum_by (one_if q)) (row_of_joined are.pieces) ∙ times-joined q f are.pieces)

    -- run by run the entries of a row come by rising position
    pub IsSortedRow-turns : HasEachOnce (entries_of_node (all_entries lists) k) → IsSortedRow (entries_of_node (all_entries lists) k) (entries_of_node (flat_map (part_of lists) turns) k)
    IsSortedRow-turns once = record {
      rising = λ i within. up i (i + 1) 0 (omega arith) within;
      each = λ e. (
        λ h. let one = joined_of (part_of lists) turns (node_entry k e) (of_node (flat_map (part_of lists) turns) k e h) in to_node (all_entries lists) (node_entry k e) (in_lists one.0 one.1 (node_entry k e) one.2),
        λ h. to_node (flat_map (part_of lists) turns) (node_entry k e) (in_turn (node_entry k e) (of_node (all_entries lists) k e h)),
      );
    }
      where
        up : Rises pos_of (entries_of_node (flat_map (part_of lists) turns) k)
        up =
            subst (Rises pos_of) (sym (row_of_joined turns))
            (Rises-joined (λ turn. turn.run.pos) (λ turn. entries_of_node (part_of lists turn) k) turns are.rising (All-weaker (IsTurnOf lists) (λ turn. All (λ (e : Entry). e.pos ≡ turn.run.pos) (entries_of_node (part_of lists turn) k)) one_of_turn turns are.each)
            (λ q. omega (arith, at_most_one q (entries_of_node (all_entries lists) k) once, times_same q, ap (sum_by (one_if q)) (row_of_joined turns))))

    module _ (i : ℕ) (d : Turn) (within : i < length turns) where
      abbrev this : Turn
      this = get_or turns i d

      pub run_has_one : All (λ e. e.pos ≡ (get_or turns i d).run.pos) (entries_of_node (part_of lists (get_or turns i d)) k)
      run_has_one = one_of_turn this (All-contains (IsTurnOf lists) turns this are.each (Contains-get_or turns i d within))

      -- those that are done, and the next run's
      pub row_done : entries_of_node (flat_map (part_of lists) (take (i + 1) turns)) k ≡ entries_of_node (flat_map (part_of lists) (take i turns)) k ++ entries_of_node (part_of lists (get_or turns i d)) k
      row_done =
          ap (λ ts. entries_of_node (flat_map (part_of lists) ts) k) (take_more turns i d within) ∙ ap (λ es. entries_of_node es k) (flat_map-append (part_of lists) (take i turns) (this ∷ []))
          ∙ entries_of_node-append (flat_map (part_of lists) (take i turns)) (flat_map (part_of lists) (this ∷ [])) k
          ∙ ap (λ es. entries_of_node (flat_map (part_of lists) (take i turns)) k ++ entries_of_node es k) (flat_map-cons (part_of lists) this [] ∙ append-nil (part_of lists this))

      -- and then those that are to come
      pub row_parted : entries_of_node (flat_map (part_of lists) turns) k
          ≡ entries_of_node (flat_map (part_of lists) (take i turns)) k ++ (entries_of_node (part_of lists (get_or turns i d)) k ++ entries_of_node (flat_map (part_of lists) (drop (i + 1) turns)) k)
      row_parted =
          ap (λ ts. entries_of_node (flat_map (part_of lists) ts) k) (sym (take-append-drop (i + 1) turns)) ∙ ap (λ es. entries_of_node es k) (flat_map-append (part_of lists) (take (i + 1) turns) (drop (i + 1) turns))
          ∙ entries_of_node-append (flat_map (part_of lists) (take (i + 1) turns)) (flat_map (part_of lists) (drop (i + 1) turns)) k
          ∙ ap (λ es. es ++ entries_of_node (flat_map (part_of lists) (drop (i + 1) turns)) k) row_done
          ∙ append_assoc (entries_of_node (flat_map (part_of lists) (take i turns)) k) (entries_of_node (part_of lists this) k) (entries_of_node (flat_map (part_of lists) (drop (i + 1) turns)) k)

-- entries that join a row join it in their order, too
pub JoinsRow-sorted : (edges : List Edge) (at : List ℕ) (p c v : ℕ) (entries sorted : List Entry) → JoinsRow edges at p c v entries → IsSortedRow entries sorted → JoinsRow edges at p c v sorted
JoinsRow-sorted edges at p c v entries sorted joins is = record {
  fit = All-sorted (EntryFits (Joined edges) at v) entries sorted is joins.fit;
  from = All-sorted (λ (e : Entry). p ≤ e.pos) entries sorted is joins.from;
  below = All-sorted (λ (e : Entry). e.pos < c) entries sorted is joins.below;
  once = once_from_rising sorted is.rising;
  hubs = λ e hub from low. (is.each e).1 (joins.hubs e hub from low);
  apart = All-sorted (λ e. ¬ IsCoveredBelow edges at p v e) entries sorted is joins.apart;
}
