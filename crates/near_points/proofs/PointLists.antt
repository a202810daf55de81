-- The rows of points by position: what their words and starts tell.
use Rattle.std.proofs.Common.{◌≡◌, ℕ, ◌+◌, ◌^◌, ◌<◌, ◌≤◌, List, [], ◌∷◌, ◌++◌, All, Contains, Option, Some, None, length, map, get_or, refl, sym, ap, subst, ◌∙◌, inl, inr, arith}
use Rattle.std.specs.List.Sorted.{IsNonDecreasing, IsPermutation}
use Rattle.std.proofs.lemmas.Bool.{cases_lt}
use Rattle.std.proofs.lemmas.List.{length-append, get_or_append_left, get_or-append-add, get_or_default}
use Rattle.std.proofs.lemmas.List.Elements.{All-append, All-contains, All-contains_itself, All-map, All-nil, All-weaker, Contains-append_left, Contains-append_right, Contains-push, Contains-push_cases}
use Rattle.std.proofs.lemmas.List.Sorted.{All-permutation, Contains-permutation}
use Rattle.walk_laws.specs.declared.entry.Entry.{Entry}
use Rattle.walk_laws.specs.Labelling.{label_row}
use Rattle.walk_laws.specs.Meet.{HasSum, IsMeet}
use Rattle.walk_laws.proofs.Members.{Contains-empty}
use Rattle.hub_index.specs.HubIndex.{HubIndex}
use Rattle.hub_index.specs.WellFormed.{IsWellFormed}
use Rattle.hub_query.proofs.Meetings.{meet_exists}
use Rattle.hub_query.proofs.RowFacts.{row_fits}
use Rattle.near_points.specs.declared.hit.Hit.{Hit}
use Rattle.near_points.specs.Nearest.{IsPointAway, IsNearest, AreFirst}
use Rattle.near_points.specs.PointWords.{word_of, word_at, word_pos, word_dist, word_node, IsPointWord, AreWordsOf, IsStart, AreStarts, IsInverted}
use Rattle.near_points.specs.Merging.{IsOfHub, IsLeastBy}
use Rattle.near_points.proofs.HitOrder.{AreFirst-same}
use Rattle.near_points.proofs.Members.{Contains-map}
use Rattle.near_points.proofs.WordFacts.{word_node-of, word_dist-of, word_pos-of, word_pos-rises, words_rise}

module _ (rows : List (List Entry)) where
  pub AreWordsOf-start : AreWordsOf rows [] []
  AreWordsOf-start = record {
    each = All-nil (IsPointWord rows []);
    all = λ v e point held. absurd (Contains-empty v point);
  }

  word_of_more : (nodes : List ℕ) (v : ℕ) (word : ℕ) → IsPointWord rows nodes word → IsPointWord rows (nodes ++ v ∷ []) word
  word_of_more nodes v word is = record { node = is.node; entry = is.entry; point = Contains-append_left nodes (v ∷ []) is.node is.point; held = is.held; is = is.is }

  -- the words of one more node
  pub AreWordsOf-more : (nodes : List ℕ) (v : ℕ) (words : List ℕ) → AreWordsOf rows nodes words → AreWordsOf rows (nodes ++ v ∷ []) (words ++ map (λ e. word_of e.pos e.dist v) (label_row rows v))
  AreWordsOf-more nodes v words are =
      let own : List ℕ = map (λ e. word_of e.pos e.dist v) (label_row rows v) in
      record {
        each = All-append (IsPointWord rows (nodes ++ v ∷ [])) words own
            (All-weaker (IsPointWord rows nodes) (IsPointWord rows (nodes ++ v ∷ [])) (word_of_more nodes v) words are.each)
            (All-map (IsPointWord rows (nodes ++ v ∷ [])) (λ e. word_of e.pos e.dist v) (label_row rows v)
            (λ i d lt. record { node = v; entry = get_or (label_row rows v) i d; point = Contains-push nodes v; held = All-contains_itself (label_row rows v) i d lt; is = refl }));
        all = λ u e point held. elim (Contains-push_cases nodes v u point) [
          | inl old ↦ Contains-append_left words own (word_of e.pos e.dist u) (are.all u e old held)
          | inr new ↦
              let there : Contains (label_row rows v) e = subst (λ x. Contains (label_row rows x) e) (sym new) held in
              subst (λ x. Contains (words ++ own) (word_of e.pos e.dist x)) new
              (Contains-append_right words own (word_of e.pos e.dist v) (Contains-map (λ (e : Entry). word_of e.pos e.dist v) (label_row rows v) e there))
        ];
      }

  pub AreWordsOf-sorted : (nodes words sorted : List ℕ) → IsPermutation words sorted → AreWordsOf rows nodes words → AreWordsOf rows nodes sorted
  AreWordsOf-sorted nodes words sorted moved are = record {
    each = All-permutation (IsPointWord rows nodes) words sorted moved are.each;
    all = λ v e point held. Contains-permutation words sorted (word_of e.pos e.dist v) moved (are.all v e point held);
  }

-- the words of the position start where all before are of lesser ones, and this one isn't
pub IsStart-here : (words : List ℕ) (pos place : ℕ) → IsNonDecreasing words → place ≤ length words → ((i : ℕ) → i < place → word_pos (word_at words i) < pos) → (place < length words → pos ≤ word_pos (word_at words place)) → IsStart words pos place
IsStart-here words pos place rising within before here = record {
  within = within;
  before = before;
  after = λ i from inside.
      let first = here (omega (arith, from, inside)) in
      let more = word_pos-rises (word_at words place) (word_at words i) (words_rise words rising place i from inside) in
      omega (arith, first, more);
}

-- one more position has its start
pub AreStarts-more : (words starts : List ℕ) (start : ℕ) → AreStarts words starts → IsStart words (length starts) start → AreStarts words (starts ++ start ∷ [])
AreStarts-more words starts start are is = λ p lt. elim (cases_lt p (length starts)) [
  | inl before ↦ subst (IsStart words p) (sym (get_or_append_left starts (start ∷ []) 0 p before)) (are p before)
  | inr here ↦
      let long : length (starts ++ start ∷ []) ≡ length starts + length (start ∷ []) = length-append starts (start ∷ []) in
      let last : p ≡ length starts = omega (arith, here, lt, long) in
      let at_end : p ≡ length starts + 0 = omega (arith, last) in
      let same : get_or (starts ++ start ∷ []) p 0 ≡ start = ap (λ i. get_or (starts ++ start ∷ []) i 0) at_end ∙ get_or-append-add starts (start ∷ []) 0 0 in
      subst (IsStart words p) (sym same) (subst (λ q. IsStart words q start) (sym last) is)
]

module _ (index : HubIndex) (nodes words starts : List ℕ) (inverted : IsInverted index nodes words starts) (well : IsWellFormed index.order index.rows) where
  -- a node is small
  node_small : (v : ℕ) → Contains nodes v → v < 2 ^ 32
  node_small v there =
      let within = All-contains (λ v. (1 ≤ v) × (v ≤ length index.order)) nodes v inverted.within there in
      omega (arith, within.1, well.small)

  dist_short : (v : ℕ) (e : Entry) → Contains nodes v → Contains (label_row index.rows v) e → e.dist < 2 ^ 64
  dist_short v e there held =
      let within = All-contains (λ v. (1 ≤ v) × (v ≤ length index.order)) nodes v inverted.within there in
      All-contains (λ (e : Entry). e.dist < 2 ^ 64) (label_row index.rows v) e (row_fits index.order index.rows v well within.0 within.1) held

  -- the point of a word, its position and its distance
  module _ (word : ℕ) (is : IsPointWord index.rows nodes word) where
    of_node : word_node word ≡ is.node
    of_node = ap word_node is.is ∙ word_node-of is.entry.pos is.entry.dist is.node (node_small is.node is.point)

    of_dist : word_dist word ≡ is.entry.dist
    of_dist = ap word_dist is.is ∙ word_dist-of is.entry.pos is.entry.dist is.node (dist_short is.node is.entry is.point is.held) (node_small is.node is.point)

    of_pos : word_pos word ≡ is.entry.pos
    of_pos = ap word_pos is.is ∙ word_pos-of is.entry.pos is.entry.dist is.node (dist_short is.node is.entry is.point is.held) (node_small is.node is.point)

  -- so each word's point is a node
  pub words_nodes : All (λ w. word_node w < length index.order + 1) words
  words_nodes i d lt =
      let is = inverted.are.each i d lt in
      let within = All-contains (λ v. (1 ≤ v) × (v ≤ length index.order)) nodes is.node inverted.within is.point in
      omega (arith, of_node (get_or words i d) is, within.1)

  module _ (source : ℕ) (from_one : 1 ≤ source) (up_to_n : source ≤ length index.order) where
    abbrev row : List Entry
    row = label_row index.rows source

    entry_is : (e : Entry) (p d : ℕ) → e.pos ≡ p → e.dist ≡ d → e ≡ record { pos = p; dist = d }
    entry_is e p d pos dist = λ i. record { pos = pos i; dist = dist i }

    -- a place of a hub is a sum of the two rows
    sum_at : (e : Entry) (i v : ℕ) → IsOfHub words row e i → word_node (word_at words i) ≡ v → Contains nodes v × HasSum row (label_row index.rows v) e.pos (e.dist + word_dist (word_at words i))
    sum_at e i v hub node =
        let is = inverted.are.each i 0 hub.inside in
        let word = word_at words i in
        let same : is.node ≡ v = sym (of_node word is) ∙ node in
        let entry : is.entry ≡ record { pos = e.pos; dist = word_dist word } = entry_is is.entry e.pos (word_dist word) (sym (of_pos word is) ∙ hub.same) (sym (of_dist word is)) in (
          subst (Contains nodes) same is.point,
          record {
            before = e.dist;
            after = word_dist word;
            in_first = hub.entry;
            in_second = subst (λ x. Contains (label_row index.rows x) (record { pos = e.pos; dist = word_dist word })) same (subst (Contains (label_row index.rows is.node)) entry is.held);
            long = refl;
          },
        )

    -- and a sum has a place
    place_of : (v p d : ℕ) → Contains nodes v → (s : HasSum row (label_row index.rows v) p d) → (i : ℕ) × IsOfHub words row (record { pos = p; dist = s.before }) i × (word_node (word_at words i) ≡ v) × (word_dist (word_at words i) ≡ s.after)
    place_of v p d point s =
        let e : Entry = record { pos = p; dist = s.after } in
        let there : Contains words (word_of p s.after v) = inverted.are.all v e point s.in_second in
        let word : word_at words there.0 ≡ word_of p s.after v = get_or_default words there.0 0 (word_of p s.after v) there.1 ∙ there.2 in
        let short : s.after < 2 ^ 64 = dist_short v e point s.in_second in
        let small = node_small v point in (
          there.0,
          record { entry = s.in_first; inside = there.1; same = ap word_pos word ∙ word_pos-of p s.after v short small },
          ap word_node word ∙ word_node-of p s.after v small,
          ap word_dist word ∙ word_dist-of p s.after v short small,
        )

    -- a sum is no less than the least
    least_sum : (h : Hit) → IsLeastBy words row h → Contains nodes h.node → (p d : ℕ) → HasSum row (label_row index.rows h.node) p d → h.dist ≤ d
    least_sum h least point p d s =
        let place = place_of h.node p d point s in
        let le = least.least (record { pos = p; dist = s.before }) place.0 place.1 place.2 in
        omega (arith, le, place.3, s.long)

    away_from : (h : Hit) → IsLeastBy words row h → Contains nodes h.node → (p : ℕ) → HasSum row (label_row index.rows h.node) p h.dist → (answer : Option (ℕ × ℕ)) → IsMeet index.order index.rows source h.node answer → IsPointAway index.order index.rows nodes source h
    away_from h least point p sum None meet = absurd (meet p h.dist sum)
    away_from h least point p sum (Some answer) meet =
        let no_more : answer.0 ≤ h.dist = meet.2.least p h.dist sum in
        let no_less : h.dist ≤ answer.0 = least_sum h least point meet.0 answer.0 meet.2.sum in
        let same : answer.0 ≡ h.dist = omega (arith, no_more, no_less) in
        record { point = point; hub = answer.1; meet = subst (λ d. IsMeet index.order index.rows source h.node (Some (d, answer.1))) same meet }

    -- the least distance by the lists is what the rows say
    pub least_is_away : (h : Hit) → IsLeastBy words row h → IsPointAway index.order index.rows nodes source h
    least_is_away h least =
        let sum = sum_at least.entry least.place h.node least.hub least.node in
        let within = All-contains (λ v. (1 ≤ v) × (v ≤ length index.order)) nodes h.node inverted.within sum.0 in
        let told = meet_exists index.order index.rows source h.node well from_one up_to_n within.0 within.1 in
        away_from h least sum.0 least.entry.pos (subst (HasSum row (label_row index.rows h.node) least.entry.pos) least.sum sum.1) told.0 told.1

    -- and the other way
    pub away_is_least : (h : Hit) → IsPointAway index.order index.rows nodes source h → IsLeastBy words row h
    away_is_least h away =
        let p = away.meet.0 in
        let best = away.meet.2 in
        let place = place_of h.node p h.dist away.point best.sum in
        record {
          entry = record { pos = p; dist = best.sum.before };
          place = place.0;
          hub = place.1;
          node = place.2;
          sum = ap (λ d. best.sum.before + d) place.3 ∙ best.sum.long;
          least = λ e i hub node. let other = sum_at e i h.node hub node in best.least e.pos (e.dist + word_dist (word_at words i)) other.1;
        }

    -- so the first of the lists are the nearest
    pub nearest_from_lists : (k : ℕ) (hits : List Hit) → AreFirst (IsLeastBy words row) k hits → IsNearest index.order index.rows nodes source k hits
    nearest_from_lists k hits first = AreFirst-same (IsLeastBy words row) (IsPointAway index.order index.rows nodes source) k hits least_is_away away_is_least first
