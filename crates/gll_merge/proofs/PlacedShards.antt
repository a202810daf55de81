-- Shards at the places of their numbers.
use Rattle.std.proofs.Common.{◌≡◌, ◌≢◌, inl, inr, ℕ, zero, suc, ◌+◌, ◌<◌, ◌≤◌, ◌&&◌, true, false, true≢false, List, ◌∷◌, drop, get_or, length, replicate, slice_set, refl, sym, ap, subst, ◌∙◌, arith}
use Rattle.std.specs.Prelude.{Option, None, Some, is_some, nat_lt, not, ◌==◌, if◌then◌else◌}
use Rattle.std.proofs.lemmas.Bool.{and_from, and_left, and_right, cases_eq, eq-eqb, le-ltb, lt-ltb, ne_eqb, not_from_false, not_from_true}
use Rattle.std.proofs.lemmas.List.{at_drop_more, drop_all, get_or-replicate, get_or-set_other, get_or-set_same, get_or_default, length-replicate, length-set}
use Rattle.walk_laws.specs.declared.graph.Edge.{Edge}
use Rattle.walk_laws.specs.declared.entry.Entry.{Entry}
use Rattle.hub_index.specs.Shards.{shard_count}
use Rattle.gll_table.specs.Tables.{IsShardBelow}
use Rattle.gll_merge.specs.Merging.{ArePlaced, OneShard, are_filled, has_place, with_shard}

abbrev nothing : Option (List (List Entry))
nothing = None

same_some : (one other : List (List Entry)) → Some one ≡ Some other → one ≡ other
same_some one other is = ap (λ (place : Option (List (List Entry))). rows_in place) is
  where
    rows_in : Option (List (List Entry)) → List (List Entry)
    rows_in None = one
    rows_in (Some rows) = rows

-- what is read at a place
pub read_there : (places : List (Option (List (List Entry)))) (k : ℕ) (place : Option (List (List Entry))) → k < length places → place ≡ get_or places k place → get_or places k nothing ≡ place
read_there places k place within is = get_or_default places k nothing place within ∙ sym is

module _ (c : ℕ) (places : List (Option (List (List Entry)))) (shard : OneShard) where
  none_is_put : has_place c places shard ≡ false → places ≡ with_shard c places shard
  unfolding with_shard
  none_is_put out = sym (ap (λ b. if b then slice_set places shard.number (Some shard.rows) else places) out)

  -- a shard that has its place is put there
  pub is_put : shard.first ≡ c → shard.number < length places → is_some (get_or places shard.number nothing) ≡ false → slice_set places shard.number (Some shard.rows) ≡ with_shard c places shard
  unfolding has_place with_shard
  is_put up within free =
      let has : has_place c places shard ≡ true =
      and_from (shard.first == c && nat_lt shard.number (length places)) (not (is_some (get_or places shard.number nothing)))
      (and_from (shard.first == c) (nat_lt shard.number (length places)) (eq-eqb shard.first c up) (lt-ltb shard.number (length places) within))
      (not_from_false (is_some (get_or places shard.number nothing)) free) in
      sym (ap (λ b. if b then slice_set places shard.number (Some shard.rows) else places) has)

  -- one of another position isn't
  pub other_position : shard.first ≢ c → places ≡ with_shard c places shard
  unfolding has_place
  other_position other =
      none_is_put
      (and_left (shard.first == c && nat_lt shard.number (length places)) (not (is_some (get_or places shard.number nothing)))
      (and_left (shard.first == c) (nat_lt shard.number (length places)) (ne_eqb shard.first c other)))

  -- one without a place isn't
  pub no_place : length places ≤ shard.number → places ≡ with_shard c places shard
  unfolding has_place
  no_place past =
      none_is_put
      (and_left (shard.first == c && nat_lt shard.number (length places)) (not (is_some (get_or places shard.number nothing)))
      (and_right (shard.first == c) (nat_lt shard.number (length places)) (le-ltb shard.number (length places) past)))

  -- one whose place is taken isn't
  pub place_taken : is_some (get_or places shard.number nothing) ≡ true → places ≡ with_shard c places shard
  unfolding has_place
  place_taken taken =
      none_is_put
      (and_right (shard.first == c && nat_lt shard.number (length places)) (not (is_some (get_or places shard.number nothing)))
      (not_from_true (is_some (get_or places shard.number nothing)) taken))

module _ (edges : List Edge) (at : List ℕ) (shift c : ℕ) where
  -- places with nothing
  pub ArePlaced-none : (count : ℕ) → c ≤ length at → count ≡ shard_count shift (length at) → ArePlaced edges at shift c (replicate count nothing)
  ArePlaced-none count within is = record {
    within = within;
    count = length-replicate count nothing ∙ is;
    below = λ k rows there found. absurd (true≢false (sym (ap is_some (sym (get_or-replicate count k nothing nothing (omega (arith, there, length-replicate count nothing))) ∙ found))));
  }

  -- one more shard at the place of its number
  pub ArePlaced-put : (places : List (Option (List (List Entry)))) (number : ℕ) (rows : List (List Entry)) → IsShardBelow edges at shift c number rows → ArePlaced edges at shift c places → ArePlaced edges at shift c (slice_set places number (Some rows))
  ArePlaced-put places number rows shard placed = record {
    within = placed.within;
    count = length-set places number (Some rows) ∙ placed.count;
    below = λ k found there is.
        let within : k < length places = omega (arith, there, length-set places number (Some rows)) in
        elim (cases_eq k number) [
          | inl here ↦
              let same : rows ≡ found = same_some rows found (sym (get_or-set_same places number (Some rows) nothing (omega (arith, here, within))) ∙ ap (λ i. get_or (slice_set places number (Some rows)) i nothing) (sym here) ∙ is) in
              subst (λ i. IsShardBelow edges at shift c i found) (sym here) (subst (IsShardBelow edges at shift c number) same shard)
          | inr other ↦ placed.below k found within (sym (get_or-set_other places number k (Some rows) nothing other) ∙ is)
        ];
  }

-- whether the places from one on are filled: that one, and those after it
pub filled_from : (places : List (Option (List (List Entry)))) (k : ℕ) (place : Option (List (List Entry))) → k < length places → place ≡ get_or places k place → are_filled (drop k places) ≡ is_some place && are_filled (drop (k + 1) places)
unfolding are_filled
filled_from places k place within is = at_drop_more are_filled places k place within ∙ ap (λ p. is_some p && are_filled (drop (k + 1) places)) (sym is)

-- there is none past the last
pub filled_past : (places : List (Option (List (List Entry)))) (k : ℕ) → length places ≤ k → are_filled (drop k places) ≡ true
unfolding are_filled
filled_past places k past = ap are_filled (drop_all k places past)

-- places with nothing aren't filled
pub none_filled : (count : ℕ) → 1 ≤ count → are_filled (replicate count nothing) ≡ false
unfolding are_filled
none_filled zero some = absurd (omega (arith, some))
none_filled (suc count) some = refl

-- of filled places, the first one is filled, and the others
pub filled_first : (place : Option (List (List Entry))) (places : List (Option (List (List Entry)))) → are_filled (place ∷ places) ≡ true → (is_some place ≡ true) × (are_filled places ≡ true)
unfolding are_filled
filled_first None places is = absurd (true≢false (sym is))
filled_first (Some rows) places is = (refl, is)

module _ (P : ℕ → List (List Entry) → Type 0) (first next : ℕ) (place : Option (List (List Entry))) (places all : List (Option (List (List Entry)))) (all_is : all ≡ place ∷ places) (next_is : next ≡ first + 1) (to_come : (k : ℕ) (rows : List (List Entry)) → k < length all → get_or all k nothing ≡ Some rows → P (first + k) rows) where
  -- of places that are gone through, the first one's rows
  pub first_there : (rows : List (List Entry)) → place ≡ Some rows → P first rows
  first_there rows is =
      let here : first + 0 ≡ first = omega arith in
      subst (λ k. P k rows) here (to_come 0 rows (omega (arith, ap length all_is)) (ap (λ ps. get_or ps 0 nothing) all_is ∙ is))

  -- and those of the others
  pub others_there : (k : ℕ) (rows : List (List Entry)) → k < length places → get_or places k nothing ≡ Some rows → P (next + k) rows
  others_there k rows within is =
      let here : first + suc k ≡ next + k = omega (arith, next_is) in
      subst (λ i. P i rows) here (to_come (suc k) rows (omega (arith, within, ap length all_is)) (ap (λ ps. get_or ps (suc k) nothing) all_is ∙ is))
