-- How far a row has been walked over a table that holds another, and the best sum so far.
use Rattle.std.proofs.Common.{◌≡◌, ◌⊎◌, ℕ, zero, suc, ◌+◌, ◌^◌, ◌<◌, ◌≤◌, List, [], ◌∷◌, All, length, get_or, refl, sym, ap, subst, ◌∙◌, inl, inr, arith}
use Rattle.std.proofs.lemmas.Bool.{cases_lt}
use Rattle.std.proofs.lemmas.List.{get_or_default}
use Rattle.std.proofs.lemmas.List.Elements.{All-contains, Contains-get_or}
use Rattle.walk_laws.specs.declared.entry.Entry.{Entry}
use Rattle.walk_laws.specs.Meet.{HasSum, IsLeastSum, ShareNone}
use Rattle.walk_laws.proofs.LabelRows.{Rises, Rises-first, Rises-rest}
use Rattle.hub_query.specs.HubTables.{far, distance_at, HoldsRow}
use Rattle.hub_query.proofs.HeldRows.{at_position}
use Rattle.hub_query.proofs.Sums.{pos_of}
use Rattle.hub_query.proofs.Walked.{IsNoWorse, nothing}

-- in a rising row positions rise
pub rising_at : (row : List Entry) (i j : ℕ) → Rises pos_of row → i < j → j < length row → (get_or row i nothing).pos < (get_or row j nothing).pos
rising_at [] i j up lt within = absurd (omega (arith, within))
rising_at (a ∷ row) i zero up lt within = absurd (omega (arith, lt))
rising_at (a ∷ row) zero (suc j) up lt within = Rises-first pos_of a (get_or row j nothing) row up (Contains-get_or row j nothing (omega arith))
rising_at (a ∷ row) (suc i) (suc j) up lt within = rising_at row i j (Rises-rest pos_of a row up) (omega arith) (omega arith)

module _ (table : List ℕ) (row : List Entry) where
  abbrev pub place_at : ℕ → ℕ
  place_at j = (get_or row j nothing).pos

  -- the sum at a place of the row
  abbrev pub sum_at : ℕ → ℕ
  sum_at j = distance_at table (get_or row j nothing).pos + (get_or row j nothing).dist

  -- of the first k entries least at pos is the best sum
  pub record Through (k pos least : ℕ) : Type 0 where
    pub no_better : (j : ℕ) → j < k → j < length row → IsNoWorse pos least (place_at j) (sum_at j)
    pub ahead : (j : ℕ) → k ≤ j → j < length row → pos ≤ place_at j
    pub found : (least ≡ far) ⊎ ((j : ℕ) × (j < length row) × (pos ≡ place_at j) × (least ≡ sum_at j))
    pub low : least ≤ far

  pub Through-start : Through 0 0 far
  Through-start = record { no_better = λ j lt within. absurd (omega (arith, lt)); ahead = λ j le within. omega arith; found = inl refl; low = omega arith }

  module _ (k pos least d : ℕ) (lt : k < length row) (was : Through k pos least) (read : d ≡ distance_at table (get_or row k nothing).pos) where
    is_sum : d + (get_or row k nothing).dist ≡ sum_at k
    is_sum = ap (λ x. x + (get_or row k nothing).dist) read

    taken : Rises pos_of row → sum_at k < least → Through (k + 1) (place_at k) (sum_at k)
    taken up less = record {
      no_better = λ j before within. elim (cases_lt j k) [
        | inl earlier ↦ let old = was.no_better j earlier within in record { sum = omega (arith, old.sum, less); place = λ tie. absurd (omega (arith, old.sum, less, tie)) }
        | inr here ↦ let same : k ≡ j = omega arith in subst (λ i. IsNoWorse (place_at k) (sum_at k) (place_at i) (sum_at i)) same (record { sum = omega arith; place = λ tie. omega arith })
      ];
      ahead = λ j after within. let up_to = rising_at row k j up (omega arith) within in omega (arith, up_to);
      found = inr (k, lt, refl, refl);
      low = omega (arith, was.low, less);
    }

    -- past an entry whose sum is less
    pub Through-take : Rises pos_of row → d + (get_or row k nothing).dist < least → Through (k + 1) (get_or row k nothing).pos (d + (get_or row k nothing).dist)
    Through-take up less = subst (Through (k + 1) (place_at k)) (sym is_sum) (taken up (omega (arith, less, is_sum)))

    -- past one whose sum is no less
    pub Through-keep : least ≤ d + (get_or row k nothing).dist → Through (k + 1) pos least
    Through-keep no_less = record {
      no_better = λ j before within. elim (cases_lt j k) [
        | inl earlier ↦ was.no_better j earlier within
        | inr here ↦ let same : k ≡ j = omega arith in subst (λ i. IsNoWorse pos least (place_at i) (sum_at i)) same (record { sum = omega (arith, no_less, is_sum); place = λ tie. was.ahead k (omega arith) lt })
      ];
      ahead = λ j after within. was.ahead j (omega arith) within;
      found = was.found;
      low = was.low;
    }

  -- at the end of the row
  module _ (k pos least : ℕ) (over : length row ≤ k) (was : Through k pos least) (held : List Entry) (holds : HoldsRow held table) where
    no_worse : (q e : ℕ) → HasSum held row q e → IsNoWorse pos least q e
    no_worse q e s =
        let j = s.in_second.0 in
        let within : j < length row = s.in_second.1 in
        let is : get_or row j nothing ≡ at_position q s.after = get_or_default row j nothing (at_position q s.after) within ∙ s.in_second.2 in
        let before : distance_at table q ≡ s.before = holds.held (at_position q s.before) s.in_first in
        let place : place_at j ≡ q = ap pos_of is in
        let sum : sum_at j ≡ e = ap (λ (x : Entry). distance_at table x.pos + x.dist) is ∙ ap (λ d. d + s.after) before ∙ s.long in
        subst (IsNoWorse pos least q) sum (subst (λ p. IsNoWorse pos least p (sum_at j)) place (was.no_better j (omega arith) within))

    pub Through-none : All (λ (e : Entry). e.dist < 2 ^ 62) held → All (λ (e : Entry). e.dist < 2 ^ 62) row → least ≡ far → ShareNone held row
    Through-none fits others_fit none p d s =
        let short : s.before < 2 ^ 62 = All-contains (λ (x : Entry). x.dist < 2 ^ 62) held (at_position p s.before) fits s.in_first in
        let others_short : s.after < 2 ^ 62 = All-contains (λ (x : Entry). x.dist < 2 ^ 62) row (at_position p s.after) others_fit s.in_second in
        omega (arith, (no_worse p d s).sum, s.long, none)

    sum_found : (least ≡ far → ⊥) → HasSum held row pos least
    sum_found some = elim was.found [
      | inl none ↦ absurd (some none)
      | inr at ↦
          let j = at.0 in
          let same : pos ≡ place_at j = at.2 in
          let y = get_or row j nothing in
          elim (holds.others y.pos) [
            | inl none ↦ absurd (omega (arith, none, at.3, was.low, some_less some))
            | inr there ↦
                subst (λ p. HasSum held row p least) (sym same) (record {
                  before = distance_at table y.pos;
                  after = y.dist;
                  in_first = there;
                  in_second = Contains-get_or row j nothing at.1;
                  long = sym at.3;
                })
          ]
    ]
      where
        some_less : (least ≡ far → ⊥) → least < far
        some_less other = elim (cases_lt least far) [ inl less ↦ less | inr more ↦ absurd (other (omega (arith, more, was.low))) ]

    pub Through-some : (least ≡ far → ⊥) → IsLeastSum held row pos least
    Through-some some = record { sum = sum_found some; least = λ q e s. (no_worse q e s).sum; highest = λ q s. (no_worse q least s).place (omega arith) }
