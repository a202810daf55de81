-- Where two rows meet, as they are walked from their starts.
use Rattle.std.proofs.Common.{◌≡◌, ℕ, ◌+◌, ◌<◌, ◌≤◌, List, Contains, length, get_or, refl, sym, ap, subst, inl, inr, arith}
use Rattle.std.proofs.lemmas.Bool.{cases_lt, cases_eq}
use Rattle.std.proofs.lemmas.List.Elements.{Contains-get_or}
use Rattle.walk_laws.specs.declared.entry.Entry.{Entry}
use Rattle.walk_laws.proofs.LabelRows.{Rises}
use Rattle.hub_query.proofs.Sums.{pos_of}
use Rattle.index_audit.specs.Places.{pos_at, BelowUpTo}
use Rattle.index_audit.specs.Checks.{MeetAt, IsFirstMeet}
use Rattle.index_audit.proofs.Searched.{nothing, at_place, rises_at, rises_up_to, same_place}

module _ (first second : List Entry) (dist : ℕ) where
  -- the rows don't meet at the position of the place k of the first
  abbrev pub MissesAt : ℕ → Type 0
  MissesAt k = (q : ℕ) → q ≡ pos_at first k → MeetAt first second dist q → ⊥

  -- the second row has been walked up to `from`, and the first up to k
  pub record HasMissed (k from : ℕ) : Type 0 where
    pub within : from ≤ length second
    pub after : (i : ℕ) → k ≤ i → i < length first → BelowUpTo second from (pos_at first i)
    pub none : (i : ℕ) → i < k → MissesAt i

  pub start : HasMissed 0 0
  start = record { within = omega arith; after = λ i le lt j below. absurd (omega (arith, below)); none = λ i lt. absurd (omega (arith, lt)) }

  module _ (up : Rises pos_of first) (others_up : Rises pos_of second) (k from : ℕ) (was : HasMissed k from) (inside : k < length first) where
    abbrev pub e : Entry
    e = get_or first k nothing

    before_of : (q : ℕ) → q ≡ pos_at first k → (m : MeetAt first second dist q) → m.both.before ≡ e.dist
    before_of q level m = ap (λ (x : Entry). x.dist) (sym (same_place first up (record { pos = q; dist = m.both.before }) k m.both.in_first inside level))

    none_so_far : (i : ℕ) → i < k + 1 → MissesAt k → MissesAt i
    none_so_far i lt here = elim (cases_eq i k) [
      | inl same ↦ subst MissesAt (sym same) here
      | inr other ↦ was.none i (omega (arith, lt, other))
    ]

    -- past an entry of the first row that is too far
    pub past_far : dist < e.dist → HasMissed (k + 1) from
    past_far far = record {
      within = was.within;
      after = λ i le. was.after i (omega arith);
      none = λ i lt. none_so_far i lt (λ q level m. omega (arith, before_of q level m, m.both.long, m.short, far));
    }

    module _ (next : ℕ) (within : next ≤ length second) (passed : BelowUpTo second next (pos_at first k)) where
      after_next : (i : ℕ) → k + 1 ≤ i → i < length first → BelowUpTo second next (pos_at first i)
      after_next i le lt j below = omega (arith, passed j below, rises_at first up k i (omega arith) lt)

      -- the rows meet at no place of the first before k
      not_after : (q : ℕ) → (m : MeetAt first second dist q) → q < pos_at first k → ⊥
      not_after q m lt =
          let h = m.both.in_first in
          let here : pos_at first h.0 ≡ q = ap pos_of (at_place first (record { pos = q; dist = m.both.before }) h) in
          elim (cases_lt h.0 k) [
            | inl before ↦ was.none h.0 before q (sym here) m
            | inr after ↦ omega (arith, rises_up_to first up k h.0 after h.1, here, lt)
          ]

      pub not_below : (q : ℕ) → MeetAt first second dist q → pos_at first k ≤ q
      not_below q m = elim (cases_lt q (pos_at first k)) [
        | inl below ↦ absurd (not_after q m below)
        | inr above ↦ above
      ]

      -- nor at one from k on, where all of the second row is after
      pub none_left : length second ≤ next → (q : ℕ) → MeetAt first second dist q → ⊥
      none_left over q m =
          let h = m.both.in_second in
          let here : pos_at second h.0 ≡ q = ap pos_of (at_place second (record { pos = q; dist = m.both.after }) h) in
          omega (arith, not_below q m, passed h.0 (omega (arith, h.1, over)), here)

      module _ (some : next < length second) (stops : pos_at first k ≤ pos_at second next) where
        abbrev pub other : Entry
        other = get_or second next nothing

        -- where they meet at the place k, it is at the place `next` of the second
        level_there : (q : ℕ) → q ≡ pos_at first k → (m : MeetAt first second dist q) → get_or second next nothing ≡ record { pos = q; dist = m.both.after }
        level_there q level m =
            let h = m.both.in_second in
            let f : Entry = record { pos = q; dist = m.both.after } in
            let here : pos_at second h.0 ≡ q = ap pos_of (at_place second f h) in
            elim (cases_lt h.0 next) [
              | inl before ↦ absurd (omega (arith, passed h.0 before, here, level))
              | inr not_before ↦ elim (cases_lt next h.0) [
                | inl after ↦ absurd (omega (arith, rises_at second others_up next h.0 after h.1, here, level, stops))
                | inr even ↦ let same : h.0 ≡ next = omega (arith, not_before, even) in subst (λ i. get_or second i nothing ≡ f) same (at_place second f h)
              ]
            ]

        -- past an entry of the first row whose position the second lacks, or has too far
        pub past : (other.pos ≡ e.pos → dist < e.dist + other.dist) → HasMissed (k + 1) next
        past long = record {
          within = within;
          after = after_next;
          none = λ i lt. none_so_far i lt (λ q level m.
              let there = level_there q level m in
              let same : other.pos ≡ e.pos = omega (arith, ap pos_of there, level) in
              omega (arith, long same, before_of q level m, ap (λ (x : Entry). x.dist) there, m.both.long, m.short));
        }

        -- they meet at the place k first
        pub met : other.pos ≡ e.pos → e.dist + other.dist ≤ dist → IsFirstMeet first second dist e.pos
        met same short = record {
          here = record {
            sum = e.dist + other.dist;
            both = record {
              before = e.dist;
              after = other.dist;
              in_first = Contains-get_or first k nothing inside;
              in_second = subst (λ p. Contains second (record { pos = p; dist = other.dist })) same (Contains-get_or second next nothing some);
              long = refl;
            };
            short = short;
          };
          least = not_below;
        }

  -- at the end of the first row
  pub none_at_end : (k from : ℕ) → HasMissed k from → length first ≤ k → (q : ℕ) → MeetAt first second dist q → ⊥
  none_at_end k from was over q m =
      let h = m.both.in_first in
      was.none h.0 (omega (arith, h.1, over)) q (sym (ap pos_of (at_place first (record { pos = q; dist = m.both.before }) h))) m
