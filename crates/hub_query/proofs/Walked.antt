-- How far two rows have been walked, and the best sum so far.
use Rattle.std.proofs.Common.{◌≡◌, ◌⊎◌, ℕ, ◌+◌, ◌<◌, ◌≤◌, List, [], ◌∷◌, All, Contains, length, drop, get_or, sym, ap, subst, ◌∙◌, inl, inr, arith}
use Rattle.std.proofs.lemmas.List.{drop_more, drop_all}
use Rattle.std.proofs.lemmas.List.Elements.{All-contains}
use Rattle.walk_laws.specs.declared.entry.Entry.{Entry}
use Rattle.walk_laws.specs.Meet.{HasSum, IsLeastSum, ShareNone}
use Rattle.walk_laws.proofs.LabelRows.{Rises, Rises-first, Rises-rest}
use Rattle.walk_laws.proofs.Members.{Contains-first, Contains-next, Contains-empty}
use Rattle.hub_query.proofs.Sums.{pos_of, HasSum-more, HasSum-past_first, HasSum-past_second, HasSum-past_both}

-- the sum least at pos is less than e at q, or is as much at no later position
pub record IsNoWorse (pos least q e : ℕ) : Type 0 where
  pub sum : least ≤ e
  pub place : e ≤ least → pos ≤ q

-- of two rows the parts xs and ys are left, and least at pos is the best sum of the others; it is `unset` while none has been found
pub record Walked (unset : ℕ) (first second xs ys : List Entry) (pos least : ℕ) : Type 0 where
  pub first_rises : Rises pos_of xs
  pub second_rises : Rises pos_of ys
  pub first_has : (x : Entry) → Contains xs x → Contains first x
  pub second_has : (y : Entry) → Contains ys y → Contains second y
  pub best : (q e : ℕ) → HasSum first second q e → HasSum xs ys q e ⊎ IsNoWorse pos least q e
  pub found : (least ≡ unset) ⊎ HasSum first second pos least
  pub before : (least ≡ unset) ⊎ ((q e : ℕ) → HasSum xs ys q e → pos < q)

module _ (unset : ℕ) (first second : List Entry) where
  -- before the first step
  pub Walked-start : Rises pos_of first → Rises pos_of second → Walked unset first second first second 0 unset
  Walked-start up others_up = record {
    first_rises = up;
    second_rises = others_up;
    first_has = λ x h. h;
    second_has = λ y h. h;
    best = λ q e s. inl s;
    found = inl (omega arith);
    before = inl (omega arith);
  }

  module _ (a b : Entry) (xs ys : List Entry) (pos least : ℕ) (w : Walked unset first second (a ∷ xs) (b ∷ ys) pos least) where
    first_later : (x : Entry) → Contains xs x → Contains first x
    first_later x h = w.first_has x (Contains-next a x xs h)

    second_later : (y : Entry) → Contains ys y → Contains second y
    second_later y h = w.second_has y (Contains-next b y ys h)

    -- past a lesser position of the first row
    pub Walked-past_first : a.pos < b.pos → Walked unset first second xs (b ∷ ys) pos least
    Walked-past_first less = record {
      first_rises = Rises-rest pos_of a xs w.first_rises;
      second_rises = w.second_rises;
      first_has = first_later;
      second_has = w.second_has;
      best = λ q e s. elim (w.best q e s) [ inl left ↦ inl (HasSum-past_first a b xs ys q e left w.second_rises less) | inr worse ↦ inr worse ];
      found = w.found;
      before = elim w.before [
        | inl none ↦ inl none
        | inr later ↦ inr (λ q e s. later q e (HasSum-more xs (b ∷ ys) (a ∷ xs) (b ∷ ys) q e (λ x h. Contains-next a x xs h) (λ y h. h) s))
      ];
    }

    -- past a lesser position of the second
    pub Walked-past_second : b.pos < a.pos → Walked unset first second (a ∷ xs) ys pos least
    Walked-past_second less = record {
      first_rises = w.first_rises;
      second_rises = Rises-rest pos_of b ys w.second_rises;
      first_has = w.first_has;
      second_has = second_later;
      best = λ q e s. elim (w.best q e s) [ inl left ↦ inl (HasSum-past_second a b xs ys q e left w.first_rises less) | inr worse ↦ inr worse ];
      found = w.found;
      before = elim w.before [
        | inl none ↦ inl none
        | inr later ↦ inr (λ q e s. later q e (HasSum-more (a ∷ xs) ys (a ∷ xs) (b ∷ ys) q e (λ x h. h) (λ y h. Contains-next b y ys h) s))
      ];
    }

    module _ (same : a.pos ≡ b.pos) where
      here : HasSum (a ∷ xs) (b ∷ ys) a.pos (a.dist + b.dist)
      here = record {
        before = a.dist;
        after = b.dist;
        in_first = Contains-first a xs;
        in_second = subst (λ p. Contains (b ∷ ys) (record { pos = p; dist = b.dist })) (sym same) (Contains-first b ys);
        long = omega arith;
      }

      later_sum : (q e : ℕ) → HasSum xs ys q e → a.pos < q
      later_sum q e s = Rises-first pos_of a (record { pos = q; dist = s.before }) xs w.first_rises s.in_first

      -- past a position of both, whose sum is no less
      pub Walked-keep : least ≤ a.dist + b.dist → a.dist + b.dist < unset → Walked unset first second xs ys pos least
      Walked-keep no_less short = record {
        first_rises = Rises-rest pos_of a xs w.first_rises;
        second_rises = Rises-rest pos_of b ys w.second_rises;
        first_has = first_later;
        second_has = second_later;
        best = λ q e s. elim (w.best q e s) [ inl left ↦ still q e left | inr worse ↦ inr worse ];
        found = w.found;
        before = elim w.before [
          | inl none ↦ inl none
          | inr later ↦ inr (λ q e s. later q e (HasSum-more xs ys (a ∷ xs) (b ∷ ys) q e (λ x h. Contains-next a x xs h) (λ y h. Contains-next b y ys h) s))
        ];
      }
        where
          earlier : (least ≡ unset) ⊎ (pos < a.pos)
          earlier = elim w.before [ inl none ↦ inl none | inr later ↦ inr (later a.pos (a.dist + b.dist) here) ]

          still : (q e : ℕ) → HasSum (a ∷ xs) (b ∷ ys) q e → HasSum xs ys q e ⊎ IsNoWorse pos least q e
          still q e s = elim (HasSum-past_both a b xs ys q e s w.first_rises w.second_rises same) [
            | inr left ↦ inl left
            | inl is ↦ elim earlier [
              | inl none ↦ absurd (omega (arith, none))
              | inr less ↦ inr (record { sum = omega (arith, is.1); place = λ tie. omega (arith, is.0) })
            ]
          ]

      -- past a position of both, whose sum is less
      pub Walked-take : a.dist + b.dist < least → Walked unset first second xs ys a.pos (a.dist + b.dist)
      Walked-take less = record {
        first_rises = Rises-rest pos_of a xs w.first_rises;
        second_rises = Rises-rest pos_of b ys w.second_rises;
        first_has = first_later;
        second_has = second_later;
        best = λ q e s. elim (w.best q e s) [ inl left ↦ still q e left | inr worse ↦ inr (record { sum = omega (arith, worse.sum); place = λ tie. absurd (omega (arith, worse.sum)) }) ];
        found = inr (HasSum-more (a ∷ xs) (b ∷ ys) first second a.pos (a.dist + b.dist) w.first_has w.second_has here);
        before = inr later_sum;
      }
        where
          still : (q e : ℕ) → HasSum (a ∷ xs) (b ∷ ys) q e → HasSum xs ys q e ⊎ IsNoWorse a.pos (a.dist + b.dist) q e
          still q e s = elim (HasSum-past_both a b xs ys q e s w.first_rises w.second_rises same) [
            | inr left ↦ inl left
            | inl is ↦ inr (record { sum = omega (arith, is.1); place = λ tie. omega (arith, is.0) })
          ]

  -- at the end of a row
  module _ (xs ys : List Entry) (pos least : ℕ) (w : Walked unset first second xs ys pos least) (over : (xs ≡ []) ⊎ (ys ≡ [])) where
    none_left : (q e : ℕ) → HasSum xs ys q e → ⊥
    none_left q e s = elim over [
      | inl end ↦ Contains-empty (record { pos = q; dist = s.before }) (subst (λ l. Contains l (record { pos = q; dist = s.before })) end s.in_first)
      | inr end ↦ Contains-empty (record { pos = q; dist = s.after }) (subst (λ l. Contains l (record { pos = q; dist = s.after })) end s.in_second)
    ]

    no_worse : (q e : ℕ) → HasSum first second q e → IsNoWorse pos least q e
    no_worse q e s = elim (w.best q e s) [ inl left ↦ absurd (none_left q e left) | inr worse ↦ worse ]

    -- no sum has been found, and none is there
    pub Walked-none : (bound : ℕ) → bound + bound ≤ unset → All (λ (x : Entry). x.dist < bound) first → All (λ (x : Entry). x.dist < bound) second → unset ≤ least → ShareNone first second
    Walked-none bound room fits others_fit none p d s =
        let short : s.before < bound = All-contains (λ (x : Entry). x.dist < bound) first (record { pos = p; dist = s.before }) fits s.in_first in
        let others_short : s.after < bound = All-contains (λ (x : Entry). x.dist < bound) second (record { pos = p; dist = s.after }) others_fit s.in_second in
        omega (arith, (no_worse p d s).sum, s.long, room, none, short, others_short)

    -- the one that has been found is the least
    pub Walked-some : (least ≡ unset → ⊥) → IsLeastSum first second pos least
    Walked-some some = elim w.found [
      | inl none ↦ absurd (some none)
      | inr sum ↦ record { sum = sum; least = λ q e s. (no_worse q e s).sum; highest = λ q s. (no_worse q least s).place (omega arith) }
    ]

-- an entry for a read past the end, where none is made
abbrev pub nothing : Entry
nothing = record { pos = 0; dist = 0 }

-- the same steps of two places, which are within the rows, where a and b were read
module _ (unset : ℕ) (first second : List Entry) (i j pos least : ℕ) (within : i < length first) (others_within : j < length second) (w : Walked unset first second (drop i first) (drop j second) pos least) (a b : Entry) (read : a ≡ get_or first i nothing) (others_read : b ≡ get_or second j nothing) where
  first_opened : a ∷ drop (i + 1) first ≡ drop i first
  first_opened = ap (λ (x : Entry). x ∷ drop (i + 1) first) read ∙ sym (drop_more first i nothing within)

  second_opened : b ∷ drop (j + 1) second ≡ drop j second
  second_opened = ap (λ (y : Entry). y ∷ drop (j + 1) second) others_read ∙ sym (drop_more second j nothing others_within)

  opened : Walked unset first second (a ∷ drop (i + 1) first) (b ∷ drop (j + 1) second) pos least
  opened =
      subst (λ ys. Walked unset first second (a ∷ drop (i + 1) first) ys pos least) (sym second_opened)
      (subst (λ xs. Walked unset first second xs (drop j second) pos least) (sym first_opened) w)

  pub Walked-step_first : a.pos < b.pos → Walked unset first second (drop (i + 1) first) (drop j second) pos least
  Walked-step_first less =
      subst (λ ys. Walked unset first second (drop (i + 1) first) ys pos least) second_opened
      (Walked-past_first unset first second a b (drop (i + 1) first) (drop (j + 1) second) pos least opened less)

  pub Walked-step_second : b.pos < a.pos → Walked unset first second (drop i first) (drop (j + 1) second) pos least
  Walked-step_second less =
      subst (λ xs. Walked unset first second xs (drop (j + 1) second) pos least) first_opened
      (Walked-past_second unset first second a b (drop (i + 1) first) (drop (j + 1) second) pos least opened less)

  module _ (same : a.pos ≡ b.pos) (sum : ℕ) (adds : sum ≡ a.dist + b.dist) where
    pub Walked-step_keep : least ≤ sum → (bound : ℕ) → bound + bound ≤ unset → All (λ (x : Entry). x.dist < bound) first → All (λ (x : Entry). x.dist < bound) second → Walked unset first second (drop (i + 1) first) (drop (j + 1) second) pos least
    Walked-step_keep no_less bound room fits others_fit =
        Walked-keep unset first second a b (drop (i + 1) first) (drop (j + 1) second) pos least opened same (omega (arith, no_less, adds))
        (omega (arith, room, fits i nothing within, others_fit j nothing others_within, ap (λ (x : Entry). x.dist) read, ap (λ (x : Entry). x.dist) others_read))

    pub Walked-step_take : sum < least → Walked unset first second (drop (i + 1) first) (drop (j + 1) second) a.pos sum
    Walked-step_take less =
        subst (Walked unset first second (drop (i + 1) first) (drop (j + 1) second) a.pos) (sym adds)
        (Walked-take unset first second a b (drop (i + 1) first) (drop (j + 1) second) pos least opened same (omega (arith, less, adds)))

-- at the end of a row nothing is left of it
pub drop-either_all : (first second : List Entry) (i j : ℕ) → (length first ≤ i) ⊎ (length second ≤ j) → (drop i first ≡ []) ⊎ (drop j second ≡ [])
drop-either_all first second i j (inl over) = inl (drop_all i first over)
drop-either_all first second i j (inr over) = inr (drop_all j second over)
