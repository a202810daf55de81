-- The order of hits, in which the first of a set are one list.
use Rattle.std.proofs.Common.{◌≡◌, ◌⊎◌, ℕ, zero, suc, ◌-◌, ◌≤◌, List, [], ◌∷◌, All, AllPairs, Contains, length, take, get_or, refl, sym, ap, ap₂, subst, inl, inr, arith}
use Rattle.std.proofs.lemmas.Bool.{cases_lt}
use Rattle.std.proofs.lemmas.List.Elements.{All-cons, All-nil, All-contains, All-contains_itself, All-take}
use Rattle.std.proofs.lemmas.List.Kept.{AllPairs-cons}
use Rattle.walk_laws.proofs.Members.{Contains-first, Contains-next, Contains-cons_cases, Contains-empty}
use Rattle.near_points.specs.declared.hit.Hit.{Hit}
use Rattle.near_points.specs.Nearest.{IsBefore, AreFirst}

pub same_hit : (a b : Hit) → a.node ≡ b.node → a.dist ≡ b.dist → a ≡ b
same_hit a b node dist = λ i. record { node = node i; dist = dist i }

pub not_before_itself : (a : Hit) → IsBefore a a → ⊥
not_before_itself a h = elim h [
  | inl less ↦ omega (arith, less)
  | inr both ↦ omega (arith, both.1)
]

pub not_both_before : (a b : Hit) → IsBefore a b → IsBefore b a → ⊥
not_both_before a b h g = elim h [
  | inl less ↦ elim g [
    | inl more ↦ omega (arith, less, more)
    | inr both ↦ omega (arith, less, both.0)
  ]
  | inr same ↦ elim g [
    | inl more ↦ omega (arith, same.0, more)
    | inr both ↦ omega (arith, same.1, both.1)
  ]
]

pub before_both : (a b c : Hit) → IsBefore a b → IsBefore b c → IsBefore a c
before_both a b c h g = elim h [
  | inl less ↦ elim g [
    | inl more ↦ inl (omega (arith, less, more))
    | inr both ↦ inl (omega (arith, less, both.0))
  ]
  | inr same ↦ elim g [
    | inl more ↦ inl (omega (arith, same.0, more))
    | inr both ↦ inr (omega (arith, same.0, both.0), omega (arith, same.1, both.1))
  ]
]

-- one of two hits comes first, or they are one
pub which_first : (a b : Hit) → IsBefore a b ⊎ ((a ≡ b) ⊎ IsBefore b a)
which_first a b = elim (cases_lt a.dist b.dist) [
  | inl less ↦ inl (inl less)
  | inr no_less ↦ elim (cases_lt b.dist a.dist) [
    | inl more ↦ inr (inr (inl more))
    | inr no_more ↦
        let dist : a.dist ≡ b.dist = omega (arith, no_less, no_more) in
        elim (cases_lt a.node b.node) [
          | inl low ↦ inl (inr (dist, low))
          | inr not_low ↦ elim (cases_lt b.node a.node) [
            | inl high ↦ inr (inr (inr (sym dist, high)))
            | inr not_high ↦ inr (inl (same_hit a b (omega (arith, not_low, not_high)) dist))
          ]
        ]
  ]
]

-- each is before the others of a list that rises
pub first_before : (x : Hit) (xs : List Hit) → AllPairs IsBefore (x ∷ xs) → All (IsBefore x) xs
first_before x xs up = λ i d lt. up 0 (suc i) d (omega arith) (omega (arith, lt))

pub rest_rises : (x : Hit) (xs : List Hit) → AllPairs IsBefore (x ∷ xs) → AllPairs IsBefore xs
rest_rises x xs up = λ i j d lt inside. up (suc i) (suc j) d (omega (arith, lt)) (omega (arith, inside))

module _ (IsRight : Hit → Type 0) (k : ℕ) (x : Hit) (xs : List Hit) (first : AreFirst IsRight k (x ∷ xs)) where
  -- the others are the first of those after it
  rest_first : AreFirst (λ h. IsRight h × IsBefore x h) (k - 1) xs
  rest_first = record {
    each = λ i d lt. (first.each (suc i) d (omega (arith, lt)), first_before x xs first.rising i d lt);
    rising = rest_rises x xs first.rising;
    few = omega (arith, first.few);
    others = λ h right. elim (first.others h right.0) [
      | inl there ↦ elim (Contains-cons_cases x h xs there) [
        | inl same ↦ absurd (not_before_itself x (subst (IsBefore x) (sym same) right.1))
        | inr later ↦ inl later
      ]
      | inr full ↦ inr (omega (arith, full.0), λ i d lt. full.1 (suc i) d (omega (arith, lt)))
    ];
  }

  -- no hit that is right comes before it
  none_before : (y : Hit) → IsRight y → IsBefore y x → ⊥
  none_before y right before = elim (first.others y right) [
    | inl there ↦ elim (Contains-cons_cases x y xs there) [
      | inl same ↦ not_before_itself x (subst (λ z. IsBefore z x) (sym same) before)
      | inr later ↦ not_both_before x y (All-contains (IsBefore x) xs y (first_before x xs first.rising) later) before
    ]
    | inr full ↦ not_both_before x y (full.1 0 x (omega arith)) before
  ]

-- a list of none is right only where there are none, or none are asked for
none_first : (IsRight : Hit → Type 0) (k : ℕ) (y : Hit) (ys : List Hit) → AreFirst IsRight k [] → AreFirst IsRight k (y ∷ ys) → ⊥
none_first IsRight k y ys none some = elim (none.others y (some.each 0 y (omega arith))) [
  | inl there ↦ Contains-empty y there
  | inr full ↦ omega (arith, full.0, some.few)
]

pub AreFirst-unique : (IsRight : Hit → Type 0) (k : ℕ) (xs ys : List Hit) → AreFirst IsRight k xs → AreFirst IsRight k ys → xs ≡ ys
AreFirst-unique IsRight k [] [] first other = refl
AreFirst-unique IsRight k [] (y ∷ ys) first other = absurd (none_first IsRight k y ys first other)
AreFirst-unique IsRight k (x ∷ xs) [] first other = absurd (none_first IsRight k x xs other first)
AreFirst-unique IsRight k (x ∷ xs) (y ∷ ys) first other =
    let same : x ≡ y = elim (which_first x y) [
      | inl before ↦ absurd (none_before IsRight k y ys other x (first.each 0 x (omega arith)) before)
      | inr not_before ↦ elim not_before [
        | inl one ↦ one
        | inr after ↦ absurd (none_before IsRight k x xs first y (other.each 0 y (omega arith)) after)
      ]
    ] in
    let rest = subst (λ z. AreFirst (λ h. IsRight h × IsBefore z h) (k - 1) ys) (sym same) (rest_first IsRight k y ys other) in
    ap₂ (λ (h : Hit) (hs : List Hit). h ∷ hs) same (AreFirst-unique (λ h. IsRight h × IsBefore x h) (k - 1) xs ys (rest_first IsRight k x xs first) rest)

-- a list that rises and has what is right, and nothing else
pub record AreAll (IsRight : Hit → Type 0) (hits : List Hit) : Type 0 where
  pub rising : AllPairs IsBefore hits
  pub each : All IsRight hits
  pub all : (h : Hit) → IsRight h → Contains hits h

pub AreAll-none : (IsRight : Hit → Type 0) → ((h : Hit) → IsRight h → ⊥) → AreAll IsRight []
AreAll-none IsRight none = record {
  rising = λ i j d lt inside. absurd (omega (arith, inside));
  each = All-nil IsRight;
  all = λ h right. absurd (none h right);
}

-- a hit is put in its place
with_hit : (x : Hit) (xs : List Hit) → AllPairs IsBefore xs → (ys : List Hit) × AllPairs IsBefore ys × ((h : Hit) → Contains ys h → Contains xs h ⊎ (h ≡ x)) × ((h : Hit) → Contains xs h → Contains ys h) × Contains ys x
with_hit x [] up = (
  x ∷ [],
  AllPairs-cons IsBefore x [] (All-nil (IsBefore x)) up,
  λ h there. elim (Contains-cons_cases x h [] there) [ inl same ↦ inr (sym same) | inr later ↦ inl later ],
  λ h there. absurd (Contains-empty h there),
  Contains-first x [],
)
with_hit x (y ∷ xs) up = elim (which_first x y) [
  | inl before ↦ (
    x ∷ y ∷ xs,
    AllPairs-cons IsBefore x (y ∷ xs) (All-cons (IsBefore x) y xs before (λ i d lt. before_both x y (get_or xs i d) before (first_before y xs up i d lt))) up,
    λ h there. elim (Contains-cons_cases x h (y ∷ xs) there) [ inl same ↦ inr (sym same) | inr later ↦ inl later ],
    λ h there. Contains-next x h (y ∷ xs) there,
    Contains-first x (y ∷ xs),
  )
  | inr not_before ↦ elim not_before [
    | inl same ↦ (y ∷ xs, up, λ h there. inl there, λ h there. there, subst (Contains (y ∷ xs)) (sym same) (Contains-first y xs))
    | inr after ↦
        let more = with_hit x xs (rest_rises y xs up) in (
          y ∷ more.0,
          AllPairs-cons IsBefore y more.0 (λ i d lt. elim (more.2 (get_or more.0 i d) (All-contains_itself more.0 i d lt)) [
            | inl there ↦ All-contains (IsBefore y) xs (get_or more.0 i d) (first_before y xs up) there
            | inr same ↦ subst (IsBefore y) (sym same) after
          ]) more.1,
          λ h there. elim (Contains-cons_cases y h more.0 there) [
            | inl same ↦ inl (subst (Contains (y ∷ xs)) same (Contains-first y xs))
            | inr later ↦ elim (more.2 h later) [ inl old ↦ inl (Contains-next y h xs old) | inr new ↦ inr new ]
          ],
          λ h there. elim (Contains-cons_cases y h xs there) [
            | inl same ↦ subst (Contains (y ∷ more.0)) same (Contains-first y more.0)
            | inr later ↦ Contains-next y h more.0 (more.3 h later)
          ],
          Contains-next y x more.0 more.4,
        )
  ]
]

-- one more hit is right
pub AreAll-more : (IsRight IsNow : Hit → Type 0) (x : Hit) (xs : List Hit) → AreAll IsRight xs → ((h : Hit) → IsRight h → IsNow h) → IsNow x → ((h : Hit) → IsNow h → IsRight h ⊎ (h ≡ x)) → (ys : List Hit) × AreAll IsNow ys
AreAll-more IsRight IsNow x xs are still this only =
    let put = with_hit x xs are.rising in (
      put.0,
      record {
        rising = put.1;
        each = λ i d lt. elim (put.2 (get_or put.0 i d) (All-contains_itself put.0 i d lt)) [
          | inl old ↦ still (get_or put.0 i d) (All-contains IsRight xs (get_or put.0 i d) are.each old)
          | inr new ↦ subst IsNow (sym new) this
        ];
        all = λ h right. elim (only h right) [
          | inl old ↦ put.3 h (are.all h old)
          | inr new ↦ subst (Contains put.0) (sym new) put.4
        ];
      },
    )

-- each hit is among the first k, or after them
among_first : (k : ℕ) (xs : List Hit) → AllPairs IsBefore xs → (h : Hit) → Contains xs h → Contains (take k xs) h ⊎ ((length (take k xs) ≡ k) × All (λ x. IsBefore x h) (take k xs))
among_first zero xs up h there = inr (refl, All-nil (λ x. IsBefore x h))
among_first (suc k) [] up h there = absurd (Contains-empty h there)
among_first (suc k) (x ∷ xs) up h there = elim (Contains-cons_cases x h xs there) [
  | inl same ↦ inl (subst (Contains (x ∷ take k xs)) same (Contains-first x (take k xs)))
  | inr later ↦ elim (among_first k xs (rest_rises x xs up) h later) [
    | inl among ↦ inl (Contains-next x h (take k xs) among)
    | inr full ↦ inr (ap suc full.0, All-cons (λ x. IsBefore x h) x (take k xs) (All-contains (IsBefore x) xs h (first_before x xs up) later) full.1)
  ]
]

few_first : (k : ℕ) (xs : List Hit) → length (take k xs) ≤ k
few_first zero xs = omega arith
few_first (suc k) [] = omega arith
few_first (suc k) (x ∷ xs) = let fewer = few_first k xs in omega (arith, fewer)

take_rises : (k : ℕ) (xs : List Hit) → AllPairs IsBefore xs → AllPairs IsBefore (take k xs)
take_rises zero xs up = λ i j d lt inside. absurd (omega (arith, inside))
take_rises (suc k) [] up = up
take_rises (suc k) (x ∷ xs) up = AllPairs-cons IsBefore x (take k xs) (All-take (IsBefore x) k xs (first_before x xs up)) (take_rises k xs (rest_rises x xs up))

-- and so are the first k of all
pub AreFirst-of_all : (IsRight : Hit → Type 0) (k : ℕ) (xs : List Hit) → AreAll IsRight xs → AreFirst IsRight k (take k xs)
AreFirst-of_all IsRight k xs are = record {
  each = All-take IsRight k xs are.each;
  rising = take_rises k xs are.rising;
  few = few_first k xs;
  others = λ h right. among_first k xs are.rising h (are.all h right);
}

-- where two facts hold of the same hits, the first are the same
pub AreFirst-same : (IsRight IsToo : Hit → Type 0) (k : ℕ) (xs : List Hit) → ((h : Hit) → IsRight h → IsToo h) → ((h : Hit) → IsToo h → IsRight h) → AreFirst IsRight k xs → AreFirst IsToo k xs
AreFirst-same IsRight IsToo k xs there back first = record {
  each = λ i d lt. there (get_or xs i d) (first.each i d lt);
  rising = first.rising;
  few = first.few;
  others = λ h right. first.others h (back h right);
}
