-- The first shortest walk, in lexicographic order of its nodes: at each node it goes on to the least that is next on a shortest walk.
use Rattle.std.proofs.Common.{◌≡◌, ◌⊎◌, ◌↔◌, ℕ, zero, suc, ◌+◌, ◌-◌, ◌≤◌, ◌<◌, List, [], ◌∷◌, map, Contains, refl, subst, sym, ap, inl, inr, arith, nat_cmp, Less, Equal, Greater}
use Rattle.std.specs.Cmp.Lexicographic.{slice_cmp}
use Rattle.std.specs.Cmp.{nat_cmp_is}
use Rattle.std.specs.Ordering.{ordering_then}
use Rattle.std.proofs.lemmas.Bool.{cases_lt, cases_eq}
use Rattle.walk_laws.specs.declared.graph.Arc.{Arc}
use Rattle.walk_laws.specs.Walk.{Step, IsWalk, walk_length, nodes_of, HasWalk}
use Rattle.walk_laws.specs.Least.{IsLeast}
use Rattle.walk_laws.specs.Answer.{IsFirstShortest}
use Rattle.walk_laws.proofs.Search.{Found, Found-decided, LeastNumber-exists}
use Rattle.walk_laws.proofs.Walks.{HasWalk-prefix, HasWalk-arc, HasWalk-same, HasWalk-first, FirstStep}
use Rattle.walk_laws.proofs.LeastWalks.{IsLeast-unique, IsLeast-none, IsLeast-same, IsLeast-rest}

-- y is next after u on a walk of length d to v
pub record IsNext (J : ℕ → ℕ → ℕ → Type 0) (u v d y : ℕ) : Type 0 where
  pub weight : ℕ
  pub light : weight ≤ d
  pub arc : J u y weight
  pub walk : HasWalk J y v (d - weight)

not_before_same_head : (u : ℕ) (xs ys : List ℕ) → (slice_cmp nat_cmp xs ys ≡ Less → ⊥) → slice_cmp nat_cmp (u ∷ xs) (u ∷ ys) ≡ Less → ⊥
not_before_same_head u xs ys not_before before =
    let level : Equal ≡ nat_cmp u u = nat_cmp_is u u Equal refl in
    not_before (subst (λ o. ordering_then o (slice_cmp nat_cmp xs ys) ≡ Less) (sym level) before)

not_before_lower_head : (x y : ℕ) (xs ys : List ℕ) → y < x → slice_cmp nat_cmp (x ∷ xs) (y ∷ ys) ≡ Less → ⊥
not_before_lower_head x y xs ys lt before =
    let above : Greater ≡ nat_cmp x y = nat_cmp_is x y Greater lt in
    let clash : Greater ≡ Less = subst (λ o. ordering_then o (slice_cmp nat_cmp xs ys) ≡ Less) (sym above) before in
    cc

module _ (J : ℕ → ℕ → ℕ → Type 0) (positive : (x y w : ℕ) → J x y w → 1 ≤ w) where
  none_before_the_end : (u : ℕ) (others : List Step) → IsWalk J u others u → walk_length others ≡ 0 → slice_cmp nat_cmp (nodes_of u others) (u ∷ []) ≡ Less → ⊥
  none_before_the_end u [] walk long = not_before_same_head u [] [] (λ same. let clash : Equal ≡ Less = same in cc)
  none_before_the_end u (s ∷ others) walk long = λ before. omega (arith, positive s.from s.to s.weight walk.1)

  -- from a node to itself it passes that node alone
  pub IsFirstShortest-end : (u : ℕ) → IsFirstShortest J u u 0 (u ∷ [])
  IsFirstShortest-end u = record { least = IsLeast-none J u; steps = []; walk = refl; long = refl; passes = refl; first = none_before_the_end u }

  next_of_step : (u v d : ℕ) (s : Step) (others : List Step) → IsWalk J u (s ∷ others) v → walk_length (s ∷ others) ≡ d → IsNext J u v d s.to
  next_of_step u v d s others walk long = record {
    weight = s.weight;
    light = omega arith;
    arc = subst (λ x. J x s.to s.weight) walk.0 walk.1;
    walk = record { steps = others; walk = walk.2; long = omega arith };
  }

  -- each shortest way on by way of y is as long from there
  same_rest : (u v d y k e : ℕ) → IsLeast J u v d → (n : IsNext J u v d y) → J u y k → HasWalk J y v e → k + e ≡ d → e ≡ d - n.weight
  same_rest u v d y k e least n arc walk long =
      omega (arith, n.light, least.none_shorter (n.weight + e) (HasWalk-prefix J u y v n.weight e n.arc walk), least.none_shorter (k + (d - n.weight)) (HasWalk-prefix J u y v k (d - n.weight) arc n.walk))

  none_before_at : (v e x y : ℕ) (others : List Step) (nodes : List ℕ) → IsFirstShortest J y v e nodes → x ≡ y → IsWalk J x others v → walk_length others ≡ e → slice_cmp nat_cmp (nodes_of x others) nodes ≡ Less → ⊥
  none_before_at v e x y others nodes f same walk long before =
      f.first others (subst (λ z. IsWalk J z others v) same walk) long (subst (λ z. slice_cmp nat_cmp (nodes_of z others) nodes ≡ Less) same before)

  module _ (u v d y : ℕ) (nodes : List ℕ) (least : IsLeast J u v d) (n : IsNext J u v d y) (lowest : (x : ℕ) → IsNext J u v d x → y ≤ x) (f : IsFirstShortest J y v (d - n.weight) nodes) where
    rest_long : (s : Step) (others : List Step) → IsWalk J u (s ∷ others) v → walk_length (s ∷ others) ≡ d → s.to ≡ y → walk_length others ≡ d - n.weight
    rest_long s others walk long same =
        same_rest u v d y s.weight (walk_length others) least n (subst (λ x. J u x s.weight) same (subst (λ x. J x s.to s.weight) walk.0 walk.1)) (subst (λ x. HasWalk J x v (walk_length others)) same (record { steps = others; walk = walk.2; long = refl })) long

    none_before_by : (s : Step) (others : List Step) → IsWalk J u (s ∷ others) v → walk_length (s ∷ others) ≡ d → slice_cmp nat_cmp (nodes_of s.to others) nodes ≡ Less → ⊥
    none_before_by s others walk long before =
        let m = next_of_step u v d s others walk long in
        elim (cases_eq s.to y) [
          | inl same ↦ none_before_at v (d - n.weight) s.to y others nodes f same walk.2 (rest_long s others walk long same) before
          | inr other ↦ not_before_lower_head s.to y (map (λ t. t.to) others) (map (λ t. t.to) f.steps) (omega (arith, lowest s.to m, other)) (subst (λ l. slice_cmp nat_cmp (nodes_of s.to others) l ≡ Less) (sym f.passes) before)
        ]

    none_before : (others : List Step) → IsWalk J u others v → walk_length others ≡ d → slice_cmp nat_cmp (nodes_of u others) (u ∷ nodes) ≡ Less → ⊥
    none_before [] walk long = λ before. omega (arith, positive u y n.weight n.arc, n.light)
    none_before (s ∷ others) walk long = not_before_same_head u (nodes_of s.to others) nodes (none_before_by s others walk long)

    -- and from another node it goes on to the least that is next
    pub IsFirstShortest-step : IsFirstShortest J u v d (u ∷ nodes)
    IsFirstShortest-step = record {
      least = least;
      steps = record { from = u; to = y; weight = n.weight } ∷ f.steps;
      walk = (refl, n.arc, f.walk);
      long = omega (arith, f.long, n.light);
      passes = ap (λ l. u ∷ l) f.passes;
      first = none_before;
    }

  -- a node that is next on a shortest walk, where one leads to another node
  next_of_first : (u v d : ℕ) → FirstStep J u v d → (y : ℕ) × IsNext J u v d y
  next_of_first u v d first =
      (first.node, record { weight = first.weight; light = omega (arith, first.long); arc = first.arc; walk = HasWalk-same J first.node v first.after (d - first.weight) (omega (arith, first.long)) first.walk })

  pub IsNext-exists : (u v d : ℕ) → (u ≡ v → ⊥) → HasWalk J u v d → (y : ℕ) × IsNext J u v d y
  IsNext-exists u v d other walk =
      elim (HasWalk-first J u v d walk) [
        | inl empty ↦ absurd (other empty.0)
        | inr first ↦ next_of_first u v d first
      ]

  -- what is left over the next node is least
  pub IsLeast-next : (u v d y : ℕ) → IsLeast J u v d → (n : IsNext J u v d y) → IsLeast J y v (d - n.weight)
  IsLeast-next u v d y least n =
      IsLeast-rest J u y v n.weight (d - n.weight) (HasWalk-arc J u y n.weight n.arc) n.walk (IsLeast-same J u v d (n.weight + (d - n.weight)) (omega (arith, n.light)) least)

  module _ (out : ℕ → List Arc) (each : (v t w : ℕ) → Contains (out v) (record { to = t; w = w }) ↔ J v t w) (decide : (u v d : ℕ) → HasWalk J u v d ⊎ (HasWalk J u v d → ⊥)) where
    abbrev LeadsOn : ℕ → ℕ → ℕ → Arc → Type 0
    LeadsOn v d y a = (a.to ≡ y) × (a.w ≤ d) × HasWalk J y v (d - a.w)

    leads_on_decided : (v d y : ℕ) (a : Arc) → LeadsOn v d y a ⊎ (LeadsOn v d y a → ⊥)
    leads_on_decided v d y a =
        elim (cases_eq a.to y) [
          | inr other ↦ inr (λ h. other h.0)
          | inl same ↦ elim (cases_lt d a.w) [
            | inl heavy ↦ inr (λ h. omega (arith, h.1))
            | inr light ↦ elim (decide y v (d - a.w)) [
              | inr none ↦ inr (λ h. none h.2)
              | inl walk ↦ inl (same, light, walk)
            ]
          ]
        ]

    next_of_found : (u v d y : ℕ) → Found (LeadsOn v d y) (out u) → IsNext J u v d y
    next_of_found u v d y found =
        let a = found.element in
        record { weight = a.w; light = found.holds.1; arc = subst (λ x. J u x a.w) found.holds.0 ((each u a.to a.w).0 found.there); walk = found.holds.2 }

    -- whether a node is next
    pub IsNext-decided : (u v d y : ℕ) → IsNext J u v d y ⊎ (IsNext J u v d y → ⊥)
    IsNext-decided u v d y =
        elim (Found-decided (LeadsOn v d y) (out u) (λ a _. leads_on_decided v d y a)) [
          | inl found ↦ inl (next_of_found u v d y found)
          | inr none ↦ inr (λ n. none (record { to = y; w = n.weight }) ((each u y n.weight).1 n.arc) (refl, n.light, n.walk))
        ]

    first_below : (bound u v d : ℕ) → d < bound → IsLeast J u v d → (nodes : List ℕ) × IsFirstShortest J u v d nodes
    first_below zero u v d lt least = absurd (omega arith)
    first_below (suc bound) u v d lt least =
        elim (cases_eq u v) [
          | inl same ↦
              let none : 0 ≡ d = IsLeast-unique J u v 0 d (subst (λ x. IsLeast J u x 0) same (IsLeast-none J u)) least in
              (u ∷ [], subst (λ x. IsFirstShortest J u x d (u ∷ [])) same (subst (λ e. IsFirstShortest J u u e (u ∷ [])) none (IsFirstShortest-end u)))
          | inr other ↦
              let some = IsNext-exists u v d other least.walk in
              let lowest = LeastNumber-exists (IsNext J u v d) (IsNext-decided u v d) some.0 some.1 in
              let n = lowest.holds in
              let rest = first_below bound lowest.number v (d - n.weight) (omega (arith, n.light, positive u lowest.number n.weight n.arc)) (IsLeast-next u v d lowest.number least n) in
              (u ∷ rest.0, IsFirstShortest-step u v d lowest.number rest.0 least n lowest.least rest.1)
        ]

    -- where a walk leads, there is a first shortest one
    pub IsFirstShortest-exists : (u v d : ℕ) → IsLeast J u v d → (nodes : List ℕ) × IsFirstShortest J u v d nodes
    IsFirstShortest-exists u v d least = first_below (suc d) u v d (omega arith) least
