-- Which walks there are is decided, where the arcs into each node are listed and weigh at least 1.
use Rattle.std.proofs.Common.{◌≡◌, ◌⊎◌, ◌↔◌, ℕ, zero, suc, ◌+◌, ◌-◌, ◌≤◌, ◌<◌, List, Contains, sym, inl, inr, arith}
use Rattle.std.proofs.lemmas.Bool.{cases_lt, cases_eq}
use Rattle.walk_laws.specs.declared.graph.Arc.{Arc}
use Rattle.walk_laws.specs.Walk.{HasWalk}
use Rattle.walk_laws.specs.Least.{IsLeast}
use Rattle.walk_laws.specs.On.{IsOn}
use Rattle.walk_laws.proofs.Search.{Found, Found-decided, LeastNumber-below, LeastNumber-exists}
use Rattle.walk_laws.proofs.Walks.{HasWalk-none_to, HasWalk-same, HasWalk-after, HasWalk-last, LastStep}
use Rattle.walk_laws.proofs.LeastWalks.{IsLeast-unique, IsLeast-same}
use Rattle.walk_laws.proofs.OnWalks.{OnParts, OnParts-from_on, IsOn-from_parts}

-- a walk of length d from u that ends with this arc
abbrev EndsBy : (ℕ → ℕ → ℕ → Type 0) → ℕ → ℕ → Arc → Type 0
EndsBy J u d a = (a.w ≤ d) × HasWalk J u a.to (d - a.w)

-- a walk of length d from u to v that passes x after length a
abbrev PassesAfter : (ℕ → ℕ → ℕ → Type 0) → ℕ → ℕ → ℕ → ℕ → ℕ → Type 0
PassesAfter J u x v d a = (a ≤ d) × HasWalk J u x a × HasWalk J x v (d - a)

module _ (J : ℕ → ℕ → ℕ → Type 0) (into : ℕ → List Arc) (each : (v t w : ℕ) → Contains (into v) (record { to = t; w = w }) ↔ J t v w) (positive : (x y w : ℕ) → J x y w → 1 ≤ w) where
  ends_by_decided : (u v d bound : ℕ) → ((y e : ℕ) → e < bound → HasWalk J u y e ⊎ (HasWalk J u y e → ⊥)) → d < suc bound → (a : Arc) → Contains (into v) a → EndsBy J u d a ⊎ (EndsBy J u d a → ⊥)
  ends_by_decided u v d bound shorter lt a there =
      let weight = positive a.to v a.w ((each v a.to a.w).0 there) in
      elim (cases_lt d a.w) [
        | inl heavy ↦ inr (λ h. omega (arith, h.0))
        | inr light ↦ elim (shorter a.to (d - a.w) (omega (arith, weight))) [
          | inl walk ↦ inl (light, walk)
          | inr none ↦ inr (λ h. none h.1)
        ]
      ]

  walk_of_found : (u v d : ℕ) → Found (EndsBy J u d) (into v) → HasWalk J u v d
  walk_of_found u v d found =
      let a = found.element in
      HasWalk-same J u v (d - a.w + a.w) d (omega (arith, found.holds.0)) (HasWalk-after J u a.to v a.w (d - a.w) found.holds.1 ((each v a.to a.w).0 found.there))

  found_of_last : (u v d : ℕ) → LastStep J u v d → Found (EndsBy J u d) (into v)
  found_of_last u v d last = record {
    element = record { to = last.node; w = last.weight };
    there = (each v last.node last.weight).1 last.arc;
    holds = (omega (arith, last.long), HasWalk-same J u last.node last.before (d - last.weight) (omega (arith, last.long)) last.walk);
  }

  no_walk : (u v d : ℕ) → ((u ≡ v) × (d ≡ 0) → ⊥) → ((a : Arc) → Contains (into v) a → EndsBy J u d a → ⊥) → HasWalk J u v d → ⊥
  no_walk u v d not_empty none walk =
      elim (HasWalk-last J u v d walk) [
        | inl empty ↦ not_empty empty
        | inr last ↦ let found = found_of_last u v d last in none found.element found.there found.holds
      ]

  empty_decided : (u v d : ℕ) → ((u ≡ v) × (d ≡ 0)) ⊎ ((u ≡ v) × (d ≡ 0) → ⊥)
  empty_decided u v d =
      elim (cases_eq u v) [
        | inl same ↦ elim (cases_eq d 0) [
          | inl none ↦ inl (same, none)
          | inr some ↦ inr (λ h. some h.1)
        ]
        | inr other ↦ inr (λ h. other h.0)
      ]

  decided_below : (u bound v d : ℕ) → d < bound → HasWalk J u v d ⊎ (HasWalk J u v d → ⊥)
  decided_below u zero v d lt = absurd (omega arith)
  decided_below u (suc bound) v d lt =
      elim (empty_decided u v d) [
        | inl empty ↦ inl (HasWalk-same J u v 0 d (sym empty.1) (HasWalk-none_to J u v empty.0))
        | inr not_empty ↦ elim (Found-decided (EndsBy J u d) (into v) (ends_by_decided u v d bound (decided_below u bound) lt)) [
          | inl found ↦ inl (walk_of_found u v d found)
          | inr none ↦ inr (no_walk u v d not_empty none)
        ]
      ]

  -- whether some walk of length d leads from u to v
  pub HasWalk-decided : (u v d : ℕ) → HasWalk J u v d ⊎ (HasWalk J u v d → ⊥)
  HasWalk-decided u v d = decided_below u (suc d) v d (omega arith)

  -- where some walk leads, there is a least length
  pub IsLeast-exists : (u v d : ℕ) → HasWalk J u v d → (e : ℕ) × IsLeast J u v e
  IsLeast-exists u v d walk =
      let least = LeastNumber-exists (HasWalk J u v) (HasWalk-decided u v) d walk in
      (least.number, record { walk = least.holds; none_shorter = least.least })

  passes_decided : (u x v d a : ℕ) → PassesAfter J u x v d a ⊎ (PassesAfter J u x v d a → ⊥)
  passes_decided u x v d a =
      elim (cases_lt d a) [
        | inl beyond ↦ inr (λ h. omega (arith, h.0))
        | inr within ↦ elim (HasWalk-decided u x a) [
          | inr none ↦ inr (λ h. none h.1)
          | inl first ↦ elim (HasWalk-decided x v (d - a)) [
            | inr none ↦ inr (λ h. none h.2)
            | inl second ↦ inl (within, first, second)
          ]
        ]
      ]

  passes_on : (u x v d : ℕ) → IsLeast J u v d → (p : OnParts J u x v) → PassesAfter J u x v d p.before
  passes_on u x v d least p =
      let adds = IsLeast-unique J u v d (p.before + p.after) least p.whole in
      (omega (arith, adds), p.first.walk, HasWalk-same J x v p.after (d - p.before) (omega (arith, adds)) p.second.walk)

  -- whether x is on a shortest walk from u to v
  pub IsOn-decided : (u x v d : ℕ) → IsLeast J u v d → IsOn J u x v ⊎ (IsOn J u x v → ⊥)
  IsOn-decided u x v d least =
      elim (LeastNumber-below (PassesAfter J u x v d) (passes_decided u x v d) (suc d)) [
        | inl found ↦ inl (IsOn-from_parts J u x v found.number (d - found.number) found.holds.1 found.holds.2 (IsLeast-same J u v d (found.number + (d - found.number)) (omega (arith, found.holds.0)) least))
        | inr none ↦ inr (λ on. let p = OnParts-from_on J u x v on in let here = passes_on u x v d least p in none p.before (omega (arith, here.0)) here)
      ]
