-- By the lightest edges alone, walks are as short, and hubs are the same.
use Rattle.std.proofs.Common.{◌≡◌, ◌≢◌, ◌↔◌, ℕ, ◌+◌, ◌≤◌, List, subst, inl, inr, arith}
use Rattle.std.proofs.lemmas.Bool.Decides.{eqb_tells}
use Rattle.std.proofs.lemmas.List.Elements.{All-contains}
use Rattle.walk_laws.specs.declared.graph.Edge.{Edge}
use Rattle.walk_laws.specs.declared.entry.Entry.{Entry}
use Rattle.walk_laws.specs.Joined.{Joined}
use Rattle.walk_laws.specs.Walk.{HasWalk}
use Rattle.walk_laws.specs.Least.{IsLeast}
use Rattle.walk_laws.specs.On.{IsOn}
use Rattle.walk_laws.specs.Canonical.{IsCanonical}
use Rattle.walk_laws.specs.Labelling.{IsRow, IsChl, label_row}
use Rattle.walk_laws.specs.Lightest.{IsLightest, AreLightest}
use Rattle.walk_laws.proofs.JoinedEdges.{Joined-sym}
use Rattle.walk_laws.proofs.Walks.{HasWalk-none, HasWalk-after, HasWalk-induction, HasWalk-more}
use Rattle.walk_laws.proofs.OnWalks.{OnParts-from_on, IsOn-from_parts}

-- two relations of arcs, of which the second has some of the first, and of those between two nodes one that is no heavier
module _ (J K : ℕ → ℕ → ℕ → Type 0) (known : (x y w : ℕ) → K x y w → J x y w) (lighter : (x y w : ℕ) → x ≢ y → J x y w → (u : ℕ) × (u ≤ w) × K x y u) where
  -- a walk of the second that is no longer
  no_longer : (u v d : ℕ) → HasWalk J u v d → (e : ℕ) × (e ≤ d) × HasWalk K u v e
  no_longer u =
      HasWalk-induction J (λ v d. (e : ℕ) × (e ≤ d) × HasWalk K u v e) u (0, omega arith, HasWalk-none K u)
      (λ y v w a _ so_far arc. elim (eqb_tells y v) [
        | inl same ↦ (so_far.0, omega (arith, so_far.1), subst (λ z. HasWalk K u z so_far.0) same.1 so_far.2)
        | inr other ↦
            let k = lighter y v w other.1 arc in
            (so_far.0 + k.0, omega (arith, so_far.1, k.1), HasWalk-after K u y v k.0 so_far.0 so_far.2 k.2)
      ])

  IsLeast-down : (u v d : ℕ) → IsLeast J u v d → IsLeast K u v d
  IsLeast-down u v d l =
      let k = no_longer u v d l.walk in
      let same : k.0 ≡ d = omega (arith, k.1, l.none_shorter k.0 (HasWalk-more K J known u v k.0 k.2)) in
      record { walk = subst (λ e. HasWalk K u v e) same k.2; none_shorter = λ e walk. l.none_shorter e (HasWalk-more K J known u v e walk) }

  IsLeast-up : (u v d : ℕ) → IsLeast K u v d → IsLeast J u v d
  IsLeast-up u v d l =
      record { walk = HasWalk-more K J known u v d l.walk; none_shorter = λ e walk. let k = no_longer u v e walk in omega (arith, k.1, l.none_shorter k.0 k.2) }

  IsOn-down : (u x v : ℕ) → IsOn J u x v → IsOn K u x v
  IsOn-down u x v on =
      let p = OnParts-from_on J u x v on in
      IsOn-from_parts K u x v p.before p.after (IsLeast-down u x p.before p.first).walk (IsLeast-down x v p.after p.second).walk (IsLeast-down u v (p.before + p.after) p.whole)

  IsOn-up : (u x v : ℕ) → IsOn K u x v → IsOn J u x v
  IsOn-up u x v on =
      let p = OnParts-from_on K u x v on in
      IsOn-from_parts J u x v p.before p.after (IsLeast-up u x p.before p.first).walk (IsLeast-up x v p.after p.second).walk (IsLeast-up u v (p.before + p.after) p.whole)

  module _ (at : List ℕ) where
    IsCanonical-down : (h v d : ℕ) → IsCanonical J at h v d → IsCanonical K at h v d
    IsCanonical-down h v d c = record { least = IsLeast-down h v d c.least; highest = λ x on. c.highest x (IsOn-up h x v on) }

    IsCanonical-up : (h v d : ℕ) → IsCanonical K at h v d → IsCanonical J at h v d
    IsCanonical-up h v d c = record { least = IsLeast-up h v d c.least; highest = λ x on. c.highest x (IsOn-down h x v on) }

    IsRow-down : (v : ℕ) (row : List Entry) → IsRow J at v row → IsRow K at v row
    IsRow-down v row r = record {
      rising = r.rising;
      each = λ e. (
        λ there. let hub = (r.each e).0 there in (hub.0, hub.1, IsCanonical-down hub.0 v e.dist hub.2),
        λ hub. (r.each e).1 (hub.0, hub.1, IsCanonical-up hub.0 v e.dist hub.2),
      );
    }

    IsRow-up : (v : ℕ) (row : List Entry) → IsRow K at v row → IsRow J at v row
    IsRow-up v row r = record {
      rising = r.rising;
      each = λ e. (
        λ there. let hub = (r.each e).0 there in (hub.0, hub.1, IsCanonical-up hub.0 v e.dist hub.2),
        λ hub. (r.each e).1 (hub.0, hub.1, IsCanonical-down hub.0 v e.dist hub.2),
      );
    }

-- what is kept is known
kept_known : (edges kept : List Edge) → AreLightest edges kept → (x y w : ℕ) → Joined kept x y w → Joined edges x y w
kept_known edges kept are x y w join =
    elim join [
      | inl one_way ↦ (All-contains (IsLightest edges) kept (record { u = x; v = y; w = w }) are.each one_way).known
      | inr other_way ↦ Joined-sym edges y x w (All-contains (IsLightest edges) kept (record { u = y; v = x; w = w }) are.each other_way).known
    ]

-- and no heavier than what is known
kept_least : (edges kept : List Edge) → AreLightest edges kept → (x y w u : ℕ) → Joined edges x y w → Joined kept x y u → u ≤ w
kept_least edges kept are x y w u known join =
    elim join [
      | inl one_way ↦ (All-contains (IsLightest edges) kept (record { u = x; v = y; w = u }) are.each one_way).least w known
      | inr other_way ↦ (All-contains (IsLightest edges) kept (record { u = y; v = x; w = u }) are.each other_way).least w (Joined-sym edges x y w known)
    ]

module _ (edges kept : List Edge) (are : AreLightest edges kept) where
  kept_lighter : (x y w : ℕ) → x ≢ y → Joined edges x y w → (u : ℕ) × (u ≤ w) × Joined kept x y u
  kept_lighter x y w other known =
      let u = are.joined x y w other known in
      (u.0, kept_least edges kept are x y w u.0 known u.1, u.1)

  pub IsLeast-lightest : (u v d : ℕ) → IsLeast (Joined edges) u v d ↔ IsLeast (Joined kept) u v d
  IsLeast-lightest u v d = (
    IsLeast-down (Joined edges) (Joined kept) (kept_known edges kept are) kept_lighter u v d,
    IsLeast-up (Joined edges) (Joined kept) (kept_known edges kept are) kept_lighter u v d,
  )

  pub IsCanonical-lightest : (at : List ℕ) (h v d : ℕ) → IsCanonical (Joined edges) at h v d ↔ IsCanonical (Joined kept) at h v d
  IsCanonical-lightest at h v d = (
    IsCanonical-down (Joined edges) (Joined kept) (kept_known edges kept are) kept_lighter at h v d,
    IsCanonical-up (Joined edges) (Joined kept) (kept_known edges kept are) kept_lighter at h v d,
  )

  pub IsChl-lightest : (at : List ℕ) (rows : List (List Entry)) → IsChl (Joined edges) at rows ↔ IsChl (Joined kept) at rows
  IsChl-lightest at rows = (
    λ chl. record { size = chl.size; row = λ v low high. IsRow-down (Joined edges) (Joined kept) (kept_known edges kept are) kept_lighter at v (label_row rows v) (chl.row v low high) },
    λ chl. record { size = chl.size; row = λ v low high. IsRow-up (Joined edges) (Joined kept) (kept_known edges kept are) kept_lighter at v (label_row rows v) (chl.row v low high) },
  )
