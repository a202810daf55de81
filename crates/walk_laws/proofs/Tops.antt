-- The highest-ranked node on a shortest walk: there is one, and it covers every entry that is no hub's.
use Rattle.std.proofs.Common.{◌≡◌, ◌⊎◌, ℕ, ◌+◌, ◌≤◌, ◌<◌, List, length, get_or, subst, sym, ap, ◌∙◌, inl, inr, arith}
use Rattle.std.proofs.lemmas.Bool.{cases_lt}
use Rattle.walk_laws.specs.Walk.{HasWalk}
use Rattle.walk_laws.specs.Least.{IsLeast}
use Rattle.walk_laws.specs.On.{IsOn}
use Rattle.walk_laws.specs.Top.{IsTop}
use Rattle.walk_laws.specs.Canonical.{IsCanonical}
use Rattle.walk_laws.specs.Cover.{CoveringHub}
use Rattle.walk_laws.specs.Ranking.{IsRanking, position_of, RanksAbove}
use Rattle.walk_laws.proofs.Positions.{position-lt, get_or-position, position-get_or}
use Rattle.walk_laws.proofs.Search.{LeastNumber, LeastNumber-exists}
use Rattle.walk_laws.proofs.OnWalks.{OnParts-from_on, IsOn-start}
use Rattle.walk_laws.proofs.Backwards.{IsLeast-back}
use Rattle.walk_laws.proofs.CanonicalHubs.{IsCanonical-from_top, IsTop-canonical_for_start, IsTop-canonical_for_end}

-- the node at a position is on a shortest walk
abbrev OnAt : (ℕ → ℕ → ℕ → Type 0) → List ℕ → ℕ → ℕ → ℕ → Type 0
OnAt J at u v p = (p < length at) × IsOn J u (get_or at p 0) v

module _ (J : ℕ → ℕ → ℕ → Type 0) (at : List ℕ) where
  -- where the start is a node, so is the highest-ranked node on a shortest walk from it
  pub IsTop-node : (u v x : ℕ) → position_of at u < length at → IsTop J at u v x → position_of at x < length at
  IsTop-node u v x node top =
      let p = OnParts-from_on J u x v top.on in
      elim (cases_lt (position_of at u) (position_of at x)) [
        | inl above ↦ absurd (top.highest u (IsOn-start J u v (p.before + p.after) p.whole) above)
        | inr not_above ↦ omega arith
      ]

  -- there is at most one
  pub IsTop-unique : (u v x y : ℕ) → position_of at u < length at → IsTop J at u v x → IsTop J at u v y → x ≡ y
  IsTop-unique u v x y node first second =
      let of_x = get_or-position at x 0 (IsTop-node u v x node first) in
      let of_y = get_or-position at y 0 (IsTop-node u v y node second) in
      sym of_x ∙ ap (λ p. get_or at p 0) same ∙ of_y
    where
      same : position_of at x ≡ position_of at y
      same = elim (cases_lt (position_of at x) (position_of at y)) [
        | inl below ↦ absurd (second.highest x first.on below)
        | inr above ↦ elim (cases_lt (position_of at y) (position_of at x)) [
          | inl below ↦ absurd (first.highest y second.on below)
          | inr level ↦ omega arith
        ]
      ]

  module _ (ranking : IsRanking at) where
    on_at_decided : (u v p : ℕ) → ((x : ℕ) → IsOn J u x v ⊎ (IsOn J u x v → ⊥)) → OnAt J at u v p ⊎ (OnAt J at u v p → ⊥)
    on_at_decided u v p decide =
        elim (cases_lt p (length at)) [
          | inr beyond ↦ inr (λ h. omega (arith, h.0))
          | inl within ↦ elim (decide (get_or at p 0)) [
            | inl on ↦ inl (within, on)
            | inr not_on ↦ inr (λ h. not_on h.1)
          ]
        ]

    on_at_position : (u v x : ℕ) → position_of at x < length at → IsOn J u x v → OnAt J at u v (position_of at x)
    on_at_position u v x node on = (node, subst (λ y. IsOn J u y v) (sym (get_or-position at x 0 node)) on)

    top_at : (u v : ℕ) → LeastNumber (OnAt J at u v) → (x : ℕ) × IsTop J at u v x
    top_at u v l =
        (get_or at l.number 0, record { on = l.holds.1; highest = highest })
      where
        highest : (y : ℕ) → IsOn J u y v → RanksAbove at y (get_or at l.number 0) → ⊥
        highest y on above =
            let place : position_of at (get_or at l.number 0) ≡ l.number = position-get_or at l.number 0 ranking.once l.holds.0 in
            omega (arith, above, place, l.holds.0, l.least (position_of at y) (on_at_position u v y (omega (arith, above, place, l.holds.0)) on))

    -- where a shortest walk leads from a node, and it is decided what is on one, there is one
    pub IsTop-exists : (u v d : ℕ) → 1 ≤ u → u ≤ length at → ((x : ℕ) → IsOn J u x v ⊎ (IsOn J u x v → ⊥)) → IsLeast J u v d → (x : ℕ) × IsTop J at u v x
    IsTop-exists u v d from_one up_to_n decide least =
        top_at u v (LeastNumber-exists (OnAt J at u v) (λ p. on_at_decided u v p decide) (position_of at u) (on_at_position u v u (position-lt at u ranking from_one up_to_n) (IsOn-start J u v d least)))

    module _ (symmetric : (x y w : ℕ) → J x y w → J y x w) where
      cover_of : (h v x d : ℕ) → IsTop J at h v x → RanksAbove at x h → HasWalk J h v d → CoveringHub J at h v d
      cover_of h v x d top above walk =
          let p = OnParts-from_on J h x v top.on in
          record {
            hub = x;
            before = p.before;
            after = p.after;
            above = above;
            to_start = IsTop-canonical_for_start J at symmetric h v x p.before top (IsLeast-back J symmetric h x p.before p.first);
            to_end = IsTop-canonical_for_end J at h v x p.after top p.second;
            least = p.whole;
            short = p.whole.none_shorter d walk;
          }

      hub_or_cover : (h v x d e : ℕ) → 1 ≤ h → h ≤ length at → IsLeast J h v e → HasWalk J h v d → IsTop J at h v x → IsCanonical J at h v e ⊎ CoveringHub J at h v d
      hub_or_cover h v x d e from_one up_to_n least walk top =
          let node = position-lt at h ranking from_one up_to_n in
          elim (cases_lt (position_of at x) (position_of at h)) [
            | inl above ↦ inr (cover_of h v x d top above walk)
            | inr not_above ↦ inl (IsCanonical-from_top J at h v e least (record { on = IsOn-start J h v e least; highest = λ y on above. top.highest y on (omega arith) }))
          ]

      -- a walk from h leads to a node of which h is a hub, or a hub of both covers it
      pub IsCanonical-or_cover : (h v d e : ℕ) → 1 ≤ h → h ≤ length at → ((x : ℕ) → IsOn J h x v ⊎ (IsOn J h x v → ⊥)) → IsLeast J h v e → HasWalk J h v d → IsCanonical J at h v e ⊎ CoveringHub J at h v d
      IsCanonical-or_cover h v d e from_one up_to_n decide least walk =
          let top = IsTop-exists h v e from_one up_to_n decide least in
          hub_or_cover h v top.0 d e from_one up_to_n least walk top.1
