-- The hubs that two nodes share tell how far they are apart, and the highest-ranked node between them.
use Rattle.std.proofs.Common.{◌≡◌, ℕ, ◌+◌, ◌≤◌, ◌<◌, List, length, slice_get, Some, None, Option, refl, subst, sym, ap, ◌∙◌, inl, inr, arith}
use Rattle.std.proofs.lemmas.Bool.{cases_lt}
use Rattle.std.proofs.lemmas.Option.{same_Some, slice_get_within, get_or_from_slice_get}
use Rattle.walk_laws.specs.declared.entry.Entry.{Entry}
use Rattle.walk_laws.specs.Walk.{HasWalk}
use Rattle.walk_laws.specs.Least.{IsLeast}
use Rattle.walk_laws.specs.On.{IsOn}
use Rattle.walk_laws.specs.Top.{IsTop}
use Rattle.walk_laws.specs.Ranking.{IsRanking, position_of}
use Rattle.walk_laws.specs.Labelling.{IsRow, label_row}
use Rattle.walk_laws.specs.Meet.{HasSum, IsLeastSum, IsMeet}
use Rattle.walk_laws.proofs.Positions.{slice_get-at_position, position-get_or}
use Rattle.walk_laws.proofs.Walks.{HasWalk-same, HasWalk-append}
use Rattle.walk_laws.proofs.LeastWalks.{IsLeast-unique, IsLeast-same}
use Rattle.walk_laws.proofs.OnWalks.{OnParts-from_on, IsOn-from_parts}
use Rattle.walk_laws.proofs.Backwards.{HasWalk-back, IsLeast-back}
use Rattle.walk_laws.proofs.CanonicalHubs.{IsTop-canonical_for_start, IsTop-canonical_for_end}

-- the node at a position that both rows share, between the two walks
record Shared (J : ℕ → ℕ → ℕ → Type 0) (at : List ℕ) (u v p d : ℕ) : Type 0 where
  hub : ℕ
  before : ℕ
  after : ℕ
  place : slice_get at p ≡ Some hub
  first : HasWalk J u hub before
  second : HasWalk J hub v after
  long : before + after ≡ d

module _ (J : ℕ → ℕ → ℕ → Type 0) (symmetric : (x y w : ℕ) → J x y w → J y x w) (at : List ℕ) where
  module _ (u v : ℕ) (first second : List Entry) (of_u : IsRow J at u first) (of_v : IsRow J at v second) where
    shared : (p d : ℕ) → HasSum first second p d → Shared J at u v p d
    shared p d s =
        let from_u = (of_u.each (record { pos = p; dist = s.before })).0 s.in_first in
        let from_v = (of_v.each (record { pos = p; dist = s.after })).0 s.in_second in
        let same : from_v.0 ≡ from_u.0 = same_Some from_v.0 from_u.0 (sym from_v.1 ∙ from_u.1) in
        record {
          hub = from_u.0;
          before = s.before;
          after = s.after;
          place = from_u.1;
          first = HasWalk-back J symmetric from_u.0 u s.before from_u.2.least.walk;
          second = subst (λ x. HasWalk J x v s.after) same from_v.2.least.walk;
          long = s.long;
        }

    -- each sum at a shared position is the length of a walk
    pub HasSum-walk : (p d : ℕ) → HasSum first second p d → HasWalk J u v d
    HasSum-walk p d s =
        let h = shared p d s in
        HasWalk-same J u v (h.before + h.after) d h.long (HasWalk-append J u h.hub v h.before h.after h.first h.second)

    -- and its hub is on a shortest walk where the sum is the least length
    HasSum-on : (p d : ℕ) → HasSum first second p d → IsLeast J u v d → (x : ℕ) × (slice_get at p ≡ Some x) × IsOn J u x v
    HasSum-on p d s least =
        let h = shared p d s in
        (h.hub, h.place, IsOn-from_parts J u h.hub v h.before h.after h.first h.second (IsLeast-same J u v d (h.before + h.after) (sym h.long) least))

    -- the highest-ranked node on a shortest walk is shared, at the least length
    pub HasSum-top : (x d : ℕ) → position_of at x < length at → IsTop J at u v x → IsLeast J u v d → HasSum first second (position_of at x) d
    HasSum-top x d node top least =
        let p = OnParts-from_on J u x v top.on in
        let place : slice_get at (position_of at x) ≡ Some x = slice_get-at_position at x node in
        record {
          before = p.before;
          after = p.after;
          in_first = (of_u.each (record { pos = position_of at x; dist = p.before })).1 (x, place, IsTop-canonical_for_start J at symmetric u v x p.before top (IsLeast-back J symmetric u x p.before p.first));
          in_second = (of_v.each (record { pos = position_of at x; dist = p.after })).1 (x, place, IsTop-canonical_for_end J at u v x p.after top p.second);
          long = IsLeast-unique J u v (p.before + p.after) d p.whole least;
        }

    module _ (ranking : IsRanking at) where
      place_of : (p x : ℕ) → slice_get at p ≡ Some x → position_of at x ≡ p
      place_of p x is =
          subst (λ y. position_of at y ≡ p) (get_or_from_slice_get at p x 0 is) (position-get_or at p 0 ranking.once (slice_get_within at p x is))

      no_lower : (x d q : ℕ) → IsTop J at u v x → IsLeast J u v d → HasSum first second q d → position_of at x ≤ q
      no_lower x d q top least s =
          let on = HasSum-on q d s least in
          let place = place_of q on.0 on.1 in
          elim (cases_lt q (position_of at x)) [
            | inl above ↦ absurd (top.highest on.0 on.2 (omega (arith, place)))
            | inr not_above ↦ not_above
          ]

      -- the highest-ranked node on a shortest walk has the least sum at the least position
      pub IsLeastSum-top : (x d : ℕ) → position_of at x < length at → IsTop J at u v x → IsLeast J u v d → IsLeastSum first second (position_of at x) d
      IsLeastSum-top x d node top least =
          record { sum = HasSum-top x d node top least; least = λ q e s. least.none_shorter e (HasSum-walk q e s); highest = λ q s. no_lower x d q top least s }

-- two least sums are at one position and are one
pub IsLeastSum-unique : (first second : List Entry) (p q d e : ℕ) → IsLeastSum first second p d → IsLeastSum first second q e → (p ≡ q) × (d ≡ e)
IsLeastSum-unique first second p q d e a b =
    let same : d ≡ e = omega (arith, a.least q e b.sum, b.least p d a.sum) in
    (omega (arith, a.highest q (subst (HasSum first second q) (sym same) b.sum), b.highest p (subst (HasSum first second p) same a.sum)), same)

-- so two rows say one thing at most of their pair
pub IsMeet-unique : (at : List ℕ) (rows : List (List Entry)) (u v : ℕ) (a b : Option (ℕ × ℕ)) → IsMeet at rows u v a → IsMeet at rows u v b → a ≡ b
IsMeet-unique at rows u v None None first second = refl
IsMeet-unique at rows u v None (Some b) first second = absurd (first second.0 b.0 second.2.sum)
IsMeet-unique at rows u v (Some a) None first second = absurd (second first.0 a.0 first.2.sum)
IsMeet-unique at rows u v (Some a) (Some b) first second =
    let same = IsLeastSum-unique (label_row rows u) (label_row rows v) first.0 second.0 a.0 b.0 first.2 second.2 in
    let same_node = same_Some a.1 b.1 (sym first.1 ∙ ap (slice_get at) same.0 ∙ second.1) in
    ap (λ d. Some (d, a.1)) same.1 ∙ ap (λ x. Some (b.0, x)) same_node
