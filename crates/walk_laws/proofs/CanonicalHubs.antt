-- Canonical hubs: they are handed on along shortest walks, and nothing covers them.
use Rattle.std.proofs.Common.{◌≡◌, ℕ, ◌+◌, ◌≤◌, List, subst, arith}
use Rattle.walk_laws.specs.Walk.{HasWalk}
use Rattle.walk_laws.specs.Least.{IsLeast}
use Rattle.walk_laws.specs.On.{IsOn}
use Rattle.walk_laws.specs.Top.{IsTop}
use Rattle.walk_laws.specs.Ranking.{RanksAbove}
use Rattle.walk_laws.specs.Canonical.{IsCanonical}
use Rattle.walk_laws.proofs.Walks.{HasWalk-append}
use Rattle.walk_laws.proofs.LeastWalks.{IsLeast-unique, IsLeast-none, IsLeast-from_le}
use Rattle.walk_laws.proofs.OnWalks.{IsOn-from_parts, IsOn-left, IsOn-right, IsOn-start, IsOn-end, IsOn-itself}
use Rattle.walk_laws.proofs.Backwards.{HasWalk-back, IsOn-back}

module _ (J : ℕ → ℕ → ℕ → Type 0) (at : List ℕ) where
  -- a hub has one distance
  pub IsCanonical-unique : (h v d e : ℕ) → IsCanonical J at h v d → IsCanonical J at h v e → d ≡ e
  IsCanonical-unique h v d e a b = IsLeast-unique J h v d e a.least b.least

  -- a hub is the highest-ranked node on a shortest walk from it, and the other way round
  pub IsTop-from_canonical : (h v d : ℕ) → IsCanonical J at h v d → IsTop J at h v h
  IsTop-from_canonical h v d c = record { on = IsOn-start J h v d c.least; highest = c.highest }

  pub IsCanonical-from_top : (h v d : ℕ) → IsLeast J h v d → IsTop J at h v h → IsCanonical J at h v d
  IsCanonical-from_top h v d least top = record { least = least; highest = top.highest }

  -- a hub of v is a hub of each node on a shortest walk to v
  pub IsCanonical-inherited : (h x v a d : ℕ) → IsCanonical J at h v d → IsOn J h x v → IsLeast J h x a → IsCanonical J at h x a
  IsCanonical-inherited h x v a d c on least = record { least = least; highest = λ y here. c.highest y (IsOn-left J h y x v here on) }

  -- each node is a hub of its own
  pub IsCanonical-itself : ((x y w : ℕ) → J x y w → 1 ≤ w) → (h : ℕ) → IsCanonical J at h h 0
  IsCanonical-itself positive h =
      record { least = IsLeast-none J h; highest = λ x on above. not_above_itself x (IsOn-itself J positive h x on) above }
    where
      not_above_itself : (x : ℕ) → x ≡ h → RanksAbove at x h → ⊥
      not_above_itself x same above = let itself : RanksAbove at h h = subst (λ y. RanksAbove at y h) same above in omega (arith, itself)

  -- a hub ranks no lower than its node
  pub IsCanonical-ranked : (h v d : ℕ) → IsCanonical J at h v d → ¬ RanksAbove at v h
  IsCanonical-ranked h v d c = c.highest v (IsOn-end J h v d c.least)

  -- no walk from a hub to its node that is no longer than the hub's distance leads by a node that ranks above the hub
  pub IsCanonical-no_way : (h v q d a b : ℕ) → IsCanonical J at h v d → RanksAbove at q h → HasWalk J h q a → HasWalk J q v b → a + b ≤ d → ⊥
  IsCanonical-no_way h v q d a b c above first second short =
      let least = IsLeast-from_le J h v d (a + b) c.least (HasWalk-append J h q v a b first second) short in
      c.highest q (IsOn-from_parts J h q v a b first second least) above

  -- the highest-ranked node on a shortest walk is a hub of its end
  pub IsTop-canonical_for_end : (u v x b : ℕ) → IsTop J at u v x → IsLeast J x v b → IsCanonical J at x v b
  IsTop-canonical_for_end u v x b top least = record { least = least; highest = λ y on. top.highest y (IsOn-right J u x y v top.on on) }

  module _ (symmetric : (x y w : ℕ) → J x y w → J y x w) where
    -- the same with the walk from that node to the hub
    pub IsCanonical-no_cover : (h v q d a b : ℕ) → IsCanonical J at h v d → RanksAbove at q h → HasWalk J q h a → HasWalk J q v b → a + b ≤ d → ⊥
    IsCanonical-no_cover h v q d a b c above to_hub to_node short =
        IsCanonical-no_way h v q d a b c above (HasWalk-back J symmetric q h a to_hub) to_node short

    -- the highest-ranked node on a shortest walk is a hub of its start
    pub IsTop-canonical_for_start : (u v x a : ℕ) → IsTop J at u v x → IsLeast J x u a → IsCanonical J at x u a
    IsTop-canonical_for_start u v x a top least =
        record { least = least; highest = λ y on. top.highest y (IsOn-left J u y x v (IsOn-back J symmetric x y u on) top.on) }
