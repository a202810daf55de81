-- Walks the other way, where each arc leads both ways.
use Rattle.std.proofs.Common.{ℕ, ◌+◌, arith}
use Rattle.walk_laws.specs.Walk.{HasWalk}
use Rattle.walk_laws.specs.Least.{IsLeast, AreApart}
use Rattle.walk_laws.specs.On.{IsOn}
use Rattle.walk_laws.proofs.Walks.{HasWalk-none, HasWalk-same, HasWalk-prefix, HasWalk-induction}
use Rattle.walk_laws.proofs.LeastWalks.{IsLeast-same}
use Rattle.walk_laws.proofs.OnWalks.{OnParts-from_on, IsOn-from_parts}

module _ (J : ℕ → ℕ → ℕ → Type 0) (symmetric : (x y w : ℕ) → J x y w → J y x w) where
  pub HasWalk-back : (u v d : ℕ) → HasWalk J u v d → HasWalk J v u d
  HasWalk-back u v d h =
      HasWalk-induction J (λ x e. HasWalk J x u e) u (HasWalk-none J u) (λ y x w a _ before arc. HasWalk-same J x u (w + a) (a + w) (omega arith) (HasWalk-prefix J x y u w a (symmetric y x w arc) before)) v d h

  pub IsLeast-back : (u v d : ℕ) → IsLeast J u v d → IsLeast J v u d
  IsLeast-back u v d least =
      record { walk = HasWalk-back u v d least.walk; none_shorter = λ e other. least.none_shorter e (HasWalk-back v u e other) }

  pub AreApart-back : (u v : ℕ) → AreApart J u v → AreApart J v u
  AreApart-back u v apart d walk = apart d (HasWalk-back v u d walk)

  pub IsOn-back : (u x v : ℕ) → IsOn J u x v → IsOn J v x u
  IsOn-back u x v on =
      let p = OnParts-from_on J u x v on in
      IsOn-from_parts J v x u p.after p.before (HasWalk-back x v p.after p.second.walk) (HasWalk-back u x p.before p.first.walk) (IsLeast-same J v u (p.before + p.after) (p.after + p.before) (omega arith) (IsLeast-back u v (p.before + p.after) p.whole))
