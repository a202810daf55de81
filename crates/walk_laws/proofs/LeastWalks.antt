-- Least walk lengths: the parts of a least walk are least.
use Rattle.std.proofs.Common.{◌≡◌, ◌≢◌, ℕ, ◌+◌, ◌≤◌, subst, sym, inl, inr, arith}
use Rattle.walk_laws.specs.Walk.{HasWalk}
use Rattle.walk_laws.specs.Least.{IsLeast, AreApart}
use Rattle.walk_laws.proofs.Walks.{HasWalk-none, HasWalk-append, HasWalk-after, HasWalk-last, LastStep}

-- a node just before the end of a shortest walk
pub record Predecessor (J : ℕ → ℕ → ℕ → Type 0) (u v d : ℕ) : Type 0 where
  pub node : ℕ
  pub weight : ℕ
  pub before : ℕ
  pub least : IsLeast J u node before
  pub arc : J node v weight
  pub long : before + weight ≡ d

module _ (J : ℕ → ℕ → ℕ → Type 0) where
  -- there is one least length
  pub IsLeast-unique : (u v d e : ℕ) → IsLeast J u v d → IsLeast J u v e → d ≡ e
  IsLeast-unique u v d e a b = omega (arith, a.none_shorter e b.walk, b.none_shorter d a.walk)

  -- a length may be written otherwise
  pub IsLeast-same : (u v d e : ℕ) → d ≡ e → IsLeast J u v d → IsLeast J u v e
  IsLeast-same u v d e same = subst (IsLeast J u v) same

  -- a walk no longer than the least length is least
  pub IsLeast-from_le : (u v d e : ℕ) → IsLeast J u v d → HasWalk J u v e → e ≤ d → IsLeast J u v e
  IsLeast-from_le u v d e least walk short = let same : d ≡ e = omega (arith, least.none_shorter e walk) in IsLeast-same u v d e same least

  pub IsLeast-none : (u : ℕ) → IsLeast J u u 0
  IsLeast-none u = record { walk = HasWalk-none J u; none_shorter = λ e _. omega arith }

  -- a walk whose rest makes it least is least
  pub IsLeast-prefix : (u x v a b : ℕ) → HasWalk J u x a → HasWalk J x v b → IsLeast J u v (a + b) → IsLeast J u x a
  IsLeast-prefix u x v a b first second whole =
      record { walk = first; none_shorter = λ e other. omega (arith, whole.none_shorter (e + b) (HasWalk-append J u x v e b other second)) }

  -- the rest of a least walk is least
  pub IsLeast-rest : (u x v a b : ℕ) → HasWalk J u x a → HasWalk J x v b → IsLeast J u v (a + b) → IsLeast J x v b
  IsLeast-rest u x v a b first second whole =
      record { walk = second; none_shorter = λ e other. omega (arith, whole.none_shorter (a + e) (HasWalk-append J u x v a e first other)) }

  -- a step past the least length does not go below it
  pub IsLeast-le_step : (u y v w a d : ℕ) → HasWalk J u y a → J y v w → IsLeast J u v d → d ≤ a + w
  IsLeast-le_step u y v w a d walk arc least = least.none_shorter (a + w) (HasWalk-after J u y v w a walk arc)

  predecessor_of_last : (u v d : ℕ) → IsLeast J u v d → LastStep J u v d → Predecessor J u v d
  predecessor_of_last u v d least last = record {
    node = last.node;
    weight = last.weight;
    before = last.before;
    least = record { walk = last.walk; none_shorter = λ e other. omega (arith, last.long, least.none_shorter (e + last.weight) (HasWalk-after J u last.node v last.weight e other last.arc)) };
    arc = last.arc;
    long = last.long;
  }

  -- a node other than the start has a predecessor on a shortest walk
  pub IsLeast-predecessor : (u v d : ℕ) → IsLeast J u v d → v ≢ u → Predecessor J u v d
  IsLeast-predecessor u v d least other =
      elim (HasWalk-last J u v d least.walk) [
        | inl empty ↦ absurd (other (sym empty.0))
        | inr last ↦ predecessor_of_last u v d least last
      ]

  -- where a walk of some length leads, the nodes are not apart
  pub AreApart-not : (u v d : ℕ) → HasWalk J u v d → ¬ AreApart J u v
  AreApart-not u v d walk apart = apart d walk
