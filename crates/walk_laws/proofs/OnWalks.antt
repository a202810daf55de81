-- The nodes on shortest walks, by lengths alone.
use Rattle.std.proofs.Common.{◌≡◌, ◌≢◌, ◌⊎◌, ℕ, ◌+◌, ◌≤◌, ◌<◌, List, [], ◌∷◌, ◌++◌, Contains, map, refl, subst, sym, ◌∙◌, inl, inr, arith}
use Rattle.walk_laws.specs.Walk.{Step, IsWalk, walk_length, nodes_of, HasWalk}
use Rattle.walk_laws.specs.Least.{IsLeast}
use Rattle.walk_laws.specs.On.{IsOn}
use Rattle.walk_laws.proofs.Members.{Contains-first, Contains-next, Contains-cons_cases}
use Rattle.walk_laws.proofs.Walks.{HasWalk-none, HasWalk-none_to, HasWalk-same, HasWalk-prefix, HasWalk-append, HasWalk-arc, HasWalk-last, HasWalk-zero, HasWalk-positive, LastStep, append_steps, append_length}
use Rattle.walk_laws.proofs.LeastWalks.{IsLeast-unique, IsLeast-same, IsLeast-none, IsLeast-prefix, IsLeast-rest}

-- a shortest walk from u to v by way of x, as two least lengths
pub record OnParts (J : ℕ → ℕ → ℕ → Type 0) (u x v : ℕ) : Type 0 where
  pub before : ℕ
  pub after : ℕ
  pub first : IsLeast J u x before
  pub second : IsLeast J x v after
  pub whole : IsLeast J u v (before + after)

-- a node just before the end of a shortest walk by way of x
pub record OnPredecessor (J : ℕ → ℕ → ℕ → Type 0) (u x v : ℕ) : Type 0 where
  pub node : ℕ
  pub weight : ℕ
  pub before : ℕ
  pub arc : J node v weight
  pub least : IsLeast J u node before
  pub whole : IsLeast J u v (before + weight)
  pub on : IsOn J u x node

-- two walks, one after the other
pub record Cut (J : ℕ → ℕ → ℕ → Type 0) (u x v d : ℕ) : Type 0 where
  pub before : ℕ
  pub after : ℕ
  pub first : HasWalk J u x before
  pub second : HasWalk J x v after
  pub long : before + after ≡ d

module _ (J : ℕ → ℕ → ℕ → Type 0) where
  cut_after : (u y x v w d : ℕ) → J u y w → Cut J y x v d → Cut J u x v (w + d)
  cut_after u y x v w d arc c =
      record { before = w + c.before; after = c.after; first = HasWalk-prefix J u y x w c.before arc c.first; second = c.second; long = omega (arith, c.long) }

  -- a walk can be cut at each node that it passes
  pub cut_at : (steps : List Step) (u x v : ℕ) → IsWalk J u steps v → Contains (nodes_of u steps) x → Cut J u x v (walk_length steps)
  cut_at [] u x v walk passes =
      elim (Contains-cons_cases u x [] passes) [
        | inl here ↦ record { before = 0; after = 0; first = HasWalk-none_to J u x here; second = HasWalk-none_to J x v (sym here ∙ walk); long = refl }
        | inr nowhere ↦ absurd (omega arith)
      ]
  cut_at (s ∷ steps) u x v walk passes =
      elim (Contains-cons_cases u x (nodes_of s.to steps) passes) [
        | inl here ↦ record {
          before = 0;
          after = walk_length (s ∷ steps);
          first = HasWalk-none_to J u x here;
          second = record { steps = s ∷ steps; walk = subst (λ y. IsWalk J y (s ∷ steps) v) here walk; long = refl };
          long = omega arith;
        }
        | inr later ↦ cut_after u s.to x v s.weight (walk_length steps) (subst (λ y. J y s.to s.weight) walk.0 walk.1) (cut_at steps s.to x v walk.2 later)
      ]

  -- two walks, one after the other, pass the node between them
  passes_between : (xs ys : List Step) (u x v : ℕ) → IsWalk J u xs x → IsWalk J x ys v → Contains (nodes_of u (xs ++ ys)) x
  passes_between [] ys u x v first second = subst (λ y. Contains (nodes_of u ys) y) first (Contains-first u (map (λ s. s.to) ys))
  passes_between (s ∷ xs) ys u x v first second = Contains-next u x (nodes_of s.to (xs ++ ys)) (passes_between xs ys s.to x v first.2 second)

  -- x is on a shortest walk where a walk to it and one from it make a least length
  pub IsOn-from_parts : (u x v a b : ℕ) → HasWalk J u x a → HasWalk J x v b → IsLeast J u v (a + b) → IsOn J u x v
  IsOn-from_parts u x v a b first second whole =
      let long : walk_length (first.steps ++ second.steps) ≡ a + b = omega (arith, append_length J first.steps second.steps, first.long, second.long) in
      record {
        steps = first.steps ++ second.steps;
        walk = append_steps J first.steps second.steps u x v first.walk second.walk;
        least = IsLeast-same J u v (a + b) (walk_length (first.steps ++ second.steps)) (sym long) whole;
        passes = passes_between first.steps second.steps u x v first.walk second.walk;
      }

  parts_of_cut : (u x v d : ℕ) → IsLeast J u v d → Cut J u x v d → OnParts J u x v
  parts_of_cut u x v d least c =
      let whole = IsLeast-same J u v d (c.before + c.after) (sym c.long) least in
      record {
        before = c.before;
        after = c.after;
        first = IsLeast-prefix J u x v c.before c.after c.first c.second whole;
        second = IsLeast-rest J u x v c.before c.after c.first c.second whole;
        whole = whole;
      }

  -- and then the two lengths are least
  pub OnParts-from_on : (u x v : ℕ) → IsOn J u x v → OnParts J u x v
  OnParts-from_on u x v on = parts_of_cut u x v (walk_length on.steps) on.least (cut_at on.steps u x v on.walk on.passes)

  -- the same with the least lengths given
  pub IsOn-adds : (u x v a b d : ℕ) → IsOn J u x v → IsLeast J u x a → IsLeast J x v b → IsLeast J u v d → a + b ≡ d
  IsOn-adds u x v a b d on first second whole =
      let p = OnParts-from_on u x v on in
      omega (arith, IsLeast-unique J u x a p.before first p.first, IsLeast-unique J x v b p.after second p.second, IsLeast-unique J u v d (p.before + p.after) whole p.whole)

  -- both ends of a shortest walk are on it
  pub IsOn-start : (u v d : ℕ) → IsLeast J u v d → IsOn J u u v
  IsOn-start u v d least = IsOn-from_parts u u v 0 d (HasWalk-none J u) least.walk (IsLeast-same J u v d (0 + d) (omega arith) least)

  pub IsOn-end : (u v d : ℕ) → IsLeast J u v d → IsOn J u v v
  IsOn-end u v d least = IsOn-from_parts u v v d 0 least.walk (HasWalk-none J v) (IsLeast-same J u v d (d + 0) (omega arith) least)

  before_last : (u x v : ℕ) → (p : OnParts J u x v) → LastStep J x v p.after → OnPredecessor J u x v
  before_last u x v p last =
      let to_node : HasWalk J u last.node (p.before + last.before) = HasWalk-append J u x last.node p.before last.before p.first.walk last.walk in
      let whole : IsLeast J u v (p.before + last.before + last.weight) = IsLeast-same J u v (p.before + p.after) (p.before + last.before + last.weight) (omega (arith, last.long)) p.whole in
      let least : IsLeast J u last.node (p.before + last.before) = IsLeast-prefix J u last.node v (p.before + last.before) last.weight to_node (HasWalk-arc J last.node v last.weight last.arc) whole in
      record {
        node = last.node;
        weight = last.weight;
        before = p.before + last.before;
        arc = last.arc;
        least = least;
        whole = whole;
        on = IsOn-from_parts u x last.node p.before last.before p.first.walk last.walk least;
      }

  -- a node on a shortest walk is its end, or on a shortest walk to a node just before the end
  pub IsOn-last : (u x v : ℕ) → IsOn J u x v → (x ≡ v) ⊎ OnPredecessor J u x v
  IsOn-last u x v on =
      let p = OnParts-from_on u x v on in
      elim (HasWalk-last J x v p.after p.second.walk) [
        | inl empty ↦ inl empty.0
        | inr last ↦ inr (before_last u x v p last)
      ]

  -- what is on a shortest walk is on each shortest walk that goes on from it
  pub IsOn-left : (u x y v : ℕ) → IsOn J u x y → IsOn J u y v → IsOn J u x v
  IsOn-left u x y v on further =
      let p = OnParts-from_on u x y on in
      let q = OnParts-from_on u y v further in
      let same = IsLeast-unique J u y q.before (p.before + p.after) q.first p.whole in
      IsOn-from_parts u x v p.before (p.after + q.after) p.first.walk (HasWalk-append J x y v p.after q.after p.second.walk q.second.walk) (IsLeast-same J u v (q.before + q.after) (p.before + (p.after + q.after)) (omega (arith, same)) q.whole)

  pub IsOn-right : (u x y v : ℕ) → IsOn J u x v → IsOn J x y v → IsOn J u y v
  IsOn-right u x y v on further =
      let p = OnParts-from_on u x v on in
      let q = OnParts-from_on x y v further in
      let same = IsLeast-unique J x v p.after (q.before + q.after) p.second q.whole in
      IsOn-from_parts u y v (p.before + q.before) q.after (HasWalk-append J u x y p.before q.before p.first.walk q.first.walk) q.second.walk (IsLeast-same J u v (p.before + p.after) (p.before + q.before + q.after) (omega (arith, same)) p.whole)

  -- what is on a shortest walk to y is on each shortest walk whose last step comes from y
  pub IsOn-step : (u x y v w a : ℕ) → IsOn J u x y → IsLeast J u y a → J y v w → IsLeast J u v (a + w) → IsOn J u x v
  IsOn-step u x y v w a on least arc whole =
      IsOn-left u x y v on (IsOn-from_parts u y v a w least.walk (HasWalk-arc J y v w arc) whole)

  module _ (positive : (x y w : ℕ) → J x y w → 1 ≤ w) where
    -- only u is on a shortest walk from u to u
    pub IsOn-itself : (u x : ℕ) → IsOn J u x u → x ≡ u
    IsOn-itself u x on =
        let p = OnParts-from_on u x u on in
        let none = IsLeast-unique J u u (p.before + p.after) 0 p.whole (IsLeast-none J u) in
        HasWalk-zero J positive x u (HasWalk-same J x u p.after 0 (omega (arith, none)) p.second.walk)

    -- each node on a shortest walk but its end is strictly nearer
    pub IsOn-nearer : (u x v a d : ℕ) → IsOn J u x v → x ≢ v → IsLeast J u x a → IsLeast J u v d → a < d
    IsOn-nearer u x v a d on other first whole =
        let p = OnParts-from_on u x v on in
        let rest = HasWalk-positive J positive x v p.after other p.second.walk in
        omega (arith, rest, IsLeast-unique J u x a p.before first p.first, IsLeast-unique J u v d (p.before + p.after) whole p.whole)
