-- How walks are put together and taken apart. After this no proof needs the list of steps.
use Rattle.std.proofs.Common.{◌≡◌, ◌≢◌, ◌⊎◌, ℕ, ◌+◌, ◌≤◌, Bool, true, false, List, [], ◌∷◌, ◌++◌, refl, sym, ap, ◌∙◌, subst, inl, inr, arith}
use Rattle.walk_laws.specs.Walk.{Step, IsWalk, walk_length, HasWalk}

-- the walk's last step, after a walk to where it begins
pub record LastStep (J : ℕ → ℕ → ℕ → Type 0) (u v d : ℕ) : Type 0 where
  pub node : ℕ
  pub weight : ℕ
  pub before : ℕ
  pub walk : HasWalk J u node before
  pub arc : J node v weight
  pub long : before + weight ≡ d

-- the walk's first step, before a walk from where it ends
pub record FirstStep (J : ℕ → ℕ → ℕ → Type 0) (u v d : ℕ) : Type 0 where
  pub node : ℕ
  pub weight : ℕ
  pub after : ℕ
  pub arc : J u node weight
  pub walk : HasWalk J node v after
  pub long : weight + after ≡ d

-- the step by which a walk that ends outside a set leaves it
pub record Leaving (J : ℕ → ℕ → ℕ → Type 0) (S : ℕ → Bool) (u d : ℕ) : Type 0 where
  pub from : ℕ
  pub to : ℕ
  pub weight : ℕ
  pub before : ℕ
  pub inside : S from ≡ true
  pub outside : S to ≡ false
  pub arc : J from to weight
  pub walk : HasWalk J u from before
  pub long : before + weight ≤ d

module _ (J : ℕ → ℕ → ℕ → Type 0) where
  -- the empty walk
  pub HasWalk-none : (u : ℕ) → HasWalk J u u 0
  HasWalk-none u = record { steps = []; walk = refl; long = refl }

  pub HasWalk-none_to : (u v : ℕ) → u ≡ v → HasWalk J u v 0
  HasWalk-none_to u v e = record { steps = []; walk = e; long = refl }

  -- a length may be written otherwise
  pub HasWalk-same : (u v d e : ℕ) → d ≡ e → HasWalk J u v d → HasWalk J u v e
  HasWalk-same u v d e same h = record { steps = h.steps; walk = h.walk; long = h.long ∙ same }

  -- a step before
  pub HasWalk-prefix : (u y v w d : ℕ) → J u y w → HasWalk J y v d → HasWalk J u v (w + d)
  HasWalk-prefix u y v w d arc h =
      record { steps = record { from = u; to = y; weight = w } ∷ h.steps; walk = (refl, arc, h.walk); long = ap (λ n. w + n) h.long }

  pub append_steps : (xs ys : List Step) (u x v : ℕ) → IsWalk J u xs x → IsWalk J x ys v → IsWalk J u (xs ++ ys) v
  append_steps [] ys u x v first second = subst (λ y. IsWalk J y ys v) (sym first) second
  append_steps (s ∷ xs) ys u x v first second = (first.0, first.1, append_steps xs ys s.to x v first.2 second)

  pub append_length : (xs ys : List Step) → walk_length (xs ++ ys) ≡ walk_length xs + walk_length ys
  append_length [] ys = omega arith
  append_length (s ∷ xs) ys = omega (arith, append_length xs ys)

  -- joining two walks adds their lengths
  pub HasWalk-append : (u x v a b : ℕ) → HasWalk J u x a → HasWalk J x v b → HasWalk J u v (a + b)
  HasWalk-append u x v a b first second =
      record { steps = first.steps ++ second.steps; walk = append_steps first.steps second.steps u x v first.walk second.walk; long = omega (arith, append_length first.steps second.steps, first.long, second.long) }

  -- an arc is a walk of one step
  pub HasWalk-arc : (u v w : ℕ) → J u v w → HasWalk J u v w
  HasWalk-arc u v w arc = HasWalk-same u v (w + 0) w (omega arith) (HasWalk-prefix u v v w 0 arc (HasWalk-none v))

  -- a step after
  pub HasWalk-after : (u y v w d : ℕ) → HasWalk J u y d → J y v w → HasWalk J u v (d + w)
  HasWalk-after u y v w d h arc = HasWalk-append u y v d w h (HasWalk-arc y v w arc)

  first_of_steps : (steps : List Step) (u v d : ℕ) → IsWalk J u steps v → walk_length steps ≡ d → ((u ≡ v) × (d ≡ 0)) ⊎ FirstStep J u v d
  first_of_steps [] u v d walk long = inl (walk, sym long)
  first_of_steps (s ∷ steps) u v d walk long =
      inr (record { node = s.to; weight = s.weight; after = walk_length steps; arc = subst (λ x. J x s.to s.weight) walk.0 walk.1; walk = record { steps = steps; walk = walk.2; long = refl }; long = long })

  -- each walk is empty or has a first step
  pub HasWalk-first : (u v d : ℕ) → HasWalk J u v d → ((u ≡ v) × (d ≡ 0)) ⊎ FirstStep J u v d
  HasWalk-first u v d h = first_of_steps h.steps u v d h.walk h.long

  -- what holds of the empty walk, and after each step of a walk where it held before it, holds of each walk
  pub HasWalk-induction : (P : ℕ → ℕ → Type 0) (u : ℕ) → P u 0 → ((y v w a : ℕ) → HasWalk J u y a → P y a → J y v w → P v (a + w)) → (v d : ℕ) → HasWalk J u v d → P v d
  HasWalk-induction P u base step v d h = along h.steps u 0 (HasWalk-none u) base v d h.walk (omega (arith, h.long))
    where
      along : (steps : List Step) (x a : ℕ) → HasWalk J u x a → P x a → (v d : ℕ) → IsWalk J x steps v → a + walk_length steps ≡ d → P v d
      along [] x a before here v d walk long = subst (λ e. P v e) long (subst (λ y. P y (a + 0)) walk (subst (λ e. P x e) (omega arith) here))
      along (s ∷ steps) x a before here v d walk long =
          let arc = subst (λ y. J y s.to s.weight) walk.0 walk.1 in
          along steps s.to (a + s.weight) (HasWalk-after u x s.to s.weight a before arc) (step x s.to s.weight a before here arc) v d walk.2 (omega arith)

  -- each walk is empty or has a last step
  pub HasWalk-last : (u v d : ℕ) → HasWalk J u v d → ((u ≡ v) × (d ≡ 0)) ⊎ LastStep J u v d
  HasWalk-last u =
      HasWalk-induction (λ v d. ((u ≡ v) × (d ≡ 0)) ⊎ LastStep J u v d) u (inl (refl, refl)) (λ y v w a walk _ arc. inr (record { node = y; weight = w; before = a; walk = walk; arc = arc; long = refl }))

  -- what each arc hands on holds at the end of each walk from where it holds
  pub HasWalk-closed : (P : ℕ → Type 0) → ((x y w : ℕ) → P x → J x y w → P y) → (u v d : ℕ) → HasWalk J u v d → P u → P v
  HasWalk-closed P closed u v d h here = HasWalk-induction (λ y _. P y) u here (λ y x w a _ before arc. closed y x w before arc) v d h

  -- a set that each arc from it leads into is left by no walk
  pub HasWalk-stays : (S : ℕ → Bool) → ((x y w : ℕ) → S x ≡ true → J x y w → S y ≡ true) → (u v d : ℕ) → HasWalk J u v d → S u ≡ true → S v ≡ true
  HasWalk-stays S = HasWalk-closed (λ x. S x ≡ true)

  leaves_by : (S : ℕ → Bool) (u y v w a : ℕ) → HasWalk J u y a → S y ≡ true → J y v w → (b : Bool) → S v ≡ b → (S v ≡ true) ⊎ Leaving J S u (a + w)
  leaves_by S u y v w a walk inside arc true is = inl is
  leaves_by S u y v w a walk inside arc false is =
      inr (record { from = y; to = v; weight = w; before = a; inside = inside; outside = is; arc = arc; walk = walk; long = omega arith })

  still_left : (S : ℕ → Bool) (u a w : ℕ) → Leaving J S u a → Leaving J S u (a + w)
  still_left S u a w l =
      record { from = l.from; to = l.to; weight = l.weight; before = l.before; inside = l.inside; outside = l.outside; arc = l.arc; walk = l.walk; long = omega (arith, l.long) }

  inside_or_left : (S : ℕ → Bool) (u : ℕ) → S u ≡ true → (v d : ℕ) → HasWalk J u v d → (S v ≡ true) ⊎ Leaving J S u d
  inside_or_left S u inside =
      HasWalk-induction (λ v d. (S v ≡ true) ⊎ Leaving J S u d) u (inl inside) (λ y v w a walk so_far arc. elim so_far [
        | inl here ↦ leaves_by S u y v w a walk here arc (S v) refl
        | inr left ↦ inr (still_left S u a w left)
      ])

  -- a walk from a set to a node outside leaves it by an arc
  pub HasWalk-leaves : (S : ℕ → Bool) (u v d : ℕ) → HasWalk J u v d → S u ≡ true → S v ≡ false → Leaving J S u d
  HasWalk-leaves S u v d h inside outside =
      elim (inside_or_left S u inside v d h) [
        | inl still ↦ absurd (cc)
        | inr left ↦ left
      ]

  -- each arc weighs at least 1, so a walk of length 0 stays where it is
  pub HasWalk-zero : ((x y w : ℕ) → J x y w → 1 ≤ w) → (u v : ℕ) → HasWalk J u v 0 → u ≡ v
  HasWalk-zero positive u v h =
      elim (HasWalk-last u v 0 h) [
        | inl empty ↦ empty.0
        | inr last ↦ absurd (omega (arith, last.long, positive last.node v last.weight last.arc))
      ]

  -- and a walk to another node has a length of at least 1
  pub HasWalk-positive : ((x y w : ℕ) → J x y w → 1 ≤ w) → (u v d : ℕ) → u ≢ v → HasWalk J u v d → 1 ≤ d
  HasWalk-positive positive u v d other h =
      elim (HasWalk-last u v d h) [
        | inl empty ↦ absurd (other empty.0)
        | inr last ↦ omega (arith, last.long, positive last.node v last.weight last.arc)
      ]

-- a walk over some arcs is one over more
pub HasWalk-more : (J K : ℕ → ℕ → ℕ → Type 0) → ((x y w : ℕ) → J x y w → K x y w) → (u v d : ℕ) → HasWalk J u v d → HasWalk K u v d
HasWalk-more J K more u v d h =
    HasWalk-induction J (λ x e. HasWalk K u x e) u (HasWalk-none K u) (λ y x w a _ so_far arc. HasWalk-after K u y x w a so_far (more y x w arc)) v d h
