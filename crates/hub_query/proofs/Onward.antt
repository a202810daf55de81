-- Walks by the rows of an index: how they are put together, and what they come to.
use Rattle.std.proofs.Common.{◌≡◌, ◌≢◌, ◌⊎◌, ℕ, ◌+◌, ◌-◌, ◌≤◌, List, [], ◌∷◌, ◌++◌, length, Some, refl, sym, ap, subst, ◌∙◌, inl, inr, arith}
use Rattle.std.proofs.lemmas.Option.{same_Some}
use Rattle.walk_laws.specs.declared.graph.Arc.{Arc}
use Rattle.walk_laws.specs.Walk.{Step, IsWalk, walk_length, nodes_of}
use Rattle.walk_laws.proofs.CommonHubs.{IsMeet-unique}
use Rattle.hub_index.specs.HubIndex.{HubIndex}
use Rattle.hub_index.specs.WellFormed.{own_entry, IsWellFormed}
use Rattle.hub_query.specs.Paths.{AreApartBy, IsOnward, IsFirstOnward, LeadsOn, ComesTo, IsRowWalk}
use Rattle.hub_query.proofs.RowFacts.{row_own}

-- the rows say one thing at most
pub one_rest : (index : HubIndex) (x v a b : ℕ) → AreApartBy index x v a → AreApartBy index x v b → a ≡ b
one_rest index x v a b first second =
    ap (λ (p : ℕ × ℕ). p.0) (same_Some (a, first.0) (b, second.0) (IsMeet-unique index.order index.rows x v (Some (a, first.0)) (Some (b, second.0)) first.1 second.1))

-- the arc doesn't lead onward where d is left
abbrev pub LeadsNowhere : HubIndex → ℕ → ℕ → Arc → Type 0
LeadsNowhere index v d a = a.w ≤ d → AreApartBy index a.to v (d - a.w) → ⊥

-- an onward node is where its arc leads
pub as_arc : (index : HubIndex) (v d z w rest : ℕ) → w + rest ≡ d → AreApartBy index z v rest → LeadsNowhere index v d (record { to = z; w = w }) → ⊥
as_arc index v d z w rest adds meet nowhere =
    let far : rest ≡ d - w = omega (arith, adds) in
    nowhere (omega (arith, adds)) (subst (AreApartBy index z v) far meet)

-- and a node is no way from itself
pub no_way_left : (index : HubIndex) (v d : ℕ) → IsWellFormed index.order index.rows → 1 ≤ v → v ≤ length index.order → AreApartBy index v v d → d ≡ 0
no_way_left index v d well from_one up_to_n meet =
    let own = row_own index.order index.rows v well from_one up_to_n in
    omega (arith, meet.1.2.least (own_entry index.order v).pos 0 (record { before = 0; after = 0; in_first = own; in_second = own; long = refl }))

module _ (J : ℕ → ℕ → ℕ → Type 0) (index : HubIndex) (v : ℕ) where
  -- the arc that leads on goes to the first onward node
  pub first_of_arc : (x d : ℕ) (a : Arc) → LeadsOn J index v x d a → IsFirstOnward J index v x d a.to
  first_of_arc x d a on = record {
    onward = record { weight = a.w; rest = d - a.w; arc = on.arc; meet = on.meet; adds = omega (arith, on.light) };
    least = on.least;
  }

  -- one step more
  pub ComesTo-step : (nodes : List ℕ) (x d y e z : ℕ) → ComesTo J index v x d nodes y e → y ≢ v → (s : IsFirstOnward J index v y e z) → ComesTo J index v x d (nodes ++ z ∷ []) z s.onward.rest
  ComesTo-step [] x d y e z comes other s =
      let step : IsFirstOnward J index v x d z = subst (λ a. IsFirstOnward J index v a d z) (sym comes.0) (subst (λ b. IsFirstOnward J index v y b z) (sym comes.1) s) in
      (λ same. other (sym comes.0 ∙ same), step, (refl, one_rest index z v step.onward.rest s.onward.rest step.onward.meet s.onward.meet))
  ComesTo-step (w ∷ nodes) x d y e z comes other s = (comes.0, comes.1, ComesTo-step nodes w comes.1.onward.rest y e z comes.2 other s)

  -- the walk that they are
  pub record StepsOf (x d : ℕ) (nodes : List ℕ) (z e : ℕ) : Type 0 where
    pub steps : List Step
    pub walk : IsWalk J x steps z
    pub long : walk_length steps + e ≡ d
    pub passes : nodes_of x steps ≡ x ∷ nodes

  pub steps_of : (nodes : List ℕ) (x d z e : ℕ) → ComesTo J index v x d nodes z e → StepsOf x d nodes z e
  steps_of [] x d z e comes = record { steps = []; walk = comes.0; long = omega (arith, comes.1); passes = refl }
  steps_of (y ∷ nodes) x d z e comes =
      let on = comes.1.onward in
      let rest = steps_of nodes y on.rest z e comes.2 in
      record {
        steps = record { from = x; to = y; weight = on.weight } ∷ rest.steps;
        walk = (refl, on.arc, rest.walk);
        long = omega (arith, rest.long, on.adds);
        passes = ap (λ (l : List ℕ). x ∷ l) rest.passes;
      }

  -- at v they are a walk by the rows
  pub row_walk : (u d : ℕ) (others : List ℕ) → AreApartBy index u v d → ComesTo J index v u d others v 0 → IsRowWalk J index u v d (u ∷ others)
  row_walk u d others meet comes =
      let s = steps_of others u d v 0 comes in
      record { meet = meet; steps = s.steps; walk = s.walk; long = omega (arith, s.long); passes = s.passes; others = others; from_u = refl; each_least = comes }

  -- it goes no further from z: it is v, or no node is onward
  abbrev pub IsLast : ℕ → ℕ → Type 0
  IsLast z e = (z ≡ v) ⊎ ((y : ℕ) → IsOnward J index v z e y → ⊥)

  goes_on : (x d y : ℕ) → IsLast x d → x ≢ v → IsOnward J index v x d y → ⊥
  goes_on x d y last other on = elim last [ inl same ↦ other same | inr none ↦ none y on ]

  -- what goes as far as it can goes one way
  pub one_way : (xs ys : List ℕ) (x d z e q f : ℕ) → ComesTo J index v x d xs z e → ComesTo J index v x d ys q f → IsLast z e → IsLast q f → (z ≡ q) × (xs ≡ ys)
  one_way [] [] x d z e q f a b last other_last = (sym a.0 ∙ b.0, refl)
  one_way [] (y ∷ ys) x d z e q f a b last other_last =
      absurd (goes_on x d y (subst (λ i. IsLast i d) (sym a.0) (subst (IsLast z) (sym a.1) last)) b.0 b.1.onward)
  one_way (y ∷ xs) [] x d z e q f a b last other_last =
      absurd (goes_on x d y (subst (λ i. IsLast i d) (sym b.0) (subst (IsLast q) (sym b.1) other_last)) a.0 a.1.onward)
  one_way (y ∷ xs) (w ∷ ys) x d z e q f a b last other_last =
      let same : y ≡ w = omega (arith, a.1.least w b.1.onward, b.1.least y a.1.onward) in
      let level : a.1.onward.rest ≡ b.1.onward.rest = one_rest index w v a.1.onward.rest b.1.onward.rest (subst (λ i. AreApartBy index i v a.1.onward.rest) same a.1.onward.meet) b.1.onward.meet in
      let moved = subst (λ r. ComesTo J index v w r xs z e) level (subst (λ i. ComesTo J index v i a.1.onward.rest xs z e) same a.2) in
      let rest = one_way xs ys w b.1.onward.rest z e q f moved b.2 last other_last in
      (rest.0, ap (λ i. i ∷ xs) same ∙ ap (λ l. w ∷ l) rest.1)

  -- the nodes so far, from u to x, where d is left
  pub record HasCome (u far : ℕ) (nodes : List ℕ) (x d : ℕ) : Type 0 where
    pub others : List ℕ
    pub from_u : nodes ≡ u ∷ others
    pub comes : ComesTo J index v u far others x d
    pub meet : AreApartBy index x v d
    pub from_one : 1 ≤ x
    pub up_to_n : x ≤ length index.order

  pub HasCome-start : (u far : ℕ) → AreApartBy index u v far → 1 ≤ u → u ≤ length index.order → HasCome u far (u ∷ []) u far
  HasCome-start u far meet from_one up_to_n = record { others = []; from_u = refl; comes = (refl, refl); meet = meet; from_one = from_one; up_to_n = up_to_n }

  pub HasCome-step : (u far : ℕ) (nodes : List ℕ) (x d : ℕ) (a : Arc) → HasCome u far nodes x d → x ≢ v → LeadsOn J index v x d a → 1 ≤ a.to → a.to ≤ length index.order → HasCome u far (nodes ++ a.to ∷ []) a.to (d - a.w)
  unfolding first_of_arc
  HasCome-step u far nodes x d a was other on from_one up_to_n = record {
    others = was.others ++ a.to ∷ [];
    from_u = ap (λ (l : List ℕ). l ++ a.to ∷ []) was.from_u;
    comes = ComesTo-step was.others u far x d a.to was.comes other (first_of_arc x d a on);
    meet = on.meet;
    from_one = from_one;
    up_to_n = up_to_n;
  }

  -- at v it is a walk by the rows
  pub HasCome-end : (u far : ℕ) (nodes : List ℕ) (x d : ℕ) → IsWellFormed index.order index.rows → AreApartBy index u v far → HasCome u far nodes x d → x ≡ v → IsRowWalk J index u v far nodes
  HasCome-end u far nodes x d well meet was same =
      let v_node : 1 ≤ v = omega (arith, was.from_one, same) in
      let v_within : v ≤ length index.order = omega (arith, was.up_to_n, same) in
      let none : d ≡ 0 = no_way_left index v d well v_node v_within (subst (λ i. AreApartBy index i v d) same was.meet) in
      let comes : ComesTo J index v u far was.others v 0 = subst (λ e. ComesTo J index v u far was.others v e) none (subst (λ z. ComesTo J index v u far was.others z d) same was.comes) in
      subst (IsRowWalk J index u v far) (sym was.from_u) (row_walk u far was.others meet comes)
