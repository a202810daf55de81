-- Two relations of arcs that are the same but for the names of the nodes: walks, least lengths and hubs are carried over.
use Rattle.std.specs.Prelude.{◌≡◌, ◌↔◌, ℕ, ◌+◌, Some, List, [], ◌∷◌, Contains, map, option_map, slice_get, refl}
use Rattle.std.proofs.Common.{◌∙◌, ap, sym, subst, inl, inr, arith}
use Rattle.std.proofs.lemmas.Option.{slice_get-map}
use Rattle.walk_laws.specs.declared.entry.Entry.{Entry}
use Rattle.walk_laws.specs.Walk.{Step, IsWalk, HasWalk, walk_length, nodes_of}
use Rattle.walk_laws.specs.Least.{IsLeast}
use Rattle.walk_laws.specs.On.{IsOn}
use Rattle.walk_laws.specs.Canonical.{IsCanonical}
use Rattle.walk_laws.specs.Labelling.{IsHubEntry}
use Rattle.walk_laws.specs.Ranking.{position_of}
use Rattle.walk_laws.proofs.Members.{Contains-first, Contains-next, Contains-cons_cases}

-- f leads from the nodes of J to those of K, and g back; the arcs of the one are those of the other
pub record Carries (J K : ℕ → ℕ → ℕ → Type 0) (In : ℕ → Type 0) (f g : ℕ → ℕ) : Type 0 where
  pub there : (x y w : ℕ) → J x y w → K (f x) (f y) w
  pub back : (x y w : ℕ) → K x y w → J (g x) (g y) w
  pub inside : (x : ℕ) → In x → In (f x)
  pub inside_back : (x : ℕ) → In x → In (g x)
  pub same : (x : ℕ) → In x → g (f x) ≡ x
  pub same_back : (x : ℕ) → In x → f (g x) ≡ x
  pub ends : (x y w : ℕ) → J x y w → In y
  pub ends_back : (x y w : ℕ) → K x y w → In y

pub turned : (J K : ℕ → ℕ → ℕ → Type 0) (In : ℕ → Type 0) (f g : ℕ → ℕ) → Carries J K In f g → Carries K J In g f
turned J K In f g c = record {
  there = c.back;
  back = c.there;
  inside = c.inside_back;
  inside_back = c.inside;
  same = c.same_back;
  same_back = c.same;
  ends = c.ends_back;
  ends_back = c.ends;
}

abbrev carried : (ℕ → ℕ) → Step → Step
carried f s = record { from = f s.from; to = f s.to; weight = s.weight }

carried_walk : (J K : ℕ → ℕ → ℕ → Type 0) (f : ℕ → ℕ) → ((x y w : ℕ) → J x y w → K (f x) (f y) w) → (u : ℕ) (steps : List Step) (v : ℕ) → IsWalk J u steps v → IsWalk K (f u) (map (carried f) steps) (f v)
carried_walk J K f there u [] v walk = ap f walk
carried_walk J K f there u (s ∷ steps) v walk = (ap f walk.0, there s.from s.to s.weight walk.1, carried_walk J K f there s.to steps v walk.2)

carried_length : (f : ℕ → ℕ) (steps : List Step) → walk_length (map (carried f) steps) ≡ walk_length steps
carried_length f [] = refl
carried_length f (s ∷ steps) = ap (λ n. s.weight + n) (carried_length f steps)

carried_ends : (f : ℕ → ℕ) (steps : List Step) → map (λ s. s.to) (map (carried f) steps) ≡ map f (map (λ s. s.to) steps)
carried_ends f [] = refl
carried_ends f (s ∷ steps) = ap (λ l. f s.to ∷ l) (carried_ends f steps)

Contains-carried : (f : ℕ → ℕ) (xs : List ℕ) (x : ℕ) → Contains xs x → Contains (map f xs) (f x)
Contains-carried f [] x (k, lt, is) = absurd (omega arith)
Contains-carried f (y ∷ xs) x h =
    elim (Contains-cons_cases y x xs h) [
      | inl here ↦ subst (λ z. Contains (map f (y ∷ xs)) (f z)) here (Contains-first (f y) (map f xs))
      | inr later ↦ Contains-next (f y) (f x) (map f xs) (Contains-carried f xs x later)
    ]

HasWalk-carried : (J K : ℕ → ℕ → ℕ → Type 0) (f : ℕ → ℕ) → ((x y w : ℕ) → J x y w → K (f x) (f y) w) → (u v d : ℕ) → HasWalk J u v d → HasWalk K (f u) (f v) d
HasWalk-carried J K f there u v d w = record {
  steps = map (carried f) w.steps;
  walk = carried_walk J K f there u w.steps v w.walk;
  long = carried_length f w.steps ∙ w.long;
}

-- the nodes of a walk from a node are nodes
nodes_inside : (J : ℕ → ℕ → ℕ → Type 0) (In : ℕ → Type 0) → ((x y w : ℕ) → J x y w → In y) → (u : ℕ) (steps : List Step) (v x : ℕ) → In u → IsWalk J u steps v → Contains (nodes_of u steps) x → In x
nodes_inside J In ends u [] v x start walk h =
    elim (Contains-cons_cases u x [] h) [
      | inl here ↦ subst In here start
      | inr (k, lt, is) ↦ absurd (omega arith)
    ]
nodes_inside J In ends u (s ∷ steps) v x start walk h =
    elim (Contains-cons_cases u x (nodes_of s.to steps) h) [
      | inl here ↦ subst In here start
      | inr later ↦ nodes_inside J In ends s.to steps v x (ends s.from s.to s.weight walk.1) walk.2 later
    ]

-- between two nodes of J there are the walks of K
HasWalk-back : (J K : ℕ → ℕ → ℕ → Type 0) (In : ℕ → Type 0) (f g : ℕ → ℕ) → Carries J K In f g → (u v d : ℕ) → In u → In v → HasWalk K (f u) (f v) d → HasWalk J u v d
HasWalk-back J K In f g c u v d from to w =
    subst (λ x. HasWalk J x v d) (c.same u from) (subst (λ y. HasWalk J (g (f u)) y d) (c.same v to) (HasWalk-carried K J g c.back (f u) (f v) d w))

IsLeast-carried : (J K : ℕ → ℕ → ℕ → Type 0) (In : ℕ → Type 0) (f g : ℕ → ℕ) → Carries J K In f g → (u v d : ℕ) → In u → In v → IsLeast J u v d → IsLeast K (f u) (f v) d
IsLeast-carried J K In f g c u v d from to least = record {
  walk = HasWalk-carried J K f c.there u v d least.walk;
  none_shorter = λ e w. least.none_shorter e (HasWalk-back J K In f g c u v e from to w);
}

IsOn-carried : (J K : ℕ → ℕ → ℕ → Type 0) (In : ℕ → Type 0) (f g : ℕ → ℕ) → Carries J K In f g → (u x v : ℕ) → In u → In v → IsOn J u x v → IsOn K (f u) (f x) (f v)
IsOn-carried J K In f g c u x v from to on = record {
  steps = map (carried f) on.steps;
  walk = carried_walk J K f c.there u on.steps v on.walk;
  least = subst (λ d. IsLeast K (f u) (f v) d) (sym (carried_length f on.steps)) (IsLeast-carried J K In f g c u v (walk_length on.steps) from to on.least);
  passes = subst (λ l. Contains l (f x)) (ap (λ l. f u ∷ l) (sym (carried_ends f on.steps))) (Contains-carried f (nodes_of u on.steps) x on.passes);
}

-- each node of J has in the one ranking the position that its name has in the other
abbrev pub SamePositions : (ℕ → Type 0) → (ℕ → ℕ) → List ℕ → List ℕ → Type 0
SamePositions In f at to = (x : ℕ) → In x → position_of to (f x) ≡ position_of at x

IsCanonical-carried : (J K : ℕ → ℕ → ℕ → Type 0) (In : ℕ → Type 0) (f g : ℕ → ℕ) (at to : List ℕ) → Carries J K In f g → SamePositions In f at to → (h v d : ℕ) → In h → In v → IsCanonical J at h v d → IsCanonical K to (f h) (f v) d
IsCanonical-carried J K In f g at to c positions h v d hub node canonical = record {
  least = IsLeast-carried J K In f g c h v d hub node canonical.least;
  highest = λ y on above.
      let within : In y = nodes_inside K In c.ends_back (f h) on.steps (f v) y (c.inside h hub) on.walk on.passes in
      let old : IsOn J (g (f h)) (g y) (g (f v)) = IsOn-carried K J In g f (turned J K In f g c) (f h) y (f v) (c.inside h hub) (c.inside v node) on in
      let here : IsOn J h (g y) v = subst (λ x. IsOn J x (g y) v) (c.same h hub) (subst (λ x. IsOn J (g (f h)) (g y) x) (c.same v node) old) in
      canonical.highest (g y) here (omega (arith, above, positions h hub, positions (g y) (c.inside_back y within), ap (position_of to) (c.same_back y within)));
}

IsHubEntry-carried : (J K : ℕ → ℕ → ℕ → Type 0) (In : ℕ → Type 0) (f g : ℕ → ℕ) (at to : List ℕ) → Carries J K In f g → SamePositions In f at to → to ≡ map f at → ((p h : ℕ) → slice_get at p ≡ Some h → In h) → (v : ℕ) (e : Entry) → In v → IsHubEntry J at v e → IsHubEntry K to (f v) e
IsHubEntry-carried J K In f g at to c positions is nodes v e node (h, there, canonical) = (
  f h,
  ap (λ l. slice_get l e.pos) is ∙ slice_get-map f at e.pos ∙ ap (option_map f) there,
  IsCanonical-carried J K In f g at to c positions h v e.dist (nodes e.pos h there) node canonical,
)

-- where both ways lead to each other, so do the entries
pub IsHubEntry-both : (J K : ℕ → ℕ → ℕ → Type 0) (In : ℕ → Type 0) (f g : ℕ → ℕ) (at to : List ℕ) → Carries J K In f g → SamePositions In f at to → to ≡ map f at → at ≡ map g to → ((p h : ℕ) → slice_get at p ≡ Some h → In h) → ((p h : ℕ) → slice_get to p ≡ Some h → In h) → (v : ℕ) (e : Entry) → In v → IsHubEntry J at v e ↔ IsHubEntry K to (f v) e
IsHubEntry-both J K In f g at to c positions is is_back nodes nodes_back v e node =
    let positions_back : SamePositions In g to at = λ y within. sym (positions (g y) (c.inside_back y within)) ∙ ap (position_of to) (c.same_back y within) in (
      IsHubEntry-carried J K In f g at to c positions is nodes v e node,
      λ h. subst (λ x. IsHubEntry J at x e) (c.same v node) (IsHubEntry-carried K J In g f to at (turned J K In f g c) positions_back is_back nodes_back (f v) e (c.inside v node) h),
    )
