-- A shortest walk passes no node twice, so it has fewer steps than there are nodes.
use Rattle.std.proofs.Common.{◌≡◌, ℕ, ◌+◌, ◌*◌, ◌≤◌, ◌<◌, true, false, eqb, List, [], ◌∷◌, length, All, Contains, refl, subst, sym, inl, inr, arith, mul-le-mul_right}
use Rattle.std.specs.List.{list_any, AllByRecursion, IsDistinct}
use Rattle.std.proofs.lemmas.Bool.{eqb-true}
use Rattle.std.proofs.lemmas.Bool.Decides.{eqb_tells}
use Rattle.std.proofs.lemmas.List.{length-map}
use Rattle.std.proofs.lemmas.List.Elements.{All-contains_itself, All-weaker, recursion_from_All}
use Rattle.std.proofs.lemmas.Map.Keys.{IsDistinct-cons}
use Rattle.std.proofs.lemmas.Map.Steps.{length-le_from_distinct_below}
use Rattle.std.proofs.lemmas.Map.Views.{Contains-from_any}
use Rattle.walk_laws.specs.declared.graph.Edge.{Edge}
use Rattle.walk_laws.specs.Graph.{IsEdge, greatest_weight}
use Rattle.walk_laws.specs.Joined.{Joined}
use Rattle.walk_laws.specs.Walk.{Step, IsWalk, walk_length, nodes_of, HasWalk}
use Rattle.walk_laws.specs.Least.{IsLeast}
use Rattle.walk_laws.specs.On.{IsOn}
use Rattle.walk_laws.proofs.Members.{Contains-cons_cases}
use Rattle.walk_laws.proofs.JoinedEdges.{IsEdge-joined, Joined-weight, Joined-positive, weights_of_edges}
use Rattle.walk_laws.proofs.Walks.{HasWalk-closed, HasWalk-arc}
use Rattle.walk_laws.proofs.LeastWalks.{IsLeast-same, IsLeast-rest}
use Rattle.walk_laws.proofs.OnWalks.{OnParts-from_on, cut_at}

-- the elements of a list, one by one
all_from_contains : (P : ℕ → Type 0) (xs : List ℕ) → ((x : ℕ) → Contains xs x → P x) → AllByRecursion P xs
all_from_contains P xs each = recursion_from_All P xs (All-weaker (Contains xs) P each xs (All-contains_itself xs))

-- distinct numbers from 1 to n are at most n
distinct_nodes : (n : ℕ) (xs : List ℕ) → IsDistinct eqb xs → ((x : ℕ) → Contains xs x → (1 ≤ x) × (x ≤ n)) → length xs ≤ n
distinct_nodes n xs distinct node =
    let with_zero : length (0 ∷ xs) ≤ n + 1 = length-le_from_distinct_below (0 ∷ xs) (n + 1) (IsDistinct-cons eqb 0 xs (all_from_contains (λ y. eqb 0 y ≡ false) xs no_zero) distinct) below in
    omega arith
  where
    no_zero : (y : ℕ) → Contains xs y → eqb 0 y ≡ false
    no_zero y there = elim (eqb_tells 0 y) [ inl same ↦ absurd (omega (arith, same.1, (node y there).0)) | inr other ↦ other.0 ]

    below : (q : ℕ) → list_any (eqb q) (0 ∷ xs) ≡ true → q < n + 1
    below q there = elim (Contains-cons_cases 0 q xs (Contains-from_any eqb-true q (0 ∷ xs) there)) [
      | inl is_zero ↦ omega arith
      | inr later ↦ omega (arith, (node q later).1)
    ]

module _ (J : ℕ → ℕ → ℕ → Type 0) (positive : (x y w : ℕ) → J x y w → 1 ≤ w) where
  never_again : (s : Step) (steps : List Step) (u v : ℕ) → J s.from s.to s.weight → IsWalk J s.to steps v → IsLeast J u v (walk_length (s ∷ steps)) → (y : ℕ) → Contains (nodes_of s.to steps) y → u ≡ y → ⊥
  never_again s steps u v arc walk least y there same =
      let c = cut_at J steps s.to y v walk there in
      let from_u : HasWalk J u v c.after = subst (λ x. HasWalk J x v c.after) (sym same) c.second in
      omega (arith, positive s.from s.to s.weight arc, c.long, least.none_shorter c.after from_u)

  rest_is_least : (s : Step) (steps : List Step) (u v : ℕ) → IsWalk J u (s ∷ steps) v → IsLeast J u v (walk_length (s ∷ steps)) → IsLeast J s.to v (walk_length steps)
  rest_is_least s steps u v walk least =
      IsLeast-rest J u s.to v s.weight (walk_length steps) (HasWalk-arc J u s.to s.weight (subst (λ x. J x s.to s.weight) walk.0 walk.1)) (record { steps = steps; walk = walk.2; long = refl }) least

  -- a shortest walk passes no node twice
  pub IsDistinct-nodes_of : (steps : List Step) (u v : ℕ) → IsWalk J u steps v → IsLeast J u v (walk_length steps) → IsDistinct eqb (nodes_of u steps)
  unfolding IsDistinct
  IsDistinct-nodes_of [] u v walk least = IsDistinct-cons eqb u [] tt tt
  IsDistinct-nodes_of (s ∷ steps) u v walk least =
      IsDistinct-cons eqb u (nodes_of s.to steps) (all_from_contains (λ y. eqb u y ≡ false) (nodes_of s.to steps) apart) (IsDistinct-nodes_of steps s.to v walk.2 (rest_is_least s steps u v walk least))
    where
      apart : (y : ℕ) → Contains (nodes_of s.to steps) y → eqb u y ≡ false
      apart y there = elim (eqb_tells u y) [ inl same ↦ absurd (never_again s steps u v walk.1 walk.2 least y there same.1) | inr other ↦ other.0 ]

module _ (n : ℕ) (edges : List Edge) (all : All (IsEdge n) edges) where
  -- walks from a node lead to nodes
  pub HasWalk-node : (u v d : ℕ) → 1 ≤ u → u ≤ n → HasWalk (Joined edges) u v d → (1 ≤ v) × (v ≤ n)
  HasWalk-node u v d from_one up_to_n walk =
      HasWalk-closed (Joined edges) (λ x. (1 ≤ x) × (x ≤ n)) (λ x y w _ arc. let e = IsEdge-joined n edges x y w all arc in (e.to_one, e.to_n)) u v d walk (from_one, up_to_n)

  -- so does a shortest walk on its way
  pub IsOn-node : (u x v : ℕ) → 1 ≤ u → u ≤ n → IsOn (Joined edges) u x v → (1 ≤ x) × (x ≤ n)
  IsOn-node u x v from_one up_to_n on = let p = OnParts-from_on (Joined edges) u x v on in HasWalk-node u x p.before from_one up_to_n p.first.walk

  passes_nodes : (steps : List Step) (u v : ℕ) → 1 ≤ u → u ≤ n → IsWalk (Joined edges) u steps v → (x : ℕ) → Contains (nodes_of u steps) x → (1 ≤ x) × (x ≤ n)
  passes_nodes steps u v from_one up_to_n walk x there =
      let c = cut_at (Joined edges) steps u x v walk there in
      HasWalk-node u x c.before from_one up_to_n c.first

  at_most : (steps : List Step) (u v : ℕ) → IsWalk (Joined edges) u steps v → walk_length steps ≤ length steps * greatest_weight edges
  at_most [] u v walk = omega arith
  at_most (s ∷ steps) u v walk = omega (arith, at_most steps s.to v walk.2, Joined-weight edges s.from s.to s.weight walk.1)

  -- a least length from a node is at most n - 1 times the greatest weight
  pub IsLeast-short : (u v d : ℕ) → 1 ≤ u → u ≤ n → IsLeast (Joined edges) u v d → d + greatest_weight edges ≤ n * greatest_weight edges
  IsLeast-short u v d from_one up_to_n least =
      let steps = least.walk.steps in
      let walk = least.walk.walk in
      let same = IsLeast-same (Joined edges) u v d (walk_length steps) (sym least.walk.long) least in
      let distinct = IsDistinct-nodes_of (Joined edges) (Joined-positive edges (weights_of_edges n edges all)) steps u v walk same in
      let few = distinct_nodes n (nodes_of u steps) distinct (passes_nodes steps u v from_one up_to_n walk) in
      few_steps (length steps) d (greatest_weight edges) (omega (arith, length-map steps (λ (s : Step). s.to))) (omega (arith, least.walk.long, at_most steps u v walk))
    where
      few_steps : (k d w : ℕ) → k + 1 ≤ n → d ≤ k * w → d + w ≤ n * w
      few_steps k d w few bound = omega (arith, mul-le-mul_right w few)
