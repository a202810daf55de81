-- Lower bounds on walk lengths: a number for each node that grows along no arc by more than the arc's weight.
use Rattle.std.proofs.Common.{◌≡◌, ℕ, ◌+◌, ◌≤◌, Bool, true, ◌&&◌, leb, eqb, leb-true, eqb-true, List, refl, ◌∙◌, inl, inr, arith}
use Rattle.std.specs.List.{list_all}
use Rattle.std.specs.Cmp.{first_so, second_so}
use Rattle.std.proofs.lemmas.List.Sums.{AllPass-from_list_all}
use Rattle.std.proofs.lemmas.List.Elements.{All-contains}
use Rattle.walk_laws.specs.declared.graph.Edge.{Edge}
use Rattle.walk_laws.specs.Joined.{Joined}
use Rattle.walk_laws.specs.Walk.{HasWalk}
use Rattle.walk_laws.specs.Least.{IsLeast, AreApart}
use Rattle.walk_laws.specs.On.{IsOn}
use Rattle.walk_laws.proofs.Walks.{HasWalk-induction, HasWalk-closed}
use Rattle.walk_laws.proofs.OnWalks.{OnParts-from_on}

-- a test that each edge passes both ways
abbrev pub passes_both_ways : (ℕ → ℕ → ℕ → Bool) → List Edge → Bool
passes_both_ways test edges = list_all (λ e. test e.u e.v e.w && test e.v e.u e.w) edges

-- is passed by each join
pub Joined-passes : (test : ℕ → ℕ → ℕ → Bool) (edges : List Edge) → passes_both_ways test edges ≡ true → (x y w : ℕ) → Joined edges x y w → test x y w ≡ true
Joined-passes test edges h x y w joined =
    let all = AllPass-from_list_all (λ e. test e.u e.v e.w && test e.v e.u e.w) edges h in
    elim joined [
      | inl one_way ↦ first_so (test x y w) (test y x w) (All-contains (λ e. (test e.u e.v e.w && test e.v e.u e.w) ≡ true) edges (record { u = x; v = y; w = w }) all one_way)
      | inr other_way ↦ second_so (test y x w) (test x y w) (All-contains (λ e. (test e.u e.v e.w && test e.v e.u e.w) ≡ true) edges (record { u = y; v = x; w = w }) all other_way)
    ]

-- whether the numbers grow along no edge by more than its weight
abbrev pub bounds : (ℕ → ℕ) → List Edge → Bool
bounds f edges = passes_both_ways (λ x y w. leb (f y) (f x + w)) edges

module _ (edges : List Edge) where
  pub HasWalk-bound : (f : ℕ → ℕ) → bounds f edges ≡ true → (u v d : ℕ) → HasWalk (Joined edges) u v d → f v ≤ f u + d
  HasWalk-bound f h u =
      HasWalk-induction (Joined edges) (λ v d. f v ≤ f u + d) u (omega arith) (λ y v w a _ so_far arc. omega (arith, so_far, leb-true (f v) (f y + w) (Joined-passes (λ x y w. leb (f y) (f x + w)) edges h y v w arc)))

  -- a walk as short as a bound is least
  pub IsLeast-from_bound : (f : ℕ → ℕ) → bounds f edges ≡ true → (u v d : ℕ) → HasWalk (Joined edges) u v d → f v ≡ f u + d → IsLeast (Joined edges) u v d
  IsLeast-from_bound f h u v d walk tight = record { walk = walk; none_shorter = λ e other. omega (arith, HasWalk-bound f h u v e other) }

  -- a node that is too far from both ends is on no shortest walk
  pub IsOn-bound : (f g : ℕ → ℕ) → bounds f edges ≡ true → bounds g edges ≡ true → (u x v d : ℕ) → HasWalk (Joined edges) u v d → IsOn (Joined edges) u x v → f x + g v ≤ f u + g x + d
  IsOn-bound f g hf hg u x v d walk on =
      let p = OnParts-from_on (Joined edges) u x v on in
      omega (arith, HasWalk-bound f hf u x p.before p.first.walk, HasWalk-bound g hg x v p.after p.second.walk, p.whole.none_shorter d walk)

  -- nodes with different numbers are apart where each edge joins nodes with one number
  pub AreApart-from_parts : (part : ℕ → ℕ) → passes_both_ways (λ x y _. eqb (part x) (part y)) edges ≡ true → (u v : ℕ) → (part u ≡ part v → ⊥) → AreApart (Joined edges) u v
  AreApart-from_parts part h u v differ d walk =
      differ (HasWalk-closed (Joined edges) (λ x. part u ≡ part x) (λ x y w so_far arc. so_far ∙ eqb-true (part x) (part y) (Joined-passes (λ x y _. eqb (part x) (part y)) edges h x y w arc)) u v d walk refl)
