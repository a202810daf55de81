-- Where the rows are the canonical hub labelling and the vias are theirs, each step along a via is one of a shortest walk.
use Rattle.std.specs.List.{AllZip}
use Rattle.std.specs.Prelude.{slice_get, Some, reverse}
use Rattle.std.proofs.Common.{◌≡◌, ℕ, zero, suc, ◌+◌, ◌≤◌, List, [], ◌∷◌, ◌++◌, All, Contains, length, refl, sym, ap, subst, ◌∙◌, inl, inr, arith}
use Rattle.std.proofs.lemmas.List.{map-append, reverse-append}
use Rattle.std.proofs.lemmas.Option.{same_Some}
use Rattle.walk_laws.specs.declared.graph.Edge.{Edge}
use Rattle.walk_laws.specs.Graph.{IsEdge}
use Rattle.walk_laws.specs.Joined.{Joined}
use Rattle.walk_laws.specs.Walk.{Step, IsWalk, walk_length, nodes_of}
use Rattle.walk_laws.specs.Labelling.{label_row, IsChl}
use Rattle.walk_laws.proofs.Members.{Contains-first, Contains-next}
use Rattle.walk_laws.proofs.JoinedEdges.{Joined-sym, IsEdge-joined}
use Rattle.walk_laws.proofs.Walks.{append_steps, append_length}
use Rattle.hub_index.specs.WellFormed.{IsWellFormed}
use Rattle.entry_vias.specs.RowVias.{TracedHubIndex, IsFirstNearer, IsRowVia, AreVias, via_row}
use Rattle.entry_vias.proofs.Labelled.{via_there}
use Rattle.via_trace.specs.Traces.{entry_at, GoesBy, StepsOn, ComesBy, IsBroken}
use Rattle.via_trace.proofs.RowFacts.{contains_at, one_distance}

-- what stands at a place of one list beside what stands there in the other
AllZip-at : {X Y : Type 0} (R : X → Y → Type 0) (xs : List X) (ys : List Y) (k : ℕ) (x : X) (y : Y) → AllZip R xs ys → slice_get xs k ≡ Some x → slice_get ys k ≡ Some y → R x y
AllZip-at R [] ys k x y all here there = absurd cc
AllZip-at R (a ∷ xs) [] k x y all here there = absurd cc
AllZip-at R (a ∷ xs) (b ∷ ys) zero x y all here there = subst (λ i. R i y) (same_Some a x here) (subst (R a) (same_Some b y there) all.0)
AllZip-at R (a ∷ xs) (b ∷ ys) (suc k) x y all here there = AllZip-at R xs ys k x y all.1 here there

module _ (edges : List Edge) (index : TracedHubIndex) (edge : All (IsEdge (length index.order)) edges) (well : IsWellFormed index.order index.rows) (chl : IsChl (Joined edges) index.order index.rows) (are : AreVias (Joined edges) index.rows index.vias) (p : ℕ) where
  -- the via of an entry that is no end is the first neighbour that is nearer
  first_via : (x d y : ℕ) → 1 ≤ x → x ≤ length index.order → 1 ≤ d → GoesBy index p x d y → IsFirstNearer (Joined edges) index.rows x (entry_at p d) y
  first_via x d y from_one up_to_n far goes =
      let e = entry_at p d in
      let told : IsRowVia (Joined edges) index.rows x e y = AllZip-at (IsRowVia (Joined edges) index.rows x) (label_row index.rows x) (via_row index.vias x) goes.place e y (are.row x from_one (omega (arith, up_to_n, well.size))) goes.entry goes.via in
      elim told [
        | inl first ↦ first
        | inr none ↦
            let there = via_there edges index.order index.rows edge chl x e from_one up_to_n (contains_at (label_row index.rows x) goes.place e goes.entry) far in
            absurd (none.1 there.0 there.1.nearer)
      ]

  -- a step along a via
  record IsStep (x d y e : ℕ) : Type 0 where
    weight : ℕ
    arc : Joined edges x y weight
    long : e + weight ≡ d
    from_one : 1 ≤ y
    up_to_n : y ≤ length index.order

  step_of : (x d y e : ℕ) → 1 ≤ x → x ≤ length index.order → StepsOn index p x d y e → IsStep x d y e
  step_of x d y e from_one up_to_n s =
      let n = (first_via x d y from_one up_to_n (omega (arith, s.nearer)) s.goes).nearer in
      let is = IsEdge-joined (length index.order) edges x y n.weight edge n.arc in
      let same : n.dist ≡ e = one_distance index well y is.to_one is.to_n p n.dist e n.there s.there in
      record { weight = n.weight; arc = n.arc; long = omega (arith, n.long, same); from_one = is.to_one; up_to_n = is.to_n }

  -- the walk along vias, and the same backwards
  pub record StepsOf (x d : ℕ) (nodes : List ℕ) (z e : ℕ) : Type 0 where
    pub steps : List Step
    pub walk : IsWalk (Joined edges) x steps z
    pub long : walk_length steps + e ≡ d
    pub passes : nodes_of x steps ≡ x ∷ nodes
    pub backwards : List Step
    pub back : IsWalk (Joined edges) z backwards x
    pub back_long : walk_length backwards + e ≡ d
    pub back_passes : nodes_of z backwards ≡ reverse (x ∷ nodes)
    pub from_one : 1 ≤ z
    pub up_to_n : z ≤ length index.order

  pub steps_of : (nodes : List ℕ) (x d z e : ℕ) → 1 ≤ x → x ≤ length index.order → ComesBy index p x d nodes z e → StepsOf x d nodes z e
  steps_of [] x d z e from_one up_to_n comes = record {
    steps = [];
    walk = comes.0;
    long = omega (arith, comes.1);
    passes = refl;
    backwards = [];
    back = sym comes.0;
    back_long = omega (arith, comes.1);
    back_passes = ap (λ i. i ∷ []) (sym comes.0);
    from_one = omega (arith, from_one, comes.0);
    up_to_n = omega (arith, up_to_n, comes.0);
  }
  steps_of (y ∷ nodes) x d z e from_one up_to_n comes =
      let s = step_of x d y comes.0 from_one up_to_n comes.1 in
      let rest = steps_of nodes y comes.0 z e s.from_one s.up_to_n comes.2 in
      let first : Step = record { from = x; to = y; weight = s.weight } in
      let last : Step = record { from = y; to = x; weight = s.weight } in
      record {
        steps = first ∷ rest.steps;
        walk = (refl, s.arc, rest.walk);
        long = omega (arith, rest.long, s.long);
        passes = ap (λ (l : List ℕ). x ∷ l) rest.passes;
        backwards = rest.backwards ++ last ∷ [];
        back = append_steps (Joined edges) rest.backwards (last ∷ []) z y x rest.back (refl, Joined-sym edges x y s.weight s.arc, refl);
        back_long = omega (arith, append_length (Joined edges) rest.backwards (last ∷ []), rest.back_long, s.long);
        back_passes = ap (λ (l : List ℕ). z ∷ l) (map-append (λ (t : Step). t.to) rest.backwards (last ∷ [])) ∙ ap (λ (l : List ℕ). l ++ x ∷ []) rest.back_passes ∙ sym (reverse-append (x ∷ []) (y ∷ nodes));
        from_one = rest.from_one;
        up_to_n = rest.up_to_n;
      }

  -- it passes its end
  pub end_there : (nodes : List ℕ) (x d z e : ℕ) → ComesBy index p x d nodes z e → Contains (x ∷ nodes) z
  end_there [] x d z e comes = subst (Contains (x ∷ [])) comes.0 (Contains-first x [])
  end_there (y ∷ nodes) x d z e comes = Contains-next x z (y ∷ nodes) (end_there nodes y comes.0 z e comes.2)

  -- and it never breaks
  pub never_breaks : (nodes : List ℕ) (x d z e : ℕ) → 1 ≤ x → x ≤ length index.order → ComesBy index p x d nodes z e → IsBroken index p z e → ⊥
  never_breaks nodes x d z e from_one up_to_n comes b =
      let s = steps_of nodes x d z e from_one up_to_n comes in
      let n = (first_via z e b.via s.from_one s.up_to_n b.far b.goes).nearer in
      let is = IsEdge-joined (length index.order) edges z b.via n.weight edge n.arc in
      b.none n.dist (record { goes = b.goes; there = n.there; nearer = omega (arith, n.long, is.weight) })
