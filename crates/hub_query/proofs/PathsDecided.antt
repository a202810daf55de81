-- Each pair has one answer where its walk by the rows is asked for.
use Rattle.std.proofs.Common.{◌≡◌, ◌≢◌, ◌⊎◌, ℕ, zero, suc, ◌+◌, ◌-◌, ◌≤◌, ◌<◌, List, [], ◌∷◌, All, Contains, length, Some, None, Option, refl, sym, ap, subst, ◌∙◌, inl, inr, arith}
use Rattle.std.proofs.lemmas.Bool.{cases_lt, cases_eq}
use Rattle.walk_laws.specs.declared.graph.Edge.{Edge}
use Rattle.walk_laws.specs.declared.graph.Arc.{Arc}
use Rattle.walk_laws.specs.Graph.{WeightedGraph, IsGraph, IsEdge, arcs_at}
use Rattle.walk_laws.specs.Joined.{Joined}
use Rattle.walk_laws.specs.Meet.{IsMeet}
use Rattle.walk_laws.proofs.Arcs.{Joined-from_arcs_at, Contains-arcs_at}
use Rattle.walk_laws.proofs.JoinedEdges.{IsEdge-joined}
use Rattle.walk_laws.proofs.Search.{Found-decided, LeastNumber-below}
use Rattle.hub_index.specs.HubIndex.{HubIndex}
use Rattle.hub_index.specs.WellFormed.{IsWellFormed}
use Rattle.hub_query.specs.declared.path_answer.Path.{Path}
use Rattle.hub_query.specs.declared.path_answer.Path.TheVariants.{Sizes, Unreachable, Walk, Stuck}
use Rattle.hub_query.specs.Paths.{AreApartBy, IsOnward, IsFirstOnward, ComesTo, IsRowWalk, IsStuckAt, IsPathOf}
use Rattle.hub_query.proofs.Meetings.{meet_exists}
use Rattle.hub_query.proofs.Onward.{one_rest, no_way_left, row_walk, one_way}

-- as far as one comes from x, by the rows
record Farthest (J : ℕ → ℕ → ℕ → Type 0) (index : HubIndex) (v x d : ℕ) : Type 0 where
  nodes : List ℕ
  last : ℕ
  rest : ℕ
  comes : ComesTo J index v x d nodes last rest
  ends : ((last ≡ v) × (rest ≡ 0)) ⊎ ((last ≢ v) × ((y : ℕ) → IsOnward J index v last rest y → ⊥))

module _ (edges : List Edge) (index : HubIndex) (edge : All (IsEdge (length index.order)) edges) (well : IsWellFormed index.order index.rows) (v : ℕ) (v_node : 1 ≤ v) (v_within : v ≤ length index.order) where
  abbrev J : ℕ → ℕ → ℕ → Type 0
  J = Joined edges

  apart_as_told : (x d : ℕ) → (answer : Option (ℕ × ℕ)) → IsMeet index.order index.rows x v answer → AreApartBy index x v d ⊎ (AreApartBy index x v d → ⊥)
  apart_as_told x d None meet = inr (λ a. meet a.1.0 d a.1.2.sum)
  apart_as_told x d (Some a) meet = elim (cases_eq a.0 d) [
    | inl same ↦ inl (subst (AreApartBy index x v) same (a.1, meet))
    | inr other ↦ inr (λ b. other (one_rest index x v a.0 d (a.1, meet) b))
  ]

  apart_decided : (x d : ℕ) → 1 ≤ x → x ≤ length index.order → AreApartBy index x v d ⊎ (AreApartBy index x v d → ⊥)
  apart_decided x d from_one up_to_n =
      let told = meet_exists index.order index.rows x v well from_one up_to_n v_node v_within in
      apart_as_told x d told.0 told.1

  abbrev Leads : ℕ → ℕ → ℕ → Arc → Type 0
  Leads x d y a = (a.to ≡ y) × (a.w ≤ d) × AreApartBy index y v (d - a.w)

  leads_decided : (x d y : ℕ) (a : Arc) → Contains (arcs_at edges x) a → Leads x d y a ⊎ (Leads x d y a → ⊥)
  leads_decided x d y a there = elim (cases_eq a.to y) [
    | inr other ↦ inr (λ l. other l.0)
    | inl same ↦ elim (cases_lt d a.w) [
      | inl heavy ↦ inr (λ l. omega (arith, l.1))
      | inr light ↦
          let is = IsEdge-joined (length index.order) edges x a.to a.w edge (Joined-from_arcs_at edges x a.to a.w there) in
          elim (apart_decided y (d - a.w) (omega (arith, is.to_one, same)) (omega (arith, is.to_n, same))) [
            | inl apart ↦ inl (same, light, apart)
            | inr none ↦ inr (λ l. none l.2)
          ]
    ]
  ]

  onward_decided : (x d y : ℕ) → IsOnward J index v x d y ⊎ (IsOnward J index v x d y → ⊥)
  onward_decided x d y = elim (Found-decided (Leads x d y) (arcs_at edges x) (leads_decided x d y)) [
    | inl found ↦
        let a = found.element in
        inl (record { weight = a.w; rest = d - a.w; arc = subst (λ i. J x i a.w) found.holds.0 (Joined-from_arcs_at edges x a.to a.w found.there); meet = found.holds.2; adds = omega (arith, found.holds.1) })
    | inr none ↦ inr (λ on.
        let far : on.rest ≡ d - on.weight = omega (arith, on.adds) in
        none (record { to = y; w = on.weight }) (Contains-arcs_at edges x y on.weight on.arc) (refl, omega (arith, on.adds), subst (AreApartBy index y v) far on.meet))
  ]

  -- the first onward node, or there is none
  first_or_none : (x d : ℕ) → ((y : ℕ) × IsFirstOnward J index v x d y) ⊎ ((y : ℕ) → IsOnward J index v x d y → ⊥)
  first_or_none x d = elim (LeastNumber-below (IsOnward J index v x d) (onward_decided x d) (length index.order + 1)) [
    | inl least ↦ inl (least.number, record { onward = least.holds; least = least.least })
    | inr none ↦ inr (λ y on. none y (omega (arith, (IsEdge-joined (length index.order) edges x y on.weight edge on.arc).to_n)) on)
  ]

  farthest : (bound x d : ℕ) → d < bound → 1 ≤ x → x ≤ length index.order → AreApartBy index x v d → Farthest J index v x d
  farthest zero x d lt from_one up_to_n meet = absurd (omega arith)
  farthest (suc bound) x d lt from_one up_to_n meet = elim (cases_eq x v) [
    | inl same ↦ record { nodes = []; last = x; rest = d; comes = (refl, refl); ends = inl (same, no_way_left index v d well v_node v_within (subst (λ i. AreApartBy index i v d) same meet)) }
    | inr other ↦ elim (first_or_none x d) [
      | inr none ↦ record { nodes = []; last = x; rest = d; comes = (refl, refl); ends = inr (other, none) }
      | inl first ↦
          let on = first.1.onward in
          let is = IsEdge-joined (length index.order) edges x first.0 on.weight edge on.arc in
          let further = farthest bound first.0 on.rest (omega (arith, on.adds, is.weight)) is.to_one is.to_n on.meet in
          record { nodes = first.0 ∷ further.nodes; last = further.last; rest = further.rest; comes = (other, first.1, further.comes); ends = further.ends }
    ]
  ]

module _ (graph : WeightedGraph) (index : HubIndex) (u v : ℕ) where
  path_of_farthest : (d : ℕ) → length index.order ≡ graph.n → AreApartBy index u v d → (f : Farthest (Joined graph.edges) index v u d) → (told : Path) × IsPathOf graph index u v told
  path_of_farthest d size meet f = elim f.ends [
    | inl there ↦
        let comes = subst (λ e. ComesTo (Joined graph.edges) index v u d f.nodes v e) there.1 (subst (λ z. ComesTo (Joined graph.edges) index v u d f.nodes z f.rest) there.0 f.comes) in
        (Walk d (u ∷ f.nodes), (size, row_walk (Joined graph.edges) index v u d f.nodes meet comes))
    | inr stuck ↦ (Stuck f.last v, (size, refl, record { far = d; meet = meet; nodes = f.nodes; rest = f.rest; comes = f.comes; other = stuck.0; none = stuck.1 }))
  ]

  module _ (is : IsGraph graph.n graph.edges) (well : IsWellFormed index.order index.rows) (u_node : 1 ≤ u) (u_within : u ≤ length index.order) (v_node : 1 ≤ v) (v_within : v ≤ length index.order) where
    path_as_told : length index.order ≡ graph.n → (answer : Option (ℕ × ℕ)) → IsMeet index.order index.rows u v answer → (told : Path) × IsPathOf graph index u v told
    path_as_told size None meet = (Unreachable, (size, meet))
    path_as_told size (Some a) meet =
        path_of_farthest a.0 size (a.1, meet) (farthest graph.edges index (subst (λ n. All (IsEdge n) graph.edges) (sym size) is.edge) well v v_node v_within (suc a.0) u a.0 (omega arith) u_node u_within (a.1, meet))

    -- each pair is answered something
    pub path_exists : (told : Path) × IsPathOf graph index u v told
    path_exists = elim (cases_eq graph.n (length index.order)) [
      | inr other ↦ (Sizes graph.n (length index.order), (refl, refl, other))
      | inl same ↦
          let told = meet_exists index.order index.rows u v well u_node u_within v_node v_within in
          path_as_told (sym same) told.0 told.1
    ]

  sizes_differ : (nodes rows : ℕ) → nodes ≡ graph.n → rows ≡ length index.order → nodes ≢ rows → length index.order ≡ graph.n → ⊥
  sizes_differ nodes rows a b differ same = differ (omega (arith, a, b, same))

  not_apart : (d : ℕ) → IsMeet index.order index.rows u v None → AreApartBy index u v d → ⊥
  not_apart d none meet = none meet.1.0 d meet.1.2.sum

  walk_and_stuck : (d z : ℕ) (nodes : List ℕ) → IsRowWalk (Joined graph.edges) index u v d nodes → IsStuckAt (Joined graph.edges) index u v z → ⊥
  walk_and_stuck d z nodes w s =
      let level = one_rest index u v s.far d s.meet w.meet in
      let comes = subst (λ r. ComesTo (Joined graph.edges) index v u r s.nodes z s.rest) level s.comes in
      s.other (sym (one_way (Joined graph.edges) index v w.others s.nodes u d v 0 z s.rest w.each_least comes (inl refl) (inr s.none)).0)

  walks_same : (d e : ℕ) (xs ys : List ℕ) → IsRowWalk (Joined graph.edges) index u v d xs → IsRowWalk (Joined graph.edges) index u v e ys → (d ≡ e) × (xs ≡ ys)
  walks_same d e xs ys a b =
      let level = one_rest index u v e d b.meet a.meet in
      let comes = subst (λ r. ComesTo (Joined graph.edges) index v u r b.others v 0) level b.each_least in
      let others = (one_way (Joined graph.edges) index v a.others b.others u d v 0 v 0 a.each_least comes (inl refl) (inl refl)).1 in
      (sym level, a.from_u ∙ ap (λ l. u ∷ l) others ∙ sym b.from_u)

  stuck_same : (x y : ℕ) → IsStuckAt (Joined graph.edges) index u v x → IsStuckAt (Joined graph.edges) index u v y → x ≡ y
  stuck_same x y a b =
      let level = one_rest index u v b.far a.far b.meet a.meet in
      let comes = subst (λ r. ComesTo (Joined graph.edges) index v u r b.nodes y b.rest) level b.comes in
      (one_way (Joined graph.edges) index v a.nodes b.nodes u a.far x a.rest y b.rest a.comes comes (inr a.none) (inr b.none)).0

  -- and one thing only
  pub path_unique : (told other : Path) → IsPathOf graph index u v told → IsPathOf graph index u v other → told ≡ other
  path_unique (Sizes nodes rows) (Sizes others last) a b = let p : nodes ≡ others = a.0 ∙ sym b.0 in let q : rows ≡ last = a.1 ∙ sym b.1 in cc
  path_unique (Sizes nodes rows) Unreachable a b = absurd (sizes_differ nodes rows a.0 a.1 a.2 b.0)
  path_unique (Sizes nodes rows) (Walk d xs) a b = absurd (sizes_differ nodes rows a.0 a.1 a.2 b.0)
  path_unique (Sizes nodes rows) (Stuck x t) a b = absurd (sizes_differ nodes rows a.0 a.1 a.2 b.0)
  path_unique Unreachable (Sizes nodes rows) a b = absurd (sizes_differ nodes rows b.0 b.1 b.2 a.0)
  path_unique Unreachable Unreachable a b = refl
  path_unique Unreachable (Walk d xs) a b = absurd (not_apart d a.1 b.1.meet)
  path_unique Unreachable (Stuck x t) a b = absurd (not_apart b.2.far a.1 b.2.meet)
  path_unique (Walk d xs) (Sizes nodes rows) a b = absurd (sizes_differ nodes rows b.0 b.1 b.2 a.0)
  path_unique (Walk d xs) Unreachable a b = absurd (not_apart d b.1 a.1.meet)
  path_unique (Walk d xs) (Walk e ys) a b =
      let same = walks_same d e xs ys a.1 b.1 in
      ap (λ i. Walk i xs) same.0 ∙ ap (λ l. Walk e l) same.1
  path_unique (Walk d xs) (Stuck x t) a b = absurd (walk_and_stuck d x xs a.1 b.2)
  path_unique (Stuck x t) (Sizes nodes rows) a b = absurd (sizes_differ nodes rows b.0 b.1 b.2 a.0)
  path_unique (Stuck x t) Unreachable a b = absurd (not_apart a.2.far b.1 a.2.meet)
  path_unique (Stuck x t) (Walk d xs) a b = absurd (walk_and_stuck d x xs b.1 a.2)
  path_unique (Stuck x t) (Stuck y s) a b =
      let same = stuck_same x y a.2 b.2 in
      ap (λ i. Stuck i t) same ∙ ap (λ i. Stuck y i) (a.1 ∙ sym b.1)
