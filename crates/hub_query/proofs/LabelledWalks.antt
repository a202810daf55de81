-- Where the rows are the canonical hub labelling, the walk by them is the first shortest.
use Rattle.std.proofs.Common.{◌≡◌, ◌≢◌, ℕ, ◌-◌, ◌≤◌, List, [], ◌∷◌, All, length, Some, None, Option, refl, sym, subst, arith}
use Rattle.walk_laws.specs.declared.graph.Edge.{Edge}
use Rattle.walk_laws.specs.Graph.{WeightedGraph, IsGraph, IsEdge}
use Rattle.walk_laws.specs.Joined.{Joined}
use Rattle.walk_laws.specs.Least.{IsLeast}
use Rattle.walk_laws.specs.Answer.{IsAnswer, IsFirstShortest}
use Rattle.walk_laws.specs.Meet.{IsMeet}
use Rattle.walk_laws.specs.Labelling.{IsChl}
use Rattle.walk_laws.proofs.JoinedEdges.{IsEdge-joined, Joined-positive, weights_of_edges}
use Rattle.walk_laws.proofs.LeastWalks.{IsLeast-unique, IsLeast-same}
use Rattle.walk_laws.proofs.FirstShortest.{IsNext, IsNext-exists, IsLeast-next, IsFirstShortest-end, IsFirstShortest-step}
use Rattle.walk_laws.proofs.AnswersOfPairs.{IsMeet-IsAnswer}
use Rattle.hub_index.specs.HubIndex.{HubIndex}
use Rattle.hub_index.specs.WellFormed.{IsWellFormed}
use Rattle.hub_query.specs.declared.path_answer.Path.{Path}
use Rattle.hub_query.specs.declared.path_answer.Path.TheVariants.{Sizes, Unreachable, Walk, Stuck}
use Rattle.hub_query.specs.Paths.{AreApartBy, IsOnward, ComesTo, IsPathOf, TellsTheWalk}
use Rattle.hub_query.proofs.Meetings.{meet_exists}

module _ (edges : List Edge) (index : HubIndex) (edge : All (IsEdge (length index.order)) edges) (well : IsWellFormed index.order index.rows) (chl : IsChl (Joined edges) index.order index.rows) (v : ℕ) (v_node : 1 ≤ v) (v_within : v ≤ length index.order) where
  abbrev J : ℕ → ℕ → ℕ → Type 0
  J = Joined edges

  weights : All (λ e. 1 ≤ e.w) edges
  weights = weights_of_edges (length index.order) edges edge

  positive : (x y w : ℕ) → J x y w → 1 ≤ w
  positive = Joined-positive edges weights

  answered : (x : ℕ) → 1 ≤ x → x ≤ length index.order → (answer : Option (ℕ × ℕ)) → IsMeet index.order index.rows x v answer → IsAnswer J index.order x v answer
  answered x from_one up_to_n answer =
      (IsMeet-IsAnswer edges weights index.order well.ranking x v from_one up_to_n v_node v_within index.rows chl answer).0

  -- what the rows say is the least length
  pub apart_is_least : (x d : ℕ) → 1 ≤ x → x ≤ length index.order → AreApartBy index x v d → IsLeast J x v d
  apart_is_least x d from_one up_to_n meet = (answered x from_one up_to_n (Some (d, meet.0)) meet.1).0

  told_length : (x d : ℕ) → 1 ≤ x → x ≤ length index.order → IsLeast J x v d → (answer : Option (ℕ × ℕ)) → IsMeet index.order index.rows x v answer → AreApartBy index x v d
  told_length x d from_one up_to_n least None meet = absurd (answered x from_one up_to_n None meet d least.walk)
  told_length x d from_one up_to_n least (Some a) meet =
      let same : a.0 ≡ d = IsLeast-unique J x v a.0 d (answered x from_one up_to_n (Some a) meet).0 least in
      subst (AreApartBy index x v) same (a.1, meet)

  pub least_is_apart : (x d : ℕ) → 1 ≤ x → x ≤ length index.order → IsLeast J x v d → AreApartBy index x v d
  least_is_apart x d from_one up_to_n least =
      let told = meet_exists index.order index.rows x v well from_one up_to_n v_node v_within in
      told_length x d from_one up_to_n least told.0 told.1

  next_of_onward : (x d y : ℕ) → IsOnward J index v x d y → IsNext J x v d y
  next_of_onward x d y on =
      let is = IsEdge-joined (length index.order) edges x y on.weight edge on.arc in
      let far : on.rest ≡ d - on.weight = omega (arith, on.adds) in
      record { weight = on.weight; light = omega (arith, on.adds); arc = on.arc; walk = (IsLeast-same J y v on.rest (d - on.weight) far (apart_is_least y on.rest is.to_one is.to_n on.meet)).walk }

  onward_of_next : (x d y : ℕ) → IsLeast J x v d → IsNext J x v d y → IsOnward J index v x d y
  onward_of_next x d y least n =
      let is = IsEdge-joined (length index.order) edges x y n.weight edge n.arc in
      record { weight = n.weight; rest = d - n.weight; arc = n.arc; meet = least_is_apart y (d - n.weight) is.to_one is.to_n (IsLeast-next J positive x v d y least n); adds = omega (arith, n.light) }

  -- the walk by the rows is the first shortest
  pub comes_first : (nodes : List ℕ) (x d : ℕ) → IsLeast J x v d → ComesTo J index v x d nodes v 0 → IsFirstShortest J x v d (x ∷ nodes)
  unfolding next_of_onward
  comes_first [] x d least comes =
      subst (λ y. IsFirstShortest J x y d (x ∷ [])) comes.0 (subst (λ e. IsFirstShortest J x x e (x ∷ [])) (sym comes.1) (IsFirstShortest-end J positive x))
  comes_first (y ∷ nodes) x d least comes =
      let s = comes.1 in
      let n = next_of_onward x d y s.onward in
      let is = IsEdge-joined (length index.order) edges x y s.onward.weight edge s.onward.arc in
      let far : s.onward.rest ≡ d - n.weight = omega (arith, s.onward.adds) in
      let rest = comes_first nodes y s.onward.rest (apart_is_least y s.onward.rest is.to_one is.to_n s.onward.meet) comes.2 in
      IsFirstShortest-step J positive x v d y (y ∷ nodes) least n (λ z m. s.least z (onward_of_next x d z least m)) (subst (λ e. IsFirstShortest J y v e (y ∷ nodes)) far rest)

  -- and it is never stuck
  pub never_stuck : (nodes : List ℕ) (x d z e : ℕ) → IsLeast J x v d → ComesTo J index v x d nodes z e → z ≢ v → ((y : ℕ) → IsOnward J index v z e y → ⊥) → ⊥
  never_stuck [] x d z e least comes other none =
      let here : IsLeast J z v e = subst (λ i. IsLeast J i v e) comes.0 (subst (IsLeast J x v) comes.1 least) in
      let next = IsNext-exists J positive z v e other here.walk in
      none next.0 (onward_of_next z e next.0 here next.1)
  never_stuck (y ∷ nodes) x d z e least comes other none =
      let s = comes.1.onward in
      let is = IsEdge-joined (length index.order) edges x y s.weight edge s.arc in
      never_stuck nodes y s.rest z e (apart_is_least y s.rest is.to_one is.to_n s.meet) comes.2 other none

  pub tells_the_walk : (graph : WeightedGraph) → graph.edges ≡ edges → (u : ℕ) → 1 ≤ u → u ≤ length index.order → (told : Path) → IsPathOf graph index u v told → TellsTheWalk J u v told
  tells_the_walk graph same u from_one up_to_n (Sizes nodes rows) is = tt
  tells_the_walk graph same u from_one up_to_n Unreachable is = answered u from_one up_to_n None is.1
  tells_the_walk graph same u from_one up_to_n (Walk long nodes) is =
      let w = is.1 in
      let comes : ComesTo J index v u long w.others v 0 = subst (λ es. ComesTo (Joined es) index v u long w.others v 0) same w.each_least in
      subst (IsFirstShortest J u v long) (sym w.from_u) (comes_first w.others u long (apart_is_least u long from_one up_to_n w.meet) comes)
  tells_the_walk graph same u from_one up_to_n (Stuck at to) is =
      let s = is.2 in
      let comes : ComesTo J index v u s.far s.nodes at s.rest = subst (λ es. ComesTo (Joined es) index v u s.far s.nodes at s.rest) same s.comes in
      let none = subst (λ es. (y : ℕ) → IsOnward (Joined es) index v at s.rest y → ⊥) same s.none in
      never_stuck s.nodes u s.far at s.rest (apart_is_least u s.far from_one up_to_n s.meet) comes s.other none

pub path_tells : (graph : WeightedGraph) (index : HubIndex) → IsGraph graph.n graph.edges → length index.order ≡ graph.n → IsWellFormed index.order index.rows → IsChl (Joined graph.edges) index.order index.rows → (u v : ℕ) (told : Path) → 1 ≤ u → u ≤ length index.order → 1 ≤ v → v ≤ length index.order → IsPathOf graph index u v told → TellsTheWalk (Joined graph.edges) u v told
path_tells graph index is size well chl u v told u_node u_within v_node v_within =
    tells_the_walk graph.edges index (subst (λ n. All (IsEdge n) graph.edges) (sym size) is.edge) well chl v v_node v_within graph refl u u_node u_within told
