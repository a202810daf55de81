-- The nearest points of a source: there are some, and of the canonical hub labelling they are the nearest of the graph.
use Rattle.std.proofs.Common.{◌≡◌, ◌≢◌, ◌↔◌, ℕ, ◌<◌, ◌≤◌, List, [], ◌∷◌, All, Contains, Option, Some, None, length, take, get_or, refl, sym, ap, subst, inl, inr, arith}
use Rattle.std.proofs.lemmas.List.Elements.{All-contains, All-head, All-tail}
use Rattle.walk_laws.specs.declared.graph.Edge.{Edge}
use Rattle.walk_laws.specs.declared.entry.Entry.{Entry}
use Rattle.walk_laws.specs.Joined.{Joined}
use Rattle.walk_laws.specs.Labelling.{IsChl}
use Rattle.walk_laws.specs.Laws.{WeighAtLeastOne}
use Rattle.walk_laws.specs.Least.{IsLeast, AreApart}
use Rattle.walk_laws.specs.Meet.{IsMeet}
use Rattle.walk_laws.specs.Answer.{IsAnswer}
use Rattle.walk_laws.specs.Ranking.{IsRanking}
use Rattle.walk_laws.specs.Walk.{HasWalk}
use Rattle.walk_laws.proofs.AnswersOfPairs.{IsAnswer-exists, IsMeet-IsAnswer}
use Rattle.walk_laws.proofs.Members.{Contains-first, Contains-next, Contains-cons_cases, Contains-empty}
use Rattle.hub_index.specs.WellFormed.{IsWellFormed}
use Rattle.hub_query.proofs.Meetings.{meet_exists, meet_unique}
use Rattle.near_points.specs.declared.hit.Hit.{Hit}
use Rattle.near_points.specs.Laws.{AreNodes}
use Rattle.near_points.specs.Nearest.{IsPointAway, IsNearest}
use Rattle.near_points.proofs.HitOrder.{AreAll, AreAll-none, AreAll-more, AreFirst-of_all, same_hit}

module _ (at : List ℕ) (rows : List (List Entry)) (source : ℕ) where
  abbrev Away : List ℕ → Hit → Type 0
  Away points = IsPointAway at rows points source

  -- a point of fewer is one of more
  Away-more : (v : ℕ) (points : List ℕ) (h : Hit) → Away points h → Away (v ∷ points) h
  Away-more v points h away = record { point = Contains-next v h.node points away.point; hub = away.hub; meet = away.meet }

  same_answer : (a b : ℕ × ℕ) → Some a ≡ Some b → a ≡ b
  same_answer a b is = cc

  -- a point has one distance
  pub Away-distance : (v : ℕ) (answer : ℕ × ℕ) (h : Hit) → IsMeet at rows source v (Some answer) → h.node ≡ v → (hub : ℕ) → IsMeet at rows source h.node (Some (h.dist, hub)) → h.dist ≡ answer.0
  Away-distance v answer h meet node hub own =
      let here : IsMeet at rows source v (Some (h.dist, hub)) = subst (λ x. IsMeet at rows source x (Some (h.dist, hub))) node own in
      ap (λ (a : ℕ × ℕ). a.0) (same_answer (h.dist, hub) answer (meet_unique at rows source v (Some (h.dist, hub)) (Some answer) here meet))

  -- one more point, which shares no hub with the source
  all_and_apart : (v : ℕ) (points : List ℕ) → IsMeet at rows source v None → (hits : List Hit) → AreAll (Away points) hits → AreAll (Away (v ∷ points)) hits
  all_and_apart v points apart hits are = record {
    rising = are.rising;
    each = λ i d lt. Away-more v points (get_or hits i d) (are.each i d lt);
    all = λ h away. elim (Contains-cons_cases v h.node points away.point) [
      | inl same ↦
          let here : IsMeet at rows source v (Some (h.dist, away.hub)) = subst (λ x. IsMeet at rows source x (Some (h.dist, away.hub))) (sym same) away.meet in
          let both : None ≡ Some (h.dist, away.hub) = meet_unique at rows source v None (Some (h.dist, away.hub)) apart here in
          absurd cc
      | inr later ↦ are.all h (record { point = later; hub = away.hub; meet = away.meet })
    ];
  }

  -- one more point, at a distance
  all_and_one : (v : ℕ) (points : List ℕ) (answer : ℕ × ℕ) → IsMeet at rows source v (Some answer) → (hits : List Hit) → AreAll (Away points) hits → (more : List Hit) × AreAll (Away (v ∷ points)) more
  all_and_one v points answer meet hits are =
      AreAll-more (Away points) (Away (v ∷ points)) (record { node = v; dist = answer.0 }) hits are (Away-more v points)
      (record { point = Contains-first v points; hub = answer.1; meet = meet })
      (λ h away. elim (Contains-cons_cases v h.node points away.point) [
        | inl same ↦ inr (same_hit h (record { node = v; dist = answer.0 }) (sym same) (Away-distance v answer h meet (sym same) away.hub away.meet))
        | inr later ↦ inl (record { point = later; hub = away.hub; meet = away.meet })
      ])

  one_more : (v : ℕ) (points : List ℕ) (answer : Option (ℕ × ℕ)) → IsMeet at rows source v answer → (hits : List Hit) × AreAll (Away points) hits → (hits : List Hit) × AreAll (Away (v ∷ points)) hits
  one_more v points None meet known = (known.0, all_and_apart v points meet known.0 known.1)
  one_more v points (Some answer) meet known = all_and_one v points answer meet known.0 known.1

  all_exist : IsWellFormed at rows → 1 ≤ source → source ≤ length at → (points : List ℕ) → AreNodes (length at) points → (hits : List Hit) × AreAll (Away points) hits
  all_exist well from_one up_to_n [] nodes = ([], AreAll-none (Away []) (λ h away. Contains-empty h.node away.point))
  all_exist well from_one up_to_n (v ∷ points) nodes =
      let node = All-head (λ v. (1 ≤ v) × (v ≤ length at)) v points nodes in
      let told = meet_exists at rows source v well from_one up_to_n node.0 node.1 in
      one_more v points told.0 told.1 (all_exist well from_one up_to_n points (All-tail (λ v. (1 ≤ v) × (v ≤ length at)) v points nodes))

  -- each source has nearest points
  pub nearest_exist : (points : List ℕ) (k : ℕ) → IsWellFormed at rows → AreNodes (length at) points → 1 ≤ source → source ≤ length at → (hits : List Hit) × IsNearest at rows points source k hits
  nearest_exist points k well nodes from_one up_to_n =
      let all = all_exist well from_one up_to_n points nodes in
      (take k all.0, AreFirst-of_all (Away points) k all.0 all.1)

module _ (edges : List Edge) (at : List ℕ) (rows : List (List Entry)) (points : List ℕ) (source : ℕ) (weights : WeighAtLeastOne edges) (ranking : IsRanking at) (chl : IsChl (Joined edges) at rows) (nodes : AreNodes (length at) points) (from_one : 1 ≤ source) (up_to_n : source ≤ length at) where
  node_of_point : (v : ℕ) → Contains points v → (1 ≤ v) × (v ≤ length at)
  node_of_point v there = All-contains (λ v. (1 ≤ v) × (v ≤ length at)) points v nodes there

  -- the distance of a point is the least length
  away_least : (h : Hit) → IsPointAway at rows points source h → IsLeast (Joined edges) source h.node h.dist
  away_least h away =
      let node = node_of_point h.node away.point in
      ((IsMeet-IsAnswer edges weights at ranking source h.node from_one up_to_n node.0 node.1 rows chl (Some (h.dist, away.hub))).0 away.meet).0

  -- and so of all that are given
  pub distances_least : (k : ℕ) (hits : List Hit) → IsNearest at rows points source k hits → All (λ h. IsLeast (Joined edges) source h.node h.dist) hits
  distances_least k hits nearest = λ i d lt. away_least (get_or hits i d) (nearest.each i d lt)

  given_or_apart : (k v : ℕ) (hits : List Hit) → IsNearest at rows points source k hits → length hits < k → Contains points v → All (λ h. h.node ≢ v) hits → (answer : Option (ℕ × ℕ)) → IsAnswer (Joined edges) at source v answer → AreApart (Joined edges) source v
  given_or_apart k v hits nearest fewer point missing None apart = apart
  given_or_apart k v hits nearest fewer point missing (Some answer) known =
      let node = node_of_point v point in
      let meet : IsMeet at rows source v (Some answer) = (IsMeet-IsAnswer edges weights at ranking source v from_one up_to_n node.0 node.1 rows chl (Some answer)).1 known in
      let hit : Hit = record { node = v; dist = answer.0 } in
      absurd (elim (nearest.others hit (record { point = point; hub = answer.1; meet = meet })) [
        | inl there ↦ All-contains (λ h. h.node ≢ v) hits hit missing there refl
        | inr full ↦ omega (arith, full.0, fewer)
      ])

  -- a point that is missing where fewer than k are given is one to which no walk leads
  pub missing_apart : (k v : ℕ) (hits : List Hit) → IsNearest at rows points source k hits → length hits < k → Contains points v → All (λ h. h.node ≢ v) hits ↔ AreApart (Joined edges) source v
  missing_apart k v hits nearest fewer point =
      let answer = IsAnswer-exists edges weights at ranking source v from_one up_to_n in (
        λ missing. given_or_apart k v hits nearest fewer point missing answer.0 answer.1,
        λ apart i d lt same.
            let least = away_least (get_or hits i d) (nearest.each i d lt) in
            apart (get_or hits i d).dist (subst (λ x. HasWalk (Joined edges) source x (get_or hits i d).dist) same least.walk),
      )
