-- How many nodes a tree has not settled, how long its walks can be, and how many entries it has put.
use Rattle.std.proofs.Common.{◌≡◌, ◌≢◌, ◌↔◌, inl, inr, ℕ, zero, suc, ◌+◌, ◌*◌, ◌<◌, ◌≤◌, eqb, All, Contains, List, [], ◌∷◌, ◌++◌, length, get_or, refl, sym, ap, subst, ◌∙◌, arith}
use Rattle.std.specs.List.{IsDistinct}
use Rattle.std.proofs.Math.ListN.{set}
use Rattle.std.proofs.Math.Nat.{mul-le-mul_right}
use Rattle.std.proofs.lemmas.Bool.{cases_eq}
use Rattle.std.proofs.lemmas.List.{length-append}
use Rattle.std.proofs.lemmas.List.Sums.{sum_by-cons}
use Rattle.std.proofs.lemmas.Map.Made.{AllPairs-from_IsDistinct}
use Rattle.std.proofs.lemmas.Bool.Decides.{Decides-eqb}
use Rattle.std.proofs.lemmas.Option.{slice_get_within, get_or_from_slice_get}
use Rattle.walk_laws.specs.declared.graph.Arc.{Arc}
use Rattle.walk_laws.specs.declared.entry.Entry.{Entry}
use Rattle.walk_laws.specs.Ranking.{IsRanking, position_of}
use Rattle.walk_laws.proofs.Members.{Contains-first, Contains-next, Contains-cons_cases, Contains-empty}
use Rattle.walk_laws.proofs.Positions.{position-lt, get_or-position}
use Rattle.frontier.specs.declared.reach.Found.{Found}
use Rattle.frontier.specs.declared.reach.Reach.{Reach}
use Rattle.frontier.specs.declared.reach.Reach.TheVariants.{Unreached, Queued, Settled}
use Rattle.frontier.specs.Reaches.{reach_at, settled}
use Rattle.pruned_tree.specs.Grown.{entries_of}
use Rattle.pruned_tree.specs.Relaxed.{HasDistance, IsSettledAt, IsRelaxed}
use Rattle.pruned_tree.proofs.OfferedNodes.{node_inside, queued_distance, settle_was}

-- 1 for a node that isn't settled
abbrev pub unsettled_one : {C : Type 0} → Reach C → ℕ
unsettled_one Unreached = 1
unsettled_one (Queued found) = 1
unsettled_one (Settled found) = 0

-- how many nodes are not settled
abbrev pub unsettled : {C : Type 0} → List (Reach C) → ℕ
unsettled [] = 0
unsettled (r ∷ nodes) = unsettled_one r + unsettled nodes

module _ {C : Type 0} where
  unsettled-set : (nodes : List (Reach C)) (x : ℕ) (r : Reach C) → x < length nodes → unsettled (set nodes x r) + unsettled_one (get_or nodes x Unreached) ≡ unsettled nodes + unsettled_one r
  unsettled-set [] x r inside = absurd (omega arith)
  unsettled-set (q ∷ nodes) zero r inside = omega arith
  unsettled-set (q ∷ nodes) (suc x) r inside = omega (arith, unsettled-set nodes x r (omega arith))

  -- settling a queued node leaves one less
  pub unsettled-settled : (nodes : List (Reach C)) (v : ℕ) (f : Found C) → reach_at nodes v ≡ Queued f → unsettled (settled nodes v f) + 1 ≡ unsettled nodes
  unsettled-settled nodes v f queued =
      let before : unsettled_one (get_or nodes v Unreached) ≡ 1 = ap unsettled_one queued in
      omega (arith, unsettled-set nodes v (Settled f) (node_inside nodes v f.dist (queued_distance (reach_at nodes v) f queued)), before)

  pub unsettled-le : (nodes : List (Reach C)) → unsettled nodes ≤ length nodes
  unsettled-le [] = omega arith
  unsettled-le (Unreached ∷ nodes) = omega (arith, unsettled-le nodes)
  unsettled-le (Queued f ∷ nodes) = omega (arith, unsettled-le nodes)
  unsettled-le (Settled f ∷ nodes) = omega (arith, unsettled-le nodes)

  one_same : (r s : Reach C) → ((d : ℕ) → IsSettledAt r d ↔ IsSettledAt s d) → unsettled_one r ≡ unsettled_one s
  one_same Unreached Unreached both = refl
  one_same Unreached (Queued f) both = refl
  one_same Unreached (Settled f) both = absurd ((both f.dist).1 refl)
  one_same (Queued g) Unreached both = refl
  one_same (Queued g) (Queued f) both = refl
  one_same (Queued g) (Settled f) both = absurd ((both f.dist).1 refl)
  one_same (Settled g) Unreached both = absurd ((both g.dist).0 refl)
  one_same (Settled g) (Queued f) both = absurd ((both g.dist).0 refl)
  one_same (Settled g) (Settled f) both = refl

  -- the count is that of the settled nodes alone
  pub unsettled-same : (nodes others : List (Reach C)) → length nodes ≡ length others → ((x d : ℕ) → IsSettledAt (reach_at nodes x) d ↔ IsSettledAt (reach_at others x) d) → unsettled nodes ≡ unsettled others
  unsettled-same [] [] size both = refl
  unsettled-same [] (s ∷ others) size both = absurd (omega arith)
  unsettled-same (r ∷ nodes) [] size both = absurd (omega arith)
  unsettled-same (r ∷ nodes) (s ∷ others) size both =
      let first = one_same r s (λ d. both 0 d) in
      let rest = unsettled-same nodes others (omega arith) (λ x d. both (suc x) d) in
      omega (arith, first, rest)

  -- each walk found leaves room for a heaviest edge more for each node that isn't settled
  pub IsBounded : ℕ → ℕ → List (Reach C) → Type 0
  IsBounded heaviest total nodes = (x d : ℕ) → HasDistance (reach_at nodes x) d → d + unsettled nodes * heaviest ≤ total

  -- the nearest node leaves room for an edge
  pub room_of_next : (heaviest total : ℕ) (nodes : List (Reach C)) (v : ℕ) (f : Found C) → reach_at nodes v ≡ Queued f → IsBounded heaviest total nodes → f.dist + heaviest + unsettled (settled nodes v f) * heaviest ≤ total
  unfolding IsBounded
  room_of_next heaviest total nodes v f queued bounded =
      let less : (unsettled (settled nodes v f) + 1) * heaviest ≡ unsettled nodes * heaviest = ap (λ k. k * heaviest) (unsettled-settled nodes v f queued) in
      omega (arith, less, bounded v f.dist (queued_distance (reach_at nodes v) f queued))

  pub IsBounded-settled : (heaviest total : ℕ) (nodes : List (Reach C)) (v : ℕ) (f : Found C) → reach_at nodes v ≡ Queued f → IsBounded heaviest total nodes → IsBounded heaviest total (settled nodes v f)
  unfolding IsBounded
  IsBounded-settled heaviest total nodes v f queued bounded x d there =
      let less : (unsettled (settled nodes v f) + 1) * heaviest ≡ unsettled nodes * heaviest = ap (λ k. k * heaviest) (unsettled-settled nodes v f queued) in
      omega (arith, less, bounded x d (settle_was nodes v f queued x d there))

  pub IsBounded-relaxed : (heaviest total : ℕ) (at : List ℕ) (p dist count : ℕ) (row : List Arc) (nodes after : List (Reach C)) → All (λ a. a.w ≤ heaviest) row → dist + heaviest + unsettled nodes * heaviest ≤ total → IsRelaxed at p dist count row nodes after → IsBounded heaviest total nodes → IsBounded heaviest total after
  unfolding IsBounded
  IsBounded-relaxed heaviest total at p dist count row nodes after light room relaxed bounded x d there =
      let same : unsettled after * heaviest ≡ unsettled nodes * heaviest = ap (λ k. k * heaviest) (unsettled-same after nodes relaxed.size relaxed.settled) in
      elim (relaxed.came x d there) [
        | inl old ↦ omega (arith, same, bounded x d old)
        | inr new ↦
            let within = slice_get_within row new.0.place new.0.arc new.0.there in
            let is : get_or row new.0.place new.0.arc ≡ new.0.arc = get_or_from_slice_get row new.0.place new.0.arc new.0.arc new.0.there in
            let weight : new.0.arc.w ≤ heaviest = subst (λ (a : Arc). a.w ≤ heaviest) is (light new.0.place new.0.arc within) in
            omega (arith, same, weight, new.0.long, room)
      ]

  -- at first what is reached leaves room for as many edges as there are nodes
  pub IsBounded-start : (heaviest n total : ℕ) (nodes : List (Reach C)) → length nodes ≡ n + 1 → ((x d : ℕ) → HasDistance (reach_at nodes x) d → d + (n + 1) * heaviest ≤ total) → IsBounded heaviest total nodes
  unfolding IsBounded
  IsBounded-start heaviest n total nodes size start x d there =
      let few : unsettled nodes * heaviest ≤ (n + 1) * heaviest = mul-le-mul_right heaviest (omega (arith, unsettled-le nodes, size)) in
      omega (arith, few, start x d there)

-- nodes whose entries stay
entries-same : (nodes : List ℕ) (rows others : ℕ → List Entry) → ((x : ℕ) → Contains nodes x → others x ≡ rows x) → entries_of nodes others ≡ entries_of nodes rows
entries-same [] rows others same = refl
entries-same (x ∷ nodes) rows others same =
    let here = ap length (same x (Contains-first x nodes)) in
    let rest = entries-same nodes rows others (λ y there. same y (Contains-next x y nodes there)) in
    omega (arith, sum_by-cons (λ v. length (others v)) x nodes, sum_by-cons (λ v. length (rows v)) x nodes, here, rest)

-- a node that stands once among them gains an entry
entries-more : (nodes : List ℕ) (rows others : ℕ → List Entry) (v : ℕ) (e : Entry) → IsDistinct eqb nodes → Contains nodes v → others v ≡ rows v ++ e ∷ [] → ((x : ℕ) → Contains nodes x → x ≢ v → others x ≡ rows x) → entries_of nodes others ≡ entries_of nodes rows + 1
unfolding IsDistinct
entries-more [] rows others v e once there more same = absurd (Contains-empty v there)
entries-more (x ∷ nodes) rows others v e once there more same =
    let first = sum_by-cons (λ v. length (others v)) x nodes in
    let was = sum_by-cons (λ v. length (rows v)) x nodes in
    elim (cases_eq x v) [
      | inl here ↦
          let longer : length (others x) ≡ length (rows x) + 1 = ap (λ y. length (others y)) here ∙ ap length more ∙ length-append (rows v) (e ∷ []) ∙ ap (λ y. length (rows y) + 1) (sym here) in
          let rest = entries-same nodes rows others (λ y later. same y (Contains-next x y nodes later) (λ is. twice x nodes once (subst (λ z. Contains nodes z) (is ∙ sym here) later))) in
          omega (arith, first, was, longer, rest)
      | inr other ↦
          let as_long = ap length (same x (Contains-first x nodes) other) in
          let later : Contains nodes v = elim (Contains-cons_cases x v nodes there) [ inl is ↦ absurd (other is) | inr later ↦ later ] in
          let rest = entries-more nodes rows others v e once.1 later more (λ y there differ. same y (Contains-next x y nodes there) differ) in
          omega (arith, first, was, as_long, rest)
    ]
  where
    twice : (x : ℕ) (nodes : List ℕ) → IsDistinct eqb (x ∷ nodes) → Contains nodes x → ⊥
    twice x nodes once there =
        let apart = AllPairs-from_IsDistinct Decides-eqb (x ∷ nodes) once 0 (suc there.0) x (omega arith) (omega (arith, there.1)) in
        apart (sym there.2)

-- an entry is put at a node of a ranking
pub entries-put : (at : List ℕ) (rows others : ℕ → List Entry) (v : ℕ) (e : Entry) → IsRanking at → 1 ≤ v → v ≤ length at → others v ≡ rows v ++ e ∷ [] → ((x : ℕ) → 1 ≤ x → x ≢ v → others x ≡ rows x) → entries_of at others ≡ entries_of at rows + 1
entries-put at rows others v e ranking from_one up_to_n more same =
    let place = position-lt at v ranking from_one up_to_n in
    let there : Contains at v = (position_of at v, place, get_or-position at v v place) in
    entries-more at rows others v e ranking.once there more (λ x stands differ. same x (node_from_one at ranking x stands) differ)
  where
    node_from_one : (at : List ℕ) → IsRanking at → (x : ℕ) → Contains at x → 1 ≤ x
    node_from_one at ranking x stands = let is = stands.2 in omega (arith, (ranking.node stands.0 x stands.1).0, is)

-- nothing is put
pub entries-kept : (at : List ℕ) (rows others : ℕ → List Entry) → IsRanking at → ((x : ℕ) → 1 ≤ x → others x ≡ rows x) → entries_of at others ≡ entries_of at rows
entries-kept at rows others ranking same =
    entries-same at rows others (λ x stands. let is = stands.2 in same x (omega (arith, (ranking.node stands.0 x stands.1).0, is)))
