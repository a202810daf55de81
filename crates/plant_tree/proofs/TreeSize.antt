-- How many nodes a tree has not settled, and how long its walks can be.
use Rattle.std.proofs.Common.{◌≡◌, ◌⊎◌, inl, inr, ℕ, zero, suc, ◌+◌, ◌*◌, ◌<◌, ◌≤◌, true, false, cond, min, All, List, [], ◌∷◌, length, get_or, get_or-set_other, get_or-set_same, refl, sym, ap, ◌∙◌, arith}
use Rattle.std.specs.Prelude.{nat_lt, ◌==◌}
use Rattle.std.proofs.Math.ListN.{set, length-set, get_or-eq_default}
use Rattle.std.proofs.lemmas.Bool.{cases_lt, cases_eq}
use Rattle.std.specs.Prelude.{◌↔◌, ◌^◌, replicate, Contains}
use Rattle.std.proofs.Math.Nat.{mul-le-mul_right}
use Rattle.std.proofs.lemmas.List.{get_or-replicate, length-replicate}
use Rattle.std.proofs.lemmas.List.Elements.{Contains-get_or}
use Rattle.walk_laws.specs.declared.graph.Arc.{Arc}
use Rattle.walk_laws.specs.declared.graph.Edge.{Edge}
use Rattle.walk_laws.specs.Graph.{IsGraph, greatest_weight}
use Rattle.walk_laws.specs.Joined.{Joined}
use Rattle.walk_laws.proofs.JoinedEdges.{IsArc, arcs_of_row}
use Rattle.plant_tree.specs.Relaxed.{offer_of, relaxed, relaxed_all}
use Rattle.plant_tree.proofs.TreeSteps.{better, offered}
use Rattle.plant_tree.proofs.TreeTypes.{Found, Reach}
use Rattle.frontier.specs.declared.reach.Reach.TheVariants.{Unreached, Queued, Settled}

-- 1 for a node that isn't settled
abbrev pub unsettled_one : Reach → ℕ
unsettled_one Unreached = 1
unsettled_one (Queued found) = 1
unsettled_one (Settled found) = 0

-- how many nodes are not settled
abbrev pub unsettled : List Reach → ℕ
unsettled [] = 0
unsettled (r ∷ nodes) = unsettled_one r + unsettled nodes

-- after a write at a place of the list
unsettled-set : (nodes : List Reach) (x : ℕ) (r : Reach) → x < length nodes → unsettled (set nodes x r) + unsettled_one (get_or nodes x Unreached) ≡ unsettled nodes + unsettled_one r
unsettled-set [] x r inside = absurd (omega arith)
unsettled-set (q ∷ nodes) zero r inside = omega arith
unsettled-set (q ∷ nodes) (suc x) r inside = omega (arith, unsettled-set nodes x r (omega arith))

-- a queued node stands in the list
pub queued_inside : (nodes : List Reach) (x : ℕ) (f : Found) → get_or nodes x Unreached ≡ Queued f → x < length nodes
queued_inside nodes x f is = elim (cases_lt x (length nodes)) [
  | inl inside ↦ inside
  | inr outside ↦ let none : get_or nodes x Unreached ≡ Unreached = get_or-eq_default nodes Unreached outside in absurd cc
]

-- settling a queued node leaves one less
pub unsettled-settled : (nodes : List Reach) (x : ℕ) (f : Found) → get_or nodes x Unreached ≡ Queued f → unsettled (set nodes x (Settled f)) + 1 ≡ unsettled nodes
unsettled-settled nodes x f is =
    let before : unsettled_one (get_or nodes x Unreached) ≡ 1 = ap unsettled_one is in
    omega (arith, unsettled-set nodes x (Settled f) (queued_inside nodes x f is))

-- a node that is offered a walk is settled exactly if it was
unsettled_one-offered : (r : Reach) (offer : Found) → unsettled_one (offered r offer) ≡ unsettled_one r
unsettled_one-offered Unreached offer = refl
unsettled_one-offered (Queued f) offer = refl
unsettled_one-offered (Settled f) offer = refl

pub unsettled-relaxed : (at : List ℕ) (f : Found) (a : Arc) (nodes : List Reach) → a.to < length nodes → unsettled (relaxed at f a nodes) ≡ unsettled nodes
unsettled-relaxed at f a nodes inside =
    let same = unsettled_one-offered (get_or nodes a.to Unreached) (offer_of at f a) in
    omega (arith, unsettled-set nodes a.to (offered (get_or nodes a.to Unreached) (offer_of at f a)) inside, same)

pub length-relaxed : (at : List ℕ) (f : Found) (a : Arc) (nodes : List Reach) → length (relaxed at f a nodes) ≡ length nodes
length-relaxed at f a nodes = length-set nodes a.to (offered (get_or nodes a.to Unreached) (offer_of at f a))

-- what was found of a node that is reached
abbrev pub Reaches : Reach → Found → Type 0
Reaches r f = (r ≡ Queued f) ⊎ (r ≡ Settled f)

-- each walk found leaves room for a heaviest edge more for each node that isn't settled
pub IsBounded : ℕ → ℕ → List Reach → Type 0
IsBounded heaviest total nodes = (x : ℕ) (f : Found) → Reaches (get_or nodes x Unreached) f → f.dist + unsettled nodes * heaviest ≤ total

-- the better of two walks is as long as one of them
better_dist : (f offer : Found) → ((better f offer).dist ≡ f.dist) ⊎ ((better f offer).dist ≡ offer.dist)
better_dist f offer =
    elim (nat_lt offer.dist f.dist) as (λ t. ((cond t offer (cond (offer.dist == f.dist) (record { dist = f.dist; carried = record { position = min f.carried.position offer.carried.position } }) f)).dist ≡ f.dist) ⊎ ((cond t offer (cond (offer.dist == f.dist) (record { dist = f.dist; carried = record { position = min f.carried.position offer.carried.position } }) f)).dist ≡ offer.dist)) [
      | true ↦ inr refl
      | false ↦
          elim (offer.dist == f.dist) as (λ t. ((cond t (record { dist = f.dist; carried = record { position = min f.carried.position offer.carried.position } }) f).dist ≡ f.dist) ⊎ ((cond t (record { dist = f.dist; carried = record { position = min f.carried.position offer.carried.position } }) f).dist ≡ offer.dist)) [
            | true ↦ inl refl
            | false ↦ inl refl
          ]
    ]

-- what is found of a node that was offered a walk is as long as what was found before, or as the offer
offered_dist : (r : Reach) (offer g : Found) → Reaches (offered r offer) g → ((f : Found) × Reaches r f × (g.dist ≡ f.dist)) ⊎ (g.dist ≡ offer.dist)
offered_dist Unreached offer g is = elim is [
  | inl queued ↦ let same : offer ≡ g = cc in inr (ap (λ (f : Found). f.dist) (sym same))
  | inr settled ↦ absurd cc
]
offered_dist (Queued f) offer g is = elim is [
  | inl queued ↦
      let same : better f offer ≡ g = cc in
      elim (better_dist f offer) [
        | inl old ↦ inl (f, inl refl, ap (λ (f : Found). f.dist) (sym same) ∙ old)
        | inr new ↦ inr (ap (λ (f : Found). f.dist) (sym same) ∙ new)
      ]
  | inr settled ↦ absurd cc
]
offered_dist (Settled f) offer g is = elim is [
  | inl queued ↦ absurd cc
  | inr settled ↦ let same : f ≡ g = cc in inl (f, inr refl, ap (λ (f : Found). f.dist) (sym same))
]

-- a settled node leaves the others room for a heaviest edge more
pub IsBounded-settled : (heaviest total : ℕ) (nodes : List Reach) (v : ℕ) (f : Found) → get_or nodes v Unreached ≡ Queued f → IsBounded heaviest total nodes → IsBounded heaviest total (set nodes v (Settled f))
unfolding IsBounded
IsBounded-settled heaviest total nodes v f queued bounded x g is =
    let less : (unsettled (set nodes v (Settled f)) + 1) * heaviest ≡ unsettled nodes * heaviest = ap (λ k. k * heaviest) (unsettled-settled nodes v f queued) in
    elim (cases_eq x v) [
      | inl here ↦
          let now : get_or (set nodes v (Settled f)) x Unreached ≡ Settled f = rw here (get_or-set_same nodes v (Settled f) Unreached (queued_inside nodes v f queued)) in
          let same : f.dist ≡ g.dist = elim is [ inl q ↦ absurd cc | inr s ↦ let one : f ≡ g = cc in ap (λ (f : Found). f.dist) one ] in
          omega (arith, bounded v f (inl queued))
      | inr other ↦
          let now : get_or (set nodes v (Settled f)) x Unreached ≡ get_or nodes x Unreached = get_or-set_other nodes v x (Settled f) Unreached other in
          omega (arith, bounded x g (rw now at is))
    ]

-- one arc
IsBounded-relaxed : (heaviest total : ℕ) (at : List ℕ) (f : Found) (a : Arc) (nodes : List Reach) → a.to < length nodes → f.dist + a.w + unsettled nodes * heaviest ≤ total → IsBounded heaviest total nodes → IsBounded heaviest total (relaxed at f a nodes)
unfolding IsBounded
IsBounded-relaxed heaviest total at f a nodes inside room bounded x g is =
    let count : unsettled (relaxed at f a nodes) * heaviest ≡ unsettled nodes * heaviest = ap (λ k. k * heaviest) (unsettled-relaxed at f a nodes inside) in
    let r = offered (get_or nodes a.to Unreached) (offer_of at f a) in
    elim (cases_eq x a.to) [
      | inl here ↦
          let now : get_or (relaxed at f a nodes) x Unreached ≡ offered (get_or nodes a.to Unreached) (offer_of at f a) = rw here (get_or-set_same nodes a.to _ Unreached inside) in
          elim (offered_dist (get_or nodes a.to Unreached) (offer_of at f a) g (rw now at is)) [
            | inl old ↦ omega (arith, bounded a.to old.0 old.1, old.2)
            | inr new ↦ omega (arith, new)
          ]
      | inr other ↦
          let now : get_or (relaxed at f a nodes) x Unreached ≡ get_or nodes x Unreached = get_or-set_other nodes a.to x _ Unreached other in
          omega (arith, bounded x g (rw now at is))
    ]

-- what the tree knows of the nodes 1..n: place 0 stands for no node
pub record IsSized (n heaviest total : ℕ) (nodes : List Reach) : Type 0 where
  pub size : length nodes ≡ n + 1
  pub no_node : get_or nodes 0 Unreached ≡ Unreached
  pub bounded : IsBounded heaviest total nodes

IsSized-relaxed : (n heaviest total : ℕ) (at : List ℕ) (f : Found) (a : Arc) (nodes : List Reach) → IsArc n heaviest a → f.dist + heaviest + unsettled nodes * heaviest ≤ total → IsSized n heaviest total nodes → IsSized n heaviest total (relaxed at f a nodes)
IsSized-relaxed n heaviest total at f a nodes arc room sized =
    let inside : a.to < length nodes = omega (arith, sized.size, arc.up_to_n) in
    record {
      size = length-relaxed at f a nodes ∙ sized.size;
      no_node = get_or-set_other nodes a.to 0 _ Unreached (λ e. omega (arith, arc.from_one)) ∙ sized.no_node;
      bounded = IsBounded-relaxed heaviest total at f a nodes inside (omega (arith, arc.light)) sized.bounded;
    }

-- all arcs of a row
pub IsSized-relaxed_all : (n heaviest total : ℕ) (at : List ℕ) (f : Found) (row : List Arc) (nodes : List Reach) → All (IsArc n heaviest) row → f.dist + heaviest + unsettled nodes * heaviest ≤ total → IsSized n heaviest total nodes → IsSized n heaviest total (relaxed_all at f row nodes)
IsSized-relaxed_all n heaviest total at f [] nodes arcs room sized = sized
IsSized-relaxed_all n heaviest total at f (a ∷ row) nodes arcs room sized =
    let arc : IsArc n heaviest a = arcs 0 a (omega arith) in
    let count : unsettled (relaxed at f a nodes) * heaviest ≡ unsettled nodes * heaviest = ap (λ k. k * heaviest) (unsettled-relaxed at f a nodes (omega (arith, sized.size, arc.up_to_n))) in
    IsSized-relaxed_all n heaviest total at f row (relaxed at f a nodes) (λ k d h. arcs (suc k) d (omega arith)) (omega arith) (IsSized-relaxed n heaviest total at f a nodes arc room sized)

-- the count of nodes that aren't settled stays along a row
pub unsettled-relaxed_all : (n heaviest : ℕ) (at : List ℕ) (f : Found) (row : List Arc) (nodes : List Reach) → All (IsArc n heaviest) row → length nodes ≡ n + 1 → unsettled (relaxed_all at f row nodes) ≡ unsettled nodes
unsettled-relaxed_all n heaviest at f [] nodes arcs size = refl
unsettled-relaxed_all n heaviest at f (a ∷ row) nodes arcs size =
    let arc : IsArc n heaviest a = arcs 0 a (omega arith) in
    unsettled-relaxed_all n heaviest at f row (relaxed at f a nodes) (λ k d h. arcs (suc k) d (omega arith)) (length-relaxed at f a nodes ∙ size)
    ∙ unsettled-relaxed at f a nodes (omega (arith, arc.up_to_n))

-- there are no more nodes that aren't settled than nodes
pub unsettled-le : (nodes : List Reach) → unsettled nodes ≤ length nodes
unsettled-le [] = omega arith
unsettled-le (Unreached ∷ nodes) = omega (arith, unsettled-le nodes)
unsettled-le (Queued f ∷ nodes) = omega (arith, unsettled-le nodes)
unsettled-le (Settled f ∷ nodes) = omega (arith, unsettled-le nodes)

-- before the first round only the root is reached
abbrev pub none_found : Reach
none_found = Unreached

pub nothing_found : (n x : ℕ) → get_or (replicate n none_found) x none_found ≡ none_found
nothing_found n x = elim (cases_lt x n) [
  | inl inside ↦ get_or-replicate n x none_found none_found inside
  | inr outside ↦ get_or-eq_default (replicate n none_found) none_found (rw length-replicate outside)
]

pub IsSized-start : (n heaviest root p : ℕ) (nodes : List Reach) → nodes ≡ replicate (n + 1) Unreached → 1 ≤ root → root ≤ n → IsSized n heaviest ((n + 1) * heaviest) (set nodes root (Queued (record { dist = 0; carried = record { position = p } })))
unfolding IsBounded
IsSized-start n heaviest root p nodes e from_one up_to_n =
    let start : List Reach = set nodes root (Queued (record { dist = 0; carried = record { position = p } })) in
    let size : length nodes ≡ n + 1 = ap length e ∙ length-replicate (n + 1) Unreached in
    let size_start : length (set nodes root (Queued (record { dist = 0; carried = record { position = p } }))) ≡ n + 1 = length-set nodes root _ ∙ size in
    let few : unsettled (set nodes root (Queued (record { dist = 0; carried = record { position = p } }))) * heaviest ≤ (n + 1) * heaviest =
    mul-le-mul_right heaviest (rw (← size_start) (unsettled-le (set nodes root (Queued (record { dist = 0; carried = record { position = p } }))))) in
    record {
      size = size_start;
      no_node = get_or-set_other nodes root 0 _ Unreached (λ is. omega (arith, from_one)) ∙ ap (λ ns. get_or ns 0 Unreached) e ∙ nothing_found (n + 1) 0;
      bounded = λ x f is. elim (cases_eq x root) [
        | inl here ↦
            let now : get_or (set nodes root (Queued (record { dist = 0; carried = record { position = p } }))) x Unreached ≡ Queued (record { dist = 0; carried = record { position = p } }) =
            rw here (get_or-set_same nodes root _ Unreached (omega (arith, size))) in
            let zero_dist : 0 ≡ f.dist = elim is [ inl q ↦ let one : record { dist = 0; carried = record { position = p } } ≡ f = cc in ap (λ (f : Found). f.dist) one | inr s ↦ absurd cc ] in
            omega (arith, few)
        | inr other ↦
            let now : get_or (set nodes root (Queued (record { dist = 0; carried = record { position = p } }))) x Unreached ≡ Unreached =
            get_or-set_other nodes root x _ Unreached other ∙ ap (λ ns. get_or ns x Unreached) e ∙ nothing_found (n + 1) x in
            absurd (elim is [ inl q ↦ cc | inr s ↦ cc ])
      ];
    }

-- the node that is settled next leaves room for a heaviest edge
pub room_of_next : (n heaviest total : ℕ) (nodes : List Reach) (v : ℕ) (f : Found) → IsSized n heaviest total nodes → get_or nodes v Unreached ≡ Queued f → f.dist + heaviest + unsettled (set nodes v (Settled f)) * heaviest ≤ total
unfolding IsBounded
room_of_next n heaviest total nodes v f sized queued =
    let less : (unsettled (set nodes v (Settled f)) + 1) * heaviest ≡ unsettled nodes * heaviest = ap (λ k. k * heaviest) (unsettled-settled nodes v f queued) in
    omega (arith, sized.bounded v f (inl queued))

-- a queued node is a node
pub node_of_queued : (n heaviest total : ℕ) (nodes : List Reach) (v : ℕ) (f : Found) → IsSized n heaviest total nodes → get_or nodes v Unreached ≡ Queued f → (1 ≤ v) × (v ≤ n)
node_of_queued n heaviest total nodes v f sized queued =
    let inside = queued_inside nodes v f queued in
    let not_zero : 1 ≤ v = elim (cases_lt 0 v) [
      | inl above ↦ above
      | inr none ↦
          let is_zero : v ≡ 0 = omega arith in
          let none_there : get_or nodes v Unreached ≡ Unreached = ap (λ k. get_or nodes k Unreached) is_zero ∙ sized.no_node in
          absurd cc
    ] in
    (not_zero, omega (arith, sized.size))

-- a round: the next node is settled, and the arcs of its row are gone along
pub IsSized-round : (n : ℕ) (edges : List Edge) (at : List ℕ) (nodes : List Reach) (v : ℕ) (f : Found) (row : List Arc) → IsGraph n edges → IsSized n (greatest_weight edges) ((n + 1) * greatest_weight edges) nodes → get_or nodes v Unreached ≡ Queued f → ((t w : ℕ) → Contains row (record { to = t; w = w }) ↔ Joined edges v t w) → IsSized n (greatest_weight edges) ((n + 1) * greatest_weight edges) (relaxed_all at f row (set nodes v (Settled f))) × (unsettled (relaxed_all at f row (set nodes v (Settled f))) + 1 ≡ unsettled nodes)
IsSized-round n edges at nodes v f row graph sized queued joined =
    let heaviest = greatest_weight edges in
    let total = (n + 1) * greatest_weight edges in
    let node = node_of_queued n (greatest_weight edges) ((n + 1) * greatest_weight edges) nodes v f sized queued in
    let arcs = arcs_of_row n edges v row graph joined in
    let settled : IsSized n (greatest_weight edges) ((n + 1) * greatest_weight edges) (set nodes v (Settled f)) = record {
      size = length-set nodes v (Settled f) ∙ sized.size;
      no_node = get_or-set_other nodes v 0 _ Unreached (λ is. omega (arith, node.0)) ∙ sized.no_node;
      bounded = IsBounded-settled (greatest_weight edges) ((n + 1) * greatest_weight edges) nodes v f queued sized.bounded;
    } in (
      IsSized-relaxed_all n (greatest_weight edges) ((n + 1) * greatest_weight edges) at f row (set nodes v (Settled f)) arcs (room_of_next n (greatest_weight edges) ((n + 1) * greatest_weight edges) nodes v f sized queued) settled,
      ap (λ k. k + 1) (unsettled-relaxed_all n (greatest_weight edges) at f row (set nodes v (Settled f)) arcs settled.size) ∙ unsettled-settled nodes v f queued,
    )
