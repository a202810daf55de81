-- A round of the tree: the nearest queued node is settled, and all its arcs are gone along.
use Rattle.std.proofs.Common.{◌≡◌, ◌≢◌, ◌⊎◌, inl, inr, ℕ, suc, ◌<◌, ◌≤◌, List, [], ◌∷◌, All, length, sym, ap, subst, arith}
use Rattle.std.specs.Prelude.{◌↔◌, Contains}
use Rattle.std.proofs.Math.ListN.{set, length-set}
use Rattle.std.proofs.lemmas.Bool.{cases_eq}
use Rattle.walk_laws.specs.declared.graph.Arc.{Arc}
use Rattle.walk_laws.proofs.Members.{Contains-first, Contains-next, Contains-cons_cases, Contains-empty}
use Rattle.plant_tree.specs.Relaxed.{relaxed, relaxed_all}
use Rattle.plant_tree.proofs.TreeTypes.{Found, Reach}
use Rattle.frontier.specs.declared.reach.Reach.TheVariants.{Queued, Settled}
use Rattle.plant_tree.proofs.TreeFacts.{reach_of, From, IsQueued, IsTree, next_is_least, next_is_highest}
use Rattle.plant_tree.proofs.TreeSettle.{but_from, settled_tree, settled_before, root_settled, v_settled}
use Rattle.plant_tree.proofs.TreeRelax.{and_arc, relaxed_tree, stays_settled, was_settled, root_stays}
use Rattle.plant_tree.proofs.TreeSize.{length-relaxed}

-- the arcs K, and those of a row of v
abbrev pub and_row : ℕ → List Arc → (ℕ → ℕ → ℕ → Type 0) → ℕ → ℕ → ℕ → Type 0
and_row v row K y x w = K y x w ⊎ ((y ≡ v) × Contains row (record { to = x; w = w }))

-- over relations that are the same, a tree is the same
module _ (J K L : ℕ → ℕ → ℕ → Type 0) (to : (y x w : ℕ) → K y x w → L y x w) (back : (y x w : ℕ) → L y x w → K y x w) (at : List ℕ) (h : ℕ) (nodes : List Reach) where
  abbrev over : (x : ℕ) → From K nodes x → From L nodes x
  over x t = record { node = t.node; weight = t.weight; found = t.found; settled = t.settled; arc = to t.node x t.weight t.arc }

  abbrev under : (x : ℕ) → From L nodes x → From K nodes x
  under x t = record { node = t.node; weight = t.weight; found = t.found; settled = t.settled; arc = back t.node x t.weight t.arc }

  queued_over : (x : ℕ) (q : Found) → IsQueued K at h nodes x q → IsQueued L at h nodes x q
  queued_over x q was = record {
    shortest = λ t. was.shortest (under x t);
    own = was.own;
    higher = λ t e. was.higher (under x t) e;
    way = elim was.way [ inl root ↦ inl root | inr s ↦ inr (over x s.0, s.1) ];
    carries = elim was.carries [ inl own ↦ inl own | inr s ↦ inr (over x s.0, s.1, s.2) ];
  }

  tree_over : IsTree J K at h nodes → IsTree J L at h nodes
  tree_over tree = record {
    least = tree.least;
    highest = tree.highest;
    queued = λ x q is. queued_over x q (tree.queued x q is);
    unreached = λ x is t. tree.unreached x is (under x t);
    root = tree.root;
    root_first = tree.root_first;
    order = tree.order;
  }

-- all arcs of a row, one after another
row_tree : (J K : ℕ → ℕ → ℕ → Type 0) (at : List ℕ) (h v : ℕ) (f : Found) (row : List Arc) (nodes : List Reach) → IsTree J K at h nodes → reach_of nodes v ≡ Settled f → ((y : ℕ) (g : Found) → reach_of nodes y ≡ Settled g → g.dist ≤ f.dist) → ((g : Found) → reach_of nodes h ≢ Queued g) → All (λ a. a.to < length nodes) row → IsTree J (and_row v row K) at h (relaxed_all at f row nodes)
row_tree J K at h v f [] nodes tree settled last root_done inside =
    tree_over J K (and_row v [] K) (λ y x w k. inl k) (λ y x w k. elim k [ inl was ↦ was | inr nowhere ↦ absurd (Contains-empty _ nowhere.1) ]) at h nodes tree
row_tree J K at h v f (a ∷ row) nodes tree settled last root_done inside =
    let first : a.to < length nodes = inside 0 a (omega arith) in
    let one = relaxed_tree J K at h nodes tree v f settled last root_done a first in
    let rest = row_tree J (and_arc v a K) at h v f row (relaxed at f a nodes) one
    (stays_settled J K at h nodes tree v f settled last root_done a first v f settled)
    (λ y g is. last y g (was_settled J K at h nodes tree v f settled last root_done a first y g is))
    (root_stays J K at h nodes tree v f settled last root_done a first)
    (λ k d lt. rw length-relaxed (inside (suc k) d (omega arith))) in
    tree_over J (and_row v row (and_arc v a K)) (and_row v (a ∷ row) K)
    (λ y x w k. elim k [
      | inl early ↦ elim early [
        | inl was ↦ inl was
        | inr this ↦ inr (this.0, subst (λ (b : Arc). Contains (a ∷ row) b) (λ i. record { to = sym this.1 i; w = sym this.2 i }) (Contains-first a row))
      ]
      | inr later ↦ inr (later.0, Contains-next a _ row later.1)
    ])
    (λ y x w k. elim k [
      | inl was ↦ inl (inl was)
      | inr one_of ↦ elim (Contains-cons_cases a (record { to = x; w = w }) row one_of.1) [
        | inl here ↦ inl (inr (one_of.0, ap (λ (b : Arc). b.to) (sym here), ap (λ (b : Arc). b.w) (sym here)))
        | inr later ↦ inr (one_of.0, later)
      ]
    ])
    at h (relaxed_all at f row (relaxed at f a nodes)) rest

-- the whole round
pub round_tree : (J : ℕ → ℕ → ℕ → Type 0) (positive : (x y w : ℕ) → J x y w → 1 ≤ w) (at : List ℕ) (h v : ℕ) (f : Found) (row : List Arc) (nodes : List Reach) → IsTree J J at h nodes → reach_of nodes v ≡ Queued f → ((x : ℕ) (g : Found) → reach_of nodes x ≡ Queued g → f.dist ≤ g.dist) → ((t w : ℕ) → Contains row (record { to = t; w = w }) ↔ J v t w) → All (λ a. a.to < length nodes) row → IsTree J J at h (relaxed_all at f row (set nodes v (Settled f)))
round_tree J positive at h v f row nodes tree queued nearest arcs inside =
    let least = next_is_least J at h nodes tree v f queued nearest in
    let highest = next_is_highest J at h nodes tree v f queued nearest positive in
    let all = row_tree J (but_from v J) at h v f row (set nodes v (Settled f))
    (settled_tree J at h nodes tree v f queued nearest least highest)
    (v_settled J at h nodes tree v f queued nearest least highest)
    (settled_before J at h nodes tree v f queued nearest least highest)
    (root_settled J at h nodes tree v f queued nearest least highest)
    (λ k d lt. rw length-set (inside k d lt)) in
    tree_over J (and_row v row (but_from v J)) J
    (λ y x w k. elim k [
      | inl other ↦ other.0
      | inr of_v ↦ subst (λ z. J z x w) (sym of_v.0) ((arcs x w).0 of_v.1)
    ])
    (λ y x w j. elim (cases_eq y v) [
      | inl here ↦ inr (here, (arcs x w).1 (subst (λ z. J z x w) here j))
      | inr other ↦ inl (j, other)
    ])
    at h (relaxed_all at f row (set nodes v (Settled f))) all
