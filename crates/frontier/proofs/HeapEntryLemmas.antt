-- What a frontier keeps of its nodes stays true through its steps.
use Rattle.std.proofs.Common.{◌≡◌, ◌≢◌, ◌⊎◌, ℕ, ◌<◌, ◌≤◌, inl, inr, List, [], ◌∷◌, ◌++◌, All, Contains, length, get_or, replicate, get_or-set_other, get_or-set_same, refl, sym, ap, subst, ◌∙◌, arith}
use Rattle.std.proofs.Math.ListN.{set, length-set, get_or-eq_default}
use Rattle.std.proofs.lemmas.Bool.{cases_eq, cases_lt}
use Rattle.std.proofs.lemmas.List.{ext_get_or, get_or-replicate, length-replicate}
use Rattle.std.proofs.lemmas.List.Elements.{All-contains, All-push, All-weaker, Contains-append_left, Contains-append_right}
use Rattle.frontier.specs.declared.reach.Found.{Found}
use Rattle.frontier.specs.declared.reach.Reach.{Reach}
use Rattle.frontier.specs.declared.reach.Reach.TheVariants.{Unreached, Queued, Settled}
use Rattle.frontier.specs.declared.heap_entry.HeapEntry.{HeapEntry}
use Rattle.frontier.specs.Reaches.{reach_at, settled}
use Rattle.frontier.specs.Touched.{touched_with}
use Rattle.frontier.specs.HeapEntryOf.{heap_entry_of}
use Rattle.frontier.specs.HeapEntryLists.{Gains, Loses}
use Rattle.frontier.specs.HeapEntries.{HasHeapEntries}

pub first_of : {X : Type 0} (x : X) (xs : List X) → Contains (x ∷ xs) x
first_of x xs = (0, omega arith, refl)

module _ {C : Type 0} where
  -- a frontier that has reached nothing
  pub HasHeapEntries-start : (reaches : List (Reach C)) (heap_entries : List HeapEntry) (touched : List ℕ) → ((x : ℕ) → reach_at reaches x ≡ Unreached) → heap_entries ≡ [] → touched ≡ [] → HasHeapEntries reaches heap_entries touched
  HasHeapEntries-start reaches heap_entries touched none no_heap_entry untouched = record {
    heap_entry = λ x g is. let both : Unreached ≡ Queued g = sym (none x) ∙ is in absurd cc;
    of_nodes = rw no_heap_entry (λ k d lt. absurd (omega arith));
    reached = λ x is. absurd (is (none x));
    nodes = rw untouched (λ k d lt. absurd (omega arith));
  }

  abbrev pub none : Reach C
  none = Unreached

  pub nothing_reached : (n x : ℕ) → reach_at (replicate n none) x ≡ Unreached
  nothing_reached n x = elim (cases_lt x n) [
    | inl inside ↦ get_or-replicate n x none none inside
    | inr outside ↦ get_or-eq_default (replicate n none) none (rw length-replicate outside)
  ]

  -- one more node is touched
  pub HasHeapEntries-touched : (reaches : List (Reach C)) (heap_entries : List HeapEntry) (touched now : List ℕ) (node : ℕ) → HasHeapEntries reaches heap_entries touched → node < length reaches → now ≡ touched ++ node ∷ [] → HasHeapEntries reaches heap_entries now
  HasHeapEntries-touched reaches heap_entries touched now node has inside more = record {
    heap_entry = has.heap_entry;
    of_nodes = has.of_nodes;
    reached = λ x is. rw more (Contains-append_left touched (node ∷ []) x (has.reached x is));
    nodes = rw more (All-push (λ x. x < length reaches) touched node has.nodes inside);
  }

  -- an offer to a node touches it
  pub HasHeapEntries-touched_with : (reaches : List (Reach C)) (heap_entries : List HeapEntry) (touched now : List ℕ) (node : ℕ) (reach : Reach C) → HasHeapEntries reaches heap_entries touched → node < length reaches → now ≡ touched_with touched node reach → HasHeapEntries reaches heap_entries now
  HasHeapEntries-touched_with reaches heap_entries touched now node Unreached has inside more = HasHeapEntries-touched reaches heap_entries touched now node has inside more
  HasHeapEntries-touched_with reaches heap_entries touched now node (Queued f) has inside more = rw more has
  HasHeapEntries-touched_with reaches heap_entries touched now node (Settled f) has inside more = rw more has

  pub touched_then : (reaches : List (Reach C)) (heap_entries : List HeapEntry) (touched now : List ℕ) (node : ℕ) (reach : Reach C) → HasHeapEntries reaches heap_entries touched → reach_at reaches node ≡ reach → now ≡ touched_with touched node reach → Contains now node
  touched_then reaches heap_entries touched now node Unreached has was more = rw more (Contains-append_right touched (node ∷ []) node (first_of node []))
  touched_then reaches heap_entries touched now node (Queued f) has was more = rw more (has.reached node (λ none. let both : Unreached ≡ Queued f = sym none ∙ was in cc))
  touched_then reaches heap_entries touched now node (Settled f) has was more = rw more (has.reached node (λ none. let both : Unreached ≡ Settled f = sym none ∙ was in cc))

  -- a node that was touched is queued, and gets a heap entry
  pub HasHeapEntries-queued : (reaches : List (Reach C)) (heap_entries now : List HeapEntry) (touched : List ℕ) (node : ℕ) (f : Found C) → HasHeapEntries reaches heap_entries touched → node < length reaches → Contains touched node → Gains heap_entries now (heap_entry_of node f.dist) → HasHeapEntries (set reaches node (Queued f)) now touched
  HasHeapEntries-queued reaches heap_entries now touched node f has inside touch more =
      let size : length (set reaches node (Queued f)) ≡ length reaches = length-set reaches node (Queued f) in
      record {
        heap_entry = λ x g is. elim (cases_eq x node) [
          | inl here ↦
              let both : Queued f ≡ Queued g = sym (get_or-set_same reaches node (Queued f) Unreached inside) ∙ ap (λ y. get_or (set reaches node (Queued f)) y Unreached) (sym here) ∙ is in
              let same : f ≡ g = cc in
              subst (λ t. Contains now t) (λ i. heap_entry_of (sym here i) ((ap (λ (k : Found C). k.dist) same) i)) more.there
          | inr other ↦ All-contains (Contains now) heap_entries (heap_entry_of x g.dist) more.still (has.heap_entry x g (sym (get_or-set_other reaches node x (Queued f) Unreached other) ∙ is))
        ];
        of_nodes = rw size (All-weaker (λ t. (t ≡ heap_entry_of node f.dist) ⊎ Contains heap_entries t) (λ t. t.node < length reaches) (λ t one. elim one [
          | inl this ↦ subst (λ x. x < length reaches) (ap (λ (s : HeapEntry). s.node) (sym this)) inside
          | inr old ↦ All-contains (λ s. s.node < length reaches) heap_entries t has.of_nodes old
        ]) now more.only);
        reached = λ x is. elim (cases_eq x node) [
          | inl here ↦ subst (λ y. Contains touched y) (sym here) touch
          | inr other ↦ has.reached x (λ none. is (get_or-set_other reaches node x (Queued f) Unreached other ∙ none))
        ];
        nodes = rw size has.nodes;
      }

  -- a queued node carries something else
  pub HasHeapEntries-combined : (reaches : List (Reach C)) (heap_entries : List HeapEntry) (touched : List ℕ) (node : ℕ) (f g : Found C) → HasHeapEntries reaches heap_entries touched → node < length reaches → reach_at reaches node ≡ Queued f → f.dist ≡ g.dist → HasHeapEntries (set reaches node (Queued g)) heap_entries touched
  HasHeapEntries-combined reaches heap_entries touched node f g has inside queued as_long =
      let size : length (set reaches node (Queued g)) ≡ length reaches = length-set reaches node (Queued g) in
      record {
        heap_entry = λ x k is. elim (cases_eq x node) [
          | inl here ↦
              let both : Queued g ≡ Queued k = sym (get_or-set_same reaches node (Queued g) Unreached inside) ∙ ap (λ y. get_or (set reaches node (Queued g)) y Unreached) (sym here) ∙ is in
              let same : g ≡ k = cc in
              subst (λ t. Contains heap_entries t) (λ i. heap_entry_of (sym here i) ((as_long ∙ ap (λ (z : Found C). z.dist) same) i)) (has.heap_entry node f queued)
          | inr other ↦ has.heap_entry x k (sym (get_or-set_other reaches node x (Queued g) Unreached other) ∙ is)
        ];
        of_nodes = rw size has.of_nodes;
        reached = λ x is. elim (cases_eq x node) [
          | inl here ↦ has.reached x (λ none. let both : Unreached ≡ Queued f = sym none ∙ ap (reach_at reaches) here ∙ queued in cc)
          | inr other ↦ has.reached x (λ none. is (get_or-set_other reaches node x (Queued g) Unreached other ∙ none))
        ];
        nodes = rw size has.nodes;
      }

  -- a heap entry of the heap is of a node
  pub heap_entry_inside : (reaches : List (Reach C)) (heap_entries now : List HeapEntry) (touched : List ℕ) (t : HeapEntry) → HasHeapEntries reaches heap_entries touched → Loses heap_entries now t → t.node < length reaches
  heap_entry_inside reaches heap_entries now touched t has left =
      All-contains (λ s. s.node < length reaches) heap_entries t has.of_nodes left.others.there

  -- the heap entries that are left are of nodes
  left_inside : (reaches : List (Reach C)) (heap_entries now : List HeapEntry) (touched : List ℕ) (t : HeapEntry) → HasHeapEntries reaches heap_entries touched → Loses heap_entries now t → All (λ s. s.node < length reaches) now
  left_inside reaches heap_entries now touched t has left =
      All-weaker (Contains heap_entries) (λ s. s.node < length reaches) (λ s there. All-contains (λ s. s.node < length reaches) heap_entries s has.of_nodes there) now left.others.still

  -- a heap entry that is none of a queued node at its distance is taken out
  pub HasHeapEntries-stale : (reaches : List (Reach C)) (heap_entries now : List HeapEntry) (touched : List ℕ) (t : HeapEntry) → HasHeapEntries reaches heap_entries touched → Loses heap_entries now t → ((g : Found C) → reach_at reaches t.node ≡ Queued g → g.dist ≢ t.dist.0) → HasHeapEntries reaches now touched
  HasHeapEntries-stale reaches heap_entries now touched t has left stale = record {
    heap_entry = λ x g is. elim (All-contains (λ s. (s ≡ t) ⊎ Contains now s) heap_entries (heap_entry_of x g.dist) left.others.only (has.heap_entry x g is)) [
      | inl this ↦ absurd (stale g (ap (reach_at reaches) (ap (λ (s : HeapEntry). s.node) (sym this)) ∙ is) (ap (λ (s : HeapEntry). s.dist.0) this))
      | inr there ↦ there
    ];
    of_nodes = left_inside reaches heap_entries now touched t has left;
    reached = has.reached;
    nodes = has.nodes;
  }

  -- the heap entry of a node that is queued at its distance is taken out, and the node is settled
  pub HasHeapEntries-settled : (reaches : List (Reach C)) (heap_entries now : List HeapEntry) (touched : List ℕ) (t : HeapEntry) (f : Found C) → HasHeapEntries reaches heap_entries touched → Loses heap_entries now t → reach_at reaches t.node ≡ Queued f → HasHeapEntries (settled reaches t.node f) now touched
  HasHeapEntries-settled reaches heap_entries now touched t f has left queued =
      let size : length (settled reaches t.node f) ≡ length reaches = length-set reaches t.node (Settled f) in
      let inside : t.node < length reaches = heap_entry_inside reaches heap_entries now touched t has left in
      record {
        heap_entry = λ x g is. elim (cases_eq x t.node) [
          | inl here ↦
              let both : Settled f ≡ Queued g = sym (get_or-set_same reaches t.node (Settled f) Unreached inside) ∙ ap (λ y. get_or (settled reaches t.node f) y Unreached) (sym here) ∙ is in
              absurd cc
          | inr other ↦
              let was : reach_at reaches x ≡ Queued g = sym (get_or-set_other reaches t.node x (Settled f) Unreached other) ∙ is in
              elim (All-contains (λ s. (s ≡ t) ⊎ Contains now s) heap_entries (heap_entry_of x g.dist) left.others.only (has.heap_entry x g was)) [
                | inl this ↦ absurd (other (ap (λ (s : HeapEntry). s.node) this))
                | inr there ↦ there
              ]
        ];
        of_nodes = rw size (left_inside reaches heap_entries now touched t has left);
        reached = λ x is. elim (cases_eq x t.node) [
          | inl here ↦ has.reached x (λ none. let both : Unreached ≡ Queued f = sym none ∙ ap (reach_at reaches) here ∙ queued in cc)
          | inr other ↦ has.reached x (λ none. is (get_or-set_other reaches t.node x (Settled f) Unreached other ∙ none))
        ];
        nodes = rw size has.nodes;
      }

  -- no queued node is nearer than the heap entry that is taken out
  pub nearest_heap_entry : (reaches : List (Reach C)) (heap_entries now : List HeapEntry) (touched : List ℕ) (t : HeapEntry) → HasHeapEntries reaches heap_entries touched → Loses heap_entries now t → (x : ℕ) (g : Found C) → reach_at reaches x ≡ Queued g → t.dist.0 ≤ g.dist
  nearest_heap_entry reaches heap_entries now touched t has left x g queued =
      All-contains (λ s. t.dist.0 ≤ s.dist.0) heap_entries (heap_entry_of x g.dist) left.nearest (has.heap_entry x g queued)

  -- where no heap entry is left no node is queued
  pub none_queued : (reaches : List (Reach C)) (heap_entries : List HeapEntry) (touched : List ℕ) → HasHeapEntries reaches heap_entries touched → length heap_entries ≡ 0 → (x : ℕ) (g : Found C) → reach_at reaches x ≢ Queued g
  none_queued reaches heap_entries touched has empty x g queued = omega (arith, (has.heap_entry x g queued).1, empty)

  -- where each reached node is among none, none is reached
  pub all_unreached : (reaches : List (Reach C)) → ((x : ℕ) → reach_at reaches x ≢ Unreached → ⊥) → (x : ℕ) → reach_at reaches x ≡ Unreached
  all_unreached reaches none x = unreached (reach_at reaches x) (none x)
    where
      unreached : (r : Reach C) → (r ≢ Unreached → ⊥) → r ≡ Unreached
      unreached Unreached h = refl
      unreached (Queued f) h = absurd (h (λ is. cc))
      unreached (Settled f) h = absurd (h (λ is. cc))

  pub replicated : (reaches : List (Reach C)) (n : ℕ) → length reaches ≡ n → ((x : ℕ) → reach_at reaches x ≡ Unreached) → reaches ≡ replicate n Unreached
  replicated reaches n size none =
      ext_get_or Unreached reaches (replicate n Unreached) (size ∙ sym (length-replicate n Unreached)) (λ i lt. none i ∙ sym (nothing_reached n i))
