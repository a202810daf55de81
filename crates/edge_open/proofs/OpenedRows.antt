-- Where all arcs are open, each canonical entry is there; and the arcs of one edge more.
use Rattle.std.proofs.Common.{◌≡◌, ◌⊎◌, ℕ, ◌+◌, ◌<◌, ◌≤◌, List, [], ◌∷◌, ◌++◌, Contains, length, subst, inl, inr, arith}
use Rattle.std.specs.Prelude.{Some, slice_get}
use Rattle.std.proofs.lemmas.List.Elements.{All-weaker, Contains-append_left, Contains-append_cases, Contains-push_cases}
use Rattle.walk_laws.specs.declared.graph.Edge.{Edge}
use Rattle.walk_laws.specs.declared.entry.Entry.{Entry}
use Rattle.walk_laws.specs.Canonical.{IsCanonical}
use Rattle.walk_laws.specs.Graph.{IsGraph}
use Rattle.walk_laws.specs.Joined.{Joined}
use Rattle.walk_laws.specs.Labelling.{EntryFits, IsHubEntry, label_row}
use Rattle.walk_laws.specs.Ranking.{IsRanking}
use Rattle.walk_laws.specs.Walk.{HasWalk}
use Rattle.walk_laws.proofs.CanonicalHubs.{IsCanonical-inherited, IsCanonical-unique}
use Rattle.walk_laws.proofs.JoinedEdges.{weights_of_edges}
use Rattle.walk_laws.proofs.LeastWalks.{IsLeast-prefix}
use Rattle.walk_laws.proofs.Members.{Contains-cons_cases, Contains-empty}
use Rattle.walk_laws.proofs.OnWalks.{IsOn-from_parts}
use Rattle.walk_laws.proofs.Positions.{position-lt}
use Rattle.walk_laws.proofs.Walks.{HasWalk-arc, HasWalk-induction}
use Rattle.label_clean.specs.Below.{HoldsBelow}
use Rattle.label_clean.proofs.KeptRows.{once_from_rising}
use Rattle.resumed_tree.specs.declared.resuming.Start.{Start}
use Rattle.resumed_tree.specs.Resumed.{Has}
use Rattle.edge_open.specs.OpenArcs.{GoesOn, IsOpenBut, AreOpenBut}

-- an arc that is open leads a canonical entry on
led_on : (J : ℕ → ℕ → ℕ → Type 0) (at : List ℕ) (rows : List (List Entry)) (x y w h p d : ℕ) → IsOpenBut [] J at rows x y w → slice_get at p ≡ Some h → IsCanonical J at h x d → IsCanonical J at h y (d + w) → Has rows x p d → Has rows y p (d + w)
led_on J at rows x y w h p d was_open root hub next there = elim (was_open p d there) [
  | inl none ↦ absurd (Contains-empty (record { hub = p; node = y; dist = d + w }) none)
  | inr on ↦ on h root hub next
]

-- where all arcs are open, each canonical entry is there: along a shortest walk from its hub each node has the hub's entry
module _ (J : ℕ → ℕ → ℕ → Type 0) (at : List ℕ) (rows : List (List Entry)) (are : AreOpenBut [] J J at rows) where
  next_there : (h p : ℕ) → slice_get at p ≡ Some h → (y x w d : ℕ) → HasWalk J h y d → (IsCanonical J at h y d → Has rows y p d) → J y x w → IsCanonical J at h x (d + w) → Has rows x p (d + w)
  next_there h p root y x w d walk so_far arc next =
      let last = HasWalk-arc J y x w arc in
      let on = IsOn-from_parts J h y x d w walk last next.least in
      let here = IsCanonical-inherited J at h y x d (d + w) next on (IsLeast-prefix J h y x d w walk last next.least) in
      led_on J at rows y x w h p d (are.arcs y x w arc) root here next (so_far here)

  pub all_there : (v : ℕ) (e : Entry) → IsHubEntry J at v e → Contains (label_row rows v) e
  all_there v e hub = HasWalk-induction J (λ x d. IsCanonical J at hub.0 x d → Has rows x e.pos d) hub.0 (λ _. are.own hub.0 e.pos hub.1) (next_there hub.0 e.pos hub.1) v e.dist hub.2.least.walk hub.2

-- rows in which all arcs of a graph are open may be cleaned
pub HoldsBelow-open : (n : ℕ) (edges : List Edge) (at : List ℕ) (rows : List (List Entry)) → IsGraph n edges → IsRanking at → AreOpenBut [] (Joined edges) (Joined edges) at rows → HoldsBelow edges at (length at) [] rows
HoldsBelow-open n edges at rows graph ranking are = record {
  weights = weights_of_edges n edges graph.edge;
  fit = are.walks.fit;
  below = λ v from_one up_to_n.
      All-weaker (EntryFits (Joined edges) at v) (λ (e : Entry). e.pos < length at) (λ e fits. omega (arith, fits.ranked, position-lt at v ranking from_one up_to_n)) (label_row rows v) (are.walks.fit v from_one up_to_n);
  once = λ v from_one up_to_n. once_from_rising (label_row rows v) (are.walks.rising v from_one up_to_n);
  hubs = λ v from_one up_to_n e hub below. all_there (Joined edges) at rows are v e hub;
}

-- no arc leads on from a node to itself
pub IsOpenBut-itself : (left : List Start) (J : ℕ → ℕ → ℕ → Type 0) (at : List ℕ) (rows : List (List Entry)) (x w : ℕ) → 1 ≤ w → IsOpenBut left J at rows x x w
IsOpenBut-itself left J at rows x w some p d there = inr (λ h root hub next. absurd (omega (arith, some, IsCanonical-unique J at h x d (d + w) hub next)))

-- what is open but for some starts is so but for more
pub IsOpenBut-more : (left more : List Start) (J : ℕ → ℕ → ℕ → Type 0) (at : List ℕ) (rows : List (List Entry)) (x y w : ℕ) → ((s : Start) → Contains left s → Contains more s) → IsOpenBut left J at rows x y w → IsOpenBut more J at rows x y w
IsOpenBut-more left more J at rows x y w kept was_open p d there = elim (was_open p d there) [
  | inl waits ↦ inl (kept (record { hub = p; node = y; dist = d + w }) waits)
  | inr on ↦ inr on
]

-- where some entries of a row are to go on, and one more is, too
pub GoesOn-push : (J : ℕ → ℕ → ℕ → Type 0) (at : List ℕ) (rows : List (List Entry)) (x y w : ℕ) (some : List Entry) (e : Entry) (before after : List Start) → ((s : Start) → Contains before s → Contains after s) → ((p d : ℕ) → Contains some (record { pos = p; dist = d }) → GoesOn before J at rows x y w p d) → GoesOn after J at rows x y w e.pos e.dist → (p d : ℕ) → Contains (some ++ e ∷ []) (record { pos = p; dist = d }) → GoesOn after J at rows x y w p d
GoesOn-push J at rows x y w some e before after kept goes last p d there = elim (Contains-push_cases some e (record { pos = p; dist = d }) there) [
  | inl old ↦ elim (goes p d old) [
    | inl waits ↦ inl (kept (record { hub = p; node = y; dist = d + w }) waits)
    | inr on ↦ inr on
  ]
  | inr is ↦ subst (λ (f : Entry). GoesOn after J at rows x y w f.pos f.dist) is last
]

-- a join of some edges is one of more
pub joined_before : (edges others : List Edge) (x y w : ℕ) → Joined edges x y w → Joined (edges ++ others) x y w
joined_before edges others x y w join = elim join [
  | inl one_way ↦ inl (Contains-append_left edges others (record { u = x; v = y; w = w }) one_way)
  | inr other_way ↦ inr (Contains-append_left edges others (record { u = y; v = x; w = w }) other_way)
]

-- a join of two lists of edges is one of the first or one of the second
pub joined_parts : (edges others : List Edge) (x y w : ℕ) → Joined (edges ++ others) x y w → Joined edges x y w ⊎ Joined others x y w
joined_parts edges others x y w join = elim join [
  | inl one_way ↦ elim (Contains-append_cases edges others (record { u = x; v = y; w = w }) one_way) [ inl first ↦ inl (inl first) | inr second ↦ inr (inl second) ]
  | inr other_way ↦ elim (Contains-append_cases edges others (record { u = y; v = x; w = w }) other_way) [ inl first ↦ inl (inr first) | inr second ↦ inr (inr second) ]
]

-- what holds of the joins of an edge, one way and the other, holds of a list that ends with it
pub joined_last : (P : ℕ → ℕ → ℕ → Type 0) (edges : List Edge) (e : Edge) → ((x y w : ℕ) → Joined edges x y w → P x y w) → P e.u e.v e.w → P e.v e.u e.w → (x y w : ℕ) → Joined (edges ++ e ∷ []) x y w → P x y w
joined_last P edges e before there back x y w join = elim (joined_parts edges (e ∷ []) x y w join) [
  | inl old ↦ before x y w old
  | inr new ↦ elim new [
    | inl one_way ↦ elim (Contains-cons_cases e (record { u = x; v = y; w = w }) [] one_way) [
      | inl is ↦ subst (λ (f : Edge). P f.u f.v f.w) is there
      | inr none ↦ absurd (Contains-empty (record { u = x; v = y; w = w }) none)
    ]
    | inr other_way ↦ elim (Contains-cons_cases e (record { u = y; v = x; w = w }) [] other_way) [
      | inl is ↦ subst (λ (f : Edge). P f.v f.u f.w) is back
      | inr none ↦ absurd (Contains-empty (record { u = y; v = x; w = w }) none)
    ]
  ]
]
