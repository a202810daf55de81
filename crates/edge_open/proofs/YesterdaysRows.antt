-- The rows of the labelling of a graph, seen in the longer graph: its own arcs are open.
use Rattle.std.proofs.Common.{◌≡◌, ℕ, ◌+◌, ◌≤◌, List, Contains, length, subst, inl, inr, arith}
use Rattle.std.specs.Prelude.{Some, slice_get}
use Rattle.std.proofs.lemmas.Bool.{cases_lt}
use Rattle.std.proofs.lemmas.List.Elements.{All-contains_itself, All-weaker}
use Rattle.walk_laws.specs.declared.entry.Entry.{Entry}
use Rattle.walk_laws.specs.Canonical.{IsCanonical}
use Rattle.walk_laws.specs.Labelling.{EntryFits, IsChl, IsHubEntry, label_row}
use Rattle.walk_laws.specs.Least.{IsLeast}
use Rattle.walk_laws.specs.On.{IsOn}
use Rattle.walk_laws.specs.Ranking.{IsRanking, position_of}
use Rattle.walk_laws.specs.Walk.{HasWalk}
use Rattle.walk_laws.proofs.CanonicalHubs.{IsCanonical-itself, IsCanonical-ranked}
use Rattle.walk_laws.proofs.LeastWalks.{IsLeast-same, IsLeast-unique}
use Rattle.walk_laws.proofs.OnWalks.{IsOn-from_parts, OnParts-from_on}
use Rattle.walk_laws.proofs.Walks.{HasWalk-after, HasWalk-more}
use Rattle.hub_index.specs.Views.{IsNode}
use Rattle.pruned_tree.proofs.TreeRounds.{root_node, root_position}
use Rattle.resumed_tree.specs.Resumed.{AreWalks, Has}
use Rattle.edge_open.specs.OpenArcs.{WentOn}
use Rattle.edge_open.proofs.KeptEntries.{one_node}

module _ (K J : ℕ → ℕ → ℕ → Type 0) (more : (x y w : ℕ) → K x y w → J x y w) (at : List ℕ) where
  -- a hub of the longer graph, to which a walk of the shorter one is as long, was one before
  pub IsCanonical-before : (h v d : ℕ) → HasWalk K h v d → IsCanonical J at h v d → IsCanonical K at h v d
  IsCanonical-before h v d walk hub = record { least = least; highest = λ x on. hub.highest x (on_longer x on) }
    where
      least : IsLeast K h v d
      least = record { walk = walk; none_shorter = λ e other. hub.least.none_shorter e (HasWalk-more K J more h v e other) }

      on_longer : (x : ℕ) → IsOn K h x v → IsOn J h x v
      on_longer x on =
          let p = OnParts-from_on K h x v on in
          let long = IsLeast-unique K h v d (p.before + p.after) least p.whole in
          IsOn-from_parts J h x v p.before p.after (HasWalk-more K J more h x p.before p.first.walk) (HasWalk-more K J more x v p.after p.second.walk) (IsLeast-same J h v d (p.before + p.after) long hub.least)

  module _ (positive : (x y w : ℕ) → K x y w → 1 ≤ w) (ranking : IsRanking at) (nodes : (x y w : ℕ) → K x y w → IsNode (length at) x × IsNode (length at) y) (rows : List (List Entry)) (chl : IsChl K at rows) where
    -- each entry may stand in its row
    fits : (v : ℕ) (e : Entry) → IsHubEntry K at v e → EntryFits J at v e
    fits v e hub = record {
      ranked = elim (cases_lt (position_of at v) e.pos) [
        | inl below ↦ absurd (IsCanonical-ranked K at hub.0 v e.dist hub.2 (omega (arith, below, root_position at hub.0 e.pos ranking hub.1)))
        | inr not_below ↦ not_below
      ];
      walk = (hub.0, hub.1, HasWalk-more K J more hub.0 v e.dist hub.2.least.walk);
    }

    pub AreWalks-chl : AreWalks J at rows
    AreWalks-chl = record {
      size = chl.size;
      fit = λ v from_one up_to_n.
          let row = chl.row v from_one up_to_n in
          All-weaker (Contains (label_row rows v)) (EntryFits J at v) (λ e here. fits v e ((row.each e).0 here)) (label_row rows v) (All-contains_itself (label_row rows v));
      rising = λ v from_one up_to_n. (chl.row v from_one up_to_n).rising;
    }

    pub own_there : (h p : ℕ) → slice_get at p ≡ Some h → Has rows h p 0
    own_there h p root =
        let node = root_node at h p ranking root in
        ((chl.row h node.0 node.1).each (record { pos = p; dist = 0 })).1 (h, root, IsCanonical-itself K at positive h)

    -- each entry went on along each arc of the shorter graph
    pub went_on : (x y w : ℕ) → K x y w → (p d : ℕ) → Has rows x p d → WentOn J at rows x y w p d
    went_on x y w arc p d there h root _ next =
        let ends = nodes x y w arc in
        let hub = ((chl.row x ends.0.from_one ends.0.up_to_n).each (record { pos = p; dist = d })).0 there in
        let walk = subst (λ z. HasWalk K z x d) (one_node at p hub.0 h hub.1 root) hub.2.least.walk in
        ((chl.row y ends.1.from_one ends.1.up_to_n).each (record { pos = p; dist = d + w })).1 (h, root, IsCanonical-before h y (d + w) (HasWalk-after K h x y w d walk arc) next)
