-- In rows that hold every hub up to a position, exactly the hubs' entries are not needless.
use Rattle.std.proofs.Common.{◌≡◌, ◌↔◌, ℕ, ◌+◌, ◌<◌, ◌≤◌, List, [], All, Contains, length, refl, sym, ap, subst, ◌∙◌, inl, inr, arith}
use Rattle.std.specs.Prelude.{Some, slice_get, Result, Ok, Err, IfOk}
use Rattle.std.proofs.lemmas.List.Elements.{All-contains}
use Rattle.std.proofs.lemmas.Option.{get_or_from_slice_get, slice_get_within, same_Some}
use Rattle.walk_laws.specs.declared.graph.Edge.{Edge}
use Rattle.walk_laws.specs.declared.entry.Entry.{Entry}
use Rattle.walk_laws.specs.Joined.{Joined}
use Rattle.walk_laws.specs.Walk.{HasWalk}
use Rattle.walk_laws.specs.Canonical.{IsCanonical}
use Rattle.walk_laws.specs.Cover.{CoveringHub}
use Rattle.walk_laws.specs.Ranking.{IsRanking, RanksAbove, position_of}
use Rattle.walk_laws.specs.Labelling.{EntryFits, IsHubEntry, label_row}
use Rattle.walk_laws.proofs.Positions.{position-get_or, slice_get-at_position}
use Rattle.walk_laws.proofs.JoinedEdges.{Joined-sym}
use Rattle.walk_laws.proofs.JoinedDecisions.{IsCanonical-or_joined_cover}
use Rattle.walk_laws.proofs.CanonicalHubs.{IsCanonical-no_cover}
use Rattle.label_clean.specs.RawRows.{HasEachOnce, both_rows}
use Rattle.label_clean.specs.Needless.{IsNeedless, IsSurvivingRow}
use Rattle.label_clean.specs.Below.{HoldsBelow, IsRowBelow, IsChlBelow}
use Rattle.label_clean.proofs.Covering.{entry, covered, IsCovered-more}
use Rattle.label_clean.proofs.RowFacts.{same_entry}

module _ (at : List ℕ) (ranking : IsRanking at) where
  pub hub_place : (p h : ℕ) → slice_get at p ≡ Some h → position_of at h ≡ p
  hub_place p h is =
      subst (λ y. position_of at y ≡ p) (get_or_from_slice_get at p h 0 is) (position-get_or at p 0 ranking.once (slice_get_within at p h is))

  pub hub_node : (p h : ℕ) → slice_get at p ≡ Some h → (1 ≤ h) × (h ≤ length at)
  hub_node p h is =
      let node = ranking.node p 0 (slice_get_within at p h is) in
      subst (λ y. (1 ≤ y) × (y ≤ length at)) (get_or_from_slice_get at p h 0 is) node

  -- no two entries that may stand in the rows of a node and of its hub, at a place above the hub, are together as short as the hub's own
  pub hub_uncovered : (edges : List Edge) (h v : ℕ) (e x y : Entry) → slice_get at e.pos ≡ Some h → IsHubEntry (Joined edges) at v e → EntryFits (Joined edges) at h x → EntryFits (Joined edges) at v y → x.pos ≡ y.pos → x.pos < e.pos → x.dist + y.dist ≤ e.dist → ⊥
  hub_uncovered edges h v e x y hub_is hub to_hub to_node shared above short =
      let is_hub : IsCanonical (Joined edges) at h v e.dist = subst (λ u. IsCanonical (Joined edges) at u v e.dist) (same_Some hub.0 h (sym hub.1 ∙ hub_is)) hub.2 in
      let one : to_node.walk.0 ≡ to_hub.walk.0 = same_Some to_node.walk.0 to_hub.walk.0 (sym to_node.walk.1 ∙ ap (slice_get at) (sym shared) ∙ to_hub.walk.1) in
      let on_to_node : HasWalk (Joined edges) to_hub.walk.0 v y.dist = subst (λ u. HasWalk (Joined edges) u v y.dist) one to_node.walk.2 in
      let higher : RanksAbove at to_hub.walk.0 h = omega (arith, hub_place x.pos to_hub.walk.0 to_hub.walk.1, hub_place e.pos h hub_is, above) in
      IsCanonical-no_cover (Joined edges) at (Joined-sym edges) h v to_hub.walk.0 e.dist x.dist y.dist is_hub higher to_hub.walk.2 on_to_node short

  -- rows with more entries make as much needless
  IsNeedless-more : (rows others : List (List Entry)) → ((v : ℕ) → 1 ≤ v → v ≤ length at → (e : Entry) → Contains (label_row rows v) e → Contains (label_row others v) e) → (v : ℕ) → 1 ≤ v → v ≤ length at → (e : Entry) → IsNeedless at rows v e → IsNeedless at others v e
  IsNeedless-more rows others more v from_one up_to_n e n =
      let node = hub_node e.pos n.hub n.hub_is in
      record {
        hub = n.hub;
        hub_is = n.hub_is;
        covered = IsCovered-more (label_row rows n.hub) (label_row rows v) (label_row others n.hub) (label_row others v) e.pos e.dist (more n.hub node.0 node.1) (more v from_one up_to_n) n.covered;
      }

  module _ (edges : List Edge) (c : ℕ) (rows : List (List Entry)) (holds : HoldsBelow edges at c [] rows) (v : ℕ) (from_one : 1 ≤ v) (up_to_n : v ≤ length at) where
    -- no hub's entry is needless
    hub_stays : (e : Entry) → IsHubEntry (Joined edges) at v e → IsNeedless at rows v e → ⊥
    hub_stays e hub n =
        let h = n.hub in
        let q = n.covered.position in
        let a = n.covered.shared.before in
        let b = n.covered.shared.after in
        let node = hub_node e.pos h n.hub_is in
        let to_hub = All-contains (EntryFits (Joined edges) at h) (label_row rows h) (entry q a) (holds.fit h node.0 node.1) n.covered.shared.in_first in
        let to_node = All-contains (EntryFits (Joined edges) at v) (label_row rows v) (entry q b) (holds.fit v from_one up_to_n) n.covered.shared.in_second in
        hub_uncovered edges h v e (entry q a) (entry q b) n.hub_is hub to_hub to_node refl n.covered.above (omega (arith, n.covered.shared.long, n.covered.short))

    cover_stands : (e : Entry) (h : ℕ) → slice_get at e.pos ≡ Some h → e.pos < c → CoveringHub (Joined edges) at h v e.dist → IsNeedless at rows v e
    cover_stands e h is below cover =
        let p = position_of at cover.hub in
        let node = hub_node e.pos h is in
        let above : p < e.pos = omega (arith, cover.above, hub_place e.pos h is) in
        let stands = slice_get-at_position at cover.hub (omega (arith, above, slice_get_within at e.pos h is)) in
        record {
          hub = h;
          hub_is = is;
          covered = covered (label_row rows h) (label_row rows v) e.pos e.dist p cover.before cover.after above
              (holds.hubs h node.0 node.1 (entry p cover.before) (cover.hub, stands, cover.to_start) (omega (arith, above, below)))
              (holds.hubs v from_one up_to_n (entry p cover.after) (cover.hub, stands, cover.to_end) (omega (arith, above, below))) cover.short;
        }

    -- and each other entry is
    others_go : (e : Entry) → Contains (label_row rows v) e → (IsNeedless at rows v e → ⊥) → IsHubEntry (Joined edges) at v e
    others_go e there kept =
        let fits : EntryFits (Joined edges) at v e = All-contains (EntryFits (Joined edges) at v) (label_row rows v) e (holds.fit v from_one up_to_n) there in
        let below : e.pos < c = All-contains (λ (x : Entry). x.pos < c) (label_row rows v) e (holds.below v from_one up_to_n) there in
        let h = fits.walk.0 in
        let node = hub_node e.pos h fits.walk.1 in
        elim (IsCanonical-or_joined_cover edges holds.weights at ranking h v e.dist node.0 node.1 fits.walk.2) [
          | inr cover ↦ absurd (kept (cover_stands e h fits.walk.1 below cover))
          | inl hub ↦
              let stands = holds.hubs v from_one up_to_n (entry e.pos hub.0) (h, fits.walk.1, hub.2) below in
              let same : entry e.pos hub.0 ≡ e = same_entry (label_row rows v) (entry e.pos hub.0) e (holds.once v from_one up_to_n) stands there refl in
              subst (IsHubEntry (Joined edges) at v) same (h, fits.walk.1, hub.2)
        ]

    -- so the entries that are not needless are the hubs
    IsRowBelow-surviving : (row : List Entry) → IsSurvivingRow at rows v row → IsRowBelow edges at c v row
    IsRowBelow-surviving row is = record {
      rising = is.rising;
      each = λ e. (
        λ here. let kept = (is.each e).0 here in (others_go e kept.0 kept.1, All-contains (λ (x : Entry). x.pos < c) (label_row rows v) e (holds.below v from_one up_to_n) kept.0),
        λ hub. (is.each e).1 (holds.hubs v from_one up_to_n e hub.0 hub.1, hub_stays e hub.0),
      );
    }

  -- what is kept of rows that hold every hub up to a position is the labelling up to it
  pub IsChlBelow-surviving : (edges : List Edge) (c : ℕ) (raw rows : List (List Entry)) → length rows ≡ length at → ((v : ℕ) → 1 ≤ v → v ≤ length at → IsSurvivingRow at raw v (label_row rows v)) → HoldsBelow edges at c [] raw → IsChlBelow edges at c rows
  IsChlBelow-surviving edges c raw rows size survive holds = record {
    size = size;
    row = λ v from_one up_to_n. IsRowBelow-surviving edges c raw holds v from_one up_to_n (label_row rows v) (survive v from_one up_to_n);
  }

  -- rows with the same entries lose the same
  module _ (tested raw : List (List Entry)) (same : (v : ℕ) → 1 ≤ v → v ≤ length at → (e : Entry) → Contains (label_row tested v) e ↔ Contains (label_row raw v) e) where
    pub IsSurvivingRow-same : (v : ℕ) (row : List Entry) → 1 ≤ v → v ≤ length at → IsSurvivingRow at tested v row → IsSurvivingRow at raw v row
    IsSurvivingRow-same v row from_one up_to_n is = record {
      rising = is.rising;
      each = λ e. (
        λ here. let known = (is.each e).0 here in ((same v from_one up_to_n e).0 known.0, λ needless. known.1 (IsNeedless-more raw tested (λ x low high f. (same x low high f).1) v from_one up_to_n e needless)),
        λ kept. (is.each e).1 ((same v from_one up_to_n e).1 kept.0, λ needless. kept.1 (IsNeedless-more tested raw (λ x low high f. (same x low high f).0) v from_one up_to_n e needless)),
      );
    }

-- two tables hold what they hold together
pub HoldsBelow-together : (edges : List Edge) (at : List ℕ) (c : ℕ) (global raw all : List (List Entry)) → ((v : ℕ) → 1 ≤ v → v ≤ length at → label_row all v ≡ both_rows global raw v) → HoldsBelow edges at c global raw → HoldsBelow edges at c [] all
HoldsBelow-together edges at c global raw all is holds = record {
  weights = holds.weights;
  fit = λ v from_one up_to_n. subst (All (EntryFits (Joined edges) at v)) (sym (is v from_one up_to_n)) (holds.fit v from_one up_to_n);
  below = λ v from_one up_to_n. subst (All (λ (e : Entry). e.pos < c)) (sym (is v from_one up_to_n)) (holds.below v from_one up_to_n);
  once = λ v from_one up_to_n. subst HasEachOnce (sym (is v from_one up_to_n)) (holds.once v from_one up_to_n);
  hubs = λ v from_one up_to_n e hub low. subst (λ row. Contains row e) (sym (is v from_one up_to_n)) (holds.hubs v from_one up_to_n e hub low);
}

pub both_ok : {T E : Type 0} (r : Result T E) (P Q S : T → Type 0) → IfOk r P → IfOk r Q → ((x : T) → P x → Q x → S x) → IfOk r S
both_ok (Ok x) P Q S p q f = f x p q
both_ok (Err e) P Q S p q f = tt
