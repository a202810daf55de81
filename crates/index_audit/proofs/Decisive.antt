-- The checks decide whether an index is the canonical hub labelling, and whether it has its vias.
use Rattle.std.specs.List.{AllZip}
use Rattle.std.proofs.Common.{◌≡◌, ◌↔◌, ℕ, zero, suc, ◌+◌, ◌≤◌, List, [], ◌∷◌, Option, Some, None, All, Contains, length, slice_get, refl, sym, ap, subst, ◌∙◌, arith}
use Rattle.std.proofs.lemmas.Option.{same_Some, slice_get-get_or}
use Rattle.walk_laws.specs.declared.entry.Entry.{Entry}
use Rattle.walk_laws.specs.Graph.{WeightedGraph, IsGraph, IsEdge}
use Rattle.walk_laws.specs.Joined.{Joined}
use Rattle.walk_laws.specs.Labelling.{IsChl, label_row}
use Rattle.hub_index.specs.HubIndex.{HubIndex}
use Rattle.hub_index.specs.WellFormed.{IsWellFormed}
use Rattle.entry_vias.specs.RowVias.{IsRowVia, AreVias, HaveVias, TracedHubIndex, via_row}
use Rattle.index_audit.specs.declared.answer.Audit.{Audit}
use Rattle.index_audit.specs.declared.answer.Audit.TheVariants.{Same}
use Rattle.index_audit.specs.Checks.{IsSoundEntry}
use Rattle.index_audit.specs.Audited.{AreSoundBefore, IsOfOrder, IsAuditOf, IsAuditWith}
use Rattle.index_audit.specs.TracedAudits.{index_in, IsTracedAuditOf}
use Rattle.index_audit.proofs.OneEntry.{one_via}
use Rattle.index_audit.proofs.Searched.{nothing, at_place}
use Rattle.index_audit.proofs.Sound.{sound_is_chl}
use Rattle.index_audit.proofs.Labelled.{chl_is_sound}
use Rattle.index_audit.proofs.Decided.{Contains-at, via_judged}
use Rattle.index_audit.proofs.Faults.{audit_unique, traced_audit_unique}

-- where what stands at a place of one list goes with what stands there of the other, the lists do
AllZip-from_places : {X Y : Type 0} (R : X → Y → Type 0) (xs : List X) (ys : List Y) → length ys ≡ length xs → ((k : ℕ) (x : X) (y : Y) → slice_get xs k ≡ Some x → slice_get ys k ≡ Some y → R x y) → AllZip R xs ys
AllZip-from_places R [] [] size each = tt
AllZip-from_places R [] (y ∷ ys) size each = absurd (omega (arith, size))
AllZip-from_places R (x ∷ xs) [] size each = absurd (omega (arith, size))
AllZip-from_places R (x ∷ xs) (y ∷ ys) size each = (each 0 x y refl refl, AllZip-from_places R xs ys (omega (arith, size)) (λ k z t here there. each (suc k) z t here there))

-- and the other way round
AllZip-at : {X Y : Type 0} (R : X → Y → Type 0) (xs : List X) (ys : List Y) (k : ℕ) (x : X) → AllZip R xs ys → slice_get xs k ≡ Some x → (y : Y) × (slice_get ys k ≡ Some y) × R x y
AllZip-at R [] ys k x all is = absurd cc
AllZip-at R (w ∷ xs) [] k x all is = absurd all
AllZip-at R (w ∷ xs) (y ∷ ys) zero x all is = let same : w ≡ x = cc in (y, refl, subst (λ z. R z y) same all.0)
AllZip-at R (w ∷ xs) (y ∷ ys) (suc k) x all is = AllZip-at R xs ys k x all.1 is

module _ (J : ℕ → ℕ → ℕ → Type 0) (at : List ℕ) (rows : List (List Entry)) where
  abbrev EachIsSound : Type 0
  EachIsSound = (v : ℕ) (e : Entry) → 1 ≤ v → v ≤ length at → Contains (label_row rows v) e → IsSoundEntry J at rows v e

  -- each entry of a row in which nothing is wrong passes the checks
  each_is_sound : (vias : Option (List (List ℕ))) → AreSoundBefore J at rows vias (length at + 1) → (v : ℕ) (e : Entry) → 1 ≤ v → v ≤ length at → Contains (label_row rows v) e → IsSoundEntry J at rows v e
  each_is_sound vias sound v e from_one up_to_n there =
      (sound v from_one (omega (arith, up_to_n)) there.0 e (slice_get-get_or (label_row rows v) there.0 nothing there.1 ∙ ap Some (at_place (label_row rows v) e there))).sound

  -- and where each does, nothing is wrong without vias
  sound_without : EachIsSound → AreSoundBefore J at rows None (length at + 1)
  sound_without each v from_one below k e there = record { sound = each v e from_one (omega (arith, below)) (Contains-at (label_row rows v) k e there); via = λ y is. tt }

  module _ (vias : List (List ℕ)) (size : length rows ≡ length at) where
    -- nor with the vias that the rows tell
    sound_with : EachIsSound → AreVias J rows vias → AreSoundBefore J at rows (Some vias) (length at + 1)
    sound_with each are v from_one below k e there = record {
      sound = each v e from_one (omega (arith, below)) (Contains-at (label_row rows v) k e there);
      via = λ y is.
          let beside = AllZip-at (IsRowVia J rows v) (label_row rows v) (via_row vias v) k e (are.row v from_one (omega (arith, below, size))) there in
          beside.1 ∙ ap Some (one_via J rows v e beside.0 y beside.2 is);
    }

    -- and with no others
    vias_with : HaveVias rows vias → ((v : ℕ) (e : Entry) → (y : ℕ) × IsRowVia J rows v e y) → AreSoundBefore J at rows (Some vias) (length at + 1) → AreVias J rows vias
    vias_with have told sound = record {
      size = have.size;
      row = λ v from_one up_to_n. AllZip-from_places (IsRowVia J rows v) (label_row rows v) (via_row vias v) (have.row v from_one up_to_n).size (λ k e y here beside.
          let via = told v e in
          let goes : slice_get (via_row vias v) k ≡ Some via.0 = (sound v from_one (omega (arith, up_to_n, size)) k e here).via via.0 via.1 in
          subst (IsRowVia J rows v e) (same_Some via.0 y (sym goes ∙ beside)) via.1);
    }

module _ (graph : WeightedGraph) (at : List ℕ) (is : IsGraph graph.n graph.edges) (size : length at ≡ graph.n) where
  edge : All (IsEdge (length at)) graph.edges
  edge = subst (λ n. All (IsEdge n) graph.edges) (sym size) is.edge

  of_order : (index : HubIndex) → index.order ≡ at → IsOfOrder graph at index
  of_order index same = record { size = subst (λ o. length o ≡ graph.n) (sym same) size; order = same }

  well_under : (index : HubIndex) → IsWellFormed index.order index.rows → index.order ≡ at → IsWellFormed at index.rows
  well_under index well order = subst (λ o. IsWellFormed o index.rows) order well

  chl_of : (index : HubIndex) (vias : Option (List (List ℕ))) → IsWellFormed index.order index.rows → IsAuditWith graph at index Same vias → IsChl (Joined graph.edges) at index.rows
  chl_of index vias well answer = sound_is_chl graph.edges at edge index.rows (well_under index well answer.0.order) (each_is_sound (Joined graph.edges) at index.rows vias answer.1)

  sound_of : (index : HubIndex) → IsWellFormed index.order index.rows → index.order ≡ at → IsChl (Joined graph.edges) at index.rows → EachIsSound (Joined graph.edges) at index.rows
  sound_of index well order chl = chl_is_sound graph.edges at edge (well_under index well order).ranking index.rows chl

pub checks_decide : (graph : WeightedGraph) (at : List ℕ) (index : HubIndex) → IsGraph graph.n graph.edges → length at ≡ graph.n → IsWellFormed index.order index.rows → IsAuditOf graph at index Same ↔ ((index.order ≡ at) × IsChl (Joined graph.edges) at index.rows)
checks_decide graph at index is size well = (
  λ answer. (answer.0.order, chl_of graph at is size index None well answer),
  λ same. (of_order graph at is size index same.0, sound_without (Joined graph.edges) at index.rows (sound_of graph at is size index well same.0 same.1)),
)

pub traced_checks_decide : (graph : WeightedGraph) (at : List ℕ) (index : TracedHubIndex) → IsGraph graph.n graph.edges → length at ≡ graph.n → IsWellFormed index.order index.rows → HaveVias index.rows index.vias → IsTracedAuditOf graph at index Same ↔ ((index.order ≡ at) × IsChl (Joined graph.edges) at index.rows × AreVias (Joined graph.edges) index.rows index.vias)
traced_checks_decide graph at index is size well have = (
  λ answer. (
    answer.0.order,
    chl_of graph at is size (index_in index) (Some index.vias) well answer,
    vias_with (Joined graph.edges) at index.rows index.vias (rows_size answer.0.order) have (via_judged graph.edges (length at) (edge graph at is size) index.rows) answer.1,
  ),
  λ same. (
    of_order graph at is size (index_in index) same.0,
    sound_with (Joined graph.edges) at index.rows index.vias (rows_size same.0) (sound_of graph at is size (index_in index) well same.0 same.1) same.2,
  ),
)
  where
    rows_size : index.order ≡ at → length index.rows ≡ length at
    rows_size order = (subst (λ o. IsWellFormed o index.rows) order well).size

-- an answer is Same exactly where it has the ranking and is the labelling
pub same_exactly : (graph : WeightedGraph) (at : List ℕ) (index : HubIndex) (answer : Audit) → IsGraph graph.n graph.edges → length at ≡ graph.n → IsWellFormed index.order index.rows → IsAuditOf graph at index answer → (answer ≡ Same) ↔ ((index.order ≡ at) × IsChl (Joined graph.edges) at index.rows)
same_exactly graph at index answer is size well told = (
  λ same. (checks_decide graph at index is size well).0 (subst (IsAuditOf graph at index) same told),
  λ labelled. audit_unique graph at index size answer Same told ((checks_decide graph at index is size well).1 labelled),
)

-- and of an index with vias, where it has its vias, too
pub traced_same_exactly : (graph : WeightedGraph) (at : List ℕ) (index : TracedHubIndex) (answer : Audit) → IsGraph graph.n graph.edges → length at ≡ graph.n → IsWellFormed index.order index.rows → HaveVias index.rows index.vias → IsTracedAuditOf graph at index answer → (answer ≡ Same) ↔ ((index.order ≡ at) × IsChl (Joined graph.edges) at index.rows × AreVias (Joined graph.edges) index.rows index.vias)
traced_same_exactly graph at index answer is size well have told = (
  λ same. (traced_checks_decide graph at index is size well have).0 (subst (IsTracedAuditOf graph at index) same told),
  λ labelled. traced_audit_unique graph at index size answer Same told ((traced_checks_decide graph at index is size well have).1 labelled),
)
