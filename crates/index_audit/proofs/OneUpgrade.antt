-- Each index has one upgrade.
use Rattle.std.proofs.Common.{◌≡◌, ℕ, List, length, refl, sym, ap, ◌∙◌}
use Rattle.walk_laws.specs.declared.entry.Entry.{Entry}
use Rattle.walk_laws.specs.Graph.{WeightedGraph, IsGraph}
use Rattle.walk_laws.specs.Joined.{Joined}
use Rattle.hub_index.specs.HubIndex.{HubIndex}
use Rattle.hub_index.specs.WellFormed.{IsWellFormed}
use Rattle.entry_vias.specs.RowVias.{TracedHubIndex}
use Rattle.entry_vias.proofs.Existing.{AreVias-exist}
use Rattle.entry_vias.proofs.OneList.{AreVias-one}
use Rattle.index_audit.specs.declared.answer.Audit.{Audit}
use Rattle.index_audit.specs.declared.answer.Audit.TheVariants.{Same, Sizes, OrderDiffers, NoWalk, NotCovered, Redundant, WrongVia}
use Rattle.index_audit.specs.declared.upgraded.Upgrade.{Upgrade}
use Rattle.index_audit.specs.declared.upgraded.Upgrade.TheVariants.{Not, Made}
use Rattle.index_audit.specs.Audited.{IsAuditOf}
use Rattle.index_audit.specs.Upgrades.{IsUpgradeOf}
use Rattle.index_audit.proofs.Decided.{audit_exists}
use Rattle.index_audit.proofs.Faults.{audit_unique}

module _ (graph : WeightedGraph) (index : HubIndex) where
  -- what an audit under the index's own ranking found is what the upgrade comes to
  upgrade_of : (found : Audit) → IsAuditOf graph index.order index found → (answer : Upgrade) × IsUpgradeOf graph index answer
  upgrade_of Same told =
      let vias = AreVias-exist graph.edges index.rows in
      (Made (record { order = index.order; rows = index.rows; vias = vias.0 }), (told, refl, refl, vias.1))
  upgrade_of (Sizes nodes rows) told = (Not (Sizes nodes rows), (λ is. absurd cc, told))
  upgrade_of (OrderDiffers place) told = (Not (OrderDiffers place), (λ is. absurd cc, told))
  upgrade_of (NoWalk v hub) told = (Not (NoWalk v hub), (λ is. absurd cc, told))
  upgrade_of (NotCovered v to hub) told = (Not (NotCovered v to hub), (λ is. absurd cc, told))
  upgrade_of (Redundant v hub by) told = (Not (Redundant v hub by), (λ is. absurd cc, told))
  upgrade_of (WrongVia v hub want) told = absurd told

  pub upgrade_exists : IsGraph graph.n graph.edges → length index.order ≡ graph.n → IsWellFormed index.order index.rows → (answer : Upgrade) × IsUpgradeOf graph index answer
  upgrade_exists is size well = let found = audit_exists graph index.order index is size well in upgrade_of found.0 found.1

same_traced : (a b : TracedHubIndex) → a.order ≡ b.order → a.rows ≡ b.rows → a.vias ≡ b.vias → a ≡ b
same_traced a b order rows vias =
    ap (λ (o : List ℕ). let t : TracedHubIndex = record { order = o; rows = a.rows; vias = a.vias } in t) order
    ∙ ap (λ (r : List (List Entry)). let t : TracedHubIndex = record { order = b.order; rows = r; vias = a.vias } in t) rows
    ∙ ap (λ (s : List (List ℕ)). let t : TracedHubIndex = record { order = b.order; rows = b.rows; vias = s } in t) vias

module _ (graph : WeightedGraph) (index : HubIndex) (size : length index.order ≡ graph.n) where
  one_audit : (answer other : Audit) → IsAuditOf graph index.order index answer → IsAuditOf graph index.order index other → answer ≡ other
  one_audit = audit_unique graph index.order index size

  pub upgrade_unique : (answer other : Upgrade) → IsUpgradeOf graph index answer → IsUpgradeOf graph index other → answer ≡ other
  upgrade_unique (Not fault) (Not other) f g = ap Not (one_audit fault other f.1 g.1)
  upgrade_unique (Not fault) (Made traced) f g = absurd (f.0 (one_audit fault Same f.1 g.0))
  upgrade_unique (Made traced) (Not fault) f g = absurd (g.0 (one_audit fault Same g.1 f.0))
  upgrade_unique (Made traced) (Made other) f g =
      ap Made (same_traced traced other (f.1 ∙ sym g.1) (f.2 ∙ sym g.2) (AreVias-one (Joined graph.edges) index.rows traced.vias other.vias f.3 g.3))
