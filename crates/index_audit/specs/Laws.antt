-- The laws of the audit. `laws` has a public function for each.
use Rattle.std.specs.Prelude.{◌≡◌, ◌↔◌, ℕ, List, length}
use Rattle.walk_laws.specs.Graph.{WeightedGraph, IsGraph}
use Rattle.walk_laws.specs.Joined.{Joined}
use Rattle.walk_laws.specs.Labelling.{IsChl}
use Rattle.hub_index.specs.HubIndex.{HubIndex}
use Rattle.hub_index.specs.WellFormed.{IsWellFormed}
use Rattle.entry_vias.specs.RowVias.{AreVias, HaveVias, TracedHubIndex}
use Rattle.index_audit.specs.declared.answer.Audit.{Audit}
use Rattle.index_audit.specs.declared.answer.Audit.TheVariants.{Same}
use Rattle.index_audit.specs.declared.upgraded.Upgrade.{Upgrade}
use Rattle.index_audit.specs.Audited.{IsAuditOf}
use Rattle.index_audit.specs.TracedAudits.{IsTracedAuditOf}
use Rattle.index_audit.specs.Upgrades.{IsUpgradeOf}

-- nothing is wrong with an index exactly where it has that ranking and is the canonical hub labelling under it
abbrev pub TheChecksDecide : Type 0
TheChecksDecide = (graph : WeightedGraph) (at : List ℕ) (index : HubIndex) → IsGraph graph.n graph.edges → length at ≡ graph.n → IsWellFormed index.order index.rows → IsAuditOf graph at index Same ↔ ((index.order ≡ at) × IsChl (Joined graph.edges) at index.rows)

-- each index is answered something
abbrev pub EachIndexHasAnAudit : Type 0
EachIndexHasAnAudit = (graph : WeightedGraph) (at : List ℕ) (index : HubIndex) → IsGraph graph.n graph.edges → length at ≡ graph.n → IsWellFormed index.order index.rows → (answer : Audit) × IsAuditOf graph at index answer

-- and only one thing
abbrev pub TheAuditIsUnique : Type 0
TheAuditIsUnique = (graph : WeightedGraph) (at : List ℕ) (index : HubIndex) (answer other : Audit) → length at ≡ graph.n → IsAuditOf graph at index answer → IsAuditOf graph at index other → answer ≡ other

-- nothing is wrong with an index with vias exactly where it is that labelling, too, and its vias are those that the rows tell
abbrev pub TheTracedChecksDecide : Type 0
TheTracedChecksDecide = (graph : WeightedGraph) (at : List ℕ) (index : TracedHubIndex) → IsGraph graph.n graph.edges → length at ≡ graph.n → IsWellFormed index.order index.rows → HaveVias index.rows index.vias → IsTracedAuditOf graph at index Same ↔ ((index.order ≡ at) × IsChl (Joined graph.edges) at index.rows × AreVias (Joined graph.edges) index.rows index.vias)

-- each index with vias is answered something
abbrev pub EachTracedIndexHasAnAudit : Type 0
EachTracedIndexHasAnAudit = (graph : WeightedGraph) (at : List ℕ) (index : TracedHubIndex) → IsGraph graph.n graph.edges → length at ≡ graph.n → IsWellFormed index.order index.rows → (answer : Audit) × IsTracedAuditOf graph at index answer

-- and only one thing
abbrev pub TheTracedAuditIsUnique : Type 0
TheTracedAuditIsUnique = (graph : WeightedGraph) (at : List ℕ) (index : TracedHubIndex) (answer other : Audit) → length at ≡ graph.n → IsTracedAuditOf graph at index answer → IsTracedAuditOf graph at index other → answer ≡ other

-- each index of as many nodes as the graph has an upgrade
abbrev pub EachIndexHasAnUpgrade : Type 0
EachIndexHasAnUpgrade = (graph : WeightedGraph) (index : HubIndex) → IsGraph graph.n graph.edges → length index.order ≡ graph.n → IsWellFormed index.order index.rows → (answer : Upgrade) × IsUpgradeOf graph index answer

-- and only one
abbrev pub TheUpgradeIsUnique : Type 0
TheUpgradeIsUnique = (graph : WeightedGraph) (index : HubIndex) (answer other : Upgrade) → length index.order ≡ graph.n → IsUpgradeOf graph index answer → IsUpgradeOf graph index other → answer ≡ other
