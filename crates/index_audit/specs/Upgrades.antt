-- What an upgrade makes of an index without vias.
use Rattle.std.specs.Prelude.{◌≡◌, ◌≢◌}
use Rattle.walk_laws.specs.Graph.{WeightedGraph}
use Rattle.walk_laws.specs.Joined.{Joined}
use Rattle.hub_index.specs.HubIndex.{HubIndex}
use Rattle.entry_vias.specs.RowVias.{AreVias}
use Rattle.index_audit.specs.declared.answer.Audit.TheVariants.{Same}
use Rattle.index_audit.specs.declared.upgraded.Upgrade.{Upgrade}
use Rattle.index_audit.specs.declared.upgraded.Upgrade.TheVariants.{Not, Made}
use Rattle.index_audit.specs.Audited.{IsAuditOf}

-- the fault that the audit finds under the index's own ranking; or where it finds none, the same index with the vias that its rows tell
abbrev pub IsUpgradeOf : WeightedGraph → HubIndex → Upgrade → Type 0
IsUpgradeOf graph index (Not fault) = (fault ≢ Same) × IsAuditOf graph index.order index fault
IsUpgradeOf graph index (Made traced) = IsAuditOf graph index.order index Same × (traced.order ≡ index.order) × (traced.rows ≡ index.rows) × AreVias (Joined graph.edges) index.rows traced.vias
