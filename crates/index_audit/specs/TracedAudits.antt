-- What the audit of an index with its vias answers.
use Rattle.std.specs.Prelude.{ℕ, List, Some}
use Rattle.walk_laws.specs.Graph.{WeightedGraph}
use Rattle.hub_index.specs.HubIndex.{HubIndex}
use Rattle.entry_vias.specs.RowVias.{TracedHubIndex}
use Rattle.index_audit.specs.declared.answer.Audit.{Audit}
use Rattle.index_audit.specs.Audited.{IsAuditWith}

-- the index, its vias left out
abbrev pub index_in : TracedHubIndex → HubIndex
index_in traced = record { order = traced.order; rows = traced.rows }

-- what the audit of an index with vias answers, for a graph and a ranking of its nodes
abbrev pub IsTracedAuditOf : WeightedGraph → List ℕ → TracedHubIndex → Audit → Type 0
IsTracedAuditOf graph at index answer = IsAuditWith graph at (index_in index) answer (Some index.vias)
