-- Index files of either version: their rows are well formed, and they have one audit.
use Rattle.std.proofs.Common.{◌≡◌, ℕ, List, ap₂, length}
use Rattle.entry_vias.specs.RowVias.{AreVias, HaveVias, TracedHubIndex}
use Rattle.hub_index.specs.HubIndex.{HubIndex}
use Rattle.hub_index.specs.WellFormed.{IsWellFormed}
use Rattle.index_audit.specs.declared.answer.Audit.{Audit}
use Rattle.index_audit.specs.declared.answer.Audit.TheVariants.{Same}
use Rattle.index_audit.proofs.Decided.{audit_exists, traced_audit_exists}
use Rattle.index_audit.proofs.Decisive.{checks_decide, traced_checks_decide}
use Rattle.index_audit.proofs.Faults.{audit_unique, traced_audit_unique}
use Rattle.index_file.specs.Stored.{IsStored, without_vias}
use Rattle.index_file.specs.declared.stored_index.StoredIndex.{StoredIndex}
use Rattle.index_file.specs.declared.stored_index.StoredIndex.TheVariants.{Plain, Traced}
use Rattle.walk_laws.specs.Graph.{WeightedGraph, IsGraph}
use Rattle.walk_laws.specs.Joined.{Joined}
use Rattle.walk_laws.specs.Labelling.{IsChl}
use Rattle.chl_answers.specs.Commands.{IsStoredAuditOf}

-- an index is its order and its rows
pub same_index : (i j : HubIndex) → i.order ≡ j.order → i.rows ≡ j.rows → i ≡ j
same_index i j order rows = ap₂ (λ o r. record { order = o; rows = r }) order rows

-- the rows of a sound index are well formed
pub stored_well : (stored : StoredIndex) → IsStored stored → IsWellFormed (without_vias stored).order (without_vias stored).rows
stored_well (Plain i) sound = sound
stored_well (Traced t) sound = sound.0

module _ (g : WeightedGraph) (at : List ℕ) (size : length at ≡ g.n) where
  pub stored_audit_exists : (stored : StoredIndex) → IsGraph g.n g.edges → IsStored stored → (found : Audit) × IsStoredAuditOf g at stored found
  stored_audit_exists (Plain i) graph sound = audit_exists g at i graph size sound
  stored_audit_exists (Traced t) graph sound = traced_audit_exists g at t graph size sound.0

  pub stored_audit_unique : (stored : StoredIndex) (found other : Audit) → IsStoredAuditOf g at stored found → IsStoredAuditOf g at stored other → found ≡ other
  stored_audit_unique (Plain i) found other = audit_unique g at i size found other
  stored_audit_unique (Traced t) found other = traced_audit_unique g at t size found other

-- the labelling is found to be the same, and so is it with its vias
module _ (g : WeightedGraph) (at : List ℕ) (size : length at ≡ g.n) (graph : IsGraph g.n g.edges) where
  pub labelling_same : (i : HubIndex) → IsWellFormed i.order i.rows → i.order ≡ at → IsChl (Joined g.edges) at i.rows → IsStoredAuditOf g at (Plain i) Same
  labelling_same i well order chl = (checks_decide g at i graph size well).1 (order, chl)

  pub traced_same : (t : TracedHubIndex) → IsWellFormed t.order t.rows → HaveVias t.rows t.vias → t.order ≡ at → IsChl (Joined g.edges) at t.rows → AreVias (Joined g.edges) t.rows t.vias → IsStoredAuditOf g at (Traced t) Same
  traced_same t well vias order chl are = (traced_checks_decide g at t graph size well vias).1 (order, chl, are)
