-- An audit of an index file that was built.
use Rattle.std.proofs.Common.{◌≡◌, ◌≤◌, ◌∙◌, ℕ, List, length, ap, subst}
use Rattle.std.specs.Prelude.{Some, Result, Ok}
use Rattle.std.specs.FinMap as finite_map
use Rattle.desk_io.specs.Contents.{Files}
use Rattle.desk_io.specs.Reading.{input_limit}
use Rattle.index_audit.specs.declared.answer.Audit.{Audit as AnyAudit}
use Rattle.index_audit.specs.declared.answer.Audit.TheVariants.{Same}
use Rattle.index_file.specs.declared.stored_index.StoredIndex.{StoredIndex}
use Rattle.walk_laws.specs.Graph.{WeightedGraph}
use Rattle.chl_inputs.specs.Inputs.{value_at, value_of, graph_input, order_input, index_input}
use Rattle.chl_inputs.specs.Stages.{After}
use Rattle.chl_inputs.specs.declared.stop.Stop.{Stop}
use Rattle.chl_words.specs.declared.asked.Construction.{Construction}
use Rattle.chl_words.specs.declared.asked.Asked.TheVariants.{Build, Audit}
use Rattle.chl_words.specs.declared.asked.Version.{Version}
use Rattle.chl_answers.specs.Commands.{Decides, IsStoredAuditOf, audit_text}
use Rattle.chl_answers.proofs.BuiltFiles.{built_of, read_of}
use Rattle.chl_answers.proofs.StoredIndexes.{stored_audit_unique}

-- it finds that the index is the same
pub audits_same : (graph order out index : List ℕ) (version : Version) (construction : Construction) (files others : Files) (bytes : List ℕ) (answer : Result (List ℕ) Stop) → Decides (Build graph order out version construction) files (Ok bytes) → finite_map.get others index ≡ Some bytes → length bytes ≤ input_limit → finite_map.get others graph ≡ finite_map.get files graph → finite_map.get others order ≡ finite_map.get files order → Decides (Audit graph order index) others answer → answer ≡ audit_text Same
audits_same graph order out index version construction files others bytes answer built held short same_graph same_order asks =
    let b = built_of graph order out version construction files bytes built in
    let read = read_of version graph order index files others bytes b held short in
    let of_graph : After (value_at (order_input b.g.n order) others) answer (λ at. After (value_at (index_input index) others) answer (λ stored. Finds b.g at stored)) =
    subst (λ r. After r answer (λ (g : WeightedGraph). After (value_at (order_input g.n order) others) answer (λ at. After (value_at (index_input index) others) answer (λ stored. Finds g at stored)))) (ap (value_of (graph_input graph)) same_graph ∙ b.graph_is) asks in
    let of_order : After (value_at (index_input index) others) answer (λ stored. Finds b.g b.at stored) =
    subst (λ r. After r answer (λ at. After (value_at (index_input index) others) answer (λ stored. Finds b.g at stored))) (ap (value_of (order_input b.g.n order)) same_order ∙ b.order_is) of_graph in
    let finds : Finds b.g b.at read.stored = subst (λ r. After r answer (λ stored. Finds b.g b.at stored)) read.is of_order in
    finds.2 ∙ ap audit_text (stored_audit_unique b.g b.at b.size read.stored finds.0 Same finds.1 read.same)
  where
    Finds : WeightedGraph → List ℕ → StoredIndex → Type 0
    Finds g at stored = (found : AnyAudit) × IsStoredAuditOf g at stored found × (answer ≡ audit_text found)
