-- Opened edges write what a build of the longer graph writes.
use Rattle.std.proofs.Common.{◌≡◌, ◌≤◌, ◌∙◌, ℕ, Bool, true, false, List, length, ap, refl, subst, sym, eq-eqb}
use Rattle.std.specs.Prelude.{◌==◌, Some, Result, Ok}
use Rattle.std.specs.FinMap as finite_map
use Rattle.desk_io.specs.Contents.{Files}
use Rattle.desk_io.specs.Reading.{input_limit}
use Rattle.hub_index.specs.HubIndex.{HubIndex}
use Rattle.hub_index.proofs.CanonicalRows.{IsWellFormed-canonical}
use Rattle.index_audit.specs.Audited.{IsAuditOf}
use Rattle.index_audit.specs.declared.answer.Audit.{Audit}
use Rattle.index_audit.specs.declared.answer.Audit.TheVariants.{Same}
use Rattle.index_audit.proofs.Decisive.{checks_decide}
use Rattle.index_audit.proofs.Faults.{audit_unique}
use Rattle.index_file.specs.Stored.{without_vias}
use Rattle.index_file.specs.declared.stored_index.StoredIndex.{StoredIndex}
use Rattle.walk_laws.specs.declared.graph.Edge.{Edge}
use Rattle.walk_laws.specs.Graph.{WeightedGraph}
use Rattle.chl_inputs.specs.Inputs.{value_at, value_of, graph_input, order_input, index_input, edits_input}
use Rattle.chl_inputs.specs.Stages.{After, Decided, Stage}
use Rattle.chl_inputs.specs.declared.stop.NotOf.TheVariants.{Sizes}
use Rattle.chl_inputs.specs.declared.stop.Stop.{Stop}
use Rattle.chl_inputs.specs.declared.stop.Stop.TheVariants.{Differs, NotOfGraph}
use Rattle.chl_inputs.proofs.StageLaws.{after_value}
use Rattle.chl_inputs.proofs.StagesInTurn.{no_stop_in, same_value}
use Rattle.chl_words.specs.declared.asked.Construction.{Construction}
use Rattle.chl_words.specs.declared.asked.Asked.TheVariants.{Build, Open}
use Rattle.chl_words.specs.declared.asked.Version.{Version}
use Rattle.chl_answers.specs.Commands.{Decides, file_stage, for_audited, longer, opened_stage, rows_stage, stage_if, unless_wrong}
use Rattle.chl_answers.specs.Laws.{MakeLonger, HasOrderOf}
use Rattle.chl_answers.proofs.BuiltFiles.{built_of, read_of}

-- what is decided once the inputs of `open` have these values
opening_of : (graph index edits out : List ℕ) (version : Version) (files : Files) (g : WeightedGraph) (stored : StoredIndex) (edges : List Edge) (answer : Result (List ℕ) Stop) → value_at (graph_input graph) files ≡ Ok g → value_at (index_input index) files ≡ Ok stored → value_at (edits_input g.n edits) files ≡ Ok edges → Decides (Open graph index edits out version) files answer → Decided (opened_stage version g (without_vias stored) edges) files answer
opening_of graph index edits out version files g stored edges answer graph_is index_is edits_are asks =
    let of_graph : After (value_at (index_input index) files) answer (λ stored. After (value_at (edits_input g.n edits) files) answer (λ edges. Decided (opened_stage version g (without_vias stored) edges) files answer)) =
    subst (λ r. After r answer (λ (g : WeightedGraph). After (value_at (index_input index) files) answer (λ stored. After (value_at (edits_input g.n edits) files) answer (λ edges. Decided (opened_stage version g (without_vias stored) edges) files answer)))) graph_is asks in
    let of_index : After (value_at (edits_input g.n edits) files) answer (λ edges. Decided (opened_stage version g (without_vias stored) edges) files answer) =
    subst (λ r. After r answer (λ stored. After (value_at (edits_input g.n edits) files) answer (λ edges. Decided (opened_stage version g (without_vias stored) edges) files answer))) index_is of_graph in
    subst (λ r. After r answer (λ edges. Decided (opened_stage version g (without_vias stored) edges) files answer)) edits_are of_index

-- a build whose inputs have these values decides what its rows lead to
building_of : (graph order out : List ℕ) (version : Version) (construction : Construction) (files : Files) (g : WeightedGraph) (at : List ℕ) (answer : Result (List ℕ) Stop) → value_at (graph_input graph) files ≡ Ok g → value_at (order_input g.n order) files ≡ Ok at → Decided (rows_stage (file_stage version) g at) files answer → Decides (Build graph order out version construction) files answer
building_of graph order out version construction files g at answer graph_is order_is rows =
    after_value (value_at (graph_input graph) files) g answer _ graph_is (after_value (value_at (order_input g.n order) files) at answer _ order_is rows)

module _ (stage : Stage (List ℕ)) (files : Files) where
  -- where there are bytes, sizes are equal, and nothing is wrong
  sized_bytes : (b : Bool) (stop : Stop) (bytes : List ℕ) → Decided (stage_if b stop stage) files (Ok bytes) → Decided stage files (Ok bytes)
  sized_bytes true stop bytes decided = decided
  sized_bytes false stop bytes decided = absurd (no_stop_in bytes stop decided)

  audited_bytes : (found : Audit) (bytes : List ℕ) → Decided (unless_wrong found stage) files (Ok bytes) → Decided stage files (Ok bytes)
  audited_bytes Same bytes decided = decided
  audited_bytes fault bytes decided = absurd (no_stop_in bytes (Differs fault) decided)

-- `open` writes what `build` writes of the longer graph
pub opens_build : (graph index edits whole order out other : List ℕ) (version : Version) (construction : Construction) (files : Files) (bytes : List ℕ) (more : MakeLonger graph edits whole files) → HasOrderOf more.g.n order index files → Decides (Open graph index edits out version) files (Ok bytes) → Decides (Build whole order other version construction) files (Ok bytes)
opens_build graph index edits whole order out other version construction files bytes more ranked asks =
    let i = without_vias ranked.stored in
    let built = rows_stage (file_stage version) (longer more.g more.edges) i.order in
    let opened = opening_of graph index edits out version files more.g ranked.stored more.edges (Ok bytes) more.graph_is ranked.index_is more.edits_are asks in
    let sized = sized_bytes (for_audited more.g i built) files (more.g.n == length i.order) (NotOfGraph (Sizes more.g.n (length i.order))) bytes opened in
    building_of whole order other version construction files (longer more.g more.edges) i.order (Ok bytes) more.whole_is ranked.order_is (audited_bytes built files sized.0 bytes sized.2)

-- what is decided of an index with which nothing is wrong
module _ (version : Version) (g : WeightedGraph) (i : HubIndex) (edges : List Edge) (files : Files) (answer : Result (List ℕ) Stop) where
  sound_opened : length i.order ≡ g.n → IsAuditOf g i.order i Same → Decided (opened_stage version g i edges) files answer → Decided (rows_stage (file_stage version) (longer g edges) i.order) files answer
  sound_opened size same decided =
      let built = rows_stage (file_stage version) (longer g edges) i.order in
      let audited : Decided (for_audited g i built) files answer =
      subst (λ b. Decided (stage_if b (NotOfGraph (Sizes g.n (length i.order))) (for_audited g i built)) files answer) (eq-eqb g.n (length i.order) (sym size)) decided in
      subst (λ found. Decided (unless_wrong found built) files answer) (audit_unique g i.order i size audited.0 Same audited.1 same) audited.2

-- of an index file that was built it comes to whatever `build` comes to
pub built_opens : (graph order out index edits whole other : List ℕ) (version asked : Version) (construction : Construction) (files others : Files) (bytes : List ℕ) (answer : Result (List ℕ) Stop) → Decides (Build graph order out version construction) files (Ok bytes) → finite_map.get others index ≡ Some bytes → length bytes ≤ input_limit → finite_map.get others graph ≡ finite_map.get files graph → finite_map.get others order ≡ finite_map.get files order → MakeLonger graph edits whole others → Decides (Open graph index edits other asked) others answer → Decides (Build whole order other asked construction) others answer
built_opens graph order out index edits whole other version asked construction files others bytes answer built held short same_graph same_order more asks =
    let b = built_of graph order out version construction files bytes built in
    let read = read_of version graph order index files others bytes b held short in
    let i : HubIndex = record { order = b.at; rows = b.rows } in
    let same_g : b.g ≡ more.g = same_value b.g more.g (sym (ap (value_of (graph_input graph)) same_graph ∙ b.graph_is) ∙ more.graph_is) in
    let order_is : value_at (order_input b.g.n order) others ≡ Ok b.at = ap (value_of (order_input b.g.n order)) same_order ∙ b.order_is in
    let sound : IsAuditOf b.g b.at i Same = (checks_decide b.g b.at i b.is_graph b.size (IsWellFormed-canonical b.g.n b.g.edges b.at b.is_graph b.ranking b.size b.fits b.rows b.chl)).1 (refl, b.chl) in
    let opened = opening_of graph index edits other asked others more.g read.stored more.edges answer more.graph_is read.is more.edits_are asks in
    let of_rows = subst (λ (i : HubIndex). Decided (opened_stage asked more.g i more.edges) others answer) read.plain opened in
    building_of whole order other asked construction others (longer more.g more.edges) b.at answer more.whole_is (subst (λ (g : WeightedGraph). value_at (order_input g.n order) others ≡ Ok b.at) same_g order_is)
    (sound_opened asked more.g i more.edges others answer (subst (λ (g : WeightedGraph). length b.at ≡ g.n) same_g b.size) (subst (λ (g : WeightedGraph). IsAuditOf g b.at i Same) same_g sound) of_rows)
