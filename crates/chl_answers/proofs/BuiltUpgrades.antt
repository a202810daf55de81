-- An upgrade of an index file that was built.
use Rattle.std.proofs.Common.{◌≡◌, ◌≤◌, ◌∙◌, ℕ, List, length, ap, ap₂, refl, subst, sym, eq-eqb}
use Rattle.std.specs.Prelude.{None, Some, Result, Ok}
use Rattle.std.specs.FinMap as finite_map
use Rattle.desk_io.specs.Contents.{Files}
use Rattle.desk_io.specs.Reading.{input_limit}
use Rattle.hub_index.specs.HubIndex.{HubIndex}
use Rattle.hub_index.proofs.CanonicalRows.{IsWellFormed-canonical}
use Rattle.index_audit.specs.Upgrades.{IsUpgradeOf}
use Rattle.index_audit.specs.declared.answer.Audit.TheVariants.{Same}
use Rattle.index_audit.specs.declared.upgraded.Upgrade.{Upgrade as AnyUpgrade}
use Rattle.index_audit.specs.declared.upgraded.Upgrade.TheVariants.{Not, Made}
use Rattle.index_audit.proofs.Decisive.{checks_decide}
use Rattle.index_audit.proofs.Faults.{audit_unique}
use Rattle.index_file.specs.Layout.{via_bytes}
use Rattle.index_file.specs.Stored.{without_vias}
use Rattle.walk_laws.specs.declared.entry.Entry.{Entry}
use Rattle.walk_laws.specs.Graph.{WeightedGraph, IsGraph}
use Rattle.walk_laws.specs.Joined.{Joined}
use Rattle.walk_laws.specs.Labelling.{IsChl}
use Rattle.walk_laws.specs.Overflow.{Overflows}
use Rattle.walk_laws.specs.Ranking.{IsRanking}
use Rattle.chl_inputs.specs.Inputs.{value_at, value_of, graph_input, order_input, index_input}
use Rattle.chl_inputs.specs.Stages.{After, Comes, Decided, Works}
use Rattle.chl_inputs.specs.declared.stop.NotOf.TheVariants.{Sizes}
use Rattle.chl_inputs.specs.declared.stop.Stop.{Stop}
use Rattle.chl_inputs.specs.declared.stop.Stop.TheVariants.{NotOfGraph}
use Rattle.chl_inputs.proofs.StageLaws.{after_value}
use Rattle.chl_words.specs.declared.asked.Construction.{Construction}
use Rattle.chl_words.specs.declared.asked.Asked.TheVariants.{Build, Upgrade}
use Rattle.chl_words.specs.declared.asked.Version.{Version}
use Rattle.chl_words.specs.declared.asked.Version.TheVariants.{Two}
use Rattle.chl_answers.specs.Commands.{Decides, file_stage, stage_if, upgrade_text, upgrades_stage}
use Rattle.chl_answers.proofs.BuiltFiles.{built_of, read_of}

-- the upgrade of the labelling is its file of version 2
module _ (g : WeightedGraph) (at : List ℕ) (rows : List (List Entry)) (graph : IsGraph g.n g.edges) (ranking : IsRanking at) (size : length at ≡ g.n) (fits : ¬ Overflows (Joined g.edges) at) (chl : IsChl (Joined g.edges) at rows) (files : Files) where
  upgrade_is : (made : AnyUpgrade) → IsUpgradeOf g (record { order = at; rows = rows }) made → Decided (file_stage Two g at rows) files (upgrade_text made)
  upgrade_is (Not fault) is =
      let i : HubIndex = record { order = at; rows = rows } in
      absurd (is.0 (audit_unique g at i size fault Same is.1 ((checks_decide g at i graph size (IsWellFormed-canonical g.n g.edges at graph ranking size fits rows chl)).1 (refl, chl))))
  upgrade_is (Made t) is = (t.vias, is.3, ap Ok (ap₂ (λ (order : List ℕ) (r : List (List Entry)). via_bytes order r t.vias) is.1 is.2))

-- it writes what building version 2 writes
pub upgrades_build : (graph order out index upgraded : List ℕ) (version : Version) (construction : Construction) (files others : Files) (bytes : List ℕ) (answer : Result (List ℕ) Stop) → Decides (Build graph order out version construction) files (Ok bytes) → finite_map.get others index ≡ Some bytes → length bytes ≤ input_limit → finite_map.get others graph ≡ finite_map.get files graph → Decides (Upgrade graph index upgraded) others answer → Decides (Build graph order out Two construction) files answer
upgrades_build graph order out index upgraded version construction files others bytes answer built held short same_graph asks =
    let b = built_of graph order out version construction files bytes built in
    let read = read_of version graph order index files others bytes b held short in
    let of_graph : After (value_at (index_input index) others) answer (λ stored. Decided (upgrades_stage b.g (without_vias stored)) others answer) =
    subst (λ r. After r answer (λ (g : WeightedGraph). After (value_at (index_input index) others) answer (λ stored. Decided (upgrades_stage g (without_vias stored)) others answer))) (ap (value_of (graph_input graph)) same_graph ∙ b.graph_is) asks in
    let of_index : Decided (upgrades_stage b.g (without_vias read.stored)) others answer =
    subst (λ r. After r answer (λ stored. Decided (upgrades_stage b.g (without_vias stored)) others answer)) read.is of_graph in
    let i : HubIndex = record { order = b.at; rows = b.rows } in
    let of_rows : Decided (upgrades_stage b.g i) others answer = subst (λ (i : HubIndex). Decided (upgrades_stage b.g i) others answer) read.plain of_index in
    let made : (made : AnyUpgrade) × IsUpgradeOf b.g i made × (answer ≡ upgrade_text made) = of_sizes b.g i answer others (sym b.size) of_rows in
    after_value (value_at (graph_input graph) files) b.g answer _ b.graph_is
    (after_value (value_at (order_input b.g.n order) files) b.at answer _ b.order_is
    (None, b.fits, (b.rows, b.chl, subst (λ a. Decided (file_stage Two b.g b.at b.rows) files a) (sym made.2) (upgrade_is b.g b.at b.rows b.is_graph b.ranking b.size b.fits b.chl files made.0 made.1))))
  where
    -- the sizes are equal
    of_sizes : (g : WeightedGraph) (i : HubIndex) (answer : Result (List ℕ) Stop) (files : Files) → g.n ≡ length i.order → Decided (upgrades_stage g i) files answer → (made : AnyUpgrade) × IsUpgradeOf g i made × (answer ≡ upgrade_text made)
    of_sizes g i answer files same decided =
        subst (λ b. Decided (stage_if b (NotOfGraph (Sizes g.n (length i.order))) (Works (λ made. IsUpgradeOf g i made) (λ made. Comes (upgrade_text made)))) files answer) (eq-eqb g.n (length i.order) same) decided
