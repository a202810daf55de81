-- A query of an index file that was built.
use Rattle.std.proofs.Common.{◌≡◌, ◌≤◌, ℕ, List, length, subst}
use Rattle.std.specs.Prelude.{Option, None, Some, Result, Ok}
use Rattle.std.specs.FinMap as finite_map
use Rattle.desk_io.specs.Contents.{Files}
use Rattle.desk_io.specs.Reading.{input_limit}
use Rattle.hub_index.specs.HubIndex.{HubIndex}
use Rattle.index_file.specs.Stored.{without_vias}
use Rattle.walk_laws.specs.declared.entry.Entry.{Entry}
use Rattle.walk_laws.specs.Meet.{IsMeet}
use Rattle.chl_inputs.specs.Inputs.{value_at, value_of, graph_input, order_input, pairs_input}
use Rattle.chl_inputs.specs.Stages.{After, Decided}
use Rattle.chl_inputs.specs.declared.stop.Stop.{Stop}
use Rattle.chl_inputs.proofs.StageLaws.{after_told, after_value}
use Rattle.chl_lines.specs.PrintedAnswers.{answer_lines}
use Rattle.chl_words.specs.declared.asked.Construction.{Construction}
use Rattle.chl_words.specs.declared.asked.Asked.TheVariants.{Build, Solve, Query}
use Rattle.chl_words.specs.declared.asked.Version.{Version}
use Rattle.chl_answers.specs.Commands.{AreAnswers, Decides, meets_stage}
use Rattle.chl_answers.proofs.Decisions.{answers_of_rows}
use Rattle.chl_answers.proofs.InputValues.{pairs_of_stage}
use Rattle.chl_answers.proofs.BuiltFiles.{built_of, read_of}

-- what it says is what is said of the graph
pub queries_answer : (graph order out index pairs : List ℕ) (version : Version) (construction : Construction) (files others : Files) (bytes : List ℕ) (answer : Result (List ℕ) Stop) → Decides (Build graph order out version construction) files (Ok bytes) → finite_map.get others index ≡ Some bytes → length bytes ≤ input_limit → finite_map.get others pairs ≡ finite_map.get files pairs → Decides (Query index pairs) others answer → Decides (Solve graph order pairs construction) files answer
queries_answer graph order out index pairs version construction files others bytes answer built held short same_pairs asks =
    let b = built_of graph order out version construction files bytes built in
    let read = read_of version graph order index files others bytes b held short in
    let of_index : Decided (meets_stage (without_vias read.stored) pairs) others answer =
    subst (λ r. After r answer (λ stored. Decided (meets_stage (without_vias stored) pairs) others answer)) read.is asks in
    let of_rows : After (value_at (pairs_input (length b.at) pairs) others) answer (λ asked. Says b.at b.rows asked) =
    subst (λ (i : HubIndex). Decided (meets_stage i pairs) others answer) read.plain of_index in
    let of_nodes : After (value_at (pairs_input b.g.n pairs) others) answer (λ asked. Says b.at b.rows asked) =
    subst (λ n. After (value_at (pairs_input n pairs) others) answer (λ asked. Says b.at b.rows asked)) b.size of_rows in
    let of_files : After (value_at (pairs_input b.g.n pairs) files) answer (λ asked. Says b.at b.rows asked) =
    subst (λ file. After (value_of (pairs_input b.g.n pairs) file) answer (λ asked. Says b.at b.rows asked)) same_pairs of_nodes in
    after_value (value_at (graph_input graph) files) b.g answer _ b.graph_is
    (after_value (value_at (order_input b.g.n order) files) b.at answer _ b.order_is
    (after_told (value_at (pairs_input b.g.n pairs) files) answer _ _ (λ asked pairs_is says.
    (None, b.fits, (says.0, answers_of_rows b.g b.is_graph b.at b.ranking b.size b.rows b.chl asked (pairs_of_stage b.g.n pairs files asked pairs_is) says.0 says.1, says.2))) of_files))
  where
    Says : List ℕ → List (List Entry) → List (ℕ × ℕ) → Type 0
    Says at rows asked = (answers : List (Option (ℕ × ℕ))) × AreAnswers (IsMeet at rows) asked answers × (answer ≡ Ok (answer_lines asked answers))
