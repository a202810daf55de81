-- A trace of an index file of version 2 that was built.
use Rattle.std.proofs.Common.{◌≡◌, ◌≤◌, ◌∙◌, ℕ, List, [], ◌∷◌, length, ap, refl, subst}
use Rattle.std.specs.Prelude.{None, Some, Result, Ok}
use Rattle.std.specs.FinMap as finite_map
use Rattle.desk_io.specs.Contents.{Files}
use Rattle.desk_io.specs.Reading.{input_limit}
use Rattle.entry_vias.specs.RowVias.{AreVias, TracedHubIndex}
use Rattle.hub_index.specs.WellFormed.{IsWellFormed}
use Rattle.hub_index.proofs.CanonicalRows.{IsWellFormed-canonical}
use Rattle.index_file.specs.declared.stored_index.StoredIndex.{StoredIndex}
use Rattle.via_trace.specs.Traces.{IsTraceOf, TellsTheTrace}
use Rattle.via_trace.specs.declared.trace_answer.Trace.{Trace as AnyTrace}
use Rattle.via_trace.specs.declared.trace_answer.Trace.TheVariants.{Unreachable, Broken, Walk}
use Rattle.via_trace.proofs.Told.{trace_is_least}
use Rattle.walk_laws.specs.Graph.{WeightedGraph, IsGraph}
use Rattle.walk_laws.specs.Joined.{Joined}
use Rattle.walk_laws.specs.Labelling.{IsChl}
use Rattle.chl_inputs.specs.Inputs.{value_at, graph_input, order_input, pairs_input}
use Rattle.chl_inputs.specs.Stages.{After, Decided}
use Rattle.chl_inputs.specs.declared.stop.Stop.{Stop}
use Rattle.chl_inputs.proofs.StageLaws.{after_told}
use Rattle.chl_lines.specs.PrintedWalks.{trace_lines}
use Rattle.chl_words.specs.declared.asked.Construction.{Construction}
use Rattle.chl_words.specs.declared.asked.Asked.TheVariants.{Build, Trace}
use Rattle.chl_words.specs.declared.asked.Version.TheVariants.{Two}
use Rattle.chl_answers.specs.Commands.{AreAnswers, Decides, first_stop, for_vias, trace_stop, traces_stage, unless_stopped}
use Rattle.chl_answers.specs.Laws.{TellsWalks}
use Rattle.chl_answers.proofs.InputValues.{pairs_of_stage}
use Rattle.chl_answers.proofs.PairAnswers.{answers_told}
use Rattle.chl_answers.proofs.BuiltFiles.{built_of, read_vias_of}

-- no trace that tells of a walk is broken
unbroken : (J : ℕ → ℕ → ℕ → Type 0) (at : List ℕ) (pairs : List (ℕ × ℕ)) (told : List AnyTrace) → AreAnswers (TellsTheTrace J at) pairs told → first_stop trace_stop told ≡ None
unbroken J at [] [] all = refl
unbroken J at [] (t ∷ told) all = absurd all
unbroken J at (p ∷ pairs) [] all = refl
unbroken J at (p ∷ pairs) (Unreachable ∷ told) all = unbroken J at pairs told all.1
unbroken J at (p ∷ pairs) (Walk long nodes ∷ told) all = unbroken J at pairs told all.1
unbroken J at (p ∷ pairs) (Broken x hub ∷ told) all = absurd all.0

-- so the traces of the labelling are its walks
module _ (g : WeightedGraph) (t : TracedHubIndex) (graph : IsGraph g.n g.edges) (size : length t.order ≡ g.n) (well : IsWellFormed t.order t.rows) (chl : IsChl (Joined g.edges) t.order t.rows) (vias : AreVias (Joined g.edges) t.rows t.vias) (pairs : List ℕ) (files : Files) (answer : Result (List ℕ) Stop) where
  walks_told : Decided (traces_stage t pairs) files answer → After (value_at (pairs_input (length t.order) pairs) files) answer (λ asked. (told : List AnyTrace) × AreAnswers (TellsTheTrace (Joined g.edges) t.order) asked told × (answer ≡ Ok (trace_lines asked told)))
  walks_told decided =
      after_told (value_at (pairs_input (length t.order) pairs) files) answer _ _ (λ asked pairs_is traced.
      let tells = answers_told (length t.order) (IsTraceOf t) (TellsTheTrace (Joined g.edges) t.order) (λ u v a first first_within second second_within is.
      trace_is_least g t u v a graph size well chl vias first first_within second second_within is)
      asked (pairs_of_stage (length t.order) pairs files asked pairs_is) traced.0 traced.1 in
      (traced.0, tells, traced.2 ∙ ap (λ o. unless_stopped o (trace_lines asked traced.0)) (unbroken (Joined g.edges) t.order asked traced.0 tells))) decided

-- a trace of the file tells walks of the graph
pub traces_tell : (graph order out index pairs : List ℕ) (construction : Construction) (files others : Files) (bytes : List ℕ) (answer : Result (List ℕ) Stop) → Decides (Build graph order out Two construction) files (Ok bytes) → finite_map.get others index ≡ Some bytes → length bytes ≤ input_limit → Decides (Trace index pairs) others answer → (g : WeightedGraph) × (value_at (graph_input graph) files ≡ Ok g) × ((at : List ℕ) × (value_at (order_input g.n order) files ≡ Ok at) × TellsWalks g at pairs others answer)
traces_tell graph order out index pairs construction files others bytes answer built held short asks =
    let b = built_of graph order out Two construction files bytes built in
    let t : TracedHubIndex = record { order = b.at; rows = b.rows; vias = b.file.0 } in
    let of_index : Decided (traces_stage t pairs) others answer =
    subst (λ r. After r answer (λ (stored : StoredIndex). Decided (for_vias stored (λ t. traces_stage t pairs)) others answer)) (read_vias_of graph order index files others bytes b held short) asks in
    let told = walks_told b.g t b.is_graph b.size (IsWellFormed-canonical b.g.n b.g.edges b.at b.is_graph b.ranking b.size b.fits b.rows b.chl) b.chl b.file.1 pairs others answer of_index in
    (b.g, b.graph_is, (b.at, b.order_is, subst (λ n. After (value_at (pairs_input n pairs) others) answer (λ asked. (told : List AnyTrace) × AreAnswers (TellsTheTrace (Joined b.g.edges) b.at) asked told × (answer ≡ Ok (trace_lines asked told)))) b.size told))
