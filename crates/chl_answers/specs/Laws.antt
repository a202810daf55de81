-- The laws of what the files decide. `laws` has a public function for each.
use Rattle.std.specs.Prelude.{◌≡◌, ◌≤◌, ℕ, List, [], ◌∷◌, ◌++◌, codes, length, Some, Result, Ok}
use Rattle.std.specs.FinMap as finite_map
use Rattle.desk_io.specs.Reading.{input_limit}
use Rattle.desk_io.specs.Contents.{Files}
use Rattle.chl_inputs.specs.Inputs.{graph_input, order_input, pairs_input, index_input, edits_input, value_at}
use Rattle.chl_inputs.specs.Stages.{After}
use Rattle.chl_lines.specs.PrintedOrders.{order_lines}
use Rattle.chl_lines.specs.PrintedWalks.{trace_lines}
use Rattle.via_trace.specs.Traces.{TellsTheTrace}
use Rattle.via_trace.specs.declared.trace_answer.Trace.{Trace as AnyTrace}
use Rattle.index_file.specs.Stored.{without_vias}
use Rattle.index_file.specs.declared.stored_index.StoredIndex.{StoredIndex}
use Rattle.walk_laws.specs.declared.graph.Edge.{Edge}
use Rattle.walk_laws.specs.Graph.{WeightedGraph}
use Rattle.walk_laws.specs.Joined.{Joined}
use Rattle.chl_answers.specs.Commands.{AreAnswers, Decides, IsRankingOf, longer}
use Rattle.chl_answers.specs.Statuses.{status_after}
use Rattle.chl_inputs.specs.declared.stop.Stop.{Stop}
use Rattle.chl_words.specs.declared.asked.Construction.{Construction}
use Rattle.chl_words.specs.declared.asked.Asked.{Asked}
use Rattle.chl_words.specs.declared.asked.Asked.TheVariants.{Build, Solve, Query, Trace, Audit, Upgrade, Open, Rank}
use Rattle.chl_words.specs.declared.asked.Version.{Version}
use Rattle.chl_words.specs.declared.asked.Version.TheVariants.{Two}

-- every command over every table of files has an answer
abbrev pub TheFilesDecide : Type 0
TheFilesDecide = (asked : Asked) (files : Files) → (answer : Result (List ℕ) Stop) × Decides asked files answer

-- the text is that of a ranking of the nodes 1..n
abbrev pub IsRankingText : ℕ → List ℕ → Type 0
IsRankingText n text = (at : List ℕ) × IsRankingOf n at × (text ≡ order_lines at)

-- two answers are the same; but two texts of `rank` are those of two rankings of the graph's nodes
abbrev pub AreAlike : Asked → Files → Result (List ℕ) Stop → Result (List ℕ) Stop → Type 0
AreAlike (Rank graph) files (Ok text) (Ok other) = (g : WeightedGraph) × (value_at (graph_input graph) files ≡ Ok g) × IsRankingText g.n text × IsRankingText g.n other
AreAlike asked files answer other = answer ≡ other

-- and one at most, but for the ranking that `rank` is free to choose
abbrev pub TheFilesDecideOnce : Type 0
TheFilesDecideOnce = (asked : Asked) (files : Files) (answer other : Result (List ℕ) Stop) → Decides asked files answer → Decides asked files other → AreAlike asked files answer other

-- and so one status, which is Done or the refusal with its fields
abbrev pub TheFilesDecideOneStatus : Type 0
TheFilesDecideOneStatus = (asked : Asked) (files : Files) (answer other : Result (List ℕ) Stop) → Decides asked files answer → Decides asked files other → status_after answer ≡ status_after other

-- a query of an index file that was built, of either version, and that is no longer than an input may be, says what solving says of the same pairs
abbrev pub AQueryOfABuiltFileSolves : Type 0
AQueryOfABuiltFileSolves = (graph order out index pairs : List ℕ) (version : Version) (construction : Construction) (files others : Files) (bytes : List ℕ) (answer : Result (List ℕ) Stop) → Decides (Build graph order out version construction) files (Ok bytes) → finite_map.get others index ≡ Some bytes → length bytes ≤ input_limit → finite_map.get others pairs ≡ finite_map.get files pairs → Decides (Query index pairs) others answer → Decides (Solve graph order pairs construction) files answer

-- an audit of an index file that was built of the same texts, of either version, and that is no longer than an input may be, says `same`
abbrev pub AnAuditOfABuiltFileIsTheSame : Type 0
AnAuditOfABuiltFileIsTheSame = (graph order out index : List ℕ) (version : Version) (construction : Construction) (files others : Files) (bytes : List ℕ) (answer : Result (List ℕ) Stop) → Decides (Build graph order out version construction) files (Ok bytes) → finite_map.get others index ≡ Some bytes → length bytes ≤ input_limit → finite_map.get others graph ≡ finite_map.get files graph → finite_map.get others order ≡ finite_map.get files order → Decides (Audit graph order index) others answer → answer ≡ Ok (codes "same" ++ 10 ∷ [])

-- an upgrade of an index file that was built of the same graph, and that is no longer than an input may be, writes what building version 2 writes
abbrev pub AnUpgradeOfABuiltFileIsVersionTwo : Type 0
AnUpgradeOfABuiltFileIsVersionTwo = (graph order out index upgraded : List ℕ) (version : Version) (construction : Construction) (files others : Files) (bytes : List ℕ) (answer : Result (List ℕ) Stop) → Decides (Build graph order out version construction) files (Ok bytes) → finite_map.get others index ≡ Some bytes → length bytes ≤ input_limit → finite_map.get others graph ≡ finite_map.get files graph → Decides (Upgrade graph index upgraded) others answer → Decides (Build graph order out Two construction) files answer

-- the lines of pairs of a text, each with a shortest walk by way of the highest-ranked node on any, or none where no walk leads there
abbrev pub TellsWalks : WeightedGraph → List ℕ → List ℕ → Files → Result (List ℕ) Stop → Type 0
TellsWalks g at pairs files answer = After (value_at (pairs_input g.n pairs) files) answer (λ asked. (told : List AnyTrace) × AreAnswers (TellsTheTrace (Joined g.edges) at) asked told × (answer ≡ Ok (trace_lines asked told)))

-- so a trace does of an index file of version 2 that was built, and that is no longer than an input may be
abbrev pub ATraceOfABuiltFileTellsWalks : Type 0
ATraceOfABuiltFileTellsWalks = (graph order out index pairs : List ℕ) (construction : Construction) (files others : Files) (bytes : List ℕ) (answer : Result (List ℕ) Stop) → Decides (Build graph order out Two construction) files (Ok bytes) → finite_map.get others index ≡ Some bytes → length bytes ≤ input_limit → Decides (Trace index pairs) others answer → (g : WeightedGraph) × (value_at (graph_input graph) files ≡ Ok g) × ((at : List ℕ) × (value_at (order_input g.n order) files ≡ Ok at) × TellsWalks g at pairs others answer)

-- the edges of an edits text, appended to the list of the graph of one text, make the graph of another
pub record MakeLonger (graph edits whole : List ℕ) (files : Files) : Type 0 where
  pub g : WeightedGraph
  pub graph_is : value_at (graph_input graph) files ≡ Ok g
  pub edges : List Edge
  pub edits_are : value_at (edits_input g.n edits) files ≡ Ok edges
  pub whole_is : value_at (graph_input whole) files ≡ Ok (longer g edges)

-- the order text is that of the ranking of an index file, of a graph of n nodes
pub record HasOrderOf (n : ℕ) (order index : List ℕ) (files : Files) : Type 0 where
  pub stored : StoredIndex
  pub index_is : value_at (index_input index) files ≡ Ok stored
  pub order_is : value_at (order_input n order) files ≡ Ok (without_vias stored).order

-- `open` writes what `build` writes of the longer graph and of the ranking of the index, in the asked version
abbrev pub AnOpeningIsABuild : Type 0
AnOpeningIsABuild = (graph index edits whole order out other : List ℕ) (version : Version) (construction : Construction) (files : Files) (bytes : List ℕ) (more : MakeLonger graph edits whole files) → HasOrderOf more.g.n order index files → Decides (Open graph index edits out version) files (Ok bytes) → Decides (Build whole order other version construction) files (Ok bytes)

-- and of an index file that was built of the same texts, and that is no longer than an input may be, it comes to whatever `build` comes to
abbrev pub AnOpeningOfABuiltFileIsABuild : Type 0
AnOpeningOfABuiltFileIsABuild = (graph order out index edits whole other : List ℕ) (version asked : Version) (construction : Construction) (files others : Files) (bytes : List ℕ) (answer : Result (List ℕ) Stop) → Decides (Build graph order out version construction) files (Ok bytes) → finite_map.get others index ≡ Some bytes → length bytes ≤ input_limit → finite_map.get others graph ≡ finite_map.get files graph → finite_map.get others order ≡ finite_map.get files order → MakeLonger graph edits whole others → Decides (Open graph index edits other asked) others answer → Decides (Build whole order other asked construction) others answer
