-- Index files that were built, of either version: what they were built of, and what they are read as.
use Rattle.std.proofs.Common.{◌≡◌, ◌≤◌, ◌∙◌, ℕ, List, cond, length, take, refl, ap}
use Rattle.std.specs.Prelude.{Option, Some, None, Ok}
use Rattle.std.specs.FinMap as finite_map
use Rattle.std.proofs.lemmas.Bool.{le-ltb}
use Rattle.desk_io.specs.Contents.{Files}
use Rattle.desk_io.specs.Reading.{input_limit}
use Rattle.entry_vias.specs.RowVias.{HaveVias, TracedHubIndex}
use Rattle.entry_vias.proofs.Labelled.{HaveVias-canonical}
use Rattle.hub_index.specs.WellFormed.{IsWellFormed}
use Rattle.hub_index.proofs.CanonicalRows.{IsWellFormed-canonical}
use Rattle.index_audit.specs.declared.answer.Audit.TheVariants.{Same}
use Rattle.index_file.specs.Judging.{index_of}
use Rattle.index_file.specs.Layout.{index_bytes, via_bytes}
use Rattle.index_file.specs.Stored.{without_vias}
use Rattle.index_file.specs.declared.stored_index.StoredIndex.{StoredIndex}
use Rattle.index_file.specs.declared.stored_index.StoredIndex.TheVariants.{Plain, Traced}
use Rattle.index_file.proofs.Layouts.{index_of-file_bytes}
use Rattle.walk_laws.specs.declared.entry.Entry.{Entry}
use Rattle.walk_laws.specs.Graph.{WeightedGraph, IsGraph}
use Rattle.walk_laws.specs.Joined.{Joined}
use Rattle.walk_laws.specs.Labelling.{IsChl}
use Rattle.walk_laws.specs.Overflow.{Overflows}
use Rattle.walk_laws.specs.Ranking.{IsRanking}
use Rattle.chl_inputs.specs.Inputs.{value_at, value_of, judged, past_limit, graph_input, order_input, index_input}
use Rattle.chl_inputs.specs.Stages.{After, Decided, Stage, Works}
use Rattle.chl_inputs.specs.Stops.{index_stop}
use Rattle.chl_inputs.specs.declared.stop.Stop.TheVariants.{Overflow}
use Rattle.chl_inputs.proofs.StageLaws.{after_ok}
use Rattle.chl_inputs.proofs.StagesInTurn.{no_stop_in, same_value}
use Rattle.chl_words.specs.declared.asked.Construction.{Construction}
use Rattle.chl_words.specs.declared.asked.Asked.TheVariants.{Build}
use Rattle.chl_words.specs.declared.asked.Version.{Version}
use Rattle.chl_words.specs.declared.asked.Version.TheVariants.{One, Two}
use Rattle.chl_answers.specs.Commands.{Decides, HubOf, IsStoredAuditOf, TellsOverflow, file_stage, unless_far}
use Rattle.chl_answers.proofs.InputValues.{graph_of_stage, ranking_of_stage}
use Rattle.chl_answers.proofs.StoredIndexes.{labelling_same, traced_same}

-- where there are bytes, no hub is too far
fitted : (J : ℕ → ℕ → ℕ → Type 0) (at : List ℕ) (stage : Stage (List ℕ)) (files : Files) (bytes : List ℕ) (far : Option HubOf) → TellsOverflow J at far → Decided (unless_far far stage) files (Ok bytes) → ¬ Overflows J at × Decided stage files (Ok bytes)
fitted J at stage files bytes None tells decided = (tells, decided)
fitted J at stage files bytes (Some far) tells decided = absurd (no_stop_in bytes (Overflow far.v far.hub) decided)

-- the rows of a labelling, and then their file
abbrev written_stage : Version → WeightedGraph → List ℕ → Stage (List ℕ)
written_stage version g at = Works (λ rows. IsChl (Joined g.edges) at rows) (λ rows. file_stage version g at rows)

-- the file was built of this graph and this ranking, whose labelling has these rows and fits an index
pub record IsBuiltOf (version : Version) (graph order : List ℕ) (files : Files) (bytes : List ℕ) : Type 0 where
  pub g : WeightedGraph
  pub graph_is : value_at (graph_input graph) files ≡ Ok g
  pub at : List ℕ
  pub order_is : value_at (order_input g.n order) files ≡ Ok at
  pub fits : ¬ Overflows (Joined g.edges) at
  pub rows : List (List Entry)
  pub chl : IsChl (Joined g.edges) at rows
  pub file : Decided (file_stage version g at rows) files (Ok bytes)
  pub is_graph : IsGraph g.n g.edges
  pub ranking : IsRanking at
  pub size : length at ≡ g.n

pub built_of : (graph order out : List ℕ) (version : Version) (construction : Construction) (files : Files) (bytes : List ℕ) → Decides (Build graph order out version construction) files (Ok bytes) → IsBuiltOf version graph order files bytes
built_of graph order out version construction files bytes built =
    let after_graph = after_ok (value_at (graph_input graph) files) bytes (λ g. After (value_at (order_input g.n order) files) (Ok bytes) (λ at. Labelled g at)) built in
    let g = after_graph.0 in
    let after_order = after_ok (value_at (order_input g.n order) files) bytes (λ at. Labelled g at) after_graph.2 in
    let at = after_order.0 in
    let built = fitted (Joined g.edges) at (written_stage version g at) files bytes after_order.2.0 after_order.2.1 after_order.2.2 in
    let rank = ranking_of_stage g.n order files at after_order.1 in
    record {
      g = g;
      graph_is = after_graph.1;
      at = at;
      order_is = after_order.1;
      fits = built.0;
      rows = built.1.0;
      chl = built.1.1;
      file = built.1.2;
      is_graph = graph_of_stage graph files g after_graph.1;
      ranking = rank.0;
      size = rank.1;
    }
  where
    Labelled : WeightedGraph → List ℕ → Type 0
    Labelled g at = (far : Option HubOf) × TellsOverflow (Joined g.edges) at far × Decided (unless_far far (written_stage version g at)) files (Ok bytes)

-- a file within the limit whose bytes come to an index is read as that
read_as : (index : List ℕ) (files : Files) (bytes : List ℕ) (stored : StoredIndex) → finite_map.get files index ≡ Some bytes → length bytes ≤ input_limit → index_of bytes ≡ Ok stored → value_at (index_input index) files ≡ Ok stored
read_as index files bytes stored held short is =
    ap (value_of (index_input index)) held
    ∙ ap (λ b. cond b (past_limit ((index_input index).plain (take input_limit bytes))) (judged index_stop (index_of bytes))) (le-ltb _ _ short)
    ∙ ap (judged index_stop) is

-- an index file is read as the rows that it was built of, and an audit finds that it is the same
pub record IsReadOf (g : WeightedGraph) (at : List ℕ) (rows : List (List Entry)) (index : List ℕ) (files : Files) : Type 0 where
  pub stored : StoredIndex
  pub is : value_at (index_input index) files ≡ Ok stored
  pub plain : without_vias stored ≡ record { order = at; rows = rows }
  pub same : IsStoredAuditOf g at stored Same

module _ (g : WeightedGraph) (at : List ℕ) (rows : List (List Entry)) (graph : IsGraph g.n g.edges) (ranking : IsRanking at) (size : length at ≡ g.n) (fits : ¬ Overflows (Joined g.edges) at) (chl : IsChl (Joined g.edges) at rows) (index : List ℕ) (files others : Files) (bytes : List ℕ) (held : finite_map.get others index ≡ Some bytes) (short : length bytes ≤ input_limit) where
  well : IsWellFormed at rows
  well = IsWellFormed-canonical g.n g.edges at graph ranking size fits rows chl

  -- the index with the vias of a file of version 2
  abbrev traced : Decided (file_stage Two g at rows) files (Ok bytes) → TracedHubIndex
  traced file = record { order = at; rows = rows; vias = file.0 }

  have : (file : Decided (file_stage Two g at rows) files (Ok bytes)) → HaveVias rows file.0
  have file = HaveVias-canonical g.n g.edges at rows file.0 graph well size chl file.1

  read_traced : (file : Decided (file_stage Two g at rows) files (Ok bytes)) → value_at (index_input index) others ≡ Ok (Traced (traced file))
  read_traced file = read_as index others bytes (Traced (traced file)) held short (ap index_of (same_value bytes (via_bytes at rows file.0) file.2) ∙ index_of-file_bytes (Traced (traced file)) (well, have file))

  read_file : (version : Version) → Decided (file_stage version g at rows) files (Ok bytes) → IsReadOf g at rows index others
  read_file One file = record {
    stored = Plain (record { order = at; rows = rows });
    is = read_as index others bytes _ held short (ap index_of (same_value bytes (index_bytes at rows) file) ∙ index_of-file_bytes (Plain (record { order = at; rows = rows })) well);
    plain = refl;
    same = labelling_same g at size graph (record { order = at; rows = rows }) well refl chl;
  }
  read_file Two file = record {
    stored = Traced (traced file);
    is = read_traced file;
    plain = refl;
    same = traced_same g at size graph (traced file) well (have file) refl chl file.1;
  }

pub read_of : (version : Version) (graph order index : List ℕ) (files others : Files) (bytes : List ℕ) (b : IsBuiltOf version graph order files bytes) → finite_map.get others index ≡ Some bytes → length bytes ≤ input_limit → IsReadOf b.g b.at b.rows index others
read_of version graph order index files others bytes b held short = read_file b.g b.at b.rows b.is_graph b.ranking b.size b.fits b.chl index files others bytes held short version b.file

-- a file of version 2 is read as the rows and vias that it was built of
pub read_vias_of : (graph order index : List ℕ) (files others : Files) (bytes : List ℕ) (b : IsBuiltOf Two graph order files bytes) → finite_map.get others index ≡ Some bytes → length bytes ≤ input_limit → value_at (index_input index) others ≡ Ok (Traced (record { order = b.at; rows = b.rows; vias = b.file.0 }))
read_vias_of graph order index files others bytes b held short = read_traced b.g b.at b.rows b.is_graph b.ranking b.size b.fits b.chl index files others bytes held short b.file
