-- Stages for a labelling that fits an index, its rows and their file: there is something, and one thing, that each works out.
use Rattle.std.proofs.Common.{◌≡◌, ℕ, Bool, true, false, List, length, refl}
use Rattle.std.specs.Prelude.{Option, Some, None}
use Rattle.desk_io.specs.Contents.{Files}
use Rattle.entry_vias.proofs.Existing.{AreVias-exist}
use Rattle.entry_vias.proofs.OneList.{AreVias-one}
use Rattle.walk_laws.specs.declared.entry.Entry.{Entry}
use Rattle.walk_laws.specs.Graph.{WeightedGraph, IsGraph}
use Rattle.walk_laws.specs.Joined.{Joined}
use Rattle.walk_laws.specs.Ranking.{IsRanking}
use Rattle.walk_laws.proofs.JoinedDecisions.{IsCanonical-joined_decided}
use Rattle.walk_laws.proofs.JoinedEdges.{weights_of_edges}
use Rattle.walk_laws.proofs.LabellingExists.{IsChl-exists}
use Rattle.walk_laws.proofs.LabelRows.{IsChl-unique}
use Rattle.chl_inputs.specs.Stages.{Stage}
use Rattle.chl_inputs.specs.declared.stop.Stop.{Stop}
use Rattle.chl_inputs.proofs.StageLaws.{Answerable, Determined}
use Rattle.chl_answers.specs.Commands.{HubOf, for_fitting, unless_far, rows_stage, labelling_stage, file_stage, stage_if}
use Rattle.chl_words.specs.declared.asked.Version.{Version}
use Rattle.chl_words.specs.declared.asked.Version.TheVariants.{One, Two}
use Rattle.chl_answers.proofs.FarHubs.{overflow_exists, overflow_once}
use Rattle.chl_answers.proofs.InputValues.{graph_of_stage, ranking_of_stage}

-- a stage, or another that comes to a stop
module _ {V : Type 0} (stage : Stage V) (stop : Stop) (files : Files) where
  pub either_always : (b : Bool) → (b ≡ true → Answerable stage files) → Answerable (stage_if b stop stage) files
  either_always true has = has refl
  either_always false has = tt

  pub either_once : (b : Bool) → (b ≡ true → Determined stage files) → Determined (stage_if b stop stage) files
  either_once true one = one refl
  either_once false one = tt

-- a stage where no hub is too far; else the stop at the first one
module _ {V : Type 0} (stage : Stage V) (files : Files) where
  unless_far_always : (far : Option HubOf) → Answerable stage files → Answerable (unless_far far stage) files
  unless_far_always None has = has
  unless_far_always (Some far) has = tt

  unless_far_once : (far : Option HubOf) → Determined stage files → Determined (unless_far far stage) files
  unless_far_once None one = one
  unless_far_once (Some far) one = tt

  module _ (g : WeightedGraph) (graph : IsGraph g.n g.edges) (at : List ℕ) (rank : IsRanking at × (length at ≡ g.n)) where
    pub fitting_always : Answerable stage files → Answerable (for_fitting g at stage) files
    fitting_always has =
        let far = overflow_exists g.n g.edges at graph rank.0 rank.1 in
        (far.0, far.1, unless_far_always far.0 has)

    pub fitting_once : Determined stage files → Determined (for_fitting g at stage) files
    fitting_once one = (overflow_once g.n g.edges at graph rank.0 rank.1, λ far tells. unless_far_once far one)

-- the rows of a labelling, and what comes of them
module _ (next : WeightedGraph → List ℕ → List (List Entry) → Stage (List ℕ)) (files : Files) where
  module _ (g : WeightedGraph) (graph : IsGraph g.n g.edges) (at : List ℕ) (rank : IsRanking at × (length at ≡ g.n)) where
    pub rows_always : ((rows : List (List Entry)) → Answerable (next g at rows) files) → Answerable (rows_stage next g at) files
    rows_always some =
        let rows = IsChl-exists (Joined g.edges) at rank.0 (IsCanonical-joined_decided g.edges (weights_of_edges g.n g.edges graph.edge) at rank.0) in
        fitting_always _ files g graph at rank (rows.0, rows.1, some rows.0)

    pub rows_once : ((rows : List (List Entry)) → Determined (next g at rows) files) → Determined (rows_stage next g at) files
    rows_once one = fitting_once _ files g graph at rank (IsChl-unique (Joined g.edges) at, λ rows chl. one rows)

  module _ (graph order : List ℕ) where
    pub labelling_always : ((g : WeightedGraph) (at : List ℕ) (rows : List (List Entry)) → Answerable (next g at rows) files) → Answerable (labelling_stage next graph order) files
    labelling_always some = λ g graph_is at order_is. rows_always g (graph_of_stage graph files g graph_is) at (ranking_of_stage g.n order files at order_is) (some g at)

    pub labelling_once : ((g : WeightedGraph) (at : List ℕ) (rows : List (List Entry)) → Determined (next g at rows) files) → Determined (labelling_stage next graph order) files
    labelling_once one = λ g graph_is at order_is. rows_once g (graph_of_stage graph files g graph_is) at (ranking_of_stage g.n order files at order_is) (one g at)

-- the file of rows, with their vias or without
module _ (files : Files) (g : WeightedGraph) (at : List ℕ) (rows : List (List Entry)) where
  pub file_always : (version : Version) → Answerable (file_stage version g at rows) files
  file_always One = tt
  file_always Two = let vias = AreVias-exist g.edges rows in (vias.0, vias.1, tt)

  pub file_once : (version : Version) → Determined (file_stage version g at rows) files
  file_once One = tt
  file_once Two = (AreVias-one (Joined g.edges) rows, λ vias are. tt)
