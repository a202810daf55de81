-- What the files decide of `open`: something, and one thing.
use Rattle.std.proofs.Common.{ℕ, List, length, sym, eqb-true}
use Rattle.std.specs.Prelude.{◌==◌, ◌++◌}
use Rattle.desk_io.specs.Contents.{Files}
use Rattle.hub_index.specs.HubIndex.{HubIndex}
use Rattle.hub_index.specs.WellFormed.{IsWellFormed}
use Rattle.index_audit.specs.declared.answer.Audit.{Audit}
use Rattle.index_audit.specs.declared.answer.Audit.TheVariants.{Same}
use Rattle.index_audit.proofs.Decided.{audit_exists}
use Rattle.index_audit.proofs.Faults.{audit_unique}
use Rattle.index_file.specs.Stored.{without_vias}
use Rattle.walk_laws.specs.declared.graph.Edge.{Edge}
use Rattle.walk_laws.specs.Graph.{WeightedGraph, IsGraph}
use Rattle.chl_inputs.specs.Stages.{Stage}
use Rattle.chl_inputs.specs.declared.stop.NotOf.TheVariants.{Sizes}
use Rattle.chl_inputs.specs.declared.stop.Stop.TheVariants.{NotOfGraph}
use Rattle.chl_inputs.proofs.StageLaws.{Answerable, Determined}
use Rattle.chl_words.specs.declared.asked.Version.{Version}
use Rattle.chl_answers.specs.Commands.{file_stage, longer, open_stage, opened_stage, rows_stage, unless_wrong}
use Rattle.chl_answers.proofs.FittingStages.{either_always, either_once, file_always, file_once, rows_always, rows_once}
use Rattle.chl_answers.proofs.InputValues.{graph_of_stage, index_of_stage, longer_of_stage}
use Rattle.chl_answers.proofs.StoredIndexes.{stored_well}

-- a stage for an index with which nothing is wrong
module _ {V : Type 0} (stage : Stage V) (files : Files) where
  unless_wrong_always : (found : Audit) → Answerable stage files → Answerable (unless_wrong found stage) files
  unless_wrong_always Same has = has
  unless_wrong_always fault has = tt

  unless_wrong_once : (found : Audit) → Determined stage files → Determined (unless_wrong found stage) files
  unless_wrong_once Same one = one
  unless_wrong_once fault one = tt

module _ (version : Version) (files : Files) (g : WeightedGraph) (graph : IsGraph g.n g.edges) (i : HubIndex) (well : IsWellFormed i.order i.rows) (edges : List Edge) (is_longer : IsGraph g.n (g.edges ++ edges)) where
  opened_always : Answerable (opened_stage version g i edges) files
  opened_always = either_always _ (NotOfGraph (Sizes g.n (length i.order))) files (g.n == length i.order) (λ same.
      let size = sym (eqb-true g.n (length i.order) same) in
      let found = audit_exists g i.order i graph size well in (
        found.0,
        found.1,
        unless_wrong_always (rows_stage (file_stage version) (longer g edges) i.order) files found.0
            (rows_always (file_stage version) files (longer g edges) is_longer i.order (well.ranking, size) (λ rows. file_always files (longer g edges) i.order rows version)),
      ))

  opened_once : Determined (opened_stage version g i edges) files
  opened_once = either_once _ (NotOfGraph (Sizes g.n (length i.order))) files (g.n == length i.order) (λ same.
      let size = sym (eqb-true g.n (length i.order) same) in (
        audit_unique g i.order i size,
        λ found is. unless_wrong_once (rows_stage (file_stage version) (longer g edges) i.order) files found
            (rows_once (file_stage version) files (longer g edges) is_longer i.order (well.ranking, size) (λ rows. file_once files (longer g edges) i.order rows version)),
      ))

module _ (version : Version) (graph index edits : List ℕ) (files : Files) where
  pub open_always : Answerable (open_stage version graph index edits) files
  open_always = λ g graph_is stored index_is edges edits_are.
      let is_graph = graph_of_stage graph files g graph_is in
      opened_always version files g is_graph (without_vias stored) (stored_well stored (index_of_stage index files stored index_is)) edges (longer_of_stage g.n edits files g.edges edges edits_are is_graph)

  pub open_once : Determined (open_stage version graph index edits) files
  open_once = λ g graph_is stored index_is edges edits_are.
      let is_graph = graph_of_stage graph files g graph_is in
      opened_once version files g is_graph (without_vias stored) (stored_well stored (index_of_stage index files stored index_is)) edges (longer_of_stage g.n edits files g.edges edges edits_are is_graph)
