-- What the files decide: always something, and one thing.
use Rattle.std.proofs.Common.{◌≡◌, ◌≤◌, ℕ, List, length, ap, refl, sym, ◌∙◌, arith, eqb-true}
use Rattle.std.specs.Prelude.{◌==◌, Option, Result, Ok, Err}
use Rattle.desk_io.specs.Contents.{Files}
use Rattle.grid_work.specs.Grid.{grid, grid_edges}
use Rattle.grid_work.proofs.GridGraphs.{grid_weights}
use Rattle.hub_query.proofs.Meetings.{meet_exists, meet_unique}
use Rattle.hub_query.proofs.PathsDecided.{path_exists, path_unique}
use Rattle.hub_query.specs.Paths.{IsPathOf}
use Rattle.index_audit.proofs.OneUpgrade.{upgrade_exists, upgrade_unique}
use Rattle.index_file.specs.Stored.{IsStored, without_vias}
use Rattle.index_file.specs.declared.stored_index.StoredIndex.{StoredIndex}
use Rattle.index_file.specs.declared.stored_index.StoredIndex.TheVariants.{Plain, Traced}
use Rattle.near_points.specs.Nearest.{IsNearest, IsPointAway}
use Rattle.near_points.proofs.HitOrder.{AreFirst-unique}
use Rattle.near_points.proofs.NearestPoints.{nearest_exist}
use Rattle.via_trace.specs.Traces.{IsTraceOf}
use Rattle.via_trace.proofs.EachTrace.{trace_exists}
use Rattle.via_trace.proofs.OneTrace.{trace_unique}
use Rattle.walk_laws.specs.declared.entry.Entry.{Entry}
use Rattle.walk_laws.specs.Graph.{WeightedGraph, IsGraph}
use Rattle.walk_laws.specs.Joined.{Joined}
use Rattle.walk_laws.specs.Labelling.{IsChl}
use Rattle.walk_laws.specs.Ranking.{IsRanking}
use Rattle.walk_laws.specs.Answer.{IsAnswer}
use Rattle.walk_laws.specs.Meet.{IsMeet}
use Rattle.walk_laws.proofs.AnswersOfPairs.{IsAnswer-exists, IsAnswer-unique, IsMeet-IsAnswer}
use Rattle.walk_laws.proofs.Positions.{position-lt}
use Rattle.walk_laws.proofs.JoinedDecisions.{IsCanonical-joined_decided}
use Rattle.walk_laws.proofs.JoinedEdges.{weights_of_edges}
use Rattle.walk_laws.proofs.LabellingExists.{IsChl-exists}
use Rattle.walk_laws.proofs.LabelRows.{IsChl-unique}
use Rattle.chl_inputs.specs.Inputs.{value_at, graph_input, ArePairsWithin}
use Rattle.chl_inputs.specs.Stages.{After, Comes}
use Rattle.chl_inputs.specs.declared.stop.Stop.{Stop}
use Rattle.chl_inputs.specs.declared.stop.Stop.TheVariants.{NotOfGraph}
use Rattle.chl_inputs.specs.declared.stop.NotOf.TheVariants.{Sizes}
use Rattle.chl_inputs.proofs.StageLaws.{Answerable, Determined, decided_always, decided_once}
use Rattle.chl_inputs.proofs.StagesInTurn.{same_value}
use Rattle.chl_lines.specs.PrintedOrders.{order_lines}
use Rattle.chl_lines.specs.PrintedRows.{lines_from}
use Rattle.chl_answers.specs.Commands.{Decides, stage_of, file_stage, solve_stage, query_stage, path_stage, near_stage, trace_stage, traces_stage, for_vias, audit_stage, upgrade_stage, degree_stage, rank_stage, grid_stage, answers_stage, AreAnswers, IsRankingOf}
use Rattle.chl_answers.specs.Laws.{AreAlike, IsRankingText}
use Rattle.chl_answers.specs.Statuses.{status_after}
use Rattle.chl_words.specs.declared.asked.Asked.{Asked}
use Rattle.chl_words.specs.declared.asked.Asked.TheVariants.{List as ListRows, Build, Solve, Query, Path, Trace, Near, Audit, Upgrade, Open, Degree, Rank, Grid}
use Rattle.rank_table.proofs.DegreeRankings.{ranked_by_degree, IsByDegree-unique}
use Rattle.chl_answers.proofs.EachAnswer.{each_exists, each_unique}
use Rattle.chl_answers.proofs.FittingStages.{either_always, either_once, file_always, file_once, fitting_always, fitting_once, labelling_always, labelling_once}
use Rattle.chl_answers.proofs.InputValues.{graph_of_stage, index_of_stage, pairs_of_stage, points_of_stage, ranking_of_stage, sources_of_stage}
use Rattle.chl_answers.proofs.OpenedEdges.{open_always, open_once}
use Rattle.chl_answers.proofs.PairAnswers.{answers_exist, answers_unique, answers_told}
use Rattle.chl_answers.proofs.StoredIndexes.{stored_audit_exists, stored_audit_unique, stored_well}

-- the answers of pairs in a graph
module _ (g : WeightedGraph) (graph : IsGraph g.n g.edges) (at : List ℕ) (ranking : IsRanking at) (size : length at ≡ g.n) where
  answer_exists : (u v : ℕ) → 1 ≤ u → u ≤ g.n → 1 ≤ v → v ≤ g.n → (a : Option (ℕ × ℕ)) × IsAnswer (Joined g.edges) at u v a
  answer_exists u v first first_within second second_within =
      IsAnswer-exists g.edges (weights_of_edges g.n g.edges graph.edge) at ranking u v first (omega (arith, size))

  answer_unique : (u v : ℕ) (a b : Option (ℕ × ℕ)) → 1 ≤ u → u ≤ g.n → 1 ≤ v → v ≤ g.n → IsAnswer (Joined g.edges) at u v a → IsAnswer (Joined g.edges) at u v b → a ≡ b
  answer_unique u v a b first first_within second second_within one other =
      IsAnswer-unique (Joined g.edges) at u v (position-lt at u ranking first (omega (arith, size))) a b one other

  -- what the rows of the labelling say
  pub answers_of_rows : (rows : List (List Entry)) → IsChl (Joined g.edges) at rows → (pairs : List (ℕ × ℕ)) → ArePairsWithin g.n pairs → (answers : List (Option (ℕ × ℕ))) → AreAnswers (IsMeet at rows) pairs answers → AreAnswers (IsAnswer (Joined g.edges) at) pairs answers
  answers_of_rows rows chl pairs within answers meets =
      answers_told g.n (IsMeet at rows) (IsAnswer (Joined g.edges) at) (λ u v a first first_within second second_within meet.
      (IsMeet-IsAnswer g.edges (weights_of_edges g.n g.edges graph.edge) at ranking u v first (omega (arith, size)) second (omega (arith, size)) rows chl a).0 meet)
      pairs within answers meets

-- the lines of answers
module _ (n : ℕ) (IsOwn : ℕ → ℕ → Option (ℕ × ℕ) → Type 0) (pairs : List (ℕ × ℕ)) (within : ArePairsWithin n pairs) (files : Files) where
  lines_always : ((u v : ℕ) → 1 ≤ u → u ≤ n → 1 ≤ v → v ≤ n → (a : Option (ℕ × ℕ)) × IsOwn u v a) → Answerable (answers_stage IsOwn pairs) files
  lines_always some = let answers = answers_exist n IsOwn some pairs within in (answers.0, answers.1, tt)

  lines_once : ((u v : ℕ) (a b : Option (ℕ × ℕ)) → 1 ≤ u → u ≤ n → 1 ≤ v → v ≤ n → IsOwn u v a → IsOwn u v b → a ≡ b) → Determined (answers_stage IsOwn pairs) files
  lines_once one = (answers_unique n IsOwn one pairs within, λ answers own. tt)

module _ (graph order pairs : List ℕ) (files : Files) where
  solve_always : Answerable (solve_stage graph order pairs) files
  solve_always = λ g graph_is at order_is asked pairs_is.
      let is_graph = graph_of_stage graph files g graph_is in
      let rank = ranking_of_stage g.n order files at order_is in
      fitting_always (answers_stage (IsAnswer (Joined g.edges) at) asked) files g is_graph at rank
      (lines_always g.n (IsAnswer (Joined g.edges) at) asked (pairs_of_stage g.n pairs files asked pairs_is) files (answer_exists g is_graph at rank.0 rank.1))

  solve_once : Determined (solve_stage graph order pairs) files
  solve_once = λ g graph_is at order_is asked pairs_is.
      let is_graph = graph_of_stage graph files g graph_is in
      let rank = ranking_of_stage g.n order files at order_is in
      fitting_once (answers_stage (IsAnswer (Joined g.edges) at) asked) files g is_graph at rank
      (lines_once g.n (IsAnswer (Joined g.edges) at) asked (pairs_of_stage g.n pairs files asked pairs_is) files (answer_unique g is_graph at rank.0 rank.1))

module _ (index pairs : List ℕ) (files : Files) where
  query_always : Answerable (query_stage index pairs) files
  query_always = λ stored index_is asked pairs_is.
      let i = without_vias stored in
      lines_always (length i.order) (IsMeet i.order i.rows) asked (pairs_of_stage (length i.order) pairs files asked pairs_is) files
      (λ u v. meet_exists i.order i.rows u v (stored_well stored (index_of_stage index files stored index_is)))

  query_once : Determined (query_stage index pairs) files
  query_once = λ stored index_is asked pairs_is.
      let i = without_vias stored in
      lines_once (length i.order) (IsMeet i.order i.rows) asked (pairs_of_stage (length i.order) pairs files asked pairs_is) files
      (λ u v a b first first_within second second_within one other. meet_unique i.order i.rows u v a b one other)

module _ (graph index pairs : List ℕ) (files : Files) where
  path_always : Answerable (path_stage graph index pairs) files
  path_always = λ g graph_is stored index_is.
      let i = without_vias stored in
      either_always _ (NotOfGraph (Sizes g.n (length i.order))) files (g.n == length i.order) (λ same asked pairs_is.
      let walks = answers_exist (length i.order) (IsPathOf g i)
      (λ u v. path_exists g i u v (graph_of_stage graph files g graph_is) (stored_well stored (index_of_stage index files stored index_is)))
      asked (pairs_of_stage (length i.order) pairs files asked pairs_is) in
      (walks.0, walks.1, tt))

  path_once : Determined (path_stage graph index pairs) files
  path_once = λ g graph_is stored index_is.
      let i = without_vias stored in
      either_once _ (NotOfGraph (Sizes g.n (length i.order))) files (g.n == length i.order) (λ same asked pairs_is. (
        answers_unique (length i.order) (IsPathOf g i) (λ u v a b first first_within second second_within one other. path_unique g i u v a b one other)
            asked (pairs_of_stage (length i.order) pairs files asked pairs_is),
        λ walks own. tt,
      ))

module _ (index pairs : List ℕ) (files : Files) where
  -- with vias each pair has its trace, and one only
  traced_always : (stored : StoredIndex) → IsStored stored → Answerable (for_vias stored (λ t. traces_stage t pairs)) files
  traced_always (Plain i) sound = tt
  traced_always (Traced t) sound = λ asked pairs_is.
      let told = answers_exist (length t.order) (IsTraceOf t) (trace_exists t sound.0 sound.1) asked (pairs_of_stage (length t.order) pairs files asked pairs_is) in
      (told.0, told.1, tt)

  traced_once : (stored : StoredIndex) → IsStored stored → Determined (for_vias stored (λ t. traces_stage t pairs)) files
  traced_once (Plain i) sound = tt
  traced_once (Traced t) sound = λ asked pairs_is. (
    answers_unique (length t.order) (IsTraceOf t) (λ u v a b first first_within second second_within. trace_unique t sound.0 sound.1 u v first first_within second second_within a b)
        asked (pairs_of_stage (length t.order) pairs files asked pairs_is),
    λ told own. tt,
  )

  trace_always : Answerable (trace_stage index pairs) files
  trace_always = λ stored index_is. traced_always stored (index_of_stage index files stored index_is)

  trace_once : Determined (trace_stage index pairs) files
  trace_once = λ stored index_is. traced_once stored (index_of_stage index files stored index_is)

module _ (index points from : List ℕ) (k : ℕ) (files : Files) where
  near_always : Answerable (near_stage index points from k) files
  near_always = λ stored index_is nodes points_is sources from_is.
      let i = without_vias stored in
      let n = length i.order in
      let hits = each_exists (λ v. (1 ≤ v) × (v ≤ n)) (λ source own. IsNearest i.order i.rows nodes source k own)
      (λ source here. nearest_exist i.order i.rows source nodes k (stored_well stored (index_of_stage index files stored index_is)) (points_of_stage n points files nodes points_is) here.0 here.1)
      sources (sources_of_stage n from files sources from_is) in
      (hits.0, hits.1, tt)

  near_once : Determined (near_stage index points from k) files
  near_once = λ stored index_is nodes points_is sources from_is.
      let i = without_vias stored in
      let n = length i.order in (
        each_unique (λ v. (1 ≤ v) × (v ≤ n)) (λ source own. IsNearest i.order i.rows nodes source k own)
            (λ source a b here. AreFirst-unique (IsPointAway i.order i.rows nodes source) k a b)
            sources (sources_of_stage n from files sources from_is),
        λ hits own. tt,
      )

module _ (graph order index : List ℕ) (files : Files) where
  audit_always : Answerable (audit_stage graph order index) files
  audit_always = λ g graph_is at order_is stored index_is.
      let size = (ranking_of_stage g.n order files at order_is).1 in
      let found = stored_audit_exists g at size stored (graph_of_stage graph files g graph_is) (index_of_stage index files stored index_is) in
      (found.0, found.1, tt)

  audit_once : Determined (audit_stage graph order index) files
  audit_once = λ g graph_is at order_is stored index_is. (stored_audit_unique g at (ranking_of_stage g.n order files at order_is).1 stored, λ found told. tt)

module _ (graph index : List ℕ) (files : Files) where
  upgrade_always : Answerable (upgrade_stage graph index) files
  upgrade_always = λ g graph_is stored index_is.
      let i = without_vias stored in
      either_always _ (NotOfGraph (Sizes g.n (length i.order))) files (g.n == length i.order) (λ same.
      let made = upgrade_exists g i (graph_of_stage graph files g graph_is) (sym (eqb-true g.n (length i.order) same)) (stored_well stored (index_of_stage index files stored index_is)) in
      (made.0, made.1, tt))

  upgrade_once : Determined (upgrade_stage graph index) files
  upgrade_once = λ g graph_is stored index_is.
      let i = without_vias stored in
      either_once _ (NotOfGraph (Sizes g.n (length i.order))) files (g.n == length i.order) (λ same. (
        upgrade_unique g i (sym (eqb-true g.n (length i.order) same)),
        λ made own. tt,
      ))

module _ (graph : List ℕ) (files : Files) where
  degree_always : Answerable (degree_stage graph) files
  degree_always = λ g graph_is. let ranked = ranked_by_degree g in (ranked.0, ranked.1, tt)

  degree_once : Determined (degree_stage graph) files
  degree_once = λ g graph_is. (IsByDegree-unique g, λ at ranked. tt)

-- `rank` has a ranking, and any two answers are alike
module _ (graph : List ℕ) (files : Files) where
  rank_always : Answerable (rank_stage graph) files
  rank_always = λ g graph_is. let ranked = ranked_by_degree g in (ranked.0, (ranked.1.ranking, ranked.1.all), tt)

abbrev Ranked : WeightedGraph → Result (List ℕ) Stop → Type 0
Ranked g answer = (at : List ℕ) × IsRankingOf g.n at × (answer ≡ Ok (order_lines at))

ranked_text : (g : WeightedGraph) (text : List ℕ) → Ranked g (Ok text) → IsRankingText g.n text
ranked_text g text ranked = (ranked.0, ranked.1, same_value text (order_lines ranked.0) ranked.2)

ranked_stop : (g : WeightedGraph) (stop : Stop) → Ranked g (Err stop) → ⊥
ranked_stop g stop ranked = absurd (let e = ranked.2 in cc)

module _ (graph : List ℕ) (files : Files) where
  ranks_alike : (x y : Result (List ℕ) Stop) → (r : Result WeightedGraph Stop) → value_at (graph_input graph) files ≡ r → After r x (λ g. Ranked g x) → After r y (λ g. Ranked g y) → AreAlike (Rank graph) files x y
  ranks_alike (Ok text) (Ok other) (Ok g) is first second = (g, is, ranked_text g text first, ranked_text g other second)
  ranks_alike (Ok text) (Err stop) (Ok g) is first second = absurd (ranked_stop g stop second)
  ranks_alike (Err stop) y (Ok g) is first second = absurd (ranked_stop g stop first)
  ranks_alike (Ok text) y (Err stop) is first second = absurd cc
  ranks_alike (Err one) y (Err stop) is first second = first ∙ sym second

module _ (side seed : ℕ) (files : Files) where
  grid_always : Answerable (grid_stage side seed) files
  grid_always =
      let ranked = ranked_by_degree (grid side seed) in
      let rows = IsChl-exists (Joined (grid_edges side seed)) ranked.0 ranked.1.ranking (IsCanonical-joined_decided (grid_edges side seed) (grid_weights side seed) ranked.0 ranked.1.ranking) in
      (ranked.0, ranked.1, (rows.0, rows.1, tt))

  grid_once : Determined (grid_stage side seed) files
  grid_once = (IsByDegree-unique (grid side seed), λ at ranked. (IsChl-unique (Joined (grid_edges side seed)) at, λ rows chl. tt))

-- a case for each command
has_answer : (asked : Asked) (files : Files) → Answerable (stage_of asked) files
has_answer (ListRows graph order) files = labelling_always (λ g at rows. Comes (Ok (lines_from at 1 rows))) files graph order (λ g at rows. tt)
has_answer (Build graph order out version construction) files = labelling_always (file_stage version) files graph order (λ g at rows. file_always files g at rows version)
has_answer (Solve graph order pairs construction) files = solve_always graph order pairs files
has_answer (Query index pairs) files = query_always index pairs files
has_answer (Path graph index pairs) files = path_always graph index pairs files
has_answer (Trace index pairs) files = trace_always index pairs files
has_answer (Near index points from k) files = near_always index points from k files
has_answer (Audit graph order index) files = audit_always graph order index files
has_answer (Upgrade graph index out) files = upgrade_always graph index files
has_answer (Open graph index edits out version) files = open_always version graph index edits files
has_answer (Degree graph) files = degree_always graph files
has_answer (Rank graph) files = rank_always graph files
has_answer (Grid grid) files = grid_always grid.side grid.seed files

pub decides_always : (asked : Asked) (files : Files) → (answer : Result (List ℕ) Stop) × Decides asked files answer
decides_always asked files = decided_always (stage_of asked) files (has_answer asked files)

pub decides_once : (asked : Asked) (files : Files) (x y : Result (List ℕ) Stop) → Decides asked files x → Decides asked files y → AreAlike asked files x y
decides_once (ListRows graph order) files = decided_once (stage_of (ListRows graph order)) files (labelling_once (λ g at rows. Comes (Ok (lines_from at 1 rows))) files graph order (λ g at rows. tt))
decides_once (Build graph order out version construction) files = decided_once (stage_of (Build graph order out version construction)) files (labelling_once (file_stage version) files graph order (λ g at rows. file_once files g at rows version))
decides_once (Solve graph order pairs construction) files = decided_once (stage_of (Solve graph order pairs construction)) files (solve_once graph order pairs files)
decides_once (Query index pairs) files = decided_once (stage_of (Query index pairs)) files (query_once index pairs files)
decides_once (Path graph index pairs) files = decided_once (stage_of (Path graph index pairs)) files (path_once graph index pairs files)
decides_once (Trace index pairs) files = decided_once (stage_of (Trace index pairs)) files (trace_once index pairs files)
decides_once (Near index points from k) files = decided_once (stage_of (Near index points from k)) files (near_once index points from k files)
decides_once (Audit graph order index) files = decided_once (stage_of (Audit graph order index)) files (audit_once graph order index files)
decides_once (Upgrade graph index out) files = decided_once (stage_of (Upgrade graph index out)) files (upgrade_once graph index files)
decides_once (Open graph index edits out version) files = decided_once (stage_of (Open graph index edits out version)) files (open_once version graph index edits files)
decides_once (Degree graph) files = decided_once (stage_of (Degree graph)) files (degree_once graph files)
decides_once (Rank graph) files = λ x y. ranks_alike graph files x y (value_at (graph_input graph) files) refl
decides_once (Grid grid) files = decided_once (stage_of (Grid grid)) files (grid_once grid.side grid.seed files)

-- alike answers have one status
alike_status : (asked : Asked) (files : Files) (x y : Result (List ℕ) Stop) → AreAlike asked files x y → status_after x ≡ status_after y
alike_status (Rank graph) files (Ok text) (Ok other) alike = refl
alike_status asked files x y alike = ap status_after alike

pub decides_one_status : (asked : Asked) (files : Files) (x y : Result (List ℕ) Stop) → Decides asked files x → Decides asked files y → status_after x ≡ status_after y
decides_one_status asked files x y first second = alike_status asked files x y (decides_once asked files x y first second)
