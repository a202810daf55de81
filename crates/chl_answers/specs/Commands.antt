-- The commands: what each reads and works out in turn, and where its bytes go. A new command is a stage and a case of
-- `command_of`.
use Rattle.std.specs.Prelude.{◌≡◌, ℕ, ◌*◌, List, [], ◌∷◌, ◌++◌, ◌==◌, Bool, true, false, length, codes, Option, Some, None, Result, Ok, Err}
use Rattle.std.specs.List.{AllZip}
use Rattle.std.specs.Option.{option_or}
use Rattle.desk_io.specs.Contents.{Files}
use Rattle.grid_work.specs.Grid.{grid, grid_edges}
use Rattle.grid_work.specs.Totals.{totals_of}
use Rattle.entry_vias.specs.RowVias.{AreVias, TracedHubIndex}
use Rattle.hub_index.specs.HubIndex.{HubIndex}
use Rattle.hub_query.specs.Paths.{IsPathOf}
use Rattle.hub_query.specs.declared.path_answer.Path.{Path as AnyPath}
use Rattle.hub_query.specs.declared.path_answer.Path.TheVariants.{Sizes as OtherSizes, Unreachable, Walk, Stuck as StuckAt}
use Rattle.index_audit.specs.Audited.{IsAuditOf}
use Rattle.index_audit.specs.TracedAudits.{IsTracedAuditOf}
use Rattle.index_audit.specs.Upgrades.{IsUpgradeOf}
use Rattle.index_audit.specs.declared.answer.Audit.{Audit as AnyAudit}
use Rattle.index_audit.specs.declared.answer.Audit.TheVariants.{Same}
use Rattle.index_audit.specs.declared.upgraded.Upgrade.{Upgrade as AnyUpgrade}
use Rattle.index_audit.specs.declared.upgraded.Upgrade.TheVariants.{Not, Made}
use Rattle.index_file.specs.Layout.{index_bytes, via_bytes}
use Rattle.index_file.specs.Stored.{without_vias}
use Rattle.index_file.specs.declared.stored_index.StoredIndex.{StoredIndex}
use Rattle.index_file.specs.declared.stored_index.StoredIndex.TheVariants.{Plain, Traced}
use Rattle.near_points.specs.Nearest.{IsNearest}
use Rattle.near_points.specs.declared.hit.Hit.{Hit}
use Rattle.via_trace.specs.Traces.{IsTraceOf}
use Rattle.via_trace.specs.declared.trace_answer.Trace.{Trace as AnyTrace}
use Rattle.via_trace.specs.declared.trace_answer.Trace.TheVariants as traces
use Rattle.walk_laws.specs.declared.entry.Entry.{Entry}
use Rattle.walk_laws.specs.declared.graph.Edge.{Edge}
use Rattle.walk_laws.specs.Answer.{IsAnswer}
use Rattle.walk_laws.specs.Graph.{WeightedGraph}
use Rattle.walk_laws.specs.Joined.{Joined}
use Rattle.walk_laws.specs.Labelling.{IsChl}
use Rattle.walk_laws.specs.Meet.{IsMeet}
use Rattle.walk_laws.specs.Overflow.{IsFirstTooFar, Overflows}
use Rattle.walk_laws.specs.Ranking.{IsRanking}
use Rattle.chl_inputs.specs.Inputs.{graph_input, order_input, pairs_input, points_input, sources_input, index_input, edits_input}
use Rattle.chl_inputs.specs.Stages.{Stage, Comes, Works, Reads, Decided}
use Rattle.chl_inputs.specs.declared.stop.Stop.{Stop}
use Rattle.chl_inputs.specs.declared.stop.Stop.TheVariants.{Differs, NotOfGraph, NoVias, Broken, Overflow}
use Rattle.chl_inputs.specs.declared.stop.NotOf.TheVariants.{Sizes, Stuck}
use Rattle.chl_lines.specs.PrintedAnswers.{answer_lines}
use Rattle.chl_lines.specs.PrintedGrids.{grid_lines}
use Rattle.chl_lines.specs.PrintedHits.{near_lines}
use Rattle.chl_lines.specs.PrintedOrders.{order_lines}
use Rattle.chl_lines.specs.PrintedRows.{lines_from}
use Rattle.chl_lines.specs.PrintedWalks.{walk_lines, trace_lines}
use Rattle.chl_lines.specs.declared.grid.GridReport.{GridReport}
use Rattle.rank_table.specs.ByDegree.{IsByDegree}
use Rattle.chl_words.specs.declared.asked.Asked.{Asked}
use Rattle.chl_words.specs.declared.asked.Asked.TheVariants.{List as ListRows, Build, Solve, Query, Path, Trace, Near, Audit, Upgrade, Open, Degree, Rank, Grid}
use Rattle.chl_words.specs.declared.asked.Version.{Version}
use Rattle.chl_words.specs.declared.asked.Version.TheVariants.{One, Two}

-- a node, and a hub of it
pub record HubOf : Type 0 where
  pub v : ℕ
  pub hub : ℕ

-- of the hubs that are too far for an index the first one, with its node, or none where there is none
abbrev pub TellsOverflow : (ℕ → ℕ → ℕ → Type 0) → List ℕ → Option HubOf → Type 0
TellsOverflow J at None = ¬ Overflows J at
TellsOverflow J at (Some far) = IsFirstTooFar J at far.hub far.v

-- a stage where no hub is too far; else the stop at the first one
abbrev pub unless_far : {V : Type 0} → Option HubOf → Stage V → Stage V
unless_far None stage = stage
unless_far (Some far) stage = Comes (Err (Overflow far.v far.hub))

-- a stage for a graph and a ranking whose labelling fits an index; else the stop at the first hub that is too far
abbrev pub for_fitting : {V : Type 0} → WeightedGraph → List ℕ → Stage V → Stage V
for_fitting g at stage = Works (λ far. TellsOverflow (Joined g.edges) at far) (λ far. unless_far far stage)

-- the rows of the canonical hub labelling of a graph under a ranking, which fit an index, and what comes of them
abbrev pub rows_stage : (WeightedGraph → List ℕ → List (List Entry) → Stage (List ℕ)) → WeightedGraph → List ℕ → Stage (List ℕ)
rows_stage next g at = for_fitting g at (Works (λ rows. IsChl (Joined g.edges) at rows) (λ rows. next g at rows))

-- a graph, a ranking of its nodes, and what comes of the rows
abbrev pub labelling_stage : (WeightedGraph → List ℕ → List (List Entry) → Stage (List ℕ)) → List ℕ → List ℕ → Stage (List ℕ)
labelling_stage next graph order =
    Reads (graph_input graph) (λ g.
    Reads (order_input g.n order) (λ at.
    rows_stage next g at))

-- `list`: the lines of the rows
abbrev pub list_stage : List ℕ → List ℕ → Stage (List ℕ)
list_stage graph order = labelling_stage (λ g at rows. Comes (Ok (lines_from at 1 rows))) graph order

-- the bytes of the index file of rows: of version 1 with the rows alone, of version 2 with their vias, too
abbrev pub file_stage : Version → WeightedGraph → List ℕ → List (List Entry) → Stage (List ℕ)
file_stage One g at rows = Comes (Ok (index_bytes at rows))
file_stage Two g at rows = Works (λ vias. AreVias (Joined g.edges) rows vias) (λ vias. Comes (Ok (via_bytes at rows vias)))

-- the bytes are those of the index file of a version, of the labelling of a graph under a ranking
abbrev pub IsFileOf : Version → WeightedGraph → List ℕ → List ℕ → Type 0
IsFileOf One g at bytes = (rows : List (List Entry)) × IsChl (Joined g.edges) at rows × (bytes ≡ index_bytes at rows)
IsFileOf Two g at bytes = (rows : List (List Entry)) × IsChl (Joined g.edges) at rows × ((vias : List (List ℕ)) × AreVias (Joined g.edges) rows vias × (bytes ≡ via_bytes at rows vias))

-- `build`: the bytes of the index file of a version
abbrev pub build_stage : Version → List ℕ → List ℕ → Stage (List ℕ)
build_stage version graph order = labelling_stage (file_stage version) graph order

-- each pair has an answer that is its own
abbrev pub AreAnswers : {A : Type 0} → (ℕ → ℕ → A → Type 0) → List (ℕ × ℕ) → List A → Type 0
AreAnswers IsOwn pairs answers = AllZip (λ pair a. IsOwn pair.0 pair.1 a) pairs answers

-- the lines of pairs with their answers
abbrev pub answers_stage : (ℕ → ℕ → Option (ℕ × ℕ) → Type 0) → List (ℕ × ℕ) → Stage (List ℕ)
answers_stage IsOwn pairs = Works (λ answers. AreAnswers IsOwn pairs answers) (λ answers. Comes (Ok (answer_lines pairs answers)))

-- `solve`: a graph, a ranking of its nodes, whose labelling fits an index, and pairs of them, each with the least length of a
-- walk and the highest-ranked node on the shortest walks, or that no walk leads there
abbrev pub solve_stage : List ℕ → List ℕ → List ℕ → Stage (List ℕ)
solve_stage graph order pairs =
    Reads (graph_input graph) (λ g.
    Reads (order_input g.n order) (λ at.
    Reads (pairs_input g.n pairs) (λ asked.
    for_fitting g at (
    answers_stage (IsAnswer (Joined g.edges) at) asked))))

-- pairs of the nodes of an index, each with what the rows of the index say of it
abbrev pub meets_stage : HubIndex → List ℕ → Stage (List ℕ)
meets_stage i pairs = Reads (pairs_input (length i.order) pairs) (λ asked. answers_stage (IsMeet i.order i.rows) asked)

-- `query`: an index, with vias or without, and pairs of its nodes, each with what the rows say of it
abbrev pub query_stage : List ℕ → List ℕ → Stage (List ℕ)
query_stage index pairs = Reads (index_input index) (λ stored. meets_stage (without_vias stored) pairs)

-- the first stop at an answer
abbrev pub first_stop : {A : Type 0} → (A → Option Stop) → List A → Option Stop
first_stop stop_at [] = None
first_stop stop_at (a ∷ answers) = option_or (stop_at a) (first_stop stop_at answers)

-- where a walk shows that the index is of another graph, the stop there
abbrev pub walk_stop : AnyPath → Option Stop
walk_stop (OtherSizes graph index) = Some (NotOfGraph (Sizes graph index))
walk_stop Unreachable = None
walk_stop (Walk long nodes) = None
walk_stop (StuckAt at to) = Some (NotOfGraph (Stuck at to))

-- where a trace is broken, the stop there
abbrev pub trace_stop : AnyTrace → Option Stop
trace_stop traces.Unreachable = None
trace_stop (traces.Broken at hub) = Some (Broken at hub)
trace_stop (traces.Walk long nodes) = None

-- a text, where there is no stop
abbrev pub unless_stopped : Option Stop → List ℕ → Result (List ℕ) Stop
unless_stopped None text = Ok text
unless_stopped (Some stop) text = Err stop

-- the lines of pairs with their walks, or the first stop
abbrev pub walks_text : List (ℕ × ℕ) → List AnyPath → Result (List ℕ) Stop
walks_text pairs walks = unless_stopped (first_stop walk_stop walks) (walk_lines pairs walks)

-- the lines of pairs with their traces, or the first stop
abbrev pub traces_text : List (ℕ × ℕ) → List AnyTrace → Result (List ℕ) Stop
traces_text pairs told = unless_stopped (first_stop trace_stop told) (trace_lines pairs told)

-- a stage where a test holds, and else a stop
abbrev pub stage_if : {V : Type 0} → Bool → Stop → Stage V → Stage V
stage_if true stop stage = stage
stage_if false stop stage = Comes (Err stop)

-- a stage for a graph and an index of as many nodes; else the index is of another graph
abbrev pub for_sizes : {V : Type 0} → ℕ → ℕ → Stage V → Stage V
for_sizes graph index stage = stage_if (graph == index) (NotOfGraph (Sizes graph index)) stage

-- an index of as many nodes as a graph, and pairs of them, each with the walk of the graph by the rows of the index
abbrev pub paths_stage : WeightedGraph → HubIndex → List ℕ → Stage (List ℕ)
paths_stage g i pairs =
    for_sizes g.n (length i.order) (
    Reads (pairs_input (length i.order) pairs) (λ asked.
    Works (λ walks. AreAnswers (IsPathOf g i) asked walks) (λ walks.
    Comes (walks_text asked walks))))

-- `path`: a graph, an index of as many nodes, with vias or without, and pairs of them, each with the walk of the graph by the rows of the index
abbrev pub path_stage : List ℕ → List ℕ → List ℕ → Stage (List ℕ)
path_stage graph index pairs =
    Reads (graph_input graph) (λ g.
    Reads (index_input index) (λ stored.
    paths_stage g (without_vias stored) pairs))

-- an index with vias, and pairs of its nodes, each with its trace
abbrev pub traces_stage : TracedHubIndex → List ℕ → Stage (List ℕ)
traces_stage t pairs =
    Reads (pairs_input (length t.order) pairs) (λ asked.
    Works (λ told. AreAnswers (IsTraceOf t) asked told) (λ told.
    Comes (traces_text asked told)))

-- a stage for an index with vias; else it has none
abbrev pub for_vias : {V : Type 0} → StoredIndex → (TracedHubIndex → Stage V) → Stage V
for_vias (Plain i) stage = Comes (Err NoVias)
for_vias (Traced t) stage = stage t

-- `trace`: an index with vias, and pairs of its nodes, each with the walk that the vias tell
abbrev pub trace_stage : List ℕ → List ℕ → Stage (List ℕ)
trace_stage index pairs = Reads (index_input index) (λ stored. for_vias stored (λ t. traces_stage t pairs))

-- each source has its hits, the first k of the points, each at its distance from the source
abbrev pub AreNearest : HubIndex → List ℕ → ℕ → List ℕ → List (List Hit) → Type 0
AreNearest i points k sources hits = AllZip (λ source own. IsNearest i.order i.rows points source k own) sources hits

-- points and sources among the nodes of an index, and of each source the k points that the rows say are nearest
abbrev pub hits_stage : HubIndex → List ℕ → List ℕ → ℕ → Stage (List ℕ)
hits_stage i points from k =
    Reads (points_input (length i.order) points) (λ nodes.
    Reads (sources_input (length i.order) from) (λ sources.
    Works (λ hits. AreNearest i nodes k sources hits) (λ hits.
    Comes (Ok (near_lines sources hits)))))

-- `near`: an index, with vias or without, points among its nodes, and sources, each with the k points that are nearest to it
abbrev pub near_stage : List ℕ → List ℕ → List ℕ → ℕ → Stage (List ℕ)
near_stage index points from k = Reads (index_input index) (λ stored. hits_stage (without_vias stored) points from k)

-- the line `same`, ended by one LF, or what is wrong with an index
abbrev pub audit_text : AnyAudit → Result (List ℕ) Stop
audit_text Same = Ok (codes "same" ++ 10 ∷ [])
audit_text fault = Err (Differs fault)

-- what the audit of an index finds: what is wrong with its rows, and where it has vias, with these
abbrev pub IsStoredAuditOf : WeightedGraph → List ℕ → StoredIndex → AnyAudit → Type 0
IsStoredAuditOf g at (Plain i) found = IsAuditOf g at i found
IsStoredAuditOf g at (Traced t) found = IsTracedAuditOf g at t found

-- `audit`: a graph, a ranking of its nodes, and an index, which is theirs, or else differs
abbrev pub audit_stage : List ℕ → List ℕ → List ℕ → Stage (List ℕ)
audit_stage graph order index =
    Reads (graph_input graph) (λ g.
    Reads (order_input g.n order) (λ at.
    Reads (index_input index) (λ stored.
    Works (λ found. IsStoredAuditOf g at stored found) (λ found.
    Comes (audit_text found)))))

-- the bytes of the file of version 2, or what is wrong with an index
abbrev pub upgrade_text : AnyUpgrade → Result (List ℕ) Stop
upgrade_text (Not fault) = Err (Differs fault)
upgrade_text (Made t) = Ok (via_bytes t.order t.rows t.vias)

-- an index of as many nodes as a graph, and the bytes of its file of version 2; or it isn't the graph's
abbrev pub upgrades_stage : WeightedGraph → HubIndex → Stage (List ℕ)
upgrades_stage g i = for_sizes g.n (length i.order) (Works (λ made. IsUpgradeOf g i made) (λ made. Comes (upgrade_text made)))

-- `upgrade`: a graph, and an index of it, whose vias, if it has any, are made anew
abbrev pub upgrade_stage : List ℕ → List ℕ → Stage (List ℕ)
upgrade_stage graph index =
    Reads (graph_input graph) (λ g.
    Reads (index_input index) (λ stored.
    upgrades_stage g (without_vias stored)))

-- a stage for an index that is the labelling of a graph under its own ranking; else the stop at what is wrong with it first
abbrev pub unless_wrong : {V : Type 0} → AnyAudit → Stage V → Stage V
unless_wrong Same stage = stage
unless_wrong fault stage = Comes (Err (Differs fault))

abbrev pub for_audited : {V : Type 0} → WeightedGraph → HubIndex → Stage V → Stage V
for_audited g i stage = Works (λ found. IsAuditOf g i.order i found) (λ found. unless_wrong found stage)

-- the graph with these edges appended to its list
abbrev pub longer : WeightedGraph → List Edge → WeightedGraph
longer g edges = record { n = g.n; edges = g.edges ++ edges }

-- an index of as many nodes as a graph, which is the graph's, and the bytes of the index file of the longer graph under the same
-- ranking
abbrev pub opened_stage : Version → WeightedGraph → HubIndex → List Edge → Stage (List ℕ)
opened_stage version g i edges = for_sizes g.n (length i.order) (for_audited g i (rows_stage (file_stage version) (longer g edges) i.order))

-- edges between the nodes of a graph, and what comes of them and of an index
abbrev pub edits_stage : Version → WeightedGraph → HubIndex → List ℕ → Stage (List ℕ)
edits_stage version g i edits = Reads (edits_input g.n edits) (λ edges. opened_stage version g i edges)

-- `open`: a graph, an index of it, whose vias, if it has any, play no part, and edges between the graph's nodes
abbrev pub open_stage : Version → List ℕ → List ℕ → List ℕ → Stage (List ℕ)
open_stage version graph index edits =
    Reads (graph_input graph) (λ g.
    Reads (index_input index) (λ stored.
    edits_stage version g (without_vias stored) edits))

-- `degree`: a graph, and the order text of its nodes by falling degree
abbrev pub degree_stage : List ℕ → Stage (List ℕ)
degree_stage graph = Reads (graph_input graph) (λ g. Works (λ at. IsByDegree g at) (λ at. Comes (Ok (order_lines at))))

-- a ranking of the nodes 1..n
abbrev pub IsRankingOf : ℕ → List ℕ → Type 0
IsRankingOf n at = IsRanking at × (length at ≡ n)

-- `rank`: a graph, and the order text of a ranking of its nodes, whichever
abbrev pub rank_stage : List ℕ → Stage (List ℕ)
rank_stage graph = Reads (graph_input graph) (λ g. Works (λ at. IsRankingOf g.n at) (λ at. Comes (Ok (order_lines at))))

-- what there is to say of the grid of a side and a seed whose index has these rows, by whichever construction
abbrev pub grid_report : ℕ → ℕ → List (List Entry) → GridReport
grid_report side seed rows = record {
  side = side;
  seed = seed;
  nodes = side * side;
  edges = length (grid_edges side seed);
  plant = totals_of rows;
  lcc = totals_of rows;
  gll = totals_of rows;
}

-- the text is that of the grid: its lines, for the rows of its canonical hub labelling under its ranking by degree
abbrev pub IsGridText : ℕ → ℕ → List ℕ → Type 0
IsGridText side seed text =
    (at : List ℕ) × IsByDegree (grid side seed) at
    × ((rows : List (List Entry)) × IsChl (Joined (grid_edges side seed)) at rows × (text ≡ grid_lines (grid_report side seed rows)))

-- `grid`: the grid of a side and a seed, its ranking by degree, the rows of its labelling, and their lines. No file is read.
abbrev pub grid_stage : ℕ → ℕ → Stage (List ℕ)
grid_stage side seed =
    Works (λ at. IsByDegree (grid side seed) at) (λ at.
    Works (λ rows. IsChl (Joined (grid_edges side seed)) at rows) (λ rows.
    Comes (Ok (grid_lines (grid_report side seed rows)))))

-- a command: its stage, and the file that it creates for its bytes, or none where it says them
pub record Command : Type 1 where
  pub stage : Stage (List ℕ)
  pub place : Option (List ℕ)

abbrev pub command_of : Asked → Command
command_of (ListRows graph order) = record { stage = list_stage graph order; place = None }
command_of (Build graph order out version construction) = record { stage = build_stage version graph order; place = Some out }
command_of (Solve graph order pairs construction) = record { stage = solve_stage graph order pairs; place = None }
command_of (Query index pairs) = record { stage = query_stage index pairs; place = None }
command_of (Path graph index pairs) = record { stage = path_stage graph index pairs; place = None }
command_of (Trace index pairs) = record { stage = trace_stage index pairs; place = None }
command_of (Near index points from k) = record { stage = near_stage index points from k; place = None }
command_of (Audit graph order index) = record { stage = audit_stage graph order index; place = None }
command_of (Upgrade graph index out) = record { stage = upgrade_stage graph index; place = Some out }
command_of (Open graph index edits out version) = record { stage = open_stage version graph index edits; place = Some out }
command_of (Degree graph) = record { stage = degree_stage graph; place = None }
command_of (Rank graph) = record { stage = rank_stage graph; place = None }
command_of (Grid grid) = record { stage = grid_stage grid.side grid.seed; place = None }

abbrev pub stage_of : Asked → Stage (List ℕ)
stage_of asked = (command_of asked).stage

abbrev pub place_of : Asked → Option (List ℕ)
place_of asked = (command_of asked).place

-- what the files decide of a command: the bytes that it gives, or why it gives none
abbrev pub Decides : Asked → Files → Result (List ℕ) Stop → Type 0
Decides asked files answer = Decided (stage_of asked) files answer
