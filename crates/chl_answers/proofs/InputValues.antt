-- What the inputs of a command come to: a graph is one, a ranking is one of so many nodes, and so are pairs and points; an index is
-- sound; and edges make a graph longer.
use Rattle.std.proofs.Common.{◌≡◌, ℕ, Bool, true, false, cond, List, length, take, nat_lt, ap}
use Rattle.std.specs.Prelude.{◌++◌, Option, Some, None, Result, Ok, Err}
use Rattle.std.specs.FinMap as finite_map
use Rattle.desk_io.specs.Contents.{Files}
use Rattle.desk_io.specs.Reading.{input_limit}
use Rattle.dimacs_text.proofs.TextsAccepted.{graph_accepted, pairs_accepted, edited_graph}
use Rattle.index_file.specs.Stored.{IsStored}
use Rattle.index_file.proofs.SoundIndexes.{IsStored-index_of}
use Rattle.index_file.specs.declared.stored_index.StoredIndex.{StoredIndex}
use Rattle.order_text.proofs.OrderNodes.{orders_rank, texts_of_nodes}
use Rattle.order_text.specs.OrderText.{AreWithin}
use Rattle.walk_laws.specs.declared.graph.Edge.{Edge}
use Rattle.walk_laws.specs.Graph.{WeightedGraph, IsGraph}
use Rattle.walk_laws.specs.Ranking.{IsRanking}
use Rattle.chl_inputs.specs.Inputs.{Input, value_at, value_of, judged, past_limit, graph_input, order_input, pairs_input, points_input, sources_input, index_input, edits_input, ArePairsWithin}
use Rattle.chl_inputs.specs.Stops.{graph_stop, order_stop, pairs_stop, points_stop, sources_stop, index_stop, edits_stop}
use Rattle.chl_inputs.specs.declared.stop.Stop.{Stop}

module _ {V F : Type 0} (stop : F → Stop) where
  judged_value : (r : Result V F) (v : V) → judged stop r ≡ Ok v → r ≡ Ok v
  judged_value (Ok w) v is = let same : w ≡ v = cc in ap Ok same
  judged_value (Err fault) v is = absurd cc

module _ {V : Type 0} where
  past_no_value : (o : Option Stop) (v : V) → past_limit o ≡ Ok v → ⊥
  past_no_value None v is = cc
  past_no_value (Some stop) v is = cc

  chosen_value : (b : Bool) (o : Option Stop) (r : Result V Stop) (v : V) → cond b (past_limit o) r ≡ Ok v → r ≡ Ok v
  chosen_value true o r v is = absurd (past_no_value o v is)
  chosen_value false o r v is = is

  -- an input that comes to a value is bytes that come to it
  value_bytes : (input : Input V) (file : Option (List ℕ)) (v : V) → value_of input file ≡ Ok v → (bytes : List ℕ) × (input.comes_to bytes ≡ Ok v)
  value_bytes input None v is = absurd cc
  value_bytes input (Some bytes) v is = (bytes, chosen_value (nat_lt input_limit (length bytes)) (input.plain (take input_limit bytes)) (input.comes_to bytes) v is)

pub graph_of_stage : (name : List ℕ) (files : Files) (g : WeightedGraph) → value_at (graph_input name) files ≡ Ok g → IsGraph g.n g.edges
graph_of_stage name files g is =
    let bytes = value_bytes (graph_input name) (finite_map.get files name) g is in
    (graph_accepted bytes.0 g (judged_value graph_stop _ g bytes.1)).0

pub ranking_of_stage : (n : ℕ) (name : List ℕ) (files : Files) (at : List ℕ) → value_at (order_input n name) files ≡ Ok at → IsRanking at × (length at ≡ n)
ranking_of_stage n name files at is =
    let bytes = value_bytes (order_input n name) (finite_map.get files name) at is in
    orders_rank n bytes.0 at (judged_value order_stop _ at bytes.1)

pub pairs_of_stage : (n : ℕ) (name : List ℕ) (files : Files) (pairs : List (ℕ × ℕ)) → value_at (pairs_input n name) files ≡ Ok pairs → ArePairsWithin n pairs
pairs_of_stage n name files pairs is =
    let bytes = value_bytes (pairs_input n name) (finite_map.get files name) pairs is in
    pairs_accepted n bytes.0 pairs (judged_value pairs_stop _ pairs bytes.1)

pub index_of_stage : (name : List ℕ) (files : Files) (stored : StoredIndex) → value_at (index_input name) files ≡ Ok stored → IsStored stored
index_of_stage name files stored is =
    let bytes = value_bytes (index_input name) (finite_map.get files name) stored is in
    IsStored-index_of bytes.0 stored (judged_value index_stop _ stored bytes.1)

pub points_of_stage : (n : ℕ) (name : List ℕ) (files : Files) (points : List ℕ) → value_at (points_input n name) files ≡ Ok points → AreWithin n points
points_of_stage n name files points is =
    let bytes = value_bytes (points_input n name) (finite_map.get files name) points is in
    (texts_of_nodes n false bytes.0 points (judged_value points_stop _ points bytes.1)).0

pub sources_of_stage : (n : ℕ) (name : List ℕ) (files : Files) (sources : List ℕ) → value_at (sources_input n name) files ≡ Ok sources → AreWithin n sources
sources_of_stage n name files sources is =
    let bytes = value_bytes (sources_input n name) (finite_map.get files name) sources is in
    (texts_of_nodes n true bytes.0 sources (judged_value sources_stop _ sources bytes.1)).0

pub longer_of_stage : (n : ℕ) (name : List ℕ) (files : Files) (edges more : List Edge) → value_at (edits_input n name) files ≡ Ok more → IsGraph n edges → IsGraph n (edges ++ more)
longer_of_stage n name files edges more is graph =
    let bytes = value_bytes (edits_input n name) (finite_map.get files name) more is in
    edited_graph n bytes.0 edges more (judged_value edits_stop _ more bytes.1) graph
