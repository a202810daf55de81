-- The inputs of a command, and what each comes to.
use Rattle.std.specs.Prelude.{◌≤◌, ℕ, true, false, List, All, length, take, nat_lt, if◌then◌else◌, Option, Some, None, Result, Ok, Err}
use Rattle.std.specs.Option.{option_map}
use Rattle.std.specs.FinMap as finite_map
use Rattle.desk_io.specs.Contents.{Files}
use Rattle.desk_io.specs.Reading.{input_limit}
use Rattle.dimacs_text.specs.EditsText.{edits_of_text, edits_fault_within}
use Rattle.dimacs_text.specs.GraphText.{graph_of_text, graph_fault_within}
use Rattle.dimacs_text.specs.PairsText.{pairs_of_text, pairs_fault_within}
use Rattle.index_file.specs.Judging.{index_of, fault_within}
use Rattle.index_file.specs.declared.stored_index.StoredIndex.{StoredIndex}
use Rattle.order_text.specs.NodesText.{nodes_of_text, nodes_fault_within}
use Rattle.order_text.specs.OrderText.{order_of_text, order_fault_within}
use Rattle.walk_laws.specs.declared.graph.Edge.{Edge}
use Rattle.walk_laws.specs.Graph.{WeightedGraph}
use Rattle.chl_inputs.specs.Stops.{graph_stop, order_stop, pairs_stop, edits_stop, points_stop, sources_stop, index_stop}
use Rattle.chl_inputs.specs.declared.stop.Stop.{Stop}
use Rattle.chl_inputs.specs.declared.stop.Stop.TheVariants.{TooLong, ReadFailed}

-- an input: the name of its file, the first fault that is plain by the end of a prefix of its bytes, and what all its bytes
-- come to
pub record Input (V : Type 0) : Type 0 where
  pub name : List ℕ
  pub plain : List ℕ → Option Stop
  pub comes_to : List ℕ → Result V Stop

-- more bytes than the limit: the fault that is plain by the limit, or else they are too many
abbrev pub past_limit : {V : Type 0} → Option Stop → Result V Stop
past_limit None = Err TooLong
past_limit (Some stop) = Err stop

-- What an input comes to: no file has its name; there are more bytes than the limit; or all bytes are judged.
abbrev pub value_of : {V : Type 0} → Input V → Option (List ℕ) → Result V Stop
value_of input None = Err ReadFailed
value_of input (Some bytes) = if nat_lt input_limit (length bytes) then past_limit (input.plain (take input_limit bytes)) else input.comes_to bytes

-- the same of the file that a table has by its name
abbrev pub value_at : {V : Type 0} → Input V → Files → Result V Stop
value_at input files = value_of input (finite_map.get files input.name)

-- a value, or how the command stops at a fault
abbrev pub judged : {V F : Type 0} → (F → Stop) → Result V F → Result V Stop
judged stop (Ok value) = Ok value
judged stop (Err fault) = Err (stop fault)

-- the input of this name whose prefixes have such faults and whose bytes come to that, and at whose faults the command stops so
abbrev pub input_from : {V F : Type 0} → (List ℕ → Option F) → (List ℕ → Result V F) → (F → Stop) → List ℕ → Input V
input_from fault_within comes_to stop name = record {
  name = name;
  plain = λ bytes. option_map stop (fault_within bytes);
  comes_to = λ bytes. judged stop (comes_to bytes);
}

-- a graph text
abbrev pub graph_input : List ℕ → Input WeightedGraph
graph_input name = input_from graph_fault_within graph_of_text graph_stop name

-- an order text, of a ranking of the nodes 1..n
abbrev pub order_input : ℕ → List ℕ → Input (List ℕ)
order_input n name = input_from (order_fault_within n) (order_of_text n) order_stop name

-- a pairs text, of pairs of the nodes 1..n
abbrev pub pairs_input : ℕ → List ℕ → Input (List (ℕ × ℕ))
pairs_input n name = input_from (pairs_fault_within n) (pairs_of_text n) pairs_stop name

-- an edits text, of edges between the nodes 1..n
abbrev pub edits_input : ℕ → List ℕ → Input (List Edge)
edits_input n name = input_from (edits_fault_within n) (edits_of_text n) edits_stop name

-- the text of points, which are nodes of 1..n and may not repeat
abbrev pub points_input : ℕ → List ℕ → Input (List ℕ)
points_input n name = input_from (nodes_fault_within n false) (nodes_of_text n false) points_stop name

-- and that of sources, which may
abbrev pub sources_input : ℕ → List ℕ → Input (List ℕ)
sources_input n name = input_from (nodes_fault_within n true) (nodes_of_text n true) sources_stop name

-- an index file, of either version
abbrev pub index_input : List ℕ → Input StoredIndex
index_input name = input_from fault_within index_of index_stop name

-- both nodes of each pair are of 1..n
abbrev pub ArePairsWithin : ℕ → List (ℕ × ℕ) → Type 0
ArePairsWithin n pairs = All (λ p. (1 ≤ p.0) × (p.0 ≤ n) × (1 ≤ p.1) × (p.1 ≤ n)) pairs
