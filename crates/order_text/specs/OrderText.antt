-- An order text: one node of 1..n to a line, highest rank first. Its lines are judged as those of any text of nodes are.
use Rattle.std.specs.Prelude.{ℕ, ◌≤◌, ◌==◌, ◌&&◌, ◌||◌, Bool, false, not, All, nat_lt, nat_eq, List, [], ◌∷◌, ◌++◌, length, Option, Some, None, Result, Ok, Err, if◌then◌else◌}
use Rattle.std.specs.List.{list_any}
use Rattle.text_lines.specs.Words.{number_of}
use Rattle.text_lines.specs.Judgement.{◌>>=◌, value_of_text, fault_within}
use Rattle.order_text.specs.declared.order_fault.OrderFault.{OrderFault}
use Rattle.order_text.specs.declared.order_fault.OrderFault.TheVariants.{BadField, BadNumber, NodeRange, Repeated, Count}

-- nodes of 1..n, those of the lines so far, and whether a node may stand among them more than once
pub record NodesSoFar : Type 0 where
  pub n : ℕ
  pub repeats : Bool
  pub nodes : List ℕ

-- no line yet
abbrev pub no_node : ℕ → Bool → NodesSoFar
no_node n repeats = record { n = n; repeats = repeats; nodes = [] }

-- one node more
abbrev pub with_node : NodesSoFar → ℕ → NodesSoFar
with_node so_far v = record so_far { nodes = so_far.nodes ++ v ∷ [] }

-- the node that a line of one number names: a number of 1..n
abbrev pub in_range : ℕ → ℕ → Option ℕ → Result ℕ OrderFault
in_range n number None = Err (BadNumber number)
in_range n number (Some v) = if v == 0 || nat_lt n v then Err (NodeRange number) else Ok v

-- the node that the words of a line name: one word
abbrev pub node_of_words : ℕ → ℕ → List (List ℕ) → Result ℕ OrderFault
node_of_words n number (word ∷ []) = in_range n number (number_of word)
node_of_words n number words = Err (BadField number)

-- whether a node is among them already and may not repeat
abbrev pub is_repeated : NodesSoFar → ℕ → Bool
is_repeated so_far v = not so_far.repeats && list_any (nat_eq v) so_far.nodes

-- how a line is judged: it names one node more, which no earlier line names where nodes may not repeat
abbrev pub node_judged : NodesSoFar → ℕ → List (List ℕ) → Result NodesSoFar OrderFault
node_judged so_far number words =
    node_of_words so_far.n number words
    >>= λ v. if is_repeated so_far v then Err (Repeated number v) else Ok (with_node so_far v)

-- the end of an order: all nodes were named
abbrev pub order_ended : NodesSoFar → ℕ → Result (List ℕ) OrderFault
order_ended so_far number =
    if nat_lt (length so_far.nodes) so_far.n then Err (Count so_far.n (length so_far.nodes)) else Ok so_far.nodes

-- the ranking of the nodes 1..n that a whole text stands for, or its first fault
abbrev pub order_of_text : ℕ → List ℕ → Result (List ℕ) OrderFault
order_of_text n text = value_of_text node_judged order_ended (no_node n false) text

-- the first fault among the lines of a text that an LF ends
abbrev pub order_fault_within : ℕ → List ℕ → Option OrderFault
order_fault_within n text = fault_within node_judged order_ended (no_node n false) text

-- each node is one of 1..n
abbrev pub AreWithin : ℕ → List ℕ → Type 0
AreWithin n nodes = All (λ v. (1 ≤ v) × (v ≤ n)) nodes
