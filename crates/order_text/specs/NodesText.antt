-- A nodes text: one node of 1..n to a line, any number of them. Its lines are judged as those of an order text are, but that
-- nodes may repeat where that is said.
use Rattle.std.specs.Prelude.{ℕ, Bool, List, Option, Result, Ok}
use Rattle.text_lines.specs.Judgement.{value_of_text, fault_within}
use Rattle.order_text.specs.OrderText.{NodesSoFar, no_node, node_judged}
use Rattle.order_text.specs.declared.order_fault.OrderFault.{OrderFault}
use Rattle.order_text.specs.declared.order_fault.OrderFault.TheVariants.{Count, NoMemory}

-- the end of a nodes text: no node is missing
abbrev pub nodes_ended : NodesSoFar → ℕ → Result (List ℕ) OrderFault
nodes_ended so_far number = Ok so_far.nodes

-- the nodes of 1..n that a whole text stands for, or its first fault
abbrev pub nodes_of_text : ℕ → Bool → List ℕ → Result (List ℕ) OrderFault
nodes_of_text n repeats text = value_of_text node_judged nodes_ended (no_node n repeats) text

-- the first fault among the lines of a text that an LF ends
abbrev pub nodes_fault_within : ℕ → Bool → List ℕ → Option OrderFault
nodes_fault_within n repeats text = fault_within node_judged nodes_ended (no_node n repeats) text

-- the fault is one of a line, and so neither a count nor want of memory
abbrev pub IsOfLine : OrderFault → Type 0
IsOfLine (Count wanted found) = ⊥
IsOfLine NoMemory = ⊥
IsOfLine fault = Unit {0}
