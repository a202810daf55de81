-- The laws of texts of nodes. `laws` has a public function for each.
use Rattle.std.specs.Prelude.{◌≡◌, ℕ, Bool, false, List, length, nat_eq, Ok, Err}
use Rattle.std.specs.List.{IsDistinct}
use Rattle.walk_laws.specs.Ranking.{IsRanking}
use Rattle.order_text.specs.NodesText.{IsOfLine, nodes_of_text}
use Rattle.order_text.specs.OrderText.{AreWithin, order_of_text}
use Rattle.order_text.specs.declared.order_fault.OrderFault.{OrderFault}

-- what an order text stands for is a ranking of n nodes
abbrev pub OrdersAreRankings : Type 0
OrdersAreRankings = (n : ℕ) (text at : List ℕ) → order_of_text n text ≡ Ok at → IsRanking at × (length at ≡ n)

-- what a nodes text stands for are nodes of 1..n, no two of them equal where they may not repeat
abbrev pub NodesOfTexts : Type 0
NodesOfTexts = (n : ℕ) (repeats : Bool) (text nodes : List ℕ) → nodes_of_text n repeats text ≡ Ok nodes → AreWithin n nodes × (repeats ≡ false → IsDistinct nat_eq nodes)

-- and a fault of one is a fault of a line
abbrev pub FaultsOfTexts : Type 0
FaultsOfTexts = (n : ℕ) (repeats : Bool) (text : List ℕ) (fault : OrderFault) → nodes_of_text n repeats text ≡ Err fault → IsOfLine fault

-- both of these
abbrev pub TextsAreOfNodes : Type 0
TextsAreOfNodes = NodesOfTexts × FaultsOfTexts
