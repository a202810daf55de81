use Rattle.hub_query.proofs.Placed.{Asked}
use Rattle.hub_query.proofs.asking.ask_places.Given as goal

-- the table holds the row of a node, and the pairs at the places so far have their answers
abbrev pub invariant-loop-pair : goal.invariant-loop-pair
invariant-loop-pair l = Asked l.index l._pairs l.places l.answers l.table l.turned l.pair-index
