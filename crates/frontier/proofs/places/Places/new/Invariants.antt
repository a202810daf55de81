use Rattle.std.proofs.Common.{◌≡◌, replicate}
use Rattle.frontier.proofs.places.Places.new.Given as goal

-- a place for each round
abbrev pub invariant-loop : goal.invariant-loop
invariant-loop g l = l.places.items ≡ replicate l.counter l.unreached
