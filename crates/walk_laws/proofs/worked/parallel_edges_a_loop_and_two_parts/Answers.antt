use Rattle.walk_laws.specs.Joined.{Joined}
use Rattle.walk_laws.specs.Worked.{two_parts}
use Rattle.walk_laws.proofs.LeastWalks.{IsLeast-none}
use Rattle.walk_laws.proofs.Squares.{three_is_least, one_and_three_apart, one_of_two}
use Rattle.walk_laws.proofs.worked.parallel_edges_a_loop_and_two_parts.Goals as goal

pub returns-clause-least : goal.returns-clause-least
returns-clause-least c = three_is_least

pub returns-clause-no_way_round : goal.returns-clause-no_way_round
returns-clause-no_way_round c = IsLeast-none (Joined two_parts) 1

pub returns-clause-apart : goal.returns-clause-apart
returns-clause-apart c = one_and_three_apart

pub returns-clause-hub : goal.returns-clause-hub
returns-clause-hub c = one_of_two
