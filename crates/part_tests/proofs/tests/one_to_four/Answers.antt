use Rattle.hub_index.proofs.SquareEntries.{first_four_ranked}
use Rattle.part_tests.proofs.tests.one_to_four.Goals as goal

pub new-requires : goal.new-requires
new-requires c = rw c.in_ok-vec.ensures.items first_four_ranked
