use Rattle.walk_laws.proofs.Squares.{one_of_three, two_of_three, three_of_four, two_not_of_four, answer_of_two_and_four, walk_of_two_and_four, labelling_of_the_square}
use Rattle.walk_laws.proofs.worked.hubs_of_a_square.Goals as goal

pub returns-clause-one_of_three : goal.returns-clause-one_of_three
returns-clause-one_of_three c = one_of_three

pub returns-clause-two_of_three : goal.returns-clause-two_of_three
returns-clause-two_of_three c = two_of_three

pub returns-clause-three_of_four : goal.returns-clause-three_of_four
returns-clause-three_of_four c = three_of_four

pub returns-clause-two_not_of_four : goal.returns-clause-two_not_of_four
returns-clause-two_not_of_four c = two_not_of_four

pub returns-clause-labelling : goal.returns-clause-labelling
returns-clause-labelling c = labelling_of_the_square

pub returns-clause-answer : goal.returns-clause-answer
returns-clause-answer c = answer_of_two_and_four

pub returns-clause-walk : goal.returns-clause-walk
returns-clause-walk c = walk_of_two_and_four
