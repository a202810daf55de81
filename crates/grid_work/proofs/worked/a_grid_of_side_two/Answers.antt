use Rattle.std.proofs.Common.{◌≡◌, refl, subst}
use Rattle.walk_laws.specs.Joined.{Joined}
use Rattle.walk_laws.specs.Labelling.{IsChl}
use Rattle.walk_laws.specs.Worked.{first_four}
use Rattle.grid_work.specs.Grid.{grid_edges}
use Rattle.grid_work.specs.Worked.{edges_of_side_two, rows_of_side_two}
use Rattle.grid_work.proofs.SideTwo.{labelling_of_side_two}
use Rattle.grid_work.proofs.worked.a_grid_of_side_two.Goals as goal

same_edges : edges_of_side_two ≡ grid_edges 2 1
same_edges = refl

pub returns-clause-labelling : goal.returns-clause-labelling
returns-clause-labelling c = subst (λ l. IsChl (Joined l) first_four rows_of_side_two) same_edges labelling_of_side_two
