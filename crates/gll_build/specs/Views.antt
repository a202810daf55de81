-- What contracts see of a stage in which trees grow.
use Rattle.std.specs.Prelude.{List, Option, Result}
use Rattle.std.specs.declared.alloc.AllocError.{AllocError}
use Rattle.gll_table.specs.Outputs.{Output}
use Rattle.gll_superstep.specs.Workers.{SuperstepView}

-- the task of each worker at its place, until it is taken, and what workers have handed in
pub record GrowingView : Type 0 where
  pub tasks : List (Option SuperstepView)
  pub outputs : List (Result Output AllocError)
