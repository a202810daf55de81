-- Which nodes are touched.
use Rattle.std.specs.Prelude.{ℕ, List, [], ◌∷◌, ◌++◌}
use Rattle.frontier.specs.declared.reach.Reach.{Reach}
use Rattle.frontier.specs.declared.reach.Reach.TheVariants.{Unreached, Queued, Settled}

-- the touched nodes after an offer to a node that was reached so far: it is added if it wasn't reached
abbrev pub touched_with : {C : Type 0} → List ℕ → ℕ → Reach C → List ℕ
touched_with touched node Unreached = touched ++ node ∷ []
touched_with touched node (Queued found) = touched
touched_with touched node (Settled found) = touched
