use Rattle.std.proofs.Common.{All}
use Rattle.hub_index.specs.RootDistances.{IsCover}
use Rattle.pool_view.proofs.puts.Puts.cover.Given as goal

-- no entry that came covers
abbrev pub invariant-loop-entry : goal.invariant-loop-entry
invariant-loop-entry l = All (λ e. ¬ IsCover l.table l.pos l.dist e) l.yielded
