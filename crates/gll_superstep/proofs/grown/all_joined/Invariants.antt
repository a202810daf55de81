use Rattle.std.proofs.Common.{◌≡◌, ◌+◌, Ok, length, map}
use Rattle.gll_superstep.specs.Workers.{so_far}
use Rattle.gll_superstep.proofs.grown.all_joined.Given as goal

-- all that came are joined
abbrev pub invariant-loop-one : goal.invariant-loop-one
invariant-loop-one g l = record {
  all : map (λ o. Ok o) (so_far l.all) ≡ l.yielded;
  count : length (so_far l.all) + length l.one-iterator.rest.items ≡ length l.fn.grown.items;
}
