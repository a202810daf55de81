use Rattle.std.proofs.Common.{◌≡◌, ◌+◌, vec_len}
use Rattle.renumbering.proofs.search.search.Given as goal

abbrev pub invariant-loop-at : goal.invariant-loop-at
invariant-loop-at l = vec_len l.seen ≡ l.graph.n + 1

abbrev pub invariant-loop-arc : goal.invariant-loop-arc
invariant-loop-arc l = vec_len l.seen ≡ l.graph.n + 1
