use Rattle.std.proofs.Common.{arith}
use Rattle.index_file.proofs.Sizes.{offset-le, width-le}
use Rattle.index_file.proofs.progress.Progress.finish.Goals as goal

pub overflow_add-result : goal.overflow_add-result
overflow_add-result c = let s = c.self.invariant in omega (arith, offset-le _ s, width-le c.self.inside.next, c.len.ensures)
