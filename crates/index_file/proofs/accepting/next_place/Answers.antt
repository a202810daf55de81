use Rattle.std.proofs.Common.{arith}
use Rattle.walk_laws.proofs.Positions.{position-lt}
use Rattle.index_file.specs.Parts.{next_node, next_own}
use Rattle.index_file.proofs.Sizes.{length-part}
use Rattle.index_file.proofs.accepting.next_place.Goals as goal

pub overflow_cast-result : goal.overflow_cast-result
overflow_cast-result c =
    let done = c.args.done.now in
    let reading = c.requires in
    omega (arith, length-part (next_own done) c.args.part.now reading.entries, c.len.ensures, position-lt done.order (next_node done) reading.rows.ranking (omega arith) (omega (arith, reading.more)), reading.rows.small)
