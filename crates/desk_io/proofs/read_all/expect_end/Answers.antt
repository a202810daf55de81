use Rattle.std.proofs.Common.{get_or}
use Rattle.desk_io.proofs.ReadingLemmas.{one_taken, same_bytes}
use Rattle.desk_io.proofs.read_all.expect_end.Goals as goal

pub returns-in-Ok-clause-too_long : goal.returns-in-Ok-clause-too_long
returns-in-Ok-clause-too_long g c =
    (get_or c.read.new.buf 0 0, same_bytes _ _ (one_taken c.in-Ok.field-0 c.read.new.buf c.in-Ok.field-0-test.1 c.in-Ok.ensures.within c.read.auto.buf) c.in-Ok.ensures.moved)
