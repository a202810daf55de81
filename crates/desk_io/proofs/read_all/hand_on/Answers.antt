use Rattle.std.proofs.Common.{take, arith}
use Rattle.std.proofs.lemmas.List.{length-take-le}
use Rattle.desk_io.proofs.ReadingLemmas.{one_piece}
use Rattle.desk_io.proofs.read_all.hand_on.Goals as goal

pub returns-in-Ok-feed-clause-ok : goal.returns-in-Ok-feed-clause-ok
returns-in-Ok-feed-clause-ok g c =
    let answered = c.in-Ok.ensures in
    one_piece g.F.Feed.feed_gives _ _ _ _ (take c.in-Ok.count c.read.new.buf) c.in-Ok.count (omega arith) (length-take-le _ _ (omega (arith, answered.within, c.read.auto.buf))) c.feed.result c.in-Ok-feed.is c.feed.ensures answered.moved
