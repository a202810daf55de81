use Rattle.std.proofs.Common.{All, subst, arith}
use Rattle.hub_index.specs.Reach.{IsBelow, IsFirstFrom}
use Rattle.hub_index.proofs.FarEntries.{below_next, IsFirstOfRows-at}
use Rattle.hub_index.proofs.row_list.RowList.first_from.Goals as goal

pub loop-k-preserved : goal.loop-k-preserved
loop-k-preserved c =
    below_next c.args.limit c.args.self.now c.loop-k.k c.loop-k.invariant (subst (All (IsBelow c.args.limit)) c.row.ensures c.in_default.ensures.none)

pub returns-in-Some-clause-some : goal.returns-in-Some-clause-some
returns-in-Some-clause-some c =
    rw c.of.ensures (IsFirstOfRows-at c.args.limit c.args.self.now c.loop-k.k c.in-Some.entry (omega arith) c.loop-k.invariant (subst (λ row. IsFirstFrom c.args.limit row c.in-Some.entry) c.row.ensures c.in-Some.ensures.some))

pub returns-clause-none : goal.returns-clause-none
returns-clause-none c = λ v from_one up_to. c.loop-k.invariant v from_one (omega arith)
