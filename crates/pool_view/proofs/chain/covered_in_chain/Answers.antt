use Rattle.std.proofs.Common.{subst}
use Rattle.walk_laws.specs.declared.entry.Entry.{Entry}
use Rattle.hub_index.specs.RootDistances.{IsCover}
use Rattle.pool_view.proofs.Covers.{IsTold, told-now, told-still, some-before}
use Rattle.pool_view.proofs.Walks.{walking-next, walking-end}
use Rattle.pool_view.proofs.chain.covered_in_chain.Goals as goal
use Rattle.pool_view.proofs.chain.covered_in_chain.Goals.{then-is_none+then-covers, else-is_none, else-is_none-via-then-is_none+else-covers, else-is_none-via-else-is_none}

pub loop-preserved : goal.loop-preserved
loop-preserved c =
    let table = c.args.table.now in
    let e : Entry = record { pos = c.args.pos; dist = c.args.dist } in
    let prefix = c.loop.invariant.prefix in
    walking-next c.args.pool.now c.args.seat.now c.args.v c.loop.seat c.next.new.seat c.loop.walk c.next.new.self c.loop.counter (IsTold table e c.loop.cover) c.loop.invariant c.next.result c.next.ensures.next c.next.ensures.same
    (IsTold table e c.if-is_none.cover) c.in-Some.other c.in-Some.is
    (λ l is told. elim c.if-is_none.branch [
      | then-is_none+then-covers w ↦ told-now table e prefix l c.if-is_none.cover c.in-Some.other is (w.covers.ensures.0 w.if-covers.true) w.cover-is
      | else-is_none w ↦ elim w.else-is_none.branch [
        | else-is_none-via-then-is_none+else-covers x ↦
            told-still table e prefix l c.loop.cover c.if-is_none.cover told
            (λ _ covers. let now = x.covers.ensures.1 (subst (IsCover table e.pos e.dist) is covers) in absurd cc) w.cover-is
        | else-is_none-via-else-is_none x ↦
            told-still table e prefix l c.loop.cover c.if-is_none.cover told (λ none _. some-before c.loop.cover c.is_none.result c.is_none.ensures x.if-is_none.false none) w.cover-is
      ]
    ])

pub returns-in_default : goal.returns-in_default
returns-in_default c =
    let told = walking-end c.args.pool.now c.args.seat.now c.args.v c.loop.seat c.next.new.seat c.loop.walk c.next.new.self c.loop.counter (IsTold c.args.table.now (record { pos = c.args.pos; dist = c.args.dist }) c.loop.cover) c.loop.invariant c.next.result c.next.ensures.next c.next.ensures.same c.in_default.is in
    record { chain = (told.0, told.1, told.2.0, told.2.1) }
