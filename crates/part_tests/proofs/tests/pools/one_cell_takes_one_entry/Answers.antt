use Rattle.std.proofs.Common.{sym, subst}
use Rattle.label_pool.specs.Chains.{IsRest}
use Rattle.label_pool.specs.Seats.{Seated}
use Rattle.part_tests.specs.declared.tests.pools.Anything.{Anything}
use Rattle.part_tests.proofs.Rests.{next-rest}
use Rattle.part_tests.proofs.tests.pools.one_cell_takes_one_entry.Goals as goal

pub next-requires-2-clause-walk : goal.next-requires-2-clause-walk
next-requires-2-clause-walk g c =
    let found = c.visit-walk.ensures.found in
    let r = next-rest _ _ _ _ (c.next.ensures.next found.0 found.2) in
    (r.0, subst (λ (s : Seated Anything). IsRest s.looks c.next.new.self r.0) (sym c.next.ensures.same) r.1)
