use Rattle.part_tests.proofs.CleanedRows.{both_may}
use Rattle.part_tests.proofs.tests.cleaning.nine_of_ten_entries_stay.Goals as goal

pub clean-requires-clause-both : goal.clean-requires-clause-both
clean-requires-clause-both g c κs = rw (c.in_ok-ranking.ensures, c.in_ok-global.ensures, c.in_ok-raw.ensures) both_may
