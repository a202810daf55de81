use Rattle.std.proofs.Common.{length, ◌∙◌, arith}
use Rattle.walk_laws.specs.Labelling.{label_row}
use Rattle.label_clean.specs.Tested.{AreTestedRows}
use Rattle.label_clean.proofs.Cleaned.{IsChlBelow-surviving, IsSurvivingRow-same}
use Rattle.label_clean.proofs.KeptRows.{IsSurvivingRow-sorted}
use Rattle.label_clean.proofs.TestedRows.{IsRawRow-moved}
use Rattle.label_clean.proofs.cleaning.clean_in_place.Given as given
use Rattle.label_clean.proofs.cleaning.clean_in_place.Goals as goal
use Rattle.label_clean.proofs.cleaning.clean_in_place.Goals.{After-by_distance-tested}

-- the rows by distance may be tested
tested_rows : (g : given.Over) (c : After-by_distance-tested g) → AreTestedRows c.args.ranking.now c.by_distance-tested.result
tested_rows g c = record {
  size = c.by_distance-tested.ensures.size ∙ c.requires.raw_size;
  rising = λ v from_one up_to_n. c.by_distance-tested.ensures.rising v from_one (omega (arith, up_to_n, c.requires.raw_size));
  raw = λ v from_one up_to_n.
      IsRawRow-moved (length c.args.ranking.now) (label_row c.args.raw v) (label_row c.by_distance-tested.result v)
      (c.by_distance-tested.ensures.rows v from_one (omega (arith, up_to_n, c.requires.raw_size))) (c.requires.raw_rows v from_one up_to_n).within;
}

pub test_rows-requires-clause-tested : goal.test_rows-requires-clause-tested
test_rows-requires-clause-tested g c κs within = tested_rows g (goal.at.test_rows-requires-clause-tested g c).After-by_distance-tested

pub replaced-requires-clause-tested : goal.replaced-requires-clause-tested
replaced-requires-clause-tested g c = tested_rows g (goal.at.replaced-requires-clause-tested g c).After-by_distance-tested

pub returns : goal.returns
returns g c = λ edges p.
    let at = c.args.ranking.now in
    let tested = c.by_distance-tested.result in
    IsChlBelow-surviving at c.n-n.ensures.ranking edges p c.args.raw c.by_position.result (c.by_position.ensures.size ∙ c.replaced.ensures.size) (λ v from_one up_to_n.
    IsSurvivingRow-same at c.n-n.ensures.ranking tested c.args.raw (λ x low high. (c.by_distance-tested.ensures.rows x low (omega (arith, high, c.requires.raw_size))).each) v (label_row c.by_position.result v) from_one up_to_n
    (IsSurvivingRow-sorted at tested v (label_row c.replaced.result v) (label_row c.by_position.result v) (c.replaced.ensures.rows v from_one up_to_n)
    (c.by_position.ensures.rows v from_one (omega (arith, up_to_n, c.replaced.ensures.size)))))
