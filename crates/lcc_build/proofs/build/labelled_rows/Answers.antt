use Rattle.std.proofs.Common.{length}
use Rattle.std.proofs.lemmas.Result.{IfOk-weaker}
use Rattle.lcc_build.proofs.build.labelled_rows.Goals as goal

pub clean_in_place-requires-clause-raw_rows : goal.clean_in_place-requires-clause-raw_rows
clean_in_place-requires-clause-raw_rows g c κs within = λ v from_one up_to_n. record { within = c.in_ok-raw.ensures.held.below v from_one up_to_n; once = c.in_ok-raw.ensures.held.once v from_one up_to_n }

pub returns : goal.returns
returns g c = IfOk-weaker c.clean_in_place.result _ _ (λ rows chl. chl c.args.job.now.graph.now.edges (length c.args.job.now.ranking.now) c.in_ok-raw.ensures.held) c.clean_in_place.ensures
