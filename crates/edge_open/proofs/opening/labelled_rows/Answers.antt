use Rattle.std.proofs.Common.{length}
use Rattle.std.proofs.lemmas.Result.{IfOk-weaker}
use Rattle.edge_open.proofs.opening.labelled_rows.Goals as goal

pub returns : goal.returns
returns g c =
    let edges = c.args.longer.now.edges in
    let at = c.args.ranking.now in
    IfOk-weaker c.clean_in_place.result _ _ (λ rows cleaned. (c.the_whole_is_the_labelling.ensures edges at rows).0 (cleaned edges (length at) c.in_ok-raw.ensures.held)) c.clean_in_place.ensures
