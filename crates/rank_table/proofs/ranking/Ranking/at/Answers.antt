use Rattle.std.proofs.Common.{◌∙◌, ap}
use Rattle.walk_laws.specs.Ranking.{position_of}
use Rattle.walk_laws.proofs.Positions.{position-get_or}
use Rattle.rank_table.proofs.ranking.Ranking.at.Goals as goal

pub returns-clause-inverse : goal.returns-clause-inverse
returns-clause-inverse c =
    ap (λ v. position_of c.args.self.now v) c.index.ensures
    ∙ rw c.self.view_is (position-get_or c.args.self.now c.args.p c.index.result.now (rw c.self.view_is at c.self.invariant.0.once) c.requires)
