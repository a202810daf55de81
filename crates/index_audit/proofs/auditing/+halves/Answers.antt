use Rattle.std.proofs.Common.{sym, subst}
use Rattle.walk_laws.specs.Joined.{Joined}
use Rattle.index_audit.proofs.JoinedRanges.{IsFound, found_joined}
use Rattle.index_audit.proofs.auditing.+halves.Goals as goal

pub returns : goal.returns
returns g t c =
    let J = Joined c.args.graph.now.edges in
    let index = c.args.index.now in
    let vias = g.V.Beside.vias c.args.vias.now in
    subst (IsFound J index.order index.rows vias c.args.from c.args.to) (sym c.or.ensures)
    (found_joined J index.order index.rows vias c.args.from c.share_end-mid.result c.args.to c.join-first.result.0 c.join-first.result.1 c.share_end-mid.ensures.from c.share_end-mid.ensures.to c.join-first.ensures.first c.join-first.ensures.second)
