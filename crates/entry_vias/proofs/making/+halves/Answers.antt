use Rattle.std.proofs.Common.{◌≡◌, ◌++◌, sym, subst}
use Rattle.std.proofs.lemmas.Result.{IfOk-weaker, IfOk-at_ok}
use Rattle.walk_laws.specs.Joined.{Joined}
use Rattle.entry_vias.specs.ViaRanges.{AreViasFrom}
use Rattle.entry_vias.proofs.OneList.{AreViasFrom-append}
use Rattle.entry_vias.proofs.making.+halves.Goals as goal

pub returns : goal.returns
returns g t c =
    let J = Joined c.args.graph.now.edges in
    let rows = c.args.index.now.rows in
    let mid = c.share_end-mid.result in
    let a = c.in_ok-first.field-0 in
    let b = c.in_ok-second.field-0 in
    let first : AreViasFrom J rows c.args.from mid a = IfOk-at_ok (AreViasFrom J rows c.args.from mid) c.in_ok-first.was c.join-first.ensures.first in
    let second : AreViasFrom J rows mid c.args.to b = IfOk-at_ok (AreViasFrom J rows mid c.args.to) c.in_ok-second.was c.join-first.ensures.second in
    IfOk-weaker c.joined.result (λ vias. vias ≡ a ++ b) (AreViasFrom J rows c.args.from c.args.to)
    (λ vias is. subst (AreViasFrom J rows c.args.from c.args.to) (sym is) (AreViasFrom-append J rows c.args.from mid c.args.to a b first second))
    c.joined.ensures
