use Rattle.std.proofs.Common.{sym, subst}
use Rattle.std.proofs.lemmas.Result.{IfOk-at_ok}
use Rattle.label_clean.specs.Kept.{AreKeptRows}
use Rattle.label_clean.proofs.KeptRows.{AreKeptRows-append}
use Rattle.label_clean.proofs.testing.+halves.Goals as goal

pub returns : goal.returns
returns g t c =
    let at = c.args.ranking.now in
    let tested = c.args.tested.now in
    let mid = c.halfway-mid.result in
    let first : AreKeptRows at tested c.args.from mid c.in_ok-kept.kept.items = IfOk-at_ok (λ kept. AreKeptRows at tested c.args.from mid kept.items) c.in_ok-kept.was c.join-first.ensures.first in
    let second : AreKeptRows at tested mid c.args.to c.in_ok-rest.rest.items = IfOk-at_ok (λ kept. AreKeptRows at tested mid c.args.to kept.items) c.in_ok-rest.was c.join-first.ensures.second in
    subst (AreKeptRows at tested c.args.from c.args.to) (sym c.in_ok-append.ensures.items) (AreKeptRows-append at tested c.args.from mid c.args.to c.in_ok-kept.kept.items c.in_ok-rest.rest.items first second)
