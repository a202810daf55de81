use Rattle.std.proofs.Common.{◌-◌, [], ◌∷◌, ◌++◌, length, set, ap, ◌∙◌, arith}
use Rattle.std.proofs.lemmas.List.{get_or_read, length-append}
use Rattle.pool_view.proofs.Chained.{AreChained-put}
use Rattle.pool_view.proofs.chains.Chains.put.Goals as goal

pub returns-clause-put : goal.returns-clause-put
returns-clause-put c entries many d within is chained =
    let heads = c.args.self.now.heads.items in
    let nexts = c.args.self.now.nexts.items in
    let head = get_or_read heads (c.args.node - 1) c.index.result.now (omega (arith, c.requires.from_one, c.requires.up_to_n)) c.index.ensures 0 in
    AreChained-put entries many d c.args.node c.args.self.now _ within is c.requires chained
    (c.in_ok-push.ensures.items ∙ ap (λ x. c.args.self.now.nexts.items ++ x ∷ []) head)
    (ap (λ x. set c.args.self.now.heads.items (c.args.node - 1) x) (omega (arith, c.len.ensures, c.push.new.self.ok.0, ap length c.in_ok-push.ensures.items, length-append nexts (c.index.result.now ∷ []), chained.count)))
