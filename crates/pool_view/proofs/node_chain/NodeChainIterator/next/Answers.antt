use Rattle.std.proofs.Common.{◌∷◌, length, sym, ap, ◌∙◌, arith}
use Rattle.walk_laws.specs.declared.entry.Entry.{Entry}
use Rattle.pool_view.specs.Links.{chain_from}
use Rattle.pool_view.proofs.Linked.{IsOneMore, IsChain-from, chain_from_head, one_more}
use Rattle.pool_view.proofs.node_chain.NodeChainIterator.next.Goals as goal
use Rattle.pool_view.proofs.node_chain.NodeChainIterator.next.Goals.{After-entry}

pub bounds-self-inside-place-2 : goal.bounds-self-inside-place-2
bounds-self-inside-place-2 c =
    let at = c.self.inside in
    let m = one_more at.entries.now at.nexts.now at.link (chain_from at.entries.now at.nexts.now at.link at.link) c.self.invariant.1 (omega (arith, c.if-self-eq0.false)) in
    omega (arith, m.here.from_one, m.here.within, c.self.invariant.0)

-- what the link leads to
more : (c : After-entry) → IsOneMore c.self.inside.entries.now c.self.inside.nexts.now c.self.inside.link (chain_from c.self.inside.entries.now c.self.inside.nexts.now c.self.inside.link c.self.inside.link)
more c = let at = c.self.inside in one_more at.entries.now at.nexts.now at.link (chain_from at.entries.now at.nexts.now at.link at.link) c.self.invariant.1 (omega (arith, c.if-self-eq0.false))

pub invariant_of-self : goal.invariant_of-self
invariant_of-self c = let m = more c in (c.self.invariant.0, IsChain-from c.self.inside.entries.now c.self.inside.nexts.now _ m.es m.on)

pub returns-clause-steps : goal.returns-clause-steps
returns-clause-steps c =
    let m = more c in
    sym c.self.view_is ∙ m.rest_is ∙ ap (λ (e : Entry). e ∷ m.es) (sym (c.entry.ensures ∙ m.here.entry_is _))
    ∙ ap (λ es. c.entry.result ∷ es) (sym (chain_from_head c.self.inside.entries.now c.self.inside.nexts.now _ m.es m.on))

pub returns-clause-goes : goal.returns-clause-goes
returns-clause-goes c =
    let fewer = ap length (returns-clause-steps c) in
    record { on = λ finite. (tt, finite, omega (arith, fewer)); keeps = tt; rests = λ _. tt }
