use Rattle.std.proofs.Common.{◌≡◌, [], ◌∷◌, All, length, ap, sym, subst, ◌∙◌, arith}
use Rattle.std.proofs.lemmas.List.{map-append}
use Rattle.hub_index.specs.RootDistances.{noted, with_noted}
use Rattle.hub_index.proofs.NotedRows.{length-noted, noted-append}
use Rattle.label_pool.specs.declared.rule.Linked.{Linked}
use Rattle.label_pool.specs.Chains.{entries_of}
use Rattle.label_pool.specs.Seats.{IsMet}
use Rattle.pool_view.specs.Fitting.{MayStand}
use Rattle.pool_view.proofs.Walks.{given-cell, walking-next, walking-end, met_at, met-within}
use Rattle.pool_view.proofs.chain.note_chain.Goals as goal

pub note-requires : goal.note-requires
note-requires c =
    let i = c.loop.invariant in
    let g = given-cell c.args.pool.now c.args.seat.now c.args.v c.loop.seat c.next.new.seat c.loop.walk c.next.new.self c.loop.counter _ i c.next.result c.next.ensures.next c.next.ensures.same c.in-Some.entry c.in-Some.is in
    let met = met_at (λ l. IsMet MayStand c.args.pool.now.fact c.args.v l.entry) i.prefix g.l g.ls (subst (All (λ l. IsMet MayStand c.args.pool.now.fact c.args.v l.entry)) g.parted i.visit.met) in
    let inside = met-within c.args.pool.now.fact c.args.v g.l.entry met in
    let size = ap length i.told ∙ length-noted c.args.table.now (entries_of i.prefix) in
    omega (arith, inside, ap (λ e. e.pos) g.is, size, c.requires.size)

pub loop-preserved : goal.loop-preserved
loop-preserved c =
    let table = c.args.table.now in
    walking-next c.args.pool.now c.args.seat.now c.args.v c.loop.seat c.next.new.seat c.loop.walk c.next.new.self c.loop.counter (λ prefix. c.loop.table ≡ noted table (entries_of prefix)) c.loop.invariant c.next.result c.next.ensures.next c.next.ensures.same
    (λ prefix. c.note.new.self ≡ noted table (entries_of prefix)) c.in-Some.entry c.in-Some.is
    (λ l is told.
    c.note.ensures ∙ ap (λ t. with_noted t c.in-Some.entry) told ∙ ap (with_noted (noted table (entries_of c.loop.invariant.prefix))) (sym is)
    ∙ sym (noted-append table (entries_of c.loop.invariant.prefix) (l.entry ∷ []))
    ∙ ap (noted table) (sym (map-append (λ (m : Linked). m.entry) c.loop.invariant.prefix (l ∷ []))))

pub returns-in_default : goal.returns-in_default
returns-in_default c = record {
  chain = walking-end c.args.pool.now c.args.seat.now c.args.v c.loop.seat c.next.new.seat c.loop.walk c.next.new.self c.loop.counter (λ prefix. c.loop.table ≡ noted c.args.table.now (entries_of prefix)) c.loop.invariant c.next.result c.next.ensures.next c.next.ensures.same c.in_default.is;
}
