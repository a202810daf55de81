use Rattle.std.proofs.Common.{◌+◌, ◌==◌, ◌≡◌, ◌≤◌, ℕ, sym, ap, ◌∙◌, subst, arith}
use Rattle.std.specs.Prelude.{Some}
use mathlib.Core.Option.{none}
use prog.Atomic.{either}
use Rattle.atomic_table.specs.Table.{step, Allows}
use Rattle.hub_index.specs.Views.{IsNode}
use Rattle.table_seats.specs.Seats.{knowing}
use Rattle.label_pool.specs.Fillings.{filled, with_next}
use Rattle.label_pool.specs.Chains.{IsTailOf, seen_of}
use Rattle.label_pool.specs.Lawful.{IsLawful, Sitter}
use Rattle.label_pool.specs.Seats.{IsMet}
use Rattle.label_pool.specs.Steps.{FilledNext, LinkedTo, IsLink, with_filling, with_link}
use Rattle.label_pool.specs.Layout.{next_at, pos_in}
use Rattle.label_pool.specs.declared.rule.Filling.{Filling}
use Rattle.label_pool.proofs.Allowed.{fills_next, links_one}
use Rattle.label_pool.proofs.Calls.{next-again}
use Rattle.label_pool.proofs.linking.link.Goals as goal
use Rattle.label_pool.proofs.linking.link.Given
use Rattle.label_pool.proofs.linking.link.Goals.{After-store}

pub store-requires : goal.store-requires
store-requires g c =
    let fact = g.F.LinkFact.fact in
    let slots = c.args.words.now.table_id.slots in
    let me = c.loop.seat.me in
    let i = c.loop.invariant in
    let next = i.4.0 in
    let is = i.4.1 in
    let x = c.next_stored.result in
    let cell : Filling = filled c.args.cell next c.requires.filled.0 in
    let open_is = ap (λ (m : Sitter g.row.F.Denot). m.0.knows.filling) is ∙ ap (with_next next) c.requires.filled.1 in
    let word = c.next_word.ensures ∙ ap (λ n. next_at n c.args.cell) (sym (ap (λ (m : Sitter g.row.F.Denot). m.0.knows.n) is ∙ c.requires.n)) in
    let live : 1 ≤ me.0.seats = omega (arith, ap (λ (m : Sitter g.row.F.Denot). m.0.seats) is, c.requires.live) in (
      i.2 ∙ c.requires.table,
      omega (arith, c.next_word.ensures, c.requires.inside),
      subst (λ w. Allows (IsLawful fact c.args.words.now.key) slots c.loop.seat.id me w (λ _. x) (λ _. FilledNext (step slots w x 0 none) me x)) (sym word)
          (fills_next fact c.args.words.now.key slots c.loop.seat.id me live cell open_is x),
    )

-- the seat whose cell names the head that is expected
named_is : (g : Given.Over) (c : After-store g) → c.store.new.seat.me ≡ (knowing c.args.seat.now.me.0 (with_filling c.args.seat.now.me.0.knows (with_next (Some c.next_stored.result) c.args.seat.now.me.0.knows.filling)), c.args.seat.now.me.1)
named_is g c =
    let x = c.next_stored.result in
    let is = c.loop.invariant.4.1 in
    let next = c.loop.invariant.4.0 in
    let k0 = c.args.seat.now.me.0 in
    let view =
    c.store.ensures.2.0 ∙ ap (λ (m : Sitter g.row.F.Denot). knowing m.0 (with_filling m.0.knows (with_next (Some x) m.0.knows.filling))) is
    ∙ ap (λ o. knowing k0 (with_filling k0.knows o)) (next-again (Some x) next k0.knows.filling) in
    let slots = c.store.ensures.2.1 ∙ ap (λ (m : Sitter g.row.F.Denot). m.1) is in
    λ k. (view k, slots k)

pub compare_exchange-found-requires : goal.compare_exchange-found-requires
compare_exchange-found-requires g c =
    let fact = g.F.LinkFact.fact in
    let slots = c.args.words.now.table_id.slots in
    let me = c.store.new.seat.me in
    let is = named_is g (goal.at.compare_exchange-found-requires g c).After-store in
    let dist = c.requires.filled.0 in
    let next = c.next_stored.result in
    let head = c.loop.head in
    let live : 1 ≤ me.0.seats = omega (arith, ap (λ (m : Sitter g.row.F.Denot). m.0.seats) is, c.requires.live) in
    let open_is = ap (λ (m : Sitter g.row.F.Denot). m.0.knows.filling) is ∙ ap (with_next (Some next)) c.requires.filled.1 in
    let node : IsNode me.0.knows.n c.args.v = subst (λ n. IsNode n c.args.v) (sym (ap (λ (m : Sitter g.row.F.Denot). m.0.knows.n) is ∙ c.requires.n)) c.requires.node in
    let placed = subst (λ p. IsMet fact c.args.seat.now.me.0.knows.fact c.args.v (record { pos = p; dist = dist })) (sym c.next_stored.ensures.pos) c.requires.filled.2 in
    let met = subst (λ value. IsMet fact value c.args.v (record { pos = pos_in next; dist = dist })) (sym (ap (λ (m : Sitter g.row.F.Denot). m.0.knows.fact) is)) placed in
    let new : c.args.cell + 1 ≡ c.from.result + 1 = ap (λ k. k + 1) (sym c.from.ensures) in (
      c.store.ensures.0 ∙ c.loop.invariant.2 ∙ c.requires.table,
      omega (arith, c.head_word-in-loop.ensures, c.requires.inside, c.requires.node.up_to_n),
      subst (λ (t : ℕ × ℕ). Allows (IsLawful fact c.args.words.now.key) slots c.store.new.seat.id me t.0 (λ k. either (k == head) t.1 k) (LinkedTo (step slots t.0 head t.1 none) me)) (λ k. (sym c.head_word-in-loop.ensures k, new k))
          (links_one fact c.args.words.now.key slots c.store.new.seat.id me live c.args.v node c.args.cell next dist head open_is c.next_stored.ensures.name met),
    )

-- what the exchange told, of the seat as it was at first
pub returns-then-found-head-clause-linked : goal.returns-then-found-head-clause-linked
returns-then-found-head-clause-linked g c =
    let before = (goal.at.returns-then-found-head-clause-linked g c).After-store in
    let is = named_is g before in
    let k0 = c.args.seat.now.me.0 in
    let next = c.next_stored.result in
    let told : IsLink c.store.new.seat.me c.args.v c.compare_exchange-found.new.seat.me = (c.compare_exchange-found.ensures.2 c.args.v c.head_word-in-loop.ensures).0 c.if-found-head.true in
    let view =
    told.view ∙ ap (λ (m : Sitter g.row.F.Denot). knowing m.0 (with_link m.0.knows c.args.v told.older)) is in
    let slots = told.slots ∙ ap (λ (m : Sitter g.row.F.Denot). m.1) is in
    (told.older, next, c.next_stored.ensures.pos, subst (λ (m : Sitter g.row.F.Denot). IsTailOf (seen_of m.0.knows.marks c.args.v) told.older) is told.goes_on, λ k. (view k, slots k))

pub loop-preserved : goal.loop-preserved
loop-preserved g c =
    let before = (goal.at.loop-preserved g c).After-store in
    let e = c.compare_exchange-found.ensures in
    let i = c.loop.invariant in
    let same = (e.2 c.args.v c.head_word-in-loop.ensures).1 c.if-found-head.false in
    (tt, tt, e.0 ∙ c.store.ensures.0 ∙ i.2, e.1 ∙ c.store.ensures.1 ∙ i.3, (Some before.next_stored.result, same ∙ named_is g before))
