use Rattle.std.proofs.Common.{sym, ap, ◌∙◌, subst, arith}
use mathlib.Core.Option.{none}
use Rattle.atomic_table.specs.Table.{step, Allows}
use Rattle.table_seats.specs.Seats.{knowing}
use Rattle.label_pool.specs.Lawful.{IsLawful}
use Rattle.label_pool.specs.Steps.{Opened, with_opened}
use Rattle.label_pool.specs.Layout.{dist_at}
use Rattle.label_pool.proofs.Allowed.{opens_one}
use Rattle.label_pool.proofs.linking.open_first.Goals as goal

pub store-requires : goal.store-requires
store-requires g c =
    let fact = g.F.LinkFact.fact in
    let slots = c.args.words.now.table_id.slots in
    let me = c.args.seat.now.me in
    let x = c.get_u64.result in
    let word = c.dist_word.ensures ∙ ap (λ n. dist_at n c.args.cell) (sym c.requires.n) in (
      c.requires.table,
      omega (arith, c.dist_word.ensures, c.requires.inside),
      subst (λ w. Allows (IsLawful fact c.args.words.now.key) slots c.args.seat.now.id me w (λ _. x) (λ _. Opened (step slots w x 0 none) me x)) (sym word)
          (opens_one fact c.args.words.now.key slots c.args.seat.now.id me c.requires.live c.args.cell c.requires.reserve.0 x c.requires.filling c.requires.reserve.1),
    )

pub returns-clause-opened : goal.returns-clause-opened
returns-clause-opened g c = λ rest is.
    let me = c.args.seat.now.me in
    let e = c.store.ensures.2 c.args.cell rest is in
    (λ k. (e.0 k, e.1 k)) ∙ ap (λ d. (knowing me.0 (with_opened me.0.knows c.args.cell rest d), me.1)) c.get_u64.ensures
