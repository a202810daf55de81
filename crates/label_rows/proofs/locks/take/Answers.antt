use Rattle.std.proofs.Common.{◌≡◌, ◌≤◌, ◌<◌, All, length, sym, ◌∙◌, ap, subst, arith}
use Rattle.walk_laws.specs.Joined.{Joined}
use Rattle.walk_laws.specs.Labelling.{EntryFits}
use Rattle.hub_index.specs.Views.{IsNode, GoesOnFrom}
use Rattle.label_rows.specs.Lawful.{Sitter, IsTake, slot_row}
use Rattle.label_rows.specs.Visits.{seen_of}
use Rattle.label_rows.proofs.Allowed.{takes_one}
use Rattle.label_rows.proofs.locks.take.Goals as goal
use Rattle.label_rows.proofs.locks.take.Given

pub swap-requires : goal.swap-requires
swap-requires g c =
    let i = c.loop.invariant in
    let same = i.4 in
    let within : c.args.v < c.args.locks.now.table_id.words = omega (arith, c.requires.words, c.requires.node.up_to_n) in
    let live = subst (λ (me : Sitter). 1 ≤ me.0.seats) (sym same) c.requires.live in
    let node = subst (λ (me : Sitter). IsNode (length me.0.knows.order) c.args.v) (sym same) c.requires.node in
    (i.2 ∙ c.requires.table, within, takes_one _ _ _ c.loop.seat.me live c.args.v (ap (λ (me : Sitter). me.0.knows.hold) same ∙ c.requires.free.0) node)

-- what the take told, of the seat as it was at first
told : (g : Given.Over) (c : goal.After-drop-iterator g) → IsTake c.args.seat.now.me c.args.v c.swap.new.seat.me
told g c = subst (λ (me : Sitter). IsTake me c.args.v c.swap.new.seat.me) c.loop.invariant.4 (c.swap.ensures.2.0 c.if-swap-eq0.true)

-- the row that came out of the slot is the row that was found
row_is : (g : Given.Over) (c : goal.After-drop-iterator g) → (told g c).row ≡ c.exchange.result
row_is g c = ap slot_row (sym (told g c).slot ∙ c.exchange.ensures.2)

pub returns-then-swap-eq0-clause-fit : goal.returns-then-swap-eq0-clause-fit
returns-then-swap-eq0-clause-fit g c = subst (λ row. All (EntryFits (Joined c.args.seat.now.me.0.knows.edges) c.args.seat.now.me.0.knows.order c.args.v) row) (row_is g c) (told g c).fit

pub returns-then-swap-eq0-clause-goes_on : goal.returns-then-swap-eq0-clause-goes_on
returns-then-swap-eq0-clause-goes_on g c = subst (GoesOnFrom (seen_of c.args.seat.now.me.0.knows.visits c.args.v)) (row_is g c) (told g c).goes_on
