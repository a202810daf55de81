use Rattle.std.proofs.Common.{◌≡◌, ◌-◌, ◌<◌, ℕ, [], ◌∷◌, List, sym, ◌∙◌, ap, subst, arith}
use Rattle.atomic_table.specs.Table.{rest, step, Allows}
use mathlib.Core.Option.{none}
use Rattle.walk_laws.specs.declared.entry.Entry.{Entry}
use Rattle.label_rows.specs.Lawful.{IsLawful, Sitter, Gave, gave, slot_row}
use Rattle.label_rows.proofs.Allowed.{gives_one}
use Rattle.label_rows.proofs.locks.give.Goals as goal
use Rattle.label_rows.proofs.locks.give.Goals.{After-exchange}

-- the row lies in the slot again
slot_is : (c : After-exchange) → c.exchange.new.seat.me ≡ (c.args.seat.now.me.0, (c.args.v - 1, c.args.row) ∷ [])
slot_is c = c.exchange.ensures.3 ∙ ap (λ (others : List (ℕ × List Entry)). (c.args.seat.now.me.0, (c.args.v - 1, c.args.row) ∷ rest others)) c.requires.slot

pub store-requires : goal.store-requires
store-requires c =
    let e = c.exchange.ensures in
    let r = c.requires in
    let within : c.args.v < c.args.locks.now.table_id.words = omega (arith, r.words, r.node.up_to_n) in
    let step_of : Sitter → Type 0 = λ me. Allows (IsLawful c.args.locks.now.key) c.args.locks.now.table_id.slots c.exchange.new.seat.id me c.args.v (λ _. 0) (λ _. Gave (step c.args.locks.now.table_id.slots c.args.v 0 0 none) me 0) in
    (e.0 ∙ r.table, within, subst step_of (sym (slot_is (goal.at.store-requires c).After-exchange)) (gives_one _ _ _ c.args.seat.now.me.0 c.args.v c.args.row r.live r.node r.may))

pub returns-clause-gave : goal.returns-clause-gave
returns-clause-gave c =
    let e = c.store.ensures.2 in
    let slot = slot_is (goal.at.returns-clause-gave c).After-exchange in
    let view = e.0 ∙ ap (λ (me : Sitter). gave me.0 (slot_row me.1)) slot in
    let slots = e.1 ∙ ap (λ (me : Sitter). rest me.1) slot in
    λ k. (view k, slots k)
