use Rattle.std.proofs.Common.{◌≡◌, ⊎_elim, inl, inr, ℕ, suc, ◌+◌, ◌-◌, ◌<◌, List, ◌∷◌, refl, sym, ap, ◌∙◌, arith, subst}
use Rattle.std.specs.List.{range_with_len}
use Rattle.std.specs.Prelude.{Some, None}
use Rattle.table_seats.specs.Numbers.{numbers}
use Rattle.table_seats.specs.Seats.{knowing}
use Rattle.label_pool.specs.Chains.{IsTailOf, seen_of}
use Rattle.label_pool.specs.Fillings.{filled, linked_of, with_next}
use Rattle.label_pool.specs.Lawful.{Sitter}
use Rattle.label_pool.specs.Seats.{AreWithin, HasReserve, HasTaken, IsMet}
use Rattle.label_pool.specs.Steps.{IsRefilled, with_filling, with_link, with_opened}
use Rattle.label_pool.proofs.Calls.{has-put}
use Rattle.label_pool.proofs.pool.Pool.put.Goals as goal

-- the first of some numbers, and the others
first-of : (next end : ℕ) → next < end → numbers next end ≡ next ∷ numbers (next + 1) end
first-of next end some_left = let more : end - next ≡ suc (end - (next + 1)) = omega (arith, some_left) in ap (range_with_len next) more

-- a seat that is refilled has the first of its cells first in reserve
first-in-reserve : {F : Type 0} (me : Sitter F) (next end : ℕ) (after : Sitter F) → IsRefilled me next end after → after.0.knows.reserve ≡ next ∷ numbers (next + 1) end
first-in-reserve me next end after r = ap (λ m. m.0.knows.reserve) r.after_is ∙ first-of next end r.some

pub open_first-requires-clause-reserve : goal.open_first-requires-clause-reserve
open_first-requires-clause-reserve g c =
    let next = c.refill-room.new.next in
    let end = c.refill-room.new.end in
    (numbers (next + 1) end, first-in-reserve c.seat.inside.seat.me next end c.refill-room.new.seat.me c.in_default.ensures.ok)

pub link-requires-clause-filled : goal.link-requires-clause-filled
link-requires-clause-filled g c =
    let k0 = c.seat.inside.seat.me in
    let next = c.refill-room.new.next in
    let end = c.refill-room.new.end in
    let dist = c.args.entry.dist in
    let rest : List ℕ = numbers (next + 1) end in
    let r : IsRefilled k0 next end c.refill-room.new.seat.me = c.in_default.ensures.ok in
    let opened : c.open_first.new.seat.me ≡ (knowing k0.0 (record k0.0.knows { blocks = r.blocks; reserve = rest; filling = Some (filled next None dist) }), k0.1) =
    c.open_first.ensures.opened rest (first-in-reserve k0 next end c.refill-room.new.seat.me r) ∙ ap (λ (m : Sitter g.row.F.Denot). (knowing m.0 (with_opened m.0.knows next rest dist), m.1)) r.after_is in
    let fact_is = ap (λ (m : Sitter g.row.F.Denot). m.0.knows.fact) opened ∙ ap (λ d. d.pool.fact) c.seat.view_is ∙ ap (λ p. p.fact) c.requires.seat in (
      dist,
      ap (λ (m : Sitter g.row.F.Denot). m.0.knows.filling) opened,
      subst (λ fact. IsMet g.F.LinkFact.fact fact c.args.v c.args.entry) (sym fact_is) c.requires.fact,
    )

-- the first of the cells in reserve is taken
taken : {F : Type 0} (me : Sitter F) (next end : ℕ) (after : Sitter F) (r : IsRefilled me next end after) → HasTaken me.0.knows.block me.0.knows.blocks me.0.knows.reserve next r.blocks (numbers (next + 1) end)
taken me next end after r =
    let first = first-of next end r.some in
    ⊎_elim (λ had. inl (had.0 ∙ first, had.1)) (λ drew. inr (drew.0, (drew.1.0, drew.1.1, drew.1.2 ∙ first))) r.drew

pub returns-clause-put : goal.returns-clause-put
returns-clause-put g c =
    let k0 = c.seat.inside.seat.me in
    let next = c.refill-room.new.next in
    let end = c.refill-room.new.end in
    let dist = c.args.entry.dist in
    let rest : List ℕ = numbers (next + 1) end in
    let r : IsRefilled k0 next end c.refill-room.new.seat.me = c.in_default.ensures.ok in
    let opened : c.open_first.new.seat.me ≡ (knowing k0.0 (record k0.0.knows { blocks = r.blocks; reserve = rest; filling = Some (filled next None dist) }), k0.1) =
    c.open_first.ensures.opened rest (first-in-reserve k0 next end c.refill-room.new.seat.me r) ∙ ap (λ (m : Sitter g.row.F.Denot). (knowing m.0 (with_opened m.0.knows next rest dist), m.1)) r.after_is in
    let l = c.link.ensures.linked in
    let linked : linked_of (Some (filled next (Some l.1) dist)) ≡ record { cell = next; entry = c.args.entry } = ap (λ (p : ℕ). record { cell = next; entry = record { pos = p; dist = dist } }) l.2 in
    let goes_on = subst (λ (m : Sitter g.row.F.Denot). IsTailOf (seen_of m.0.knows.marks c.args.v) l.0) opened l.3 in
    let after = ap (λ m. m.0) l.4 ∙ ap (λ (m : Sitter g.row.F.Denot). knowing m.0 (with_link (with_filling m.0.knows (with_next (Some l.1) m.0.knows.filling)) c.args.v l.0)) opened in
    has-put c.seat.inside.seat.table_id c.link.new.seat.table_id c.seat.inside.left k0.0 c.link.new.seat.me.0 c.args.seat.now c.seat.view_is (c.link.ensures.same.0 ∙ c.open_first.ensures.same.0 ∙ c.refill-room.ensures.same.0)
    c.args.v c.args.entry next r.blocks rest (taken k0 next end c.refill-room.new.seat.me r) (omega (arith, r.some, r.within)) l.0 goes_on (Some (filled next (Some l.1) dist)) linked after

pub invariant_of-seat-2 : goal.invariant_of-seat-2
invariant_of-seat-2 g c =
    let i = c.seat.invariant in
    let k0 = c.seat.inside.seat.me in
    let next = c.refill-room.new.next in
    let end = c.refill-room.new.end in
    let dist = c.args.entry.dist in
    let rest : List ℕ = numbers (next + 1) end in
    let r : IsRefilled k0 next end c.refill-room.new.seat.me = c.in_default.ensures.ok in
    let l = c.link.ensures.linked in
    let opened = c.open_first.ensures.opened rest (first-in-reserve k0 next end c.refill-room.new.seat.me r) ∙ ap (λ (m : Sitter g.row.F.Denot). (knowing m.0 (with_opened m.0.knows next rest dist), m.1)) r.after_is in
    let linked = l.4 ∙ ap (λ (m : Sitter g.row.F.Denot). (knowing m.0 (with_link (with_filling m.0.knows (with_next (Some l.1) m.0.knows.filling)) c.args.v l.0), m.1)) opened in (
      ap (λ (m : Sitter g.row.F.Denot). m.0.seats) linked ∙ i.0,
      i.1,
      ap (λ (m : Sitter g.row.F.Denot). m.0.knows.filling) linked,
      ap (λ (m : Sitter g.row.F.Denot). m.1) linked ∙ i.3,
      subst (λ (m : Sitter g.row.F.Denot). AreWithin m.0.knows) (sym linked) i.4,
      subst (λ (m : Sitter g.row.F.Denot). HasReserve m.0.knows (next + 1) end) (sym linked) (record { reserve = refl; ordered = omega (arith, r.some); most = omega (arith, r.most); within = r.within }),
      subst (λ (m : Sitter g.row.F.Denot). end < next + 1 + m.0.knows.block) (sym linked) (omega (arith, r.most)),
    )
