use Rattle.std.proofs.Common.{◌+◌, ◌<◌, All, sym, ap, ◌∙◌, arith, subst}
use Rattle.std.specs.Prelude.{Contains}
use mathlib.Core.Option.{none}
use Rattle.atomic_table.specs.Table.{step, Allows}
use Rattle.hub_index.specs.Views.{IsNode}
use Rattle.label_pool.specs.Lawful.{IsLawful}
use Rattle.std.proofs.lemmas.List.Elements.{All-push, Contains-push}
use Rattle.label_pool.specs.Seats.{AreWithin, HasReserve}
use Rattle.label_pool.specs.Steps.{Found, IsFound}
use Rattle.label_pool.specs.Chains.{first_cell}
use Rattle.label_pool.proofs.Allowed.{finds_one}
use Rattle.label_pool.proofs.Calls.{has-found}
use Rattle.label_pool.proofs.Tails.{named-same, tail-self}
use Rattle.label_pool.proofs.pool.Pool.visit.Goals as goal
use Rattle.label_pool.proofs.pool.Pool.visit.Given
use Rattle.label_pool.proofs.pool.Pool.visit.Goals.{After-load-head}

pub load-head-requires : goal.load-head-requires
load-head-requires g c =
    let i = c.seat.invariant in
    let fact = g.F.LinkFact.fact in
    let about = c.self.inside.table.shared.key in
    let slots = c.self.inside.table.shared.table_id.slots in
    let me = c.seat.inside.seat.me in
    let whose = ap (λ d. d.pool) c.seat.view_is ∙ c.requires.seat in
    let n_is = ap (λ d. d.n) whose in
    let size = sym (ap (λ d. d.n) c.self.view_is) ∙ c.self.invariant.2 in
    let node : IsNode me.0.knows.n c.args.v = subst (λ n. IsNode n c.args.v) (sym n_is) c.requires.node in (
      ap (λ d. d.table) (whose ∙ sym c.self.view_is),
      omega (arith, c.head_word.ensures, c.self.invariant.0, c.requires.node.up_to_n, size),
      subst (λ w. Allows (IsLawful fact about) slots c.seat.inside.seat.id me w (λ n. n) (Found fact (step slots w 0 0 none) me)) (sym c.head_word.ensures)
          (finds_one fact about slots c.seat.inside.seat.id me (omega (arith, i.0)) c.args.v node),
    )

told : (g : Given.Over) (c : After-load-head g) → IsFound g.F.LinkFact.fact c.seat.inside.seat.me c.args.v c.load-head.result c.load-head.new.seat.me
told g c = c.load-head.ensures.2 c.args.v c.head_word.ensures

pub cell_named-requires : goal.cell_named-requires
cell_named-requires g c = (told g c).small

pub invariant_of-seat : goal.invariant_of-seat
invariant_of-seat g c =
    let i = c.seat.invariant in
    let t = told g (goal.at.invariant_of-seat g c).After-load-head in
    let knows = sym (ap (λ v. v.knows) t.view) in
    let has = i.5 in (
      ap (λ v. v.seats) t.view ∙ i.0,
      i.1,
      ap (λ v. v.knows.filling) t.view ∙ i.2,
      t.slots ∙ i.3,
      subst AreWithin knows (All-push (λ look. All (λ l. l.cell < c.seat.inside.seat.me.0.knows.cells) look.found) c.seat.inside.seat.me.0.knows.looks _ i.4 t.within),
      subst (λ v. HasReserve v c.seat.inside.next c.seat.inside.end) knows (record { reserve = has.reserve; ordered = has.ordered; most = has.most; within = has.within }),
      subst (λ v. c.seat.inside.end < c.seat.inside.next + v.block) knows i.6,
    )

pub returns : goal.returns
returns g c =
    let t = told g (goal.at.returns g c).After-load-head in
    let found = has-found _ _ _ _ _ _ c.seat.view_is c.load-head.ensures.0 g.F.LinkFact.fact c.args.self.now c.requires.seat c.args.v t.found t.goes_on t.met t.most t.known t.all_put t.view in
    let looks = ap (λ b. b.looks) found.after_is in
    record {
      found = (
        t.found,
        found,
        record {
          look = record { node = c.args.v; found = t.found };
          there = subst (λ ls. Contains ls (record { node = c.args.v; found = t.found })) (sym looks) (Contains-push c.args.seat.now.looks (record { node = c.args.v; found = t.found }));
          tail = tail-self t.found;
          at_first = c.at.ensures ∙ named-same c.cell_named.result (first_cell t.found) (c.cell_named.ensures ∙ t.first);
        },
      );
    }
