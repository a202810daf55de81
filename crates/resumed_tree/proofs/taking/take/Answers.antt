use Rattle.std.proofs.Common.{◌-◌, ◌<◌, [], length, insert, set, get_or-set_same, sym, ap, subst, ◌∙◌, arith}
use Rattle.walk_laws.specs.Labelling.{label_row}
use Rattle.resumed_tree.specs.declared.taking.Stand.TheVariants.{Instead, Before}
use Rattle.resumed_tree.specs.Taken.{IsStand, IsTaken}
use Rattle.resumed_tree.proofs.TakenEntries.{IsTaken-instead, IsTaken-before}
use Rattle.resumed_tree.proofs.taking.take.Goals as goal
use Rattle.resumed_tree.proofs.taking.take.Goals.{In-Instead, In-Before}

instead : (c : In-Instead) → IsStand c.args.table.now (label_row c.args.rows.now c.args.v) c.args.entry (Instead c.in-Instead.place)
instead c = subst (λ row. IsStand c.args.table.now row c.args.entry (Instead c.in-Instead.place)) c.row.ensures c.in-Instead.ensures

before : (c : In-Before) → IsStand c.args.table.now (label_row c.args.rows.now c.args.v) c.args.entry (Before c.in-Before.place)
before c = subst (λ row. IsStand c.args.table.now row c.args.entry (Before c.in-Before.place)) c.row.ensures c.in-Before.ensures

pub returns-in-Instead-clause-taken : goal.returns-in-Instead-clause-taken
returns-in-Instead-clause-taken c = λ _.
    let row = label_row c.args.rows.now c.args.v in
    let inside : c.args.v - 1 < length c.args.rows.now = omega (arith, c.requires.node, c.requires.within) in
    let next = ap (λ rows. label_row rows c.args.v) c.set.ensures ∙ get_or-set_same c.args.rows.now (c.args.v - 1) (set row c.in-Instead.place c.args.entry) [] inside in
    subst (λ after. IsTaken row after c.args.entry) (sym next) (IsTaken-instead row c.args.entry c.requires.rising c.in-Instead.place (instead (goal.at.returns-in-Instead-clause-taken c).In-Instead).1)

pub returns-in-Instead-clause-uncovered : goal.returns-in-Instead-clause-uncovered
returns-in-Instead-clause-uncovered c = λ _. (instead (goal.at.returns-in-Instead-clause-uncovered c).In-Instead).0

pub returns-in_ok-put_at-in-Before-clause-taken : goal.returns-in_ok-put_at-in-Before-clause-taken
returns-in_ok-put_at-in-Before-clause-taken c = λ _.
    let row = label_row c.args.rows.now c.args.v in
    let inside : c.args.v - 1 < length c.args.rows.now = omega (arith, c.requires.node, c.requires.within) in
    let next = ap (λ rows. label_row rows c.args.v) c.in_ok-put_at-in-Before.ensures.ok ∙ get_or-set_same c.args.rows.now (c.args.v - 1) (insert row c.in-Before.place c.args.entry) [] inside in
    subst (λ after. IsTaken row after c.args.entry) (sym next) (IsTaken-before row c.args.entry c.requires.rising c.in-Before.place (before (goal.at.returns-in_ok-put_at-in-Before-clause-taken c).In-Before).1)

pub returns-in_ok-put_at-in-Before-clause-uncovered : goal.returns-in_ok-put_at-in-Before-clause-uncovered
returns-in_ok-put_at-in-Before-clause-uncovered c = λ _. (before (goal.at.returns-in_ok-put_at-in-Before-clause-uncovered c).In-Before).0
