use Rattle.std.proofs.Common.{◌≡◌, Some, length, subst, sym, arith}
use Rattle.std.specs.List.{slice_get}
use Rattle.walk_laws.specs.Labelling.{label_row}
use Rattle.walk_laws.specs.Meet.{IsLeastSum, ShareNone}
use Rattle.hub_query.proofs.RowFacts.{row_positions, HasSum-position}
use Rattle.hub_query.proofs.asking.ask_from.Goals as goal

pub least_through-requires-clause-within : goal.least_through-requires-clause-within
least_through-requires-clause-within c =
    let index = c.args.index.now in
    rw c.row.ensures.value (λ k d lt.
    omega (arith, row_positions index.order index.rows c.args.v c.row.ensures.well_formed c.requires.second.0 c.requires.second.1 k d lt, c.requires.size, c.turn.ensures.size))

pub at-requires : goal.at-requires
at-requires c =
    let index = c.args.index.now in
    let first = label_row index.rows c.args.u in
    let found : IsLeastSum first c.row.result.now c.in-Some.pos c.in-Some.dist = c.in-Some.ensures first c.turn.ensures.row (c.requires.short c.args.u c.requires.first.0 c.requires.first.1) in
    rw c.ranking.ensures.value
    (HasSum-position first c.row.result.now c.in-Some.pos c.in-Some.dist (length index.order) found.sum (row_positions index.order index.rows c.args.u c.row.ensures.well_formed c.requires.first.0 c.requires.first.1))

pub returns-in-None-clause-meet : goal.returns-in-None-clause-meet
returns-in-None-clause-meet c =
    let index = c.args.index.now in
    let first = label_row index.rows c.args.u in
    subst (ShareNone first) c.row.ensures.value (c.in-None.ensures first c.turn.ensures.row (c.requires.short c.args.u c.requires.first.0 c.requires.first.1))

pub returns-in-Some-clause-meet : goal.returns-in-Some-clause-meet
returns-in-Some-clause-meet c =
    let index = c.args.index.now in
    let first = label_row index.rows c.args.u in
    let found : IsLeastSum first c.row.result.now c.in-Some.pos c.in-Some.dist = c.in-Some.ensures first c.turn.ensures.row (c.requires.short c.args.u c.requires.first.0 c.requires.first.1) in
    let hub : slice_get index.order c.in-Some.pos ≡ Some c.at.result = subst (λ order. slice_get order c.in-Some.pos ≡ Some c.at.result) c.ranking.ensures.value c.at.ensures.value in
    (c.in-Some.pos, hub, subst (λ dist. IsLeastSum first (label_row index.rows c.args.v) c.in-Some.pos dist) (sym c.from.ensures) (subst (λ row. IsLeastSum first row c.in-Some.pos c.in-Some.dist) c.row.ensures.value found))
