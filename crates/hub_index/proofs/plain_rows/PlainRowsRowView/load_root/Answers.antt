use Rattle.std.proofs.Common.{◌≡◌, ◌<◌, All, length, sym, ap, subst}
use Rattle.walk_laws.specs.Labelling.{label_row}
use Rattle.hub_index.specs.PlainRows.{IsGathered}
use Rattle.hub_index.specs.RootDistances.{HoldsRow}
use Rattle.hub_index.proofs.RowsGathered.{found-gathered, positions-found}
use Rattle.hub_index.proofs.plain_rows.PlainRowsRowView.load_root.Goals as goal
use Rattle.hub_index.proofs.plain_rows.PlainRowsRowView.load_root.Goals.{After-self}

gathered_of : (c : After-self) → IsGathered c.args.self.now.edges c.args.self.now.order c.args.self.now.rows
gathered_of c = subst (λ g. IsGathered g.edges g.order g.rows) c.self.view_is c.self.invariant

row_of : (c : After-self) → label_row c.self.inside.rows c.args.h ≡ label_row c.args.self.now.rows c.args.h
row_of c = ap (λ g. label_row g.rows c.args.h) c.self.view_is

pub load-requires-clause-positions : goal.load-requires-clause-positions
load-requires-clause-positions c =
    let at_row = (goal.at.load-requires-clause-positions c).After-self in
    let fit = (gathered_of at_row).fit c.args.h c.requires.node.from_one c.requires.node.up_to_n in
    let found = positions-found c.args.self.now.edges c.args.self.now.order c.args.h (label_row c.args.self.now.rows c.args.h) fit in
    subst (λ row. All (λ e. e.pos < length c.args.table.now) row) (sym (row_of at_row))
    (subst (λ n. All (λ e. e.pos < n) (label_row c.args.self.now.rows c.args.h)) (sym c.requires.size) found)

pub returns-clause-found : goal.returns-clause-found
returns-clause-found c = found-gathered c.args.self.now.edges c.args.self.now.order c.args.self.now.rows c.args.h (gathered_of (goal.at.returns-clause-found c).After-self) c.requires.node

pub returns-clause-held : goal.returns-clause-held
returns-clause-held c = subst (HoldsRow c.load.new.table) (row_of (goal.at.returns-clause-held c).After-self) c.load.ensures.held
