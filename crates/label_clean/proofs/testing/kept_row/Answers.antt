use Rattle.std.proofs.Common.{◌<◌, All, length, sym, subst, ◌∙◌}
use Rattle.walk_laws.specs.declared.entry.Entry.{Entry}
use Rattle.walk_laws.specs.Labelling.{label_row}
use Rattle.label_clean.specs.RawRows.{IsRawRow}
use Rattle.label_clean.specs.Needless.{IsNeedless}
use Rattle.label_clean.specs.Kept.{IsKept}
use Rattle.label_clean.proofs.TestedRows.{HoldsLeast-loaded}
use Rattle.label_clean.specs.Tested.{HoldsLeast}
use Rattle.label_clean.proofs.testing.kept_row.Goals as goal
use Rattle.label_clean.proofs.testing.kept_row.Goals.{After-load}

pub load-requires : goal.load-requires
load-requires c =
    subst (All (λ (e : Entry). e.pos < length c.args.table.now)) (sym c.row-row.ensures)
    (subst (λ n. All (λ (e : Entry). e.pos < n) (label_row c.args.tested.now c.args.v)) (sym c.requires.size) (c.requires.tested.raw c.args.v c.requires.node c.requires.node_within).within)

pub keep-requires-clause-row : goal.keep-requires-clause-row
keep-requires-clause-row c = subst (IsRawRow (length c.args.ranking.now)) (sym c.row-row.ensures) (c.requires.tested.raw c.args.v c.requires.node c.requires.node_within)

-- the table has the distances of the row
held_of : (c : After-load) → HoldsLeast c.load.new.self (label_row c.args.tested.now c.args.v)
held_of c = HoldsLeast-loaded c.args.ranking.now c.args.tested.now c.args.v c.row-row.result.now c.load.new.self c.requires.tested c.requires.node c.requires.node_within c.row-row.ensures c.load.ensures.held

pub returns-then-branch-clause-kept : goal.returns-then-branch-clause-kept
returns-then-branch-clause-kept c =
    subst (All (λ e. IsNeedless c.args.ranking.now c.args.tested.now c.args.v e → ⊥)) c.row-row.ensures
    (c.in_ok-keep.ensures.all c.if-branch.true c.args.v (held_of (goal.at.returns-then-branch-clause-kept c).After-load))

pub returns-clause-kept : goal.returns-clause-kept
returns-clause-kept c =
    let P = IsNeedless c.args.ranking.now c.args.tested.now c.args.v in
    let kept = c.in_ok-keep.ensures.kept c.args.v (held_of (goal.at.returns-clause-kept c).After-load) in
    subst (IsKept P (label_row c.args.tested.now c.args.v)) (sym (c.in_ok-row.ensures.items ∙ c.deref.ensures.value))
    (subst (λ row. IsKept P row c.keep.new.kept.items) c.row-row.ensures kept)
