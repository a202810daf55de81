use Rattle.std.proofs.Common.{◌≡◌, sym, ap, subst, ◌∙◌}
use Rattle.std.proofs.lemmas.List.{length-map}
use Rattle.hub_index.specs.CompactRows.{rows_after}
use Rattle.hub_index.specs.WellFormed.{IsWellFormed}
use Rattle.hub_index.proofs.LentRows.{rows_after-parts}
use Rattle.hub_index.proofs.PartedRows.{compact_lists}
use Rattle.hub_index.proofs.split_rows.SplitRows.under.Goals as goal
use Rattle.hub_index.proofs.split_rows.SplitRows.under.Goals.{After-list}

-- the rows that are lent are those of both parts
lent : (c : After-list) → rows_after (compact_lists c.deref.result.now) c.list.result.now ≡ c.args.self.now
lent c =
    let compact = c.self.inside.compact.items in
    let full = c.self.inside.full in
    ap (λ rows. rows_after (compact_lists rows) c.list.result.now) c.deref.ensures.value
    ∙ ap (rows_after (compact_lists compact)) c.list.ensures
    ∙ rows_after-parts (compact_lists compact) full (length-map compact (λ row. row.items) ∙ c.self.invariant.0)
    ∙ c.self.view_is

pub invariant_of-result : goal.invariant_of-result
invariant_of-result c = subst (IsWellFormed c.args.ranking.now) (sym (lent (goal.at.invariant_of-result c).After-list)) c.requires

pub returns-clause-rows : goal.returns-clause-rows
returns-clause-rows c = lent (goal.at.returns-clause-rows c).After-list
