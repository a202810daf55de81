use Rattle.std.proofs.Common.{sym, ap, subst, ◌∙◌}
use Rattle.hub_index.specs.WellFormed.{IsWellFormed}
use Rattle.hub_index.proofs.LentRows.{rows_after-none}
use Rattle.hub_index.proofs.index.Index.rows.Goals as goal

pub invariant_of-result : goal.invariant_of-result
invariant_of-result c = subst (IsWellFormed c.self.inside.ranking) (sym (rows_after-none c.self.inside.rows)) c.self.invariant.0

pub returns-clause-rows : goal.returns-clause-rows
returns-clause-rows c = rows_after-none c.self.inside.rows ∙ ap (λ i. i.rows) c.self.view_is
