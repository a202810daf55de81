use Rattle.std.proofs.Common.{◌≡◌, ◌<◌, All, length, sym, ap, subst, ◌∙◌}
use Rattle.std.proofs.lemmas.List.{length-replicate}
use Rattle.hub_index.specs.RootDistances.{noted}
use Rattle.hub_index.specs.CompactRows.{row_of_parts}
use Rattle.hub_index.proofs.NotedRows.{HoldsRow-noted, length-noted}
use Rattle.hub_index.proofs.row.Row.load.Goals as goal
use Rattle.hub_index.proofs.row.Row.load.Goals.{After-deref-2}

-- the two parts are the row
row_is : (c : After-deref-2) → row_of_parts c.deref.result.now c.deref-2.result.now ≡ c.args.self.now
row_is c = ap (λ compact. row_of_parts compact c.deref-2.result.now) c.deref.ensures.value ∙ ap (row_of_parts c.self.inside.compact.items) c.deref-2.ensures.value ∙ c.self.view_is

pub note_parts-requires : goal.note_parts-requires
note_parts-requires c =
    subst (All (λ e. e.pos < length c.clear.new.self)) (sym (row_is (goal.at.note_parts-requires c).After-deref-2))
    (subst (λ n. All (λ e. e.pos < n) c.args.self.now) (sym (ap length c.clear.ensures ∙ length-replicate (length c.args.table.now) _)) c.requires)

pub returns-clause-held : goal.returns-clause-held
returns-clause-held c =
    HoldsRow-noted (length c.args.table.now) c.clear.new.self c.note_parts.new.table c.args.self.now c.clear.ensures c.requires
    (c.note_parts.ensures ∙ ap (noted c.clear.new.self) (row_is (goal.at.returns-clause-held c).After-deref-2))

pub returns-clause-size : goal.returns-clause-size
returns-clause-size c = ap length c.note_parts.ensures ∙ length-noted c.clear.new.self (row_of_parts c.deref.result.now c.deref-2.result.now) ∙ ap length c.clear.ensures ∙ length-replicate (length c.args.table.now) _
