use Rattle.std.proofs.Common.{Contains, sym, ap, subst, ◌∙◌}
use Rattle.walk_laws.specs.declared.entry.Entry.{Entry}
use Rattle.hub_index.specs.RootDistances.{IsCover}
use Rattle.hub_index.specs.CompactRows.{row_of_parts}
use Rattle.hub_index.proofs.row.Row.offer.Goals as goal
use Rattle.hub_index.proofs.row.Row.offer.Goals.{In_default}

-- none of the entries covers
none : (c : In_default) → (e : Entry) → Contains c.args.self.now e → IsCover c.args.table.now c.args.entry.pos c.args.entry.dist e → ⊥
none c e there =
    let row = ap (λ compact. row_of_parts compact c.deref-2.result.now) c.deref.ensures.value ∙ ap (row_of_parts c.self.inside.compact.items) c.deref-2.ensures.value ∙ c.self.view_is in
    λ cover. c.in_default.ensures.none e (subst (λ row. Contains row e) (sym row) there) (subst (λ d. IsCover c.args.table.now c.args.entry.pos d e) (sym c.get.ensures.value) cover)

pub returns-then-is_err-clause-answer : goal.returns-then-is_err-clause-answer
returns-then-is_err-clause-answer c = none (goal.at.returns-then-is_err-clause-answer c).In_default

pub returns-clause-answer : goal.returns-clause-answer
returns-clause-answer c = none (goal.at.returns-clause-answer c).In_default
