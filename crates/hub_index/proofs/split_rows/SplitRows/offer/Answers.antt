use Rattle.std.proofs.Common.{Contains, sym, subst}
use Rattle.walk_laws.specs.declared.entry.Entry.{Entry}
use Rattle.walk_laws.specs.Labelling.{label_row}
use Rattle.hub_index.specs.RootDistances.{IsCover}
use Rattle.hub_index.proofs.split_rows.SplitRows.offer.Goals as goal
use Rattle.hub_index.proofs.split_rows.SplitRows.offer.Goals.{In_default}

-- none of the entries covers
none : (c : In_default) → (e : Entry) → Contains (label_row c.args.self.now c.args.v) e → IsCover c.args.table.now c.args.entry.pos c.args.entry.dist e → ⊥
none c e there cover = c.in_default.ensures.none e there (subst (λ d. IsCover c.args.table.now c.args.entry.pos d e) (sym c.get.ensures.value) cover)

pub returns-then-is_err-clause-answer : goal.returns-then-is_err-clause-answer
returns-then-is_err-clause-answer c = none (goal.at.returns-then-is_err-clause-answer c).In_default

pub returns-clause-answer : goal.returns-clause-answer
returns-clause-answer c = none (goal.at.returns-clause-answer c).In_default
