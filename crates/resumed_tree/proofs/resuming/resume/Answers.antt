use Rattle.std.proofs.Common.{◌≡◌, sym, subst, ◌∙◌}
use Rattle.std.specs.Prelude.{Some}
use Rattle.walk_laws.specs.Labelling.{label_row}
use Rattle.hub_index.specs.RootDistances.{HoldsRow}
use Rattle.resumed_tree.proofs.resuming.resume.Goals as goal

pub resume_from-requires-clause-root : goal.resume_from-requires-clause-root
resume_from-requires-clause-root c = λ h root.
    let same : c.at.result ≡ h = let both : Some c.at.result ≡ Some h = sym c.at.ensures.value ∙ root in cc in
    subst (λ x. HoldsRow c.load.new.self (label_row c.args.rows.now x)) same (subst (HoldsRow c.load.new.self) c.row.ensures c.load.ensures.held)
