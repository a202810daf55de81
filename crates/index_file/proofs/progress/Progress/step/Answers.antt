use Rattle.std.proofs.Common.{◌≡◌, [], ◌∷◌, ◌++◌, get_or, ap, ◌∙◌, arith}
use Rattle.std.proofs.lemmas.Grind.{common_steps}
use Rattle.std.proofs.lemmas.Result.{err_from_is_err_and}
use Rattle.index_file.proofs.Steps.{Refuses-none, Refuses-part, single}
use Rattle.index_file.proofs.progress.Progress.step.Goals as goal

pub returns-in_err-progress-clause-refused : goal.returns-in_err-progress-clause-refused
returns-in_err-progress-clause-refused c =
    let p = err_from_is_err_and c.from_residual.result c.from_residual.ensures.1 in
    let i = c.self.inside in
    let none : c.self.inside.held.items ≡ [] = grind (arith, common_steps) in
    rw (p.1, p.2, ← c.self.view_is) (Refuses-part (record { next = i.next; held = i.held.items; at = i.at }) c.args.rest.now c.split_at.result.0.now c.split_at.result.1.now _ c.split_at.ensures.by_index.0 (Refuses-none i.next i.held.items i.at c.split_at.result.0.now _ none c.in_err-progress.ensures))

pub returns-in_err-progress-2-clause-refused : goal.returns-in_err-progress-2-clause-refused
returns-in_err-progress-2-clause-refused c =
    let p = err_from_is_err_and c.from_residual-in_err-progress-2.result c.from_residual-in_err-progress-2.ensures.1 in
    let i = c.self.inside in
    let left = c.split_at-2.result.1.now in
    let parts = c.split_at-2.ensures.by_index.0 ∙ ap (λ f. f ++ c.split_at-2.result.1.now) (single c.split_at-2.result.0.now c.split_at-2.ensures.front_len) in
    rw (p.1, p.2, ← c.self.view_is) (Refuses-part (record { next = i.next; held = i.held.items; at = i.at }) c.args.rest.now (get_or c.split_at-2.result.0.now 0 0 ∷ []) left _ parts c.in_err-progress-2.ensures)

pub returns-clause-taken : goal.returns-clause-taken
returns-clause-taken c =
    let parts = c.split_at-2.ensures.by_index.0 ∙ ap (λ f. f ++ c.split_at-2.result.1.now) (single c.split_at-2.result.0.now c.split_at-2.ensures.front_len) in
    rw (← c.self.view_is) (record { taken = get_or c.split_at-2.result.0.now 0 0 ∷ []; parts = parts; leads = c.in_ok-progress-2.ensures })
