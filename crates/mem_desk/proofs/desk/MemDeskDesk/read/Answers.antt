use Rattle.std.proofs.Common.{◌≡◌, ◌-◌, length, take, drop, sym, ◌∙◌, ap, arith, subst}
use Rattle.std.proofs.lemmas.Grind.{common_steps}
use Rattle.mem_desk.proofs.InputLemmas.{read_off}
use Rattle.mem_desk.proofs.desk.MemDeskDesk.read.Goals as goal

pub returns-clause-moved : goal.returns-clause-moved
returns-clause-moved c =
    let moved = c.copy_from_slice.new.self in
    let moved_is = subst (λ xs. moved ≡ take c.min-count.result (take (length xs - c.self.inside.at) (drop c.self.inside.at xs))) c.as_slice.ensures.value c.copy_from_slice.ensures.after in
    ap (λ m. m.contents.rest) (sym (c.self.view_is ∙ c.in_ok-begin.ensures.ok)) ∙ read_off c.self.inside.at c.min-count.result c.self.inside.input.items moved _ (grind (arith, common_steps)) moved_is
