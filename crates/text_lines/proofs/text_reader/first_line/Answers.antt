use Rattle.std.proofs.Common.{◌++◌, ◌∷◌, ◌+◌, take, drop, ap, ◌∙◌, sym, arith, length-drop, take_all}
use Rattle.text_lines.proofs.FirstEnd.{no_end_before, parted, no_end}
use Rattle.text_lines.proofs.text_reader.first_line.Goals as goal

pub returns-clause-found : goal.returns-clause-found
returns-clause-found c =
    let bytes = c.args.bytes.now in
    let end = c.in_ok-end.end in
    parted bytes end c.in_ok-end.ensures
    ∙ ap (λ rest. take c.in_ok-end.end c.args.bytes.now ++ 10 ∷ rest) (sym (take_all _ (drop (c.in_ok-end.end + 1) c.args.bytes.now) (omega (arith, length-drop (c.in_ok-end.end + 1) c.args.bytes.now))))

pub returns-clause-first : goal.returns-clause-first
returns-clause-first c = no_end_before c.args.bytes.now c.in_ok-end.end c.in_ok-end.ensures

pub returns-in_err-end-clause-none : goal.returns-in_err-end-clause-none
returns-in_err-end-clause-none c = rw c.from_residual.ensures (no_end c.args.bytes.now c.in_err-end.ensures)
