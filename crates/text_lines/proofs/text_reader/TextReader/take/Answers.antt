use Rattle.std.proofs.Common.{inl, inr, ◌++◌, Ok, ap, sym, ◌∙◌}
use Rattle.std.proofs.lemmas.Result.{err_from_is_err_and}
use Rattle.desk_io.specs.Lines.{open_bytes}
use Rattle.desk_io.proofs.LineCuts.{whole_lines-run, open_rest-run}
use Rattle.text_lines.specs.Judgement.{after_lines}
use Rattle.text_lines.proofs.LinesTaken.{line_taken, line_refused, rest_after}
use Rattle.text_lines.proofs.text_reader.TextReader.take.Goals as goal

pub loop-run-preserved : goal.loop-run-preserved
loop-run-preserved g c =
    let J = g.J.JudgesLines in
    record {
      judged =
          line_taken J.judged J.ended c.loop-run.self.progress c.take_line.new.self.progress c.loop-run.self.begun c.loop-run.rest.now c.in-Some.run'.now c.in-Some.after.now c.take_line.new.self.begun c.in-Some.ensures.found c.in-Some.ensures.first c.in_default-take_line.ensures.judged c.in_default-take_line.ensures.begun
          ∙ c.loop-run.invariant.judged;
      begun =
          rest_after c.loop-run.self.begun c.loop-run.rest.now c.in-Some.run'.now c.in-Some.after.now c.take_line.new.self.begun c.in-Some.ensures.found c.in-Some.ensures.first c.in_default-take_line.ensures.begun
          ∙ c.loop-run.invariant.begun;
      refusal = c.take_line.ensures.refusal ∙ c.loop-run.invariant.refusal;
    }

pub returns-in-Err-clause-err : goal.returns-in-Err-clause-err
returns-in-Err-clause-err g c =
    let J = g.J.JudgesLines in
    elim c.in-Err.ensures.err [
      | inl none ↦ inl none
      | inr shows ↦ inr (sym c.loop-run.invariant.judged ∙ line_refused J.judged J.ended c.loop-run.self.progress c.loop-run.self.begun c.loop-run.rest.now c.in-Some.run'.now c.in-Some.after.now c.in-Err.fault c.in-Some.ensures.found c.in-Some.ensures.first shows)
    ]

pub returns-clause-judged : goal.returns-clause-judged
returns-clause-judged g c =
    let J = g.J.JudgesLines in
    sym c.loop-run.invariant.judged
    ∙ ap (after_lines J.judged J.ended c.loop-run.self.progress) (whole_lines-run c.loop-run.self.begun c.loop-run.rest.now c.in_default.ensures.none)
    ∙ sym (ap (λ r. Ok r.progress) c.self.view_is)

pub returns-clause-begun : goal.returns-clause-begun
returns-clause-begun g c =
    ap open_bytes c.in_ok-gather.ensures.ok
    ∙ ap (λ r. r.begun ++ c.loop-run.rest.now) c.self.view_is
    ∙ sym (open_rest-run c.loop-run.self.begun c.loop-run.rest.now c.in_default.ensures.none)
    ∙ c.loop-run.invariant.begun

pub returns-in_err-gather-clause-err : goal.returns-in_err-gather-clause-err
returns-in_err-gather-clause-err g c =
    let p = err_from_is_err_and c.from_residual.result c.from_residual.ensures.1 in
    rw p.1 (inl (g.met.J.JudgesLines.want _ _ p.2))
