use Rattle.std.proofs.Common.{◌≡◌, length}
use Rattle.desk_io.specs.Lines.{whole_lines, open_rest}
use Rattle.text_lines.specs.Judgement.{after_lines}
use Rattle.text_lines.proofs.text_reader.TextReader.take.Given as goal

-- what is left comes to what the piece comes to
abbrev pub invariant-loop-run : goal.invariant-loop-run
invariant-loop-run g l =
    let lines = after_lines g.J.JudgesLines.judged g.J.JudgesLines.ended in
    record {
      judged : lines l.self.progress (whole_lines l.self.begun l.rest) ≡ lines l.fn.self.progress (whole_lines l.fn.self.begun l.piece);
      begun : open_rest l.self.begun l.rest ≡ open_rest l.fn.self.begun l.piece;
      refusal : l.self.refusal ≡ l.fn.self.refusal;
    }

abbrev pub decreases-loop-run : goal.decreases-loop-run
decreases-loop-run g l = length l.rest
