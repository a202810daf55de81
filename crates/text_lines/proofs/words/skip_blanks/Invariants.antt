use Rattle.std.proofs.Common.{◌≡◌, ◌-◌, ◌≤◌, length, drop}
use Rattle.text_lines.specs.Words.{words_of}
use Rattle.text_lines.proofs.words.skip_blanks.Given as goal

-- nothing but blanks is passed
abbrev pub invariant-loop-begin : goal.invariant-loop-begin
invariant-loop-begin l = record {
  within : l.begin ≤ length l.line;
  same : words_of (drop l.begin l.line) ≡ words_of l.line;
}

abbrev pub decreases-loop-begin : goal.decreases-loop-begin
decreases-loop-begin l = length l.line - l.begin
