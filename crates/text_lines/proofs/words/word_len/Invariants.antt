use Rattle.std.proofs.Common.{◌≡◌, ◌-◌, ◌≤◌, length, take, drop}
use Rattle.text_lines.specs.Words.{words_after, words_of}
use Rattle.text_lines.proofs.words.word_len.Given as goal

-- what is passed begins the first word
abbrev pub invariant-loop-len : goal.invariant-loop-len
invariant-loop-len l = record {
  within : l.len ≤ length l.line;
  same : words_after (take l.len l.line) (drop l.len l.line) ≡ words_of l.line;
}

abbrev pub decreases-loop-len : goal.decreases-loop-len
decreases-loop-len l = length l.line - l.len
