use Rattle.std.proofs.Common.{◌≡◌, ◌^◌, ◌<◌, ◌-◌, ◌≤◌, true, length, take, drop}
use Rattle.std.specs.Str.{all_ascii_digits}
use Rattle.std.specs.Str.Parse.{digits_value}
use Rattle.text_lines.specs.Words.{words_after, words_of}
use Rattle.text_lines.proofs.words.leading_digits.Given as goal

-- what is passed are digits, which begin the first word, and the value is theirs
abbrev pub invariant-loop-len : goal.invariant-loop-len
invariant-loop-len l = record {
  within : l.len ≤ length l.line;
  short : l.len ≤ 19;
  small : l.value < 10 ^ l.len;
  words : words_after (take l.len l.line) (drop l.len l.line) ≡ words_of l.line;
  digits : all_ascii_digits (take l.len l.line) ≡ true;
  value : l.value ≡ digits_value 10 (take l.len l.line);
}

abbrev pub decreases-loop-len : goal.decreases-loop-len
decreases-loop-len l = length l.line - l.len
