use Rattle.std.proofs.Common.{◌≡◌, ◌^◌, min, take, drop}
use Rattle.std.specs.Str.Parse.{digits_value}
use Rattle.text_lines.specs.Words.{number_of}
use Rattle.text_lines.proofs.Digits.{number_after_digits}
use Rattle.text_lines.proofs.words.number.Given as goal

-- the bytes so far are digits, and the value is theirs, up to its greatest
abbrev pub invariant-loop-byte : goal.invariant-loop-byte
invariant-loop-byte l = record {
  digits : number_after_digits (digits_value 10 (take l.byte-index l.word)) (drop l.byte-index l.word) ≡ number_of l.word;
  value : l.value ≡ min (digits_value 10 (take l.byte-index l.word)) (2 ^ 64);
}
