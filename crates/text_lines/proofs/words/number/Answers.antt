use Rattle.std.proofs.Common.{sym, ◌≡◌, ◌<◌, true, length, get_or, ◌∙◌, arith, refl}
use Rattle.std.specs.Char.{is_ascii_digit}
use Rattle.std.proofs.lemmas.Grind.{common_steps}
use Rattle.std.proofs.lemmas.Int.Digits.{digits_value_more}
use Rattle.std.proofs.lemmas.Str.{digit_value_digit}
use Rattle.text_lines.proofs.Digits.{number_of-digits, range_of_digit, number_after_digits-digit}
use Rattle.text_lines.proofs.words.number.Goals as goal

pub loop-byte-init : goal.loop-byte-init
loop-byte-init c = record { digits = number_of-digits c.args.word.now (grind (arith, common_steps)); value = refl }

pub loop-byte-preserved : goal.loop-byte-preserved
loop-byte-preserved c =
    let word = c.args.word.now in
    let i = c.loop-byte.byte-index in
    let inside : c.loop-byte.byte-index < length c.args.word.now = omega arith in
    let more = digits_value_more 10 c.args.word.now c.loop-byte.byte-index inside in
    let digit : is_ascii_digit (get_or c.args.word.now c.loop-byte.byte-index 0) ≡ true = sym c.is_digit_byte.ensures ∙ c.if-not-is_digit_byte.false in
    let range = range_of_digit (get_or c.args.word.now c.loop-byte.byte-index 0) digit in
    let value = digit_value_digit (get_or c.args.word.now c.loop-byte.byte-index 0) range in
    record {
      digits = rw more (number_after_digits-digit _ word i inside digit ∙ c.loop-byte.invariant.digits);
      value = rw more (omega arith);
    }
