use Rattle.std.proofs.Common.{◌≡◌, ℕ, ◌+◌, ◌*◌, ◌^◌, ◌<◌, ◌≤◌, min, true, length, get_or, take, Some, ap, sym, ◌∙◌, arith, length-take}
use Rattle.std.specs.Char.{is_ascii_digit}
use Rattle.std.specs.Option.{option_map}
use Rattle.std.specs.Str.Parse.{digits_value}
use Rattle.std.proofs.Math.Nat.{pow-le-pow_right}
use Rattle.std.proofs.lemmas.Grind.{pow_more}
use Rattle.std.proofs.lemmas.Int.Digits.{digits_value_more}
use Rattle.std.proofs.lemmas.Str.{digit_value_digit}
use Rattle.text_lines.proofs.Digits.{range_of_digit, digit_not_blank, all_digits-more, number_of-prefix}
use Rattle.text_lines.proofs.WordsFound.{words_after-byte}
use Rattle.text_lines.proofs.words.leading_digits.Goals as goal

-- a number below 2^64 is kept as it is
kept : (n value : ℕ) → n ≡ value → value < 2 ^ 64 → min n (2 ^ 64) ≡ value
kept n value is low = omega (arith, is)

-- a number of at most 18 digits, and one digit more
longer : (value len digit : ℕ) → value < 10 ^ len → len < 19 → digit ≤ 9 → value * 10 + digit < 2 ^ 64
longer value len digit small short single =
    let few : len ≤ 18 = omega (arith, short) in
    let some : 0 < 10 = omega arith in
    let most : 10 ^ len ≤ 10 ^ 18 = pow-le-pow_right some few in
    omega (arith, most, small, single)

pub overflow_mul-value : goal.overflow_mul-value
overflow_mul-value c =
    let short : c.loop-len.len < 19 = omega arith in
    omega (arith, longer c.loop-len.value c.loop-len.len 0 c.loop-len.invariant.small short (omega arith))

pub overflow_add-value : goal.overflow_add-value
overflow_add-value c =
    let short : c.loop-len.len < 19 = omega arith in
    let range = range_of_digit (get_or c.args.line.now c.loop-len.len 0) (sym c.is_digit_byte.ensures ∙ c.if-is_digit_byte.true) in
    omega (arith, longer c.loop-len.value c.loop-len.len c.from.result c.loop-len.invariant.small short (omega (arith, range, c.from.ensures)))

pub loop-len-preserved : goal.loop-len-preserved
loop-len-preserved c =
    let line = c.args.line.now in
    let inside : c.loop-len.len < length c.args.line.now = omega arith in
    let digit : is_ascii_digit (get_or c.args.line.now c.loop-len.len 0) ≡ true = sym c.is_digit_byte.ensures ∙ c.if-is_digit_byte.true in
    let range = range_of_digit (get_or c.args.line.now c.loop-len.len 0) digit in
    let value = digit_value_digit (get_or c.args.line.now c.loop-len.len 0) range in
    let power = pow_more 10 c.loop-len.len in
    record {
      within = omega arith;
      short = omega arith;
      small = omega (arith, power, c.loop-len.invariant.small, range);
      words = words_after-byte line c.loop-len.len inside (digit_not_blank (get_or c.args.line.now c.loop-len.len 0) digit) ∙ c.loop-len.invariant.words;
      digits = all_digits-more line c.loop-len.len inside c.loop-len.invariant.digits digit;
      value = rw (digits_value_more 10 c.args.line.now c.loop-len.len inside) (omega arith);
    }

pub returns-else-is_digit_byte-clause-number : goal.returns-else-is_digit_byte-clause-number
returns-else-is_digit_byte-clause-number c = λ some.
    ap (option_map (λ n. min n (2 ^ 64))) (number_of-prefix (take c.loop-len.len c.args.line.now) (omega (arith, length-take c.loop-len.len c.args.line.now, c.loop-len.invariant.within)) c.loop-len.invariant.digits)
    ∙ ap Some (kept (digits_value 10 (take c.loop-len.len c.args.line.now)) c.loop-len.value (sym c.loop-len.invariant.value) (omega arith))

pub returns-after-loop-len-clause-number : goal.returns-after-loop-len-clause-number
returns-after-loop-len-clause-number c = λ some.
    ap (option_map (λ n. min n (2 ^ 64))) (number_of-prefix (take c.loop-len.len c.args.line.now) (omega (arith, length-take c.loop-len.len c.args.line.now, c.loop-len.invariant.within)) c.loop-len.invariant.digits)
    ∙ ap Some (kept (digits_value 10 (take c.loop-len.len c.args.line.now)) c.loop-len.value (sym c.loop-len.invariant.value) (omega arith))
