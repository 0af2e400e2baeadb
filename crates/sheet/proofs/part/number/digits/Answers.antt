use Rattle.std.proofs.Common.{arith, slice_index}
use Rattle.std.proofs.lemmas.Int.Digits.{digits_more, digits_value_more}
use Rattle.sheet.proofs.Numbers.{short_value, digit_is, no_digits}
use Rattle.sheet.proofs.part.number.digits.Goals as goal

pub returns-then-not-is_ascii_digit : goal.returns-then-not-is_ascii_digit
returns-then-not-is_ascii_digit c = no_digits c.args.bytes.now c.loop-byte.byte-index c.loop-byte-test.true (grind arith)

pub overflow_mul-value : goal.overflow_mul-value
overflow_mul-value c =
    let small = short_value c.args.bytes.now c.loop-byte.byte-index c.requires c.loop-byte-test.true c.loop-byte.invariant.0 in
    omega (arith, c.loop-byte.invariant.1, small)

pub overflow_add-value : goal.overflow_add-value
overflow_add-value c =
    let small = short_value c.args.bytes.now c.loop-byte.byte-index c.requires c.loop-byte-test.true c.loop-byte.invariant.0 in
    omega (arith, c.loop-byte.invariant.1, small)

pub loop-byte-preserved : goal.loop-byte-preserved
loop-byte-preserved c =
    let bytes = c.args.bytes.now in
    let i = c.loop-byte.byte-index in
    let digit = digit_is (slice_index bytes i) (grind arith) in
    let more = digits_value_more 10 bytes i c.loop-byte-test.true in
    (digits_more 10 bytes i c.loop-byte-test.true c.loop-byte.invariant.0 digit.1, omega (arith, more, digit.0, c.loop-byte.invariant.1))
