-- `hex16` meets its contract.
use Rattle.std.proofs.Common.{◌≡◌, ◌<◌, Some, get_or, sym, ◌∙◌, arith}
use Rattle.vectors.specs.Text.{digit_of}
use Rattle.vectors.proofs.Reading.{digit_small, hex_short, hex_done, turn, stop, room_one, room_step}
use Rattle.vectors.proofs.numbers.hex16.Goals as goal

pub returns-in_err-digits : goal.returns-in_err-digits
returns-in_err-digits c = c.from_residual.ensures ∙ sym (hex_short 16 c.args.s.now c.args.at 0 (omega arith) c.in_err-digits.ensures)

pub overflow_mul-n : goal.overflow_mul-n
overflow_mul-n c = omega (arith, room_one _ _ _ _ _ c.in_ok-digits.ensures c.loop-b-test.true c.loop-b.invariant.room)

pub returns-in_err-hex_digit : goal.returns-in_err-hex_digit
returns-in_err-hex_digit c =
    c.from_residual-in_err-hex_digit.ensures
    ∙ sym (stop _ _ _ _ _ c.in_ok-digits.ensures c.loop-b-test.true (sym c.in_err-hex_digit.ensures))
    ∙ c.loop-b.invariant.rest

pub overflow_add-n : goal.overflow_add-n
overflow_add-n c =
    let d = c.in_ok-hex_digit.field-0 in
    let b = get_or c.in_ok-digits.digits.now c.loop-b.b-index 0 in
    let read : digit_of b ≡ Some d = sym c.in_ok-hex_digit.ensures in
    let small : d < 16 = digit_small b d read in
    let same : c.from.result ≡ d = c.from.ensures in
    omega (arith, room_one _ _ _ _ _ c.in_ok-digits.ensures c.loop-b-test.true c.loop-b.invariant.room)

pub loop-b-preserved : goal.loop-b-preserved
loop-b-preserved c =
    let d = c.in_ok-hex_digit.field-0 in
    let b = get_or c.in_ok-digits.digits.now c.loop-b.b-index 0 in
    let read : digit_of b ≡ Some d = sym c.in_ok-hex_digit.ensures in
    let small : d < 16 = digit_small b d read in
    let same : c.from.result ≡ d = c.from.ensures in
    record {
      rest = rw same (sym (turn _ _ _ _ _ c.in_ok-digits.ensures c.loop-b-test.true d read) ∙ c.loop-b.invariant.rest);
      room = rw same (room_step _ _ _ _ _ c.in_ok-digits.ensures c.loop-b-test.true d small c.loop-b.invariant.room);
    }

pub returns : goal.returns
returns c =
    let sixteen = c.in_ok-digits.ensures.counted in
    sym (hex_done _ _ _ _ (omega (arith, sixteen))) ∙ c.loop-b.invariant.rest
