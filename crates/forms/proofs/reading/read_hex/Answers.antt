-- `read_hex` meets its contract.
use Rattle.std.proofs.Common.{◌≡◌, ℕ, ◌+◌, ◌-◌, List, ◌++◌, take, drop, arith, sym, ◌∙◌, ap}
use Rattle.std.proofs.lemmas.List.{take-append-drop}
use Rattle.forms.specs.Answers.{front_in}
use Rattle.forms.specs.Fronts.{hex_after, hex_front}
use Rattle.forms.proofs.Turns.{value_small, hex_short, hex_turn, hex_stop, hex_done, room_one, room_turn}
use Rattle.forms.proofs.reading.read_hex.Goals as goal

-- the whole text, in its two parts
in_parts : (text digits rest : List ℕ) → digits ≡ take 16 text → rest ≡ drop 16 text → hex_after 16 0 (digits ++ rest) ≡ hex_front text
in_parts text digits rest first second = ap (hex_after 16 0) (rw (first, second) (take-append-drop 16 text))

pub returns-in_err-digits : goal.returns-in_err-digits
returns-in_err-digits c =
    ap front_in c.from_residual.ensures ∙ sym (hex_short 16 0 _ c.in_err-digits.ensures.cases)

pub overflow_mul-value : goal.overflow_mul-value
overflow_mul-value c =
    let parts = c.in_ok-digits.ensures.cases in
    omega (arith, room_one c.loop-b.value (16 - c.loop-b.b-index) (omega (arith, parts.3, c.loop-b-test.true)) c.loop-b.invariant.room)

pub returns-in_err-digit_of : goal.returns-in_err-digit_of
returns-in_err-digit_of c =
    let parts = c.in_ok-digits.ensures.cases in
    ap front_in c.from_residual-in_err-digit_of.ensures
    ∙ sym (hex_stop _ _ _ c.loop-b.value c.loop-b-test.true parts.3 (sym c.digit_of.ensures ∙ c.in_err-digit_of.was))
    ∙ c.loop-b.invariant.whole ∙ in_parts _ _ _ parts.1 parts.2

pub overflow_add-value : goal.overflow_add-value
overflow_add-value c =
    let parts = c.in_ok-digits.ensures.cases in
    omega (
      arith,
      c.from.ensures,
      value_small _ c.in_ok-digit_of.field-0 (sym c.digit_of.ensures ∙ c.in_ok-digit_of.was),
      room_one c.loop-b.value (16 - c.loop-b.b-index) (omega (arith, parts.3, c.loop-b-test.true)) c.loop-b.invariant.room,
    )

pub loop-b-preserved : goal.loop-b-preserved
loop-b-preserved c =
    let parts = c.in_ok-digits.ensures.cases in
    let is = sym c.digit_of.ensures ∙ c.in_ok-digit_of.was in
    let less : 16 - (c.loop-b.b-index + 1) ≡ 16 - c.loop-b.b-index - 1 = omega arith in
    rw c.from.ensures (record {
      whole = hex_turn _ _ _ c.loop-b.value c.loop-b-test.true parts.3 _ is ∙ c.loop-b.invariant.whole;
      room =
          rw less
          (room_turn c.loop-b.value (16 - c.loop-b.b-index) _ (omega (arith, parts.3, c.loop-b-test.true)) (value_small _ _ is)
          c.loop-b.invariant.room);
    })

pub returns : goal.returns
returns c =
    let parts = c.in_ok-digits.ensures.cases in
    sym (hex_done _ _ _ c.loop-b.value c.loop-b-test.false c.loop-b.auto.b-index-end parts.3)
    ∙ c.loop-b.invariant.whole ∙ in_parts _ _ _ parts.1 parts.2
