use Rattle.std.proofs.Common.{◌≡◌, ◌<◌, ◌+◌, ◌*◌, length, take, get_or, arith, ap, sym, ◌∙◌, inl, inr}
use Rattle.std.specs.Str.Parse.{digits_value, AllDigits}
use Rattle.std.specs.Char.{IsAsciiDigit, digit_value}
use Rattle.std.proofs.lemmas.List.{take_all}
use Rattle.std.proofs.lemmas.Int.Digits.{digits_value_more, digits_more}
use Rattle.std.proofs.lemmas.Bool.{eqb-false}
use Rattle.cyc_text.proofs.NumberLemmas.{room_for_digit, digit_value-is, digits_pass}
use Rattle.cyc_text.proofs.numbers.read_digits.Goals as goal
use Rattle.cyc_text.proofs.numbers.read_digits.Goals.{then-word-gt1, else-word-gt1}

pub overflow_mul-value : goal.overflow_mul-value
overflow_mul-value c = omega (arith, room_for_digit c.args.word.now c.loop-digit.digit-index c.loop-digit.value c.loop-digit.invariant.value c.loop-digit.invariant.digits c.loop-digit-test.true c.if-word-gt-MOST_DIGITS.false)

pub overflow_add-value : goal.overflow_add-value
overflow_add-value c =
    let digit : IsAsciiDigit (get_or c.args.word.now c.loop-digit.digit-index 0) = c.if-not-is_ascii_digit.ensures.cases in
    omega (arith, room_for_digit c.args.word.now c.loop-digit.digit-index c.loop-digit.value c.loop-digit.invariant.value c.loop-digit.invariant.digits c.loop-digit-test.true c.if-word-gt-MOST_DIGITS.false)

pub loop-digit-preserved : goal.loop-digit-preserved
loop-digit-preserved c =
    let word = c.args.word.now in
    let i = c.loop-digit.digit-index in
    let digit : IsAsciiDigit (get_or word i 0) = c.if-not-is_ascii_digit.ensures.cases in
    let small : digit_value (get_or word i 0) < 10 = c.if-not-is_ascii_digit.ensures.bound in
    let is : digit_value (get_or word i 0) ≡ c.from.result = digit_value-is (get_or word i 0) digit ∙ sym c.from.ensures in
    record {
      value = rw (digits_value_more 10 word i c.loop-digit-test.true, is, c.loop-digit.invariant.value) (λ i. digits_value 10 (take c.loop-digit.digit-index word) * 10 + c.from.result);
      digits = digits_more 10 word i c.loop-digit-test.true c.loop-digit.invariant.digits small;
    }

pub returns : goal.returns
returns c =
    let word = c.args.word.now in
    let whole : take c.loop-digit.digit-index word ≡ word = take_all c.loop-digit.digit-index word c.loop-digit-test.false in
    let digits : AllDigits 10 word = rw whole at c.loop-digit.invariant.digits in
    let some : length word ≡ 0 → ⊥ = eqb-false (length word) 0 (sym c.if-is_empty.ensures) in (
      record {
        some = omega arith;
        short = c.if-word-gt-MOST_DIGITS.false;
        digits = digits_pass word digits;
        no_leading_zero =
            elim c.if-word-gt1.branch [
              | then-word-gt1 w ↦ inr (eqb-false (get_or word 0 0) 48 (sym w.value-is ∙ c.if-word-eq-LEADING_ZERO.false))
              | else-word-gt1 w ↦ inl (omega arith)
            ];
      },
      c.loop-digit.invariant.value ∙ ap (digits_value 10) whole,
    )
