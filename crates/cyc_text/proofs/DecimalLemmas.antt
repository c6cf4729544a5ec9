-- Numbers as they are written.
use Rattle.std.proofs.Common.{◌≡◌, ℕ, ◌<◌, ◌≤◌, ◌^◌, List, [], ◌∷◌, ◌||◌, length, get_or, true, false, not, Some, refl, ap, arith, inl, inr}
use Rattle.std.specs.Prelude.{◌==◌, decimal}
use Rattle.std.specs.List.{list_any, list_all}
use Rattle.std.specs.Char.{is_ascii_digit, IsAsciiDigit}
use Rattle.std.specs.Str.Parse.{AllDigits}
use Rattle.std.proofs.lemmas.Str.Parse.{tells_digits}
use Rattle.std.proofs.lemmas.Fmt.{decimal_is_IsNumeral, length-decimal-le, first_decimal, decimal_digit}
use Rattle.std.proofs.lemmas.Bool.{and_from, or_from, or_right, ne_eqb, le-leb, not_from_false, cases_lt}
use Rattle.std.proofs.lemmas.Bool.Decides.{nat_tests}
use Rattle.cyc_text.specs.Number.{number_test, number_of}
use Rattle.cyc_text.specs.ReadBack.{IsWord}
use Rattle.cyc_text.specs.Words.{ends_word}

-- a digit passes for one, and ends no word
digit_plain : (c : ℕ) → IsAsciiDigit c → (ends_word c ≡ false) × (is_ascii_digit c ≡ true)
digit_plain c d = (grind (arith, nat_tests), grind (arith, nat_tests))

digits_plain : (word : List ℕ) → AllDigits 10 word → (list_any ends_word word ≡ false) × (list_all is_ascii_digit word ≡ true)
digits_plain [] h = (refl, refl)
digits_plain (x ∷ xs) h =
    let parts = tells_digits.parts x xs h in
    let here = digit_plain x parts.0 in
    let more = digits_plain xs parts.1 in
    (or_from (ends_word x) (list_any ends_word xs) here.0 more.0, and_from (is_ascii_digit x) (list_all is_ascii_digit xs) here.1 more.1)

-- a number of one digit, or one that does not begin with a zero
no_leading_zero : (n : ℕ) → n < 10 ^ 19 → (length (decimal n) == 1 || not (get_or (decimal n) 0 0 == 48)) ≡ true
no_leading_zero n small =
    elim (cases_lt n 10) [
      | inl one ↦ rw (decimal_digit n one) refl
      | inr more ↦
          let first = first_decimal n (omega arith) (omega arith) in
          or_right (length (decimal n) == 1) (not (get_or (decimal n) 0 0 == 48)) (not_from_false (get_or (decimal n) 0 0 == 48) (ne_eqb (get_or (decimal n) 0 0) 48 (λ e. omega arith)))
    ]

number_passes : (n : ℕ) → n < 10 ^ 19 → number_test (decimal n) ≡ true
unfolding number_test
number_passes n small =
    let is = decimal_is_IsNumeral n (omega arith) in
    let short : length (decimal n) ≤ 19 = length-decimal-le 19 n (omega arith) small (omega arith) in
    and_from _ _ (and_from _ _ (and_from _ _ (le-leb 1 (length (decimal n)) (omega (arith, is.0.0))) (le-leb (length (decimal n)) 19 short)) (digits_plain (decimal n) is.0.1).1) (no_leading_zero n small)

-- a number is read back
pub number_read : (n : ℕ) → n < 10 ^ 19 → number_of (decimal n) ≡ Some n
unfolding number_of
number_read n small = rw (number_passes n small) (ap Some (decimal_is_IsNumeral n (omega arith)).1)

-- a number is a word
pub number_word : (n : ℕ) → n < 10 ^ 19 → IsWord (decimal n)
number_word n small =
    let is = decimal_is_IsNumeral n (omega arith) in
    record { some = omega (arith, is.0.0); plain = (digits_plain (decimal n) is.0.1).0 }
