-- Numbers as they are read.
use Rattle.std.proofs.Common.{◌≡◌, ℕ, ◌-◌, ◌^◌, ◌<◌, ◌≤◌, true, not, ◌&&◌, ◌||◌, Option, Some, None, List, length, get_or, take, refl, ap, arith, inl, inr}
use Rattle.std.proofs.lemmas.Str.Parse.{digits_value_short, numerals_by_value, tells_digits, digit_at}
use Rattle.std.proofs.lemmas.List.{length-take, get_or_default}
use Rattle.std.proofs.lemmas.Bool.Decides.{nat_tests}
use Rattle.std.proofs.lemmas.Bool.{and_parts, and_from, or_cases, or_left, or_right, eqb-true, eqb-false, eq-eqb, ne_eqb, leb-true, le-leb, not-true, not_from_false, cases_Bool}
use Rattle.std.proofs.lemmas.List.Sums.{AllPass-from_list_all, list_all-from_AllPass}
use Rattle.std.specs.Prelude.{◌==◌, nat_le}
use Rattle.std.specs.Option.{SomeIff}
use Rattle.std.specs.Char.{is_ascii_digit, digit_value, IsAsciiDigit}
use Rattle.std.specs.List.{AllPass, list_all}
use Rattle.std.specs.Str.Parse.{digits_value, AllDigits}
use Rattle.cyc_text.specs.Number.{IsNumber, number_test, number_of, TestTellsNumbers}

-- 18 digits or fewer leave room for one more
pub digits_value-small : (word : List ℕ) (i : ℕ) → AllDigits 10 (take i word) → i < length word → length word ≤ 19 → digits_value 10 (take i word) < 10 ^ 18
digits_value-small word i digits more short =
    digits_value_short (numerals_by_value (AllDigits 10) tells_digits) (take i word) 18 digits (omega (arith, length-take {A = ℕ}))

ten_to_18 : 10 ^ 18 ≡ 1000000000000000000
ten_to_18 = refl

pub room_for_digit : (word : List ℕ) (i value : ℕ) → value ≡ digits_value 10 (take i word) → AllDigits 10 (take i word) → i < length word → length word ≤ 19 → value < 1000000000000000000
room_for_digit word i value is digits more short = rw is (digits_value-small word i digits more short)

pub digit_value-is : (c : ℕ) → IsAsciiDigit c → digit_value c ≡ c - 48
digit_value-is c digit = grind (arith, nat_tests)

passes : (c : ℕ) → IsAsciiDigit c → is_ascii_digit c ≡ true
passes c digit = grind (arith, nat_tests)

pub digits_pass : (word : List ℕ) → AllDigits 10 word → AllPass is_ascii_digit word
digits_pass word digits k d below = passes (get_or word k d) (rw (get_or_default word k d 0 below) (digit_at word k digits below))

-- the test and the fact
from_test : (word : List ℕ) → number_test word ≡ true → IsNumber word
unfolding number_test
from_test word passed =
    let front = and_parts (nat_le 1 (length word) && nat_le (length word) 19 && list_all is_ascii_digit word) (length word == 1 || not (get_or word 0 0 == 48)) passed in
    let sized = and_parts (nat_le 1 (length word) && nat_le (length word) 19) (list_all is_ascii_digit word) front.0 in
    let sizes = and_parts (nat_le 1 (length word)) (nat_le (length word) 19) sized.0 in
    record {
      some = leb-true 1 (length word) sizes.0;
      short = leb-true (length word) 19 sizes.1;
      digits = AllPass-from_list_all is_ascii_digit word sized.1;
      no_leading_zero =
          elim (or_cases (length word == 1) (not (get_or word 0 0 == 48)) front.1) [
            | inl one ↦ inl (eqb-true (length word) 1 one)
            | inr other ↦ inr (eqb-false (get_or word 0 0) 48 (not-true (get_or word 0 0 == 48) other))
          ];
    }

to_test : (word : List ℕ) → IsNumber word → number_test word ≡ true
unfolding number_test
to_test word is =
    let zero_test : (length word == 1 || not (get_or word 0 0 == 48)) ≡ true =
    elim is.no_leading_zero [
      | inl one ↦ or_left (length word == 1) (not (get_or word 0 0 == 48)) (eq-eqb (length word) 1 one)
      | inr other ↦ or_right (length word == 1) (not (get_or word 0 0 == 48)) (not_from_false (get_or word 0 0 == 48) (ne_eqb (get_or word 0 0) 48 other))
    ] in
    and_from _ _ (and_from _ _ (and_from _ _ (le-leb 1 (length word) is.some) (le-leb (length word) 19 is.short)) (list_all-from_AllPass is_ascii_digit word is.digits)) zero_test

pub test_tells_numbers : TestTellsNumbers
test_tells_numbers word = (from_test word, to_test word)

pub number_of-is : (word : List ℕ) (r : Option ℕ) → SomeIff r (IsNumber word) (digits_value 10 word) → r ≡ number_of word
unfolding number_of
number_of-is word None none =
    elim (cases_Bool (number_test word)) [ inl passed ↦ absurd (none (from_test word passed)) | inr failed ↦ rw failed refl ]
number_of-is word (Some v) some = rw (to_test word some.0) (ap (λ (n : ℕ). Some n) some.1)
