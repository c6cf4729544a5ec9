-- Numbers.
use Rattle.std.specs.Prelude.{◌≡◌, ◌≢◌, ◌≤◌, ◌⊎◌, ◌==◌, ◌||◌, ◌&&◌, ◌↔◌, true, ℕ, Bool, not, List, length, nat_le, slice_index, Some, None, if◌then◌else◌}
use Rattle.std.specs.declared.option.Option.{Option}
use Rattle.std.specs.Str.Parse.{digits_value}
use Rattle.std.specs.List.{AllPass, list_all}
use Rattle.std.specs.Char.{is_ascii_digit}

-- a number: 1 to 19 digits, and no leading zero but in 0 itself
pub record IsNumber (word : List ℕ) : Type 0 where
  pub some : 1 ≤ length word
  pub short : length word ≤ 19
  pub digits : AllPass is_ascii_digit word
  pub no_leading_zero : (length word ≡ 1) ⊎ (slice_index word 0 ≢ 48)

-- the same, as a test
unfoldable pub number_test : List ℕ → Bool
number_test word = nat_le 1 (length word) && nat_le (length word) 19 && list_all is_ascii_digit word && (length word == 1 || not (slice_index word 0 == 48))

-- the test passes just the numbers
abbrev pub TestTellsNumbers : Type 0
TestTellsNumbers = (word : List ℕ) → (number_test word ≡ true) ↔ IsNumber word

-- a number's value
unfoldable pub number_of : List ℕ → Option ℕ
number_of word = if number_test word then Some (digits_value 10 word) else None
