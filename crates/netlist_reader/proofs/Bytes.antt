-- What is written as a word is a word.
use Rattle.std.proofs.Common.{◌≡◌, ℕ, ◌<◌, ◌≤◌, zero, suc, List, [], ◌∷◌, ◌++◌, ◌&&◌, length, get_or, true, false, not, refl, arith, ◌≢◌}
use Rattle.std.specs.Prelude.{◌==◌, nat_le, decimal}
use Rattle.std.specs.List.{list_any, list_all, join_with_byte}
use Rattle.std.specs.Char.{IsAsciiDigit}
use Rattle.std.specs.Str.Parse.{AllDigits}
use Rattle.std.proofs.lemmas.Str.Parse.{tells_digits}
use Rattle.std.proofs.lemmas.Fmt.{decimal_is_IsNumeral}
use Rattle.std.proofs.lemmas.Bool.{and_parts, or_from}
use Rattle.std.proofs.lemmas.Bool.Decides.{nat_tests}
use Rattle.cyc_text.specs.Name.{is_name, is_name_byte}
use Rattle.cyc_text.specs.ReadBack.{IsWord, IsLine}
use Rattle.cyc_text.specs.Words.{ends_word, is_newline}

-- each byte is above '#', so it is no blank, no '#' and ends no line
abbrev pub EachHigh : List ℕ → Type 0
EachHigh [] = Unit {0}
EachHigh (b ∷ bs) = (35 < b) × EachHigh bs

-- a word as it is written
pub record IsSolid (word : List ℕ) : Type 0 where
  pub some : 1 ≤ length word
  pub high : EachHigh word

abbrev pub EachSolid : List (List ℕ) → Type 0
EachSolid [] = Unit {0}
EachSolid (w ∷ ws) = IsSolid w × EachSolid ws

pub high-append : (xs ys : List ℕ) → EachHigh xs → EachHigh ys → EachHigh (xs ++ ys)
high-append [] ys h k = k
high-append (x ∷ xs) ys h k = (h.0, high-append xs ys h.1 k)

name_byte_high : (b : ℕ) → is_name_byte b ≡ true → 35 < b
name_byte_high b h = grind (arith, nat_tests)

names_high : (xs : List ℕ) → list_all is_name_byte xs ≡ true → EachHigh xs
names_high [] h = tt
names_high (x ∷ xs) h =
    let parts = and_parts (is_name_byte x) (list_all is_name_byte xs) h in
    (name_byte_high x parts.0, names_high xs parts.1)

some_length : (n : ℕ) → not (n == 0) ≡ true → 1 ≤ n
some_length n h = grind (arith, nat_tests)

pub name_solid : (name : List ℕ) → is_name name ≡ true → IsSolid name
unfolding is_name
name_solid name h =
    let front = and_parts (not (length name == 0) && nat_le (length name) 64) (list_all is_name_byte name) h in
    let sizes = and_parts (not (length name == 0)) (nat_le (length name) 64) front.0 in
    record { some = some_length (length name) sizes.0; high = names_high name front.1 }

-- a high word is a word
high_plain : (xs : List ℕ) → EachHigh xs → list_any ends_word xs ≡ false
high_plain [] h = refl
high_plain (x ∷ xs) h = or_from (ends_word x) (list_any ends_word xs) (by x h.0) (high_plain xs h.1)
  where
    by : (b : ℕ) → 35 < b → ends_word b ≡ false
    by b k = grind (arith, nat_tests)

pub solid_word : (word : List ℕ) → IsSolid word → IsWord word
solid_word word s = record { some = s.some; plain = high_plain word s.high }

-- each byte is a space or above '#'
abbrev EachVisible : List ℕ → Type 0
EachVisible [] = Unit {0}
EachVisible (b ∷ bs) = (31 < b) × EachVisible bs

visible-append : (xs ys : List ℕ) → EachHigh xs → EachVisible ys → EachVisible (xs ++ ys)
visible-append [] ys h k = k
visible-append (x ∷ xs) ys h k = ((let p = h.0 in omega arith), visible-append xs ys h.1 k)

high_visible : (xs : List ℕ) → EachHigh xs → EachVisible xs
high_visible [] h = tt
high_visible (x ∷ xs) h = ((let p = h.0 in omega arith), high_visible xs h.1)

joined_visible : (words : List (List ℕ)) → EachSolid words → EachVisible (join_with_byte 32 words)
joined_visible [] h = tt
joined_visible (x ∷ []) h = high_visible x h.0.high
joined_visible (x ∷ y ∷ xs) h = visible-append x (32 ∷ join_with_byte 32 (y ∷ xs)) h.0.high (omega arith, joined_visible (y ∷ xs) h.1)

visible_whole : (xs : List ℕ) → EachVisible xs → list_any is_newline xs ≡ false
visible_whole [] h = refl
visible_whole (x ∷ xs) h = or_from (is_newline x) (list_any is_newline xs) (by x h.0) (visible_whole xs h.1)
  where
    by : (b : ℕ) → 31 < b → is_newline b ≡ false
    by b k = grind (arith, nat_tests)

no_return : (xs : List ℕ) (k : ℕ) → EachVisible xs → get_or xs k 0 ≢ 13
no_return [] k h e = absurd (omega arith)
no_return (x ∷ xs) zero h e = let p = h.0 in absurd (omega arith)
no_return (x ∷ xs) (suc k) h e = no_return xs k h.1 e

pub solid_line : (words : List (List ℕ)) → EachSolid words → IsLine (join_with_byte 32 words)
solid_line words h =
    let seen = joined_visible words h in
    record { whole = visible_whole (join_with_byte 32 words) seen; no_return = no_return (join_with_byte 32 words) _ seen }

-- numbers
digits_high : (word : List ℕ) → AllDigits 10 word → EachHigh word
digits_high [] h = tt
digits_high (x ∷ xs) h =
    let parts = tells_digits.parts x xs h in
    let here : IsAsciiDigit x = parts.0 in
    (omega (arith, here), digits_high xs parts.1)

pub number_solid : (n : ℕ) → n ≤ 1000000 → IsSolid (decimal n)
number_solid n small =
    let is = decimal_is_IsNumeral n (omega arith) in
    record { some = omega (arith, is.0.0); high = digits_high (decimal n) is.0.1 }
