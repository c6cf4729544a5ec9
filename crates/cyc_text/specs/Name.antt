-- Names.
use Rattle.std.specs.Prelude.{ℕ, ◌==◌, ◌||◌, ◌&&◌, Bool, not, List, length, nat_le}
use Rattle.std.specs.List.{list_all}
use Rattle.std.specs.Char.{is_ascii_alphabetic, is_ascii_digit}

-- a letter, a digit, or one of _ . [ ] /
abbrev pub is_name_byte : ℕ → Bool
is_name_byte b = is_ascii_alphabetic b || is_ascii_digit b || (b == 95) || (b == 46) || (b == 91) || (b == 93) || (b == 47)

-- a name: 1 to 64 of these bytes
unfoldable pub is_name : List ℕ → Bool
is_name bytes = not (length bytes == 0) && nat_le (length bytes) 64 && list_all is_name_byte bytes
