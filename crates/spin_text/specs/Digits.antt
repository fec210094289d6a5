-- Numbers and bytes in digits.
use Rattle.std.specs.Prelude.{ℕ, ◌/◌, ◌%◌, Bool, false, ◌&&◌, nat_le, List, [], ◌∷◌}
use Rattle.std.specs.List.{flat_map}
use Rattle.std.specs.Char.{digit_char}

-- two hexadecimal digits of each byte, in lower case
abbrev pub hex_digits : List ℕ → List ℕ
hex_digits bytes = flat_map (λ b. digit_char (b / 16) ∷ digit_char (b % 16) ∷ []) bytes

-- the first byte is a decimal digit
abbrev pub begins_with_digit : List ℕ → Bool
begins_with_digit [] = false
begins_with_digit (b ∷ bs) = nat_le 48 b && nat_le b 57
