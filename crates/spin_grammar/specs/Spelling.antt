-- How numbers, names, signatures and bytes are written.
use Rattle.std.specs.Prelude.{ℕ, ◌+◌, ◌*◌, ◌-◌, Bool, true, false, ◌&&◌, ◌||◌, ◌==◌, nat_lt}
use Rattle.std.specs.Prelude.{nat_le, if◌then◌else◌, List, [], ◌∷◌, length, map, take, drop}
use Rattle.std.specs.Prelude.{Option, None, Some, codes}
use Rattle.std.specs.List.{list_all}
use Rattle.std.specs.Option.{option_map}
use Rattle.std.specs.Str.{bytes_eq}
use Rattle.std.specs.Str.Parse.{digits_value}
use Rattle.std.specs.Char.{digit_value}
use Rattle.spin_values.specs.declared.types.Kind.TheVariants as kind
use Rattle.spin_values.specs.declared.types.Param.{Param}
use Rattle.spin_values.specs.declared.types.EventType.{EventType}
use Rattle.spin_values.specs.declared.types.TheConstants.{MAX_PARAMS}
use Rattle.spin_grammar.specs.declared.limits.TheConstants.{MAX_NAME}

-- ---- numbers

-- the byte is a digit of this radix, where letters of either case count on from ten
abbrev pub is_digit : ℕ → ℕ → Bool
is_digit radix c = nat_lt (digit_value c) radix

-- the number that digits stand for, of which there is at least one
abbrev pub numeral : ℕ → List ℕ → Option ℕ
numeral radix ds = if nat_lt 0 (length ds) && list_all (is_digit radix) ds then Some (digits_value radix ds) else None

-- decimal digits, or 0x and 1 to 16 hexadecimal digits of either case
unfoldable pub number : List ℕ → Option ℕ
number w =
    if bytes_eq (take 2 w) (codes "0x") then (if nat_le (length w) 18 then numeral 16 (drop 2 w)
    else None) else numeral 10 w

-- the number, where it lies from low to high
abbrev pub within : ℕ → ℕ → Option ℕ → Option ℕ
within low high None = None
within low high (Some n) = if nat_le low n && nat_le n high then Some n else None

-- the greatest number of 64 bits
abbrev pub greatest : ℕ
greatest = 18446744073709551615

-- ---- names

-- a letter, a digit, an underscore or a dot
abbrev pub is_name_byte : ℕ → Bool
is_name_byte c = is_digit 36 c || (c == 95) || (c == 46)

-- 1 to so many of these bytes
abbrev pub is_name : List ℕ → Bool
is_name w = nat_le 1 (length w) && nat_le (length w) MAX_NAME && list_all is_name_byte w

-- ---- signatures

-- w, b, W or B
abbrev pub is_letter : ℕ → Bool
is_letter c = (c == 119) || (c == 98) || (c == 87) || (c == 66)

-- b and B are bytes, and W and B are var parameters where the case is a mark of that
abbrev pub param_of : Bool → ℕ → Param
param_of marks c =
    record { kind = if (c == 98) || (c == 66) then kind.Bytes else kind.Word; var = marks && ((c == 87) || (c == 66)) }

-- a dash is no parameters, and else there are 1 to 8 letters
abbrev pub params_of : Bool → List ℕ → Option (List Param)
params_of marks w =
    if bytes_eq w (codes "-") then Some []
    else (if nat_le 1 (length w) && nat_le (length w) MAX_PARAMS && list_all is_letter w then Some
    (map (param_of marks) w) else None)

-- the word ends with :w
abbrev pub says_result : List ℕ → Bool
says_result w = nat_le 2 (length w) && bytes_eq (drop (length w - 2) w) (codes ":w")

-- the signature of these parameters, if they are there, and with a result or without
abbrev pub as_type : Bool → Option (List Param) → Option EventType
as_type gives None = None
as_type gives (Some params) = Some (record { params = params; gives = gives })

-- the signature that a word says, if it says one: capital letters are var, and `:w` at its end is a result
unfoldable pub signature : List ℕ → Option EventType
signature w =
    if says_result w then as_type true (params_of true (take (length w - 2) w)) else as_type false (params_of true w)

-- the signature that a word says of a guard, which gives no result, and for which the case doesn't matter
unfoldable pub guard_signature : List ℕ → Option EventType
guard_signature w = if says_result w then None else as_type false (params_of false w)

-- ---- bytes

-- the bytes that pairs of hexadecimal digits stand for
abbrev pub hex_bytes : List ℕ → Option (List ℕ)
hex_bytes [] = Some []
hex_bytes (a ∷ []) = None
hex_bytes (a ∷ b ∷ more) =
    if is_digit 16 a && is_digit 16 b then option_map
    (λ bytes. (16 * digit_value a + digit_value b) ∷ bytes) (hex_bytes more) else None
