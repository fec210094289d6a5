-- The value of an expression.
use Rattle.std.specs.Prelude.{ℕ, ◌+◌, ◌*◌, ◌%◌, ◌^◌, ◌||◌, ◌&&◌, Bool, List, [], ◌==◌, Option, Some, None}
use Rattle.std.specs.Prelude.{nat_le, if◌then◌else◌, length, drop, take, fold, slice_get, bit_and, bit_or}
use Rattle.spin_values.specs.declared.values.Value.{Value}
use Rattle.spin_values.specs.declared.values.Value.TheVariants.{Word, Bytes}
use Rattle.spin_code.specs.declared.expr.Expr.{Expr}
use Rattle.spin_code.specs.declared.expr.Expr.TheVariants.{Const, Arg, Field, Plus', And', Or'}

-- an argument as a word: 0 where it isn't there or is bytes
abbrev pub as_word : Option Value → ℕ
as_word None = 0
as_word (Some (Word n)) = n
as_word (Some (Bytes bs)) = 0

-- an argument as bytes: none where it isn't there or is a word
abbrev pub as_bytes : Option Value → List ℕ
as_bytes None = []
as_bytes (Some (Word n)) = []
as_bytes (Some (Bytes bs)) = bs

-- the word of the argument at a place, or 0
abbrev pub word_at : List Value → ℕ → ℕ
word_at args at = as_word (slice_get args at)

-- the bytes of the argument at a place, or none
abbrev pub bytes_at : List Value → ℕ → List ℕ
bytes_at args at = as_bytes (slice_get args at)

-- the number that bytes are in big-endian order
abbrev pub big_endian : List ℕ → ℕ
big_endian bs = fold (λ n b. 256 * n + b) 0 bs

-- the widths that a field may have
abbrev pub is_width : ℕ → Bool
is_width w = (w == 1) || (w == 2) || (w == 4) || (w == 8)

-- a field of bytes: 0 where it reaches past the end, or has another width
abbrev pub field_of : List ℕ → ℕ → ℕ → ℕ
field_of bs offset width =
    if nat_le (offset + width) (length bs) && is_width width then big_endian (take width (drop offset bs)) else 0

-- the value of an expression over these arguments
abbrev pub value_of : Expr → List Value → ℕ
value_of (Const n) args = n
value_of (Arg a) args = word_at args a
value_of (Field a offset width) args = field_of (bytes_at args a) offset width
value_of (Plus' p a q b) args = (value_of a args + value_of b args) % 2 ^ 64
value_of (And' p a q b) args = bit_and (value_of a args) (value_of b args)
value_of (Or' p a q b) args = bit_or (value_of a args) (value_of b args)

-- the bytes of an argument from a place on: none past the end
abbrev pub bytes_from : List Value → ℕ → ℕ → List ℕ
bytes_from args at from = drop from (bytes_at args at)
