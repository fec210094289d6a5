-- The sum and the checksum of RFC 1071.
use Rattle.std.specs.Prelude.{ℕ, ◌+◌, ◌-◌, ◌*◌, ◌%◌, ◌==◌, if◌then◌else◌, List, [], ◌∷◌, sum}

-- the 16-bit words of the bytes, highest byte first; an odd last byte is padded with a zero byte on
-- its right
abbrev pub sum_words : List ℕ → List ℕ
sum_words [] = []
sum_words (last ∷ []) = 256 * last ∷ []
sum_words (high ∷ (low ∷ rest)) = (256 * high + low) ∷ sum_words rest

-- their sum, with every carry kept
abbrev pub word_total : List ℕ → ℕ
word_total bytes = sum (sum_words bytes)

-- what one's complement addition makes of a sum: 0 for 0, and else the number from 1 to 65,535 that
-- is congruent modulo 65,535
abbrev pub folded : ℕ → ℕ
folded n = if n == 0 then 0 else (n - 1) % 65535 + 1

-- the one's complement sum of the words of the bytes
abbrev pub word_sum : List ℕ → ℕ
word_sum bytes = folded (word_total bytes)

-- its complement, the checksum
abbrev pub checksum_of : List ℕ → ℕ
checksum_of bytes = 65535 - word_sum bytes
