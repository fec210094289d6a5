use Rattle.std.proofs.Common.{◌≡◌, ◌++◌, take}
use Rattle.spin_text.specs.Digits.{hex_digits}
use Rattle.spin_text.proofs.number.put_hex.Given as goal

abbrev pub invariant-loop-byte : goal.invariant-loop-byte
invariant-loop-byte l = l.out ≡ l.fn.out ++ hex_digits (take l.byte-index l.bytes)
