use Rattle.std.proofs.Common.{◌≡◌, ◌+◌, ◌*◌, ◌<◌, get_or, refl, sym, ◌∙◌, arith}
use Rattle.std.specs.Char.{digit_value}
use Rattle.spin_grammar.specs.Spelling.{greatest}
use Rattle.spin_grammar.proofs.Numerals.{too_many, finished}
use Rattle.spin_grammar.proofs.number.numeral.Goals as goal

pub returns-in_default : goal.returns-in_default
returns-in_default c =
    let ds = c.args.digits.now in
    let i = c.loop-byte.byte-index in
    let n = c.loop-byte.number in
    let e : c.digit-value.result ≡ digit_value (get_or ds i 0) = c.digit-value.ensures in
    let small : digit_value (get_or ds i 0) < c.args.radix = rw (← e) (omega arith) in
    let large : greatest < n * c.args.radix + digit_value (get_or ds i 0) = omega (arith, c.in_default.ensures) in
    sym (too_many c.args.radix n ds i (get_or ds i 0) c.requires (omega arith) refl small large) ∙ c.loop-byte.invariant.same

pub returns-in_default-checked_add : goal.returns-in_default-checked_add
returns-in_default-checked_add c =
    let ds = c.args.digits.now in
    let i = c.loop-byte.byte-index in
    let n = c.loop-byte.number in
    let e : c.digit-value.result ≡ digit_value (get_or ds i 0) = c.digit-value.ensures in
    let small : digit_value (get_or ds i 0) < c.args.radix = rw (← e) (omega arith) in
    let large : greatest < n * c.args.radix + digit_value (get_or ds i 0) = omega (arith, e, c.in_default-checked_add.ensures, c.in-Some.ensures) in
    sym (too_many c.args.radix n ds i (get_or ds i 0) c.requires (omega arith) refl small large) ∙ c.loop-byte.invariant.same

pub returns : goal.returns
returns c =
    sym (finished c.args.radix c.loop-byte.number c.args.digits.now c.loop-byte.byte-index (omega arith) c.loop-byte.invariant.small) ∙ c.loop-byte.invariant.same
