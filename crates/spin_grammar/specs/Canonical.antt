-- The canonical words of what words say.
use Rattle.std.specs.Prelude.{ℕ, Bool, true, false, if◌then◌else◌, List, [], ◌∷◌, ◌++◌, map}
use Rattle.std.specs.Prelude.{decimal, codes}
use Rattle.spin_values.specs.declared.types.Kind.{Kind}
use Rattle.spin_values.specs.declared.types.Kind.TheVariants as kind
use Rattle.spin_values.specs.declared.types.Param.{Param}
use Rattle.spin_values.specs.declared.types.EventType.{EventType}
use Rattle.spin_text.specs.Digits.{hex_digits}
use Rattle.spin_grammar.specs.Grammar.{Atom, Fixed, Numeral, Argument, Called, Typed, Blob}

-- the letter of a parameter: w for a word and b for bytes, W and B where it is a var parameter
abbrev pub letter : Kind → Bool → ℕ
letter kind.Word false = 119
letter kind.Word true = 87
letter kind.Bytes false = 98
letter kind.Bytes true = 66

-- the letters of the parameters, in order
abbrev pub letters : List Param → List ℕ
letters params = map (λ p. letter p.kind p.var) params

-- the parameters' letters, or a dash where there are no parameters
abbrev pub params_word : List Param → List ℕ
params_word [] = codes "-"
params_word (p ∷ ps) = letters (p ∷ ps)

-- the parameters, with `:w` behind them where the event gives a result
abbrev pub signature_word : EventType → List ℕ
signature_word sig = if sig.gives then params_word sig.params ++ codes ":w" else params_word sig.params

-- how a thing that a word says is spelled: numbers in decimal, bytes as x and two hexadecimal digits each
abbrev pub spell : Atom → List ℕ
spell (Fixed w) = w
spell (Numeral n) = decimal n
spell (Argument k) = 97 ∷ decimal k
spell (Called w) = w
spell (Typed sig) = signature_word sig
spell (Blob bytes) = 120 ∷ hex_digits bytes
