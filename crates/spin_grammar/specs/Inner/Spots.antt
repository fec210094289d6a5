-- What the words behind the first of a deed stand for.
use Rattle.std.specs.Prelude.{◌≡◌, ℕ, suc, IsTrue, List, [], ◌∷◌, Result, Ok, Err}
use Rattle.spin_values.specs.declared.values.Value.{Value}
use Rattle.spin_word.specs.Commands.{bindings_or_none}
use Rattle.spin_grammar.specs.declared.cause.Cause.{Cause}
use Rattle.spin_grammar.specs.declared.fault.Fault.{Fault}
use Rattle.spin_grammar.specs.declared.fault.Fault.TheVariants as fault
use Rattle.spin_grammar.specs.declared.work.Constraints.{Constraints}
use Rattle.spin_grammar.specs.Grammar.{Values, accepts}
use Rattle.spin_grammar.specs.Forms.{Spot, spot_place, spot_before, spot_after, value_atom}

-- the place is that, with these bindings around it
abbrev pub IsSpot : Constraints → Spot → Type 0
IsSpot a s = a ≡ record { place = spot_place s; before = spot_before s; after = spot_after s }

-- the bindings around the place are a command's
abbrev pub IsValidSpot : Constraints → Type 0
IsValidSpot a = IsTrue (bindings_or_none a.before) × IsTrue (bindings_or_none a.after)

-- the word says the value at the place of one, or why not
abbrev pub GivesValue : List ℕ → Result Value Fault → Type 0
GivesValue w (Ok v) = (k : ℕ) → Ok (value_atom v, Values k ∷ []) ≡ accepts (Values (suc k)) w
GivesValue w (Err f) = (c : Cause) → f ≡ fault.Bad c → (k : ℕ) → Err c ≡ accepts (Values (suc k)) w
