-- What reading the front of a line says of it.
use Rattle.std.specs.Prelude.{◌≡◌, ℕ, List, Result, Ok, Err}
use Rattle.spin_grammar.specs.declared.fault.Fault.{Fault}
use Rattle.spin_grammar.specs.declared.kind.Kind.{Kind}
use Rattle.spin_grammar.specs.declared.line.Statement.{Statement}
use Rattle.spin_grammar.specs.Lines.{LineMeaning, form, line_kind, wanted, Stands}
use Rattle.spin_grammar.specs.Inner.Reading.{Takes, Fails}

-- the front of old says a line of this kind, for which what was read stands
abbrev pub GivesFront : ℕ → Kind → Result Statement Fault → List (List ℕ) → List (List ℕ) → Type 0
GivesFront version k (Ok s) old new =
    (l : LineMeaning) × (line_kind l ≡ k) × Takes (wanted version k) (form l) old new × Stands s l
GivesFront version k (Err f) old new = Fails (wanted version k) f old
