-- The bodies and checks that the lines of a text declare.
use Rattle.std.specs.Prelude.{◌≡◌, ℕ, ◌+◌, List, [], ◌∷◌, ◌++◌, Result, Ok}
use Rattle.std.specs.List.{flat_map}
use Rattle.std.specs.Option.{option_map_or}
use Rattle.std.specs.Str.Lines.{lines}
use Rattle.spin_objects.specs.declared.unit.Body.{Body}
use Rattle.spin_objects.specs.declared.unit.Body.TheVariants as body
use Rattle.spin_objects.specs.declared.unit.Check.{Check}
use Rattle.spin_objects.specs.declared.unit.Check.TheVariants as check
use Rattle.spin_grammar.specs.declared.cause.Cause.{Cause}
use Rattle.spin_grammar.specs.Lines as line
use Rattle.spin_grammar.specs.Lines.{LineMeaning, Spells}
use Rattle.spin_script.specs.States.{ScriptState, NativeData, native_at, start}
use Rattle.spin_script.specs.Language.{Head, Says, head, Passes}

-- ---- what the lines of a text say

-- what the line that is this as a whole says behind s: nothing where it is skipped or names the version
abbrev pub IsSaid : ScriptState → Result Head Cause → List LineMeaning → Type 0
IsSaid s (Ok (Says k ws)) said =
    (l : LineMeaning) × Spells s.version k ws l × (said ≡ l ∷ [])
IsSaid s other said = said ≡ []

-- The lines from that number on, behind s, all pass and say this.
abbrev pub AreSaid : NativeData → ScriptState → ℕ → List (List ℕ) → List LineMeaning → Type 0
AreSaid n s number [] said = said ≡ []
AreSaid n s number (line ∷ more) said =
    (t : ScriptState) × (here : List LineMeaning) × (behind : List LineMeaning)
    × Passes n s number (head s line) t × IsSaid s (head s line) here
    × AreSaid n t (number + 1) more behind × (said ≡ here ++ behind)

-- ---- what they declare

-- a handler line declares its act, and one that names a native the native of that name
abbrev pub body_of : NativeData → LineMeaning → List Body
body_of n (line.Handler h sig steps) = body.Coded sig (record { steps = steps }) ∷ []
body_of n (line.NativeHandler h name) =
    option_map_or (λ native. body.Native native ∷ []) (native_at name n.handlers) []
body_of n other = []

-- a guard line declares its test, and one that names a native the native of that name
abbrev pub check_of : NativeData → LineMeaning → List Check
check_of n (line.Guard g sig t) = check.Coded sig t ∷ []
check_of n (line.NativeGuard g name) =
    option_map_or (λ native. check.Native native ∷ []) (native_at name n.guards) []
check_of n other = []

abbrev pub bodies_of : NativeData → List LineMeaning → List Body
bodies_of n said = flat_map (body_of n) said

abbrev pub checks_of : NativeData → List LineMeaning → List Check
checks_of n said = flat_map (check_of n) said

-- The lines of the text declare these bodies and checks, in order.
abbrev pub Declares : NativeData → List ℕ → List Body → List Check → Type 0
Declares n text bodies checks =
    (said : List LineMeaning) × AreSaid n start 1 (lines text) said
    × (bodies ≡ bodies_of n said) × (checks ≡ checks_of n said)
