-- The bodies and checks that the handlers and guards of a script are of.
use Rattle.std.specs.Prelude.{◌≡◌, ◌≤◌, ℕ, zero, suc, List, [], ◌∷◌, ◌++◌, Option, Some, None, Result, Ok, Err}
use Rattle.spin_objects.specs.declared.unit.Body.{Body}
use Rattle.spin_objects.specs.declared.unit.Body.TheVariants as body
use Rattle.spin_objects.specs.declared.unit.Check.{Check}
use Rattle.spin_objects.specs.declared.unit.Check.TheVariants as check
use Rattle.spin_grammar.specs.declared.fault.Fault.{Fault}
use Rattle.spin_grammar.specs.Lines as line
use Rattle.spin_script.specs.States.{ScriptState, NativeData, native_at, start, after}
use Rattle.spin_grammar.specs.declared.cause.Cause.{Cause}
use Rattle.spin_script.specs.Language.{Head}
use Rattle.spin_script.specs.Declarations.{IsSaid, bodies_of, checks_of}
use Rattle.spin_script.specs.RoundTrip.{Fits}

-- with the native of that index, if there is one
abbrev pub with_body : List Body → Option ℕ → List Body
with_body bodies None = bodies
with_body bodies (Some native) = bodies ++ body.Native native ∷ []

abbrev pub with_check : List Check → Option ℕ → List Check
with_check checks None = checks
with_check checks (Some native) = checks ++ check.Native native ∷ []

-- the bodies up to this line
abbrev pub bodies_after : NativeData → List Body → line.LineMeaning → List Body
bodies_after n bodies (line.Handler h sig steps) =
    bodies ++ body.Coded sig (record { steps = steps }) ∷ []
bodies_after n bodies (line.NativeHandler h name) = with_body bodies (native_at name n.handlers)
bodies_after n bodies other = bodies

-- the checks up to this line
abbrev pub checks_after : NativeData → List Check → line.LineMeaning → List Check
checks_after n checks (line.Guard g sig t) = checks ++ check.Coded sig t ∷ []
checks_after n checks (line.NativeGuard g name) = with_check checks (native_at name n.guards)
checks_after n checks other = checks

-- a line was added to a script with the bodies hs and the checks gs, which has ks and cs then; or it can't stand there
abbrev pub Grows : {A : Type 0} → NativeData → List Body → List Check → line.LineMeaning → Result A Fault
    → List Body → List Check → Type 0
Grows n hs gs l (Ok a) ks cs = (ks ≡ bodies_after n hs l) × (cs ≡ checks_after n gs l)
Grows n hs gs l (Err f) ks cs = Unit {0}

-- the line that is this as a whole declares what ks and cs have more than the bodies hs and the checks gs
abbrev pub DeclaresMore : NativeData → ScriptState → Result Head Cause → List Body → List Check → List Body → List Check
    → Type 0
DeclaresMore n s h hs gs ks cs =
    (said : List line.LineMeaning) × IsSaid s h said × (ks ≡ hs ++ bodies_of n said)
    × (cs ≡ gs ++ checks_of n said)

-- So many lines, one behind the other, come to s, with these bodies and checks.
abbrev pub HasCome : NativeData → ℕ → ScriptState → List Body → List Check → Type 0
HasCome n zero s bodies checks =
    (s ≡ record start { version = s.version }) × (bodies ≡ []) × (checks ≡ [])
HasCome n (suc k) s bodies checks =
    (t : ScriptState) × (hs : List Body) × (gs : List Check) × (number : ℕ) × (l : line.LineMeaning)
    × HasCome n k t hs gs × Fits n t l × (s ≡ after n t number l) × (bodies ≡ bodies_after n hs l)
    × (checks ≡ checks_after n gs l)

-- the bodies and checks are those of the lines of the script so far
pub record IsDeclared (n : NativeData) (s : ScriptState) (bodies : List Body)
    (checks : List Check) : Type 0 where
  pub version : s.version ≤ 3
  pub count : ℕ
  pub come : HasCome n count s bodies checks
  -- no line stands before the one that names the version
  pub fresh : s.version ≡ 0 → count ≡ 0
