-- Which handlers and guards a catalogue refuses, and which natives are refused.
use Rattle.std.specs.Prelude.{ℕ, ◌≡◌, if◌then◌else◌, nat_lt, List, length}
use Rattle.std.specs.Prelude.{is_some, Option, Some, None, Result, Ok, Err, IfErr}
use Rattle.spin_code.specs.declared.check.ActFault.{ActFault}
use Rattle.spin_code.specs.Check.{act_check, test_check}
use Rattle.spin_objects.specs.declared.unit.TheConstants.{MAX_UNITS}
use Rattle.spin_objects.specs.declared.kinds.TheConstants.{MAX_NATIVES}
use Rattle.spin_objects.specs.declared.unit.Body.{Body}
use Rattle.spin_objects.specs.declared.unit.Body.TheVariants as body
use Rattle.spin_objects.specs.declared.unit.Check.{Check}
use Rattle.spin_objects.specs.declared.unit.Check.TheVariants as check
use Rattle.spin_objects.specs.declared.unit.CatalogueFault.{CatalogueFault}
use Rattle.spin_objects.specs.declared.unit.CatalogueFault.TheVariants as refused
use Rattle.spin_objects.specs.declared.kinds.NativeFault.{NativeFault}
use Rattle.spin_objects.specs.declared.kinds.NativeFault.TheVariants as fault
use Rattle.spin_objects.specs.Units.{index_of}

-- the first refusal of what was checked so, where so many of its kind are there
abbrev pub refusal : Result (Unit {0}) ActFault → ℕ → Option CatalogueFault
refusal (Err what) count = Some (refused.Bad what)
refusal (Ok done) count = if nat_lt count MAX_UNITS then None else Some refused.TooMany

-- the first refusal of a native, of which so many are there, where so many of its kind are in the catalogue
abbrev pub native_refusal : ℕ → ℕ → ℕ → Option CatalogueFault
native_refusal native natives count =
    if nat_lt count MAX_UNITS then
    (if nat_lt native natives then None else Some refused.NoNative) else Some refused.TooMany

-- why the handler isn't added, where there are so many natives and handlers
abbrev pub handler_refusal : Body → ℕ → ℕ → Option CatalogueFault
handler_refusal (body.Coded sig act) natives count = refusal (act_check act sig) count
handler_refusal (body.Native native) natives count = native_refusal native natives count

-- why the guard isn't added, where there are so many natives and guards
abbrev pub guard_refusal : Check → ℕ → ℕ → Option CatalogueFault
guard_refusal (check.Coded sig test) natives count = refusal (test_check test sig) count
guard_refusal (check.Native native) natives count = native_refusal native natives count

-- an answer is the first refusal, if there is one; where there is none, only want of memory is free
abbrev pub IsBy : {A : Type 0} → Option CatalogueFault → Result A CatalogueFault → Type 0
IsBy None answer = IfErr answer (λ what. what ≡ refused.NoMemory)
IsBy (Some what) answer = answer ≡ Err what

-- the first refusal of a native that was checked so, where there are so many of its kind
abbrev pub checked_refusal : Result (Unit {0}) ActFault → ℕ → Option NativeFault
checked_refusal (Err what) count = Some (fault.Bad what)
checked_refusal (Ok done) count = if nat_lt count MAX_NATIVES then None else Some fault.TooMany

-- why a native of this name that was checked so isn't added, where those of its kind have these names
abbrev pub adding_refusal : List ℕ → List (List ℕ) → Result (Unit {0}) ActFault → Option NativeFault
adding_refusal name names checked =
    if is_some (index_of name names) then Some fault.SameName else checked_refusal checked (length names)

-- the answer to a native is the first refusal, if there is one; where there is none, only want of memory is free
abbrev pub IsNativeBy : Option NativeFault → Result (Unit {0}) NativeFault → Type 0
IsNativeBy None answer = IfErr answer (λ what. what ≡ fault.NoMemory)
IsNativeBy (Some what) answer = answer ≡ Err what
