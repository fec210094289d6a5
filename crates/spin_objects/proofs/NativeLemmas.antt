-- What a native does is what its place in the lists says.
use Rattle.std.proofs.Common.{◌≡◌, ℕ, ◌<◌, List, map, refl, ap}
use Rattle.std.specs.Prelude.{Option, None, Some, IfSome, slice_get}
use Rattle.std.specs.Option.{option_map}
use Rattle.std.proofs.lemmas.Option.{slice_get-map, same_Some}
use Rattle.spin_values.specs.First.{numbered}
use Rattle.spin_values.specs.declared.values.Value.{Value}
use Rattle.spin_code.specs.Truth.{truth_of, holds_if}
use Rattle.spin_objects.specs.declared.pair.NativeHandler.{NativeHandler}
use Rattle.spin_objects.specs.declared.pair.NativeGuard.{NativeGuard}
use Rattle.spin_objects.specs.declared.unit.Body.{Body}
use Rattle.spin_objects.specs.declared.unit.Body.TheVariants as body
use Rattle.spin_objects.specs.declared.unit.Check.{Check}
use Rattle.spin_objects.specs.declared.unit.Check.TheVariants as check
use Rattle.spin_objects.proofs.NumberedItems.{numbered-map}
use Rattle.spin_objects.specs.There.{IsBodyThere, IsCheckThere}
use Rattle.spin_objects.specs.Units.{Named, HandlerUnit, GuardUnit, unit_of_body, unit_of_check, native_of_body, native_of_check, handler_if, guard_if, act_if, known_handler, known_guard}

-- a native handler of an index that is there
pub handler_known : {A : Type 0} {B : A → Type 0} (natives : List (NativeHandler A B)) (k : ℕ) (n : NativeHandler A B)
    → slice_get natives k ≡ Some n → handler_if (slice_get (map known_handler natives) k) ≡ (known_handler n).unit
handler_known natives k n there = rw (slice_get-map known_handler natives k, there) refl

-- a native guard of an index that is there
pub guard_known : {C : Type 0} {D : C → Type 0} (natives : List (NativeGuard C D)) (k : ℕ) (n : NativeGuard C D)
    → slice_get natives k ≡ Some n → guard_if (slice_get (map known_guard natives) k) ≡ (known_guard n).unit
guard_known natives k n there = rw (slice_get-map known_guard natives k, there) refl

-- the native that a handler is, and the one that a guard is, is there
pub native_body_there : (natives : ℕ) (b : Body) → IsBodyThere natives b → IfSome (native_of_body b) (λ native. native < natives)
native_body_there natives (body.Coded sig act) there = tt
native_body_there natives (body.Native native) there = there

pub native_check_there : (natives : ℕ) (c : Check) → IsCheckThere natives c → IfSome (native_of_check c) (λ native. native < natives)
native_check_there natives (check.Coded sig test) there = tt
native_check_there natives (check.Native native) there = there

found_act : (natives : List (Named HandlerUnit)) (found : Option Body) (native : ℕ)
    → option_map native_of_body found ≡ Some (Some native)
    → act_if (option_map (λ (u : HandlerUnit). u.act) (option_map (unit_of_body natives) found)) ≡ (handler_if (slice_get natives native)).act
found_act natives None native is_native = cc
found_act natives (Some (body.Coded sig act)) native is_native = cc
found_act natives (Some (body.Native n)) native is_native =
    ap (λ k. (handler_if (slice_get natives k)).act) (same_Some n native (same_Some (Some n) (Some native) is_native))

-- the act of a native handler, read by its number
pub native_act : (natives : List (Named HandlerUnit)) (bodies : List Body) (number native : ℕ)
    → numbered (map native_of_body bodies) number ≡ Some (Some native)
    → act_if (numbered (map (λ (u : HandlerUnit). u.act) (map (unit_of_body natives) bodies)) number) ≡ (handler_if (slice_get natives native)).act
native_act natives bodies number native is_native =
    rw (numbered-map (λ (u : HandlerUnit). u.act) (map (unit_of_body natives) bodies) number, numbered-map (unit_of_body natives) bodies number)
    (found_act natives (numbered bodies number) native (rw (← numbered-map native_of_body bodies number) is_native))

found_test : (natives : List (Named GuardUnit)) (found : Option Check) (native : ℕ) (args : List Value)
    → option_map native_of_check found ≡ Some (Some native)
    → holds_if (option_map (λ (u : GuardUnit). u.test) (option_map (unit_of_check natives) found)) args ≡ truth_of (guard_if (slice_get natives native)).test args
found_test natives None native args is_native = cc
found_test natives (Some (check.Coded sig test)) native args is_native = cc
found_test natives (Some (check.Native n)) native args is_native =
    ap (λ k. truth_of (guard_if (slice_get natives k)).test args) (same_Some n native (same_Some (Some n) (Some native) is_native))

-- the test of a native guard, read by its number
pub native_test : (natives : List (Named GuardUnit)) (checks : List Check) (k native : ℕ) (args : List Value)
    → slice_get (map native_of_check checks) k ≡ Some (Some native)
    → holds_if (slice_get (map (λ (u : GuardUnit). u.test) (map (unit_of_check natives) checks)) k) args ≡ truth_of (guard_if (slice_get natives native)).test args
native_test natives checks k native args is_native =
    rw (slice_get-map (λ (u : GuardUnit). u.test) (map (unit_of_check natives) checks) k, slice_get-map (unit_of_check natives) checks k)
    (found_test natives (slice_get checks k) native args (rw (← slice_get-map native_of_check checks k) is_native))
