-- The handlers and guards of a catalogue, as the acts and tests that they are known by, and the natives among them.
use Rattle.std.specs.Prelude.{ℕ, ◌≡◌, false, List, [], map, Option, Some, None, slice_get, position, bytes_eq, All}
use Rattle.spin_values.specs.First.{numbered}
use Rattle.spin_values.specs.declared.types.EventType.{EventType}
use Rattle.spin_code.specs.declared.act.Act.{Act}
use Rattle.spin_code.specs.declared.test.Test.{Test}
use Rattle.spin_code.specs.declared.test.Test.TheVariants as test
use Rattle.spin_policy.specs.declared.rule.Rule.{Rule}
use Rattle.spin_objects.specs.declared.pair.NativeHandler.{NativeHandler}
use Rattle.spin_objects.specs.declared.pair.NativeGuard.{NativeGuard}
use Rattle.spin_objects.specs.declared.pair.NativeAuthoriser.{NativeAuthoriser}
use Rattle.spin_objects.specs.declared.natives.Natives.{Natives}
use Rattle.spin_objects.specs.declared.kinds.NativeKind.{NativeKind}
use Rattle.spin_objects.specs.declared.kinds.NativeKind.TheVariants as kind
use Rattle.spin_objects.specs.declared.unit.Body.{Body}
use Rattle.spin_objects.specs.declared.unit.Body.TheVariants as body
use Rattle.spin_objects.specs.declared.unit.Check.{Check}
use Rattle.spin_objects.specs.declared.unit.Check.TheVariants as check
use Rattle.spin_objects.specs.declared.catalogue.Catalogue.{Catalogue}

-- a handler: what its event has to be, and what it does
pub record HandlerUnit : Type 0 where
  pub sig : EventType
  pub act : Act

-- a guard: what it is asked of, and what it asks
pub record GuardUnit : Type 0 where
  pub sig : EventType
  pub test : Test

-- a name, and what goes by it
pub record Named (X : Type 0) : Type 0 where
  pub name : List ℕ
  pub unit : X

-- Below, A and B, C and D, E and F are the kinds of the boxed handlers, guards and authorisers.

-- a native handler is known by its name, and by the signature and the act that it was handed in with
abbrev pub known_handler : {A : Type 0} {B : A → Type 0} → NativeHandler A B → Named HandlerUnit
known_handler n = record { name = n.name; unit = record { sig = n.sig; act = n.act } }

-- a native guard is known by its name, and by the signature and the test that it was handed in with
abbrev pub known_guard : {C : Type 0} {D : C → Type 0} → NativeGuard C D → Named GuardUnit
known_guard n = record { name = n.name; unit = record { sig = n.sig; test = n.test } }

-- a native authoriser is known by its name, and by the policy that it was handed in with
abbrev pub known_authoriser : {E : Type 0} {F : E → Type 0} → NativeAuthoriser E F → Named (List Rule)
known_authoriser n = record { name = n.name; unit = n.policy }

-- the native handlers in the order of adding, the first having index 0
abbrev pub native_handlers : {A C E : Type 0} {B : A → Type 0} {D : C → Type 0} {F : E → Type 0}
    → Natives A C E B D F → List (Named HandlerUnit)
native_handlers natives = map known_handler natives.handlers

-- the native guards in the order of adding
abbrev pub native_guards : {A C E : Type 0} {B : A → Type 0} {D : C → Type 0} {F : E → Type 0}
    → Natives A C E B D F → List (Named GuardUnit)
native_guards natives = map known_guard natives.guards

-- the native authorisers in the order of adding
abbrev pub native_authorisers : {A C E : Type 0} {B : A → Type 0} {D : C → Type 0} {F : E → Type 0}
    → Natives A C E B D F → List (Named (List Rule))
native_authorisers natives = map known_authoriser natives.authorisers

-- the policies of the native authorisers
abbrev pub policies_of : {A C E : Type 0} {B : A → Type 0} {D : C → Type 0} {F : E → Type 0}
    → Natives A C E B D F → List (List Rule)
policies_of natives = map (λ n. n.unit) (native_authorisers natives)

-- the names of the natives of a kind
abbrev pub names_of : {A C E : Type 0} {B : A → Type 0} {D : C → Type 0} {F : E → Type 0}
    → NativeKind → Natives A C E B D F → List (List ℕ)
names_of kind.Handler natives = map (λ n. n.name) (native_handlers natives)
names_of kind.Guard natives = map (λ n. n.name) (native_guards natives)
names_of kind.Authoriser natives = map (λ n. n.name) (native_authorisers natives)

-- the index of the first that has this name
abbrev pub index_of : List ℕ → List (List ℕ) → Option ℕ
index_of name names = position (λ n. bytes_eq n name) names

-- each object means what it was handed in with, given what objects do, ask and follow
pub record IsSincere {A C E : Type 0} {B : A → Type 0} {D : C → Type 0} {F : E → Type 0}
    (does : NativeHandler A B → Act) (asks : NativeGuard C D → Test)
    (follows : NativeAuthoriser E F → List Rule) (natives : Natives A C E B D F) : Type 0 where
  pub handlers : All (λ n. does n ≡ n.act) natives.handlers
  pub guards : All (λ n. asks n ≡ n.test) natives.guards
  pub authorisers : All (λ n. follows n ≡ n.policy) natives.authorisers

-- the same, given the meanings as a closure's clause names them
abbrev pub IsSincereBy : {A C E : Type 0} {B : A → Type 0} {D : C → Type 0} {F : E → Type 0}
    → ((v : A) × B v → Act) → ((v : C) × D v → Test) → ((v : E) × F v → List Rule) → Natives A C E B D F → Type 0
IsSincereBy does asks follows natives =
    IsSincere (λ n. does (n.object.vtable, n.object.value)) (λ n. asks (n.object.vtable, n.object.value))
    (λ n. follows (n.object.vtable, n.object.value)) natives

-- the native handler of an index, which does nothing where there is none
abbrev pub handler_if : Option (Named HandlerUnit) → HandlerUnit
handler_if None = record { sig = record { params = []; gives = false }; act = record { steps = [] } }
handler_if (Some native) = native.unit

-- the native guard of an index, which asks nothing where there is none
abbrev pub guard_if : Option (Named GuardUnit) → GuardUnit
guard_if None = record { sig = record { params = []; gives = false }; test = test.True }
guard_if (Some native) = native.unit

-- a native handler is the signature and the act that it was handed in with
abbrev pub unit_of_body : List (Named HandlerUnit) → Body → HandlerUnit
unit_of_body natives (body.Coded sig act) = record { sig = sig; act = act }
unit_of_body natives (body.Native native) = handler_if (slice_get natives native)

-- a native guard is the signature and the test that it was handed in with
abbrev pub unit_of_check : List (Named GuardUnit) → Check → GuardUnit
unit_of_check natives (check.Coded sig test) = record { sig = sig; test = test }
unit_of_check natives (check.Native native) = guard_if (slice_get natives native)

-- the handlers, the first having number 1
abbrev pub handlers_of : {A C E : Type 0} {B : A → Type 0} {D : C → Type 0} {F : E → Type 0}
    → Catalogue A C E B D F → List HandlerUnit
handlers_of c = map (unit_of_body (native_handlers c.natives)) c.bodies

-- the guards, the first having number 1
abbrev pub guards_of : {A C E : Type 0} {B : A → Type 0} {D : C → Type 0} {F : E → Type 0}
    → Catalogue A C E B D F → List GuardUnit
guards_of c = map (unit_of_check (native_guards c.natives)) c.checks

abbrev pub acts_of : {A C E : Type 0} {B : A → Type 0} {D : C → Type 0} {F : E → Type 0}
    → Catalogue A C E B D F → List Act
acts_of c = map (λ u. u.act) (handlers_of c)

abbrev pub tests_of : {A C E : Type 0} {B : A → Type 0} {D : C → Type 0} {F : E → Type 0}
    → Catalogue A C E B D F → List Test
tests_of c = map (λ u. u.test) (guards_of c)

-- the index of the native that a handler is
abbrev pub native_of_body : Body → Option ℕ
native_of_body (body.Coded sig act) = None
native_of_body (body.Native native) = Some native

-- the index of the native that a guard is
abbrev pub native_of_check : Check → Option ℕ
native_of_check (check.Coded sig test) = None
native_of_check (check.Native native) = Some native

-- of each handler, which native it is
abbrev pub handler_natives : {A C E : Type 0} {B : A → Type 0} {D : C → Type 0} {F : E → Type 0}
    → Catalogue A C E B D F → List (Option ℕ)
handler_natives c = map native_of_body c.bodies

-- of each guard, which native it is
abbrev pub guard_natives : {A C E : Type 0} {B : A → Type 0} {D : C → Type 0} {F : E → Type 0}
    → Catalogue A C E B D F → List (Option ℕ)
guard_natives c = map native_of_check c.checks

-- the act, or one that does nothing where there is none
abbrev pub act_if : Option Act → Act
act_if None = record { steps = [] }
act_if (Some act) = act

-- the act of the handler of this number, which does nothing where there is none
abbrev pub act_at : List Act → ℕ → Act
act_at acts handler = act_if (numbered acts handler)
