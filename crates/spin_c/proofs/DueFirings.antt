-- Whether a firing is due, by what a raise of event 0 from within is told.
use Rattle.std.proofs.Common.{◌≡◌, ◌<◌, ◌∙◌, ℕ, List, [], length, refl, ap, inl, inr, arith}
use Rattle.std.specs.Arc.{arc_value}
use Rattle.std.specs.Option.{option_map, option_map_or}
use Rattle.std.specs.Prelude.{Bool, true, false, Option, None, Some, Result, Err, IfErr, MatchOption, if◌then◌else◌, is_some, nat_lt, slice_get}
use Rattle.std.proofs.lemmas.Bool.Decides.{nat_tests}
use Rattle.std.proofs.lemmas.Option.{slice_get-map, slice_get_cases}
use Rattle.spin_values.specs.declared.types.EventType.{EventType}
use Rattle.spin_raise.specs.Firing.{Bound}
use Rattle.spin_table.specs.declared.event.EventDef.{EventDef}
use Rattle.spin_table.specs.Setups.{SetupData}
use Rattle.spin_proto.specs.Replies.{are_fit, types_in}
use Rattle.spin_proto.proofs.BoundEvents.{bounds_there, the_bound}
use Rattle.spin_host.specs.declared.fault.RaiseFault.{RaiseFault}
use Rattle.spin_host.specs.declared.fault.RaiseFault.TheVariants as fault
use Rattle.spin_host.specs.declared.open.OpenRaise.{OpenRaise}
use Rattle.spin_host.specs.Frames.{due_in}
use Rattle.spin_host.specs.Levels.{IsOpen, OnTop}
use Rattle.spin_host.specs.Opening.{args_fault, or_downward, within_fault}
use Rattle.spin_c.specs.Moves.{due_by}

there : {X : Type 0} (xs : List X) (i : ℕ) → i < length xs → (x : X) × (slice_get xs i ≡ Some x)
there xs i lt =
    elim (slice_get_cases xs i).1 [
      | inl (x, inside, here, at) ↦ (x, here)
      | inr (past, none) ↦ absurd (omega (arith, lt, past))
    ]

-- the event of an open raise is there, so what holds of it holds of something
top_there : (d : SetupData) (o : OpenRaise) (P : EventType → Bound → Type 0) → IsOpen d o → OnTop d o P → (sig : EventType) × (e : Bound) × P sig e
top_there d o P sound so =
    let s = (arc_value o.version).state in let event = o.top.frame.event in
    let made = bounds_there d s sound.sound.state in
    let def = there d.events event sound.top.0 in
    let state = there s.events event (omega (arith, sound.top.0, sound.sound.state.events)) in
    let bound = the_bound d.events s.events made.0 event def.0 state.0 made.1 def.1 state.1 in
    let typed : slice_get (types_in d) event ≡ Some def.0.sig =
    slice_get-map (λ (e : EventDef). e.sig) d.events event ∙ ap (option_map (λ (e : EventDef). e.sig)) def.1 in
    (def.0.sig, bound.0, so made.0 def.0.sig bound.0 made.1 typed bound.1)

-- it is told why, and by that whether a firing is due
abbrev Refuses : (T : Type 0) → (RaiseFault → Type 0) → Bool → Type 0
Refuses T Q due = (why : RaiseFault) × Q why × (due_by {T = T} (Err why) ≡ due)

not_below : (n : ℕ) → nat_lt n 0 ≡ false
not_below n = grind (arith, nat_tests)

module _ (T P : Type 0) {Q : RaiseFault → Type 0} where
  below_zero : (less : Bool) → less ≡ false → MatchOption (if less then None else Some fault.Downward) P Q → Refuses T Q true
  below_zero true is m = absurd (cc is)
  below_zero false is m = (fault.Downward, m, refl)

  by_fit : (raised : ℕ) (fit : Bool) → MatchOption (or_downward raised 0 (if fit then None else Some fault.WrongArgs)) P Q → Refuses T Q true
  by_fit raised true m = below_zero (nat_lt raised 0) (not_below raised) m
  by_fit raised false m = (fault.WrongArgs, m, refl)

  by_type : (raised : ℕ) (sig : Option EventType)
      → MatchOption (or_downward raised 0 (option_map_or (λ (sig : EventType). args_fault sig []) sig (Some fault.UnknownEvent))) P Q → Refuses T Q true
  by_type raised None m = (fault.UnknownEvent, m, refl)
  by_type raised (Some sig) m = by_fit raised (are_fit sig []) m

  refused : (d : SetupData) (raised : ℕ) (due : Bool) → MatchOption (within_fault d raised due 0 []) P Q → Refuses T Q due
  refused d raised false m = (fault.NotDue, m, refl)
  refused d raised true m = by_type raised (slice_get (types_in d) 0) m

module _ {T : Type 0} (d : SetupData) (o o' : OpenRaise) (r : Result T RaiseFault) where
  abbrev Told : EventType → Bound → Type 0
  Told sig e =
      MatchOption (within_fault d o.top.frame.event (is_some (due_in e o.top.frame)) 0 []) (IfErr r (λ why. why ≡ fault.NoMemory)) (λ why. (r ≡ Err why) × (o' ≡ o))

  -- nothing is changed
  pub zero_leaves : IsOpen d o → OnTop d o Told → o' ≡ o
  zero_leaves sound tells =
      let here = top_there d o Told sound tells in
      (refused T _ d o.top.frame.event (is_some (due_in here.1 o.top.frame)) here.2).1.1

  -- and it is told whether one is due
  pub zero_tells : OnTop d o Told → OnTop d o (λ sig e. due_by r ≡ is_some (due_in e o.top.frame))
  zero_tells tells = λ bounds sig e are typed read.
      let says = refused T _ d o.top.frame.event (is_some (due_in e o.top.frame)) (tells bounds sig e are typed read) in
      ap due_by says.1.0 ∙ says.2
