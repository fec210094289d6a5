-- A command that doesn't crowd a hub leaves its lanes the room that they had.
use Rattle.std.proofs.Common.{◌≡◌, ℕ, ◌+◌, ◌≤◌, ◌==◌, ◌&&◌, Bool, true, false, not, nat_le, cond, List, ◌∷◌, [], length, refl, ap, arith, length-append}
use Rattle.std.specs.Prelude.{MatchOption, None, Option, Some, slice_get}
use Rattle.std.specs.List.{sum_by}
use Rattle.std.proofs.lemmas.List.{length-map}
use Rattle.std.proofs.lemmas.Bool.{leb-false}
use Rattle.std.proofs.lemmas.List.Sums.{sum_by-set}
use Rattle.std.proofs.lemmas.Option.{get_or_from_slice_get, slice_get_within}
use Rattle.spin_word.specs.declared.command.Command.{Command}
use Rattle.spin_word.specs.declared.command.TheConstants.{MAX_PLACE}
use Rattle.spin_word.specs.declared.command.Op.{Op}
use Rattle.spin_word.specs.declared.command.Op.TheVariants as op
use Rattle.spin_policy.specs.Verdicts.{is_install}
use Rattle.spin_policy.specs.declared.rule.Rule.{Rule}
use Rattle.spin_policy.specs.declared.rule.Verdict.{Verdict}
use Rattle.spin_place.specs.declared.binding.Binding.{Binding}
use Rattle.spin_table.specs.declared.event.EventDef.{EventDef}
use Rattle.spin_table.specs.declared.refusal.Refusal.{Refusal}
use Rattle.spin_table.specs.declared.refusal.Verdicted.{Verdicted}
use Rattle.spin_table.specs.declared.refusal.Verdicted.TheVariants as verdicted
use Rattle.spin_table.specs.Refusals.{refusal_of}
use Rattle.spin_table.specs.Renewals.{live_numbers}
use Rattle.spin_table.specs.Setups.{SetupData, rules_of}
use Rattle.spin_table.specs.States.{EventState, State}
use Rattle.spin_table.specs.Steps.{ChangesTo, IsStep, bindings_after, event_after, events_after, installed, replaced_at}
use Rattle.spin_table.specs.Verdicts.{answer_to}
use Rattle.spin_table.proofs.BindingSoundness.{length-filter-le}
use Rattle.spin_c.specs.Crowded.{CommandsLeaveRoom}
use Rattle.spin_c.proofs.LiveNumbers.{bindings_of, live_are_numbered}

-- the bindings that a command adds
abbrev added : Op → ℕ
added o = cond (is_install o) 1 0

of_event : (rules : List Rule) (v : Verdict) (place : ℕ) (c : Command) (o : Op) (bs : List Binding) → length (bindings_after rules v place c o bs) ≤ length bs + added o
of_event rules v place c op.Install bs = omega (arith, length-append bs (installed rules v place c ∷ []))
of_event rules v place c op.Remove bs = omega (arith, length-filter-le (λ (b : Binding). not (b.number == c.target)) bs)
of_event rules v place c op.Replace bs = omega (arith, length-map bs (replaced_at rules v c))
of_event rules v place c op.Default bs = omega arith
of_event rules v place c op.NoDefault bs = omega arith

module _ (d : SetupData) (c : Command) (s : State) where
  of_events : (place : ℕ) → sum_by bindings_of (events_after d.policies place c (slice_get d.events c.event) (slice_get s.events c.event) s.events) ≤ sum_by bindings_of s.events + added c.op
  of_events place = go (slice_get d.events c.event) (slice_get s.events c.event) refl
    where
      go : (e : Option EventDef) (t : Option EventState) → slice_get s.events c.event ≡ t
          → sum_by bindings_of (events_after d.policies place c e t s.events) ≤ sum_by bindings_of s.events + added c.op
      go (Some e) (Some t) there =
          let next = event_after d.policies e place c t in
          let inside = slice_get_within s.events c.event t there in
          let swapped = sum_by-set bindings_of s.events c.event next t inside in
          let same = ap bindings_of (get_or_from_slice_get s.events c.event t t there) in
          let more = of_event (rules_of d.policies e.authority) (answer_to d.policies e t.bindings c) place c c.op t.bindings in
          omega (arith, swapped, same, more)
      go (Some e) None there = omega arith
      go None (Some t) there = omega arith
      go None None there = omega arith

  of_step : (v : Verdicted) (next : State) → IsStep d s c v next → sum_by bindings_of next.events ≤ sum_by bindings_of s.events + added c.op
  of_step v next step = go (refusal_of d s c) v step
    where
      stays : next ≡ s → sum_by bindings_of next.events ≤ sum_by bindings_of s.events + added c.op
      stays same = let e = ap (λ (t : State). sum_by bindings_of t.events) same in omega (arith, e)

      go : (r : Option Refusal) (v : Verdicted) → MatchOption r (ChangesTo d s c v next) (λ why. (v ≡ verdicted.Refused why) × (next ≡ s))
          → sum_by bindings_of next.events ≤ sum_by bindings_of s.events + added c.op
      go None verdicted.Accepted is = let e = ap (λ (t : State). sum_by bindings_of t.events) is.0 in omega (arith, e, of_events (s.place + 1))
      go None (verdicted.Refused why) is = stays is.0
      go (Some why) v is = stays is.1

room : (lanes live after : ℕ) (install : Bool) → after ≤ live + cond install 1 0 → (install && nat_le MAX_PLACE (live + lanes)) ≡ false → live + lanes ≤ MAX_PLACE → after + lanes ≤ MAX_PLACE
room lanes live after false few fits has = omega (arith, few, has)
room lanes live after true few fits has = omega (arith, few, leb-false MAX_PLACE (live + lanes) fits)

pub commands_leave_room : CommandsLeaveRoom
commands_leave_room d lanes s next c v sound sound' step fits has =
    let few = of_step d c s v next step in
    let before = live_are_numbered d s sound in
    let after = live_are_numbered d next sound' in
    room lanes (length (live_numbers s)) (length (live_numbers next)) (is_install c.op) (omega (arith, few, before, after)) fits has
