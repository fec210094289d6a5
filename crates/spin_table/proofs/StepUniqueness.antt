-- A command has one outcome.
use Rattle.std.proofs.Common.{◌≡◌, List, ℕ, refl, sym, ap, ◌∙◌}
use Rattle.std.specs.Prelude.{Option, None, Some, MatchOption}
use Rattle.spin_word.specs.declared.command.Op.{Op}
use Rattle.spin_word.specs.declared.command.Op.TheVariants as op
use Rattle.spin_word.specs.declared.command.Command.{Command}
use Rattle.spin_place.specs.declared.binding.Binding.{Binding}
use Rattle.spin_place.proofs.BindingPlacing.{IsCycle-unlawful}
use Rattle.spin_table.specs.declared.refusal.Refusal.{Refusal}
use Rattle.spin_table.specs.declared.refusal.Refusal.TheVariants as refusal
use Rattle.spin_table.specs.declared.refusal.Verdicted.{Verdicted}
use Rattle.spin_table.specs.declared.refusal.Verdicted.TheVariants as verdicted
use Rattle.spin_table.specs.Setups.{SetupData}
use Rattle.spin_table.specs.States.{State}
use Rattle.spin_table.specs.Refusals.{refusal_of}
use Rattle.spin_table.specs.Steps.{IsOrderly, IsConflict, ChangesTo, state_after, bindings_at}
use Rattle.spin_table.specs.Laws.{cause_of, without_cycle, StepsAreOne}

-- a conflict tells a cycle, and then the bindings have no order
conflict_is : (o : Op) (bs : List Binding) (r : Refusal) → IsConflict o bs r
    → (ns : List ℕ) × (r ≡ refusal.Conflict ns) × (IsOrderly o bs → ⊥)
conflict_is op.Install bs (refusal.Conflict ns) h = (ns, refl, λ order. IsCycle-unlawful bs ns h order.0 order.1)
conflict_is op.Install bs refusal.UnknownEvent h = absurd h
conflict_is op.Install bs refusal.UnknownModule h = absurd h
conflict_is op.Install bs refusal.UnknownHandler h = absurd h
conflict_is op.Install bs refusal.UnknownGuard h = absurd h
conflict_is op.Install bs refusal.UnknownBinding h = absurd h
conflict_is op.Install bs refusal.WrongType h = absurd h
conflict_is op.Install bs refusal.Downward h = absurd h
conflict_is op.Install bs refusal.WrongMode h = absurd h
conflict_is op.Install bs (refusal.Denied rule) h = absurd h
conflict_is op.Install bs refusal.TooMany h = absurd h
conflict_is op.Install bs (refusal.ForcedMode rule) h = absurd h
conflict_is op.Remove bs r h = absurd h
conflict_is op.Replace bs r h = absurd h
conflict_is op.Default bs r h = absurd h
conflict_is op.NoDefault bs r h = absurd h

module _ (d : SetupData) (s : State) (c : Command) where
  conflict_cause : (r q : Refusal) → IsConflict c.op (bindings_at (state_after d c s) c.event) r
      → IsConflict c.op (bindings_at (state_after d c s) c.event) q → cause_of r ≡ cause_of q
  conflict_cause r q h g =
      let one = conflict_is c.op (bindings_at (state_after d c s) c.event) r h in
      let two = conflict_is c.op (bindings_at (state_after d c s) c.event) q g in
      ap cause_of one.1 ∙ sym (ap cause_of two.1)

  -- a change to which no refusal but a conflict applies
  one_change : (v w : Verdicted) (next other : State) → ChangesTo d s c v next → ChangesTo d s c w other
      → (without_cycle v ≡ without_cycle w) × (next ≡ other)
  one_change verdicted.Accepted verdicted.Accepted next other h g = (refl, h.0 ∙ sym g.0)
  one_change verdicted.Accepted (verdicted.Refused q) next other h g =
      absurd ((conflict_is c.op (bindings_at (state_after d c s) c.event) q g.1).2 h.1)
  one_change (verdicted.Refused r) verdicted.Accepted next other h g =
      absurd ((conflict_is c.op (bindings_at (state_after d c s) c.event) r h.1).2 g.1)
  one_change (verdicted.Refused r) (verdicted.Refused q) next other h g =
      (ap (λ (x : Refusal). verdicted.Refused x) (conflict_cause r q h.1 g.1), h.0 ∙ sym g.0)

pub one_step : StepsAreOne
one_step d s c v w next other first second = choose (refusal_of d s c) first second
  where
    choose : (o : Option Refusal)
        → MatchOption o (ChangesTo d s c v next) (λ r. (v ≡ verdicted.Refused r) × (next ≡ s))
        → MatchOption o (ChangesTo d s c w other) (λ r. (w ≡ verdicted.Refused r) × (other ≡ s))
        → (without_cycle v ≡ without_cycle w) × (next ≡ other)
    choose None h g = one_change d s c v w next other h g
    choose (Some r) h g = (ap without_cycle (h.0 ∙ sym g.0), h.1 ∙ sym g.1)
