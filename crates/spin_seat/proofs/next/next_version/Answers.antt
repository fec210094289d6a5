use Rattle.std.proofs.Common.{◌≡◌, refl, sym, subst}
use Rattle.std.specs.Prelude.{Option, Some, None, Result, Ok, Err, IsErrAnd, MatchOption, MatchResult}
use Rattle.std.specs.Arc.{arc_value}
use Rattle.spin_word.specs.declared.command.Command.{Command}
use Rattle.spin_table.specs.declared.refusal.Refusal.{Refusal}
use Rattle.spin_table.specs.declared.refusal.StepFault.{StepFault}
use Rattle.spin_table.specs.declared.refusal.StepFault.TheVariants as fault
use Rattle.spin_table.specs.declared.refusal.Verdicted.TheVariants as verdicted
use Rattle.spin_table.specs.Setups.{SetupData}
use Rattle.spin_table.specs.SetupOf.{data_of}
use Rattle.spin_table.specs.States.{State, VersionValue}
use Rattle.spin_table.specs.Refusals.{refusal_of}
use Rattle.spin_table.specs.Steps.{ChangesTo, IsAnswer, IsStep}
use Rattle.spin_seat.proofs.next.next_version.Goals as goal

-- to a command that is accepted no refusal applies
unrefused : (d : SetupData) (s next : State) (c : Command) → IsStep d s c verdicted.Accepted next → refusal_of d s c ≡ None
unrefused d s next c step = go (refusal_of d s c) step
  where
    go : (o : Option Refusal) → MatchOption o (ChangesTo d s c verdicted.Accepted next) (λ r. (verdicted.Accepted ≡ verdicted.Refused r) × (next ≡ s)) → o ≡ None
    go None h = refl
    go (Some r) h = absurd (cc (h.0))

-- so want of memory may come
wanting : {X : Type 0} (d : SetupData) (s : State) (c : Command) (r : Result X StepFault) (P : X → Type 0) → IsErrAnd r (λ f. f ≡ fault.NoMemory) → refusal_of d s c ≡ None
    → MatchResult r P (λ f. IsAnswer d s c (Err f))
wanting d s c (Ok x) P is none = absurd is
wanting d s c (Err f) P is none = subst (λ (e : StepFault). IsAnswer d s c (Err e)) (sym is) none

pub returns-clause-answer : goal.returns-clause-answer
returns-clause-answer g c =
    subst (λ (x : VersionValue × VersionValue). IsStep (data_of c.args.setup.now) x.0.state c.args.c.now verdicted.Accepted x.1.state)
    (λ i. (c.deref.ensures i, sym c.in_ok-new.ensures.ok i)) c.in_ok-next.ensures.answer

pub returns-in_err-new-clause-answer : goal.returns-in_err-new-clause-answer
returns-in_err-new-clause-answer g c =
    let d = data_of c.args.setup.now in
    let step = subst (λ (v : VersionValue). IsStep d v.state c.args.c.now verdicted.Accepted c.in_ok-next.next.state) c.deref.ensures c.in_ok-next.ensures.answer in
    wanting d (arc_value c.args.version.now).state c.args.c.now c.from_residual-in_err-new.result _ c.from_residual-in_err-new.ensures.1
    (unrefused d (arc_value c.args.version.now).state c.in_ok-next.next.state c.args.c.now step)
