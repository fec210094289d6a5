-- Handlers and guards that are added to the script so far.
use Rattle.std.proofs.Common.{◌≡◌, ◌+◌, ◌≤◌, ℕ, Bool, true, nat_lt, List, [], ◌∷◌, ◌++◌, Option, Some, None, Ok, refl, sym, ap, ◌∙◌, arith}
use Rattle.std.specs.Prelude.{Result}
use Rattle.std.proofs.lemmas.Bool.Decides.{nat_tests}
use Rattle.spin_values.specs.declared.types.EventType.{EventType}
use Rattle.spin_code.specs.declared.act.Act.{Act}
use Rattle.spin_code.specs.declared.act.ActStep.{ActStep}
use Rattle.spin_code.specs.declared.test.Test.{Test}
use Rattle.spin_code.specs.declared.check.ActFault.{ActFault}
use Rattle.spin_code.specs.Check.{act_check}
use Rattle.spin_objects.specs.Units.{HandlerUnit, GuardUnit}
use Rattle.spin_objects.specs.Adding.{refusal}
use Rattle.spin_table.specs.declared.event.EventDef.{EventDef}
use Rattle.spin_grammar.specs.declared.cause.Cause.{Cause}
use Rattle.spin_grammar.specs.Lines as said
use Rattle.spin_grammar.specs.Lines.{IsKept}
use Rattle.spin_script.specs.declared.draft.Draft.{Draft}
use Rattle.spin_script.specs.States.{NativeData, after}
use Rattle.spin_values.specs.First.{first_of}
use Rattle.spin_script.specs.Checks.{checked, step_checks}
use Rattle.spin_script.specs.Inner.Drafts.{state}

-- what was kept is what was read
pub kept_is : {A : Type 0} (is_deep : A → Bool) (o : Option A) (a kept : A) → o ≡ Some a → IsKept is_deep o kept → a ≡ kept
kept_is is_deep None a kept e k = absurd (cc)
kept_is is_deep (Some b) a kept e k = let same : b ≡ a = cc in sym same ∙ k.0

-- the next one, which was checked, isn't refused
pub next_fits : (checked : Result (Unit {0}) ActFault) (number count : ℕ) → checked ≡ Ok tt → number ≤ 1023 → number ≡ count + 1 → refusal checked count ≡ None
next_fits checked number count right range next =
    let few : nat_lt count 1023 ≡ true = grind (arith, nat_tests, range, next) in
    rw (right, few) refl

pub handler_added : (n : NativeData) (d : Draft) (handlers new : List HandlerUnit) (guards same : List GuardUnit) (number h : ℕ) (sig : EventType) (act : Act) (kept : List ActStep)
    → new ≡ handlers ++ record { sig = sig; act = act } ∷ [] → same ≡ guards → act.steps ≡ kept
    → state d new same ≡ record (after n (state d handlers guards) number (said.Handler h sig kept)) { section = d.section }
handler_added n d handlers new guards same number h sig act kept added others steps =
    ap (λ (hs : List HandlerUnit). state d hs same) added
    ∙ ap (λ (gs : List GuardUnit). state d (handlers ++ record { sig = sig; act = act } ∷ []) gs) others
    ∙ ap (λ (ss : List ActStep). state d (handlers ++ record { sig = sig; act = record { steps = ss } } ∷ []) guards) steps

pub guard_added : (n : NativeData) (d : Draft) (handlers same : List HandlerUnit) (guards new : List GuardUnit) (number g : ℕ) (sig : EventType) (test kept : Test)
    → new ≡ guards ++ record { sig = sig; test = test } ∷ [] → same ≡ handlers → test ≡ kept
    → state d same new ≡ record (after n (state d handlers guards) number (said.Guard g sig kept)) { section = d.section }
guard_added n d handlers same guards new number g sig test kept added others is =
    ap (λ (gs : List GuardUnit). state d same gs) added
    ∙ ap (λ (hs : List HandlerUnit). state d hs (guards ++ record { sig = sig; test = test } ∷ [])) others
    ∙ ap (λ (t : Test). state d handlers (guards ++ record { sig = sig; test = t } ∷ [])) is

-- the cause of an act with the steps that were read, where as much is declared as is counted
pub act_judged : (sig : EventType) (counted endpoints : ℕ) (seen events : List EventDef) (steps kept : List ActStep) (o : Option Cause)
    → counted ≡ endpoints → seen ≡ events → steps ≡ kept → o ≡ first_of (checked (act_check (record { steps = steps }) sig) (step_checks counted seen steps))
    → first_of (checked (act_check (record { steps = kept }) sig) (step_checks endpoints events kept)) ≡ o
act_judged sig counted endpoints seen events steps kept o count all same is =
    sym
    (is ∙ ap (λ (n : ℕ). first_of (checked (act_check (record { steps = steps }) sig) (step_checks n seen steps))) count
    ∙ ap (λ (es : List EventDef). first_of (checked (act_check (record { steps = steps }) sig) (step_checks endpoints es steps))) all
    ∙ ap (λ (ss : List ActStep). first_of (checked (act_check (record { steps = ss }) sig) (step_checks endpoints events ss))) same)
