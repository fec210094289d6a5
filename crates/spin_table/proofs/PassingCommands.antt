-- What holds of a command to which no refusal applies.
use Rattle.std.proofs.Common.{◌≡◌, ℕ, zero, suc, ◌≤◌, ◌-◌, ◌==◌, Bool, true, false, not, ◌&&◌, ◌||◌, cond, List, [], ◌∷◌, length, get_or, refl, sym, ap, subst, ◌∙◌, arith, inl, inr}
use Rattle.std.specs.Prelude.{Option, None, Some, nat_lt}
use Rattle.std.specs.Option.{option_map_or}
use Rattle.std.proofs.lemmas.Option.{slice_get_cases}
use Rattle.spin_word.specs.declared.command.Mode.{Mode}
use Rattle.spin_word.specs.declared.command.Command.{Command}
use Rattle.spin_word.specs.Commands.{guard_is_used, handler_is_used}
use Rattle.spin_word.specs.declared.command.Mode.TheVariants as mode
use Rattle.spin_word.specs.declared.command.Op.TheVariants as op
use Rattle.spin_values.specs.First.{first_of, numbered}
use Rattle.spin_policy.specs.Verdicts.{is_install}
use Rattle.spin_policy.specs.Imposed.{forces_apart}
use Rattle.spin_table.specs.Steps.{mode_under}
use Rattle.spin_table.specs.Verdicts.{answer_to}
use Rattle.spin_table.specs.declared.refusal.Refusal.TheVariants as refusal
use Rattle.spin_place.specs.declared.binding.Binding.{Binding}
use Rattle.spin_objects.specs.Units.{HandlerUnit, GuardUnit}
use Rattle.spin_table.specs.declared.event.EventDef.{EventDef}
use Rattle.spin_table.specs.Setups.{SetupData, rules_of}
use Rattle.spin_table.specs.Units.{same_signature, same_parameter_kinds, raises_down, sets_argument, has_wrong_mode, is_handler_for, is_fit_handler, is_fit_guard, is_fit_own_guard}
use Rattle.spin_table.specs.Refusals.{refusals_at, lacks_handler, lacks_guard, of_handler, of_guard, mode_of, forces_a_change_apart, is_full}
use Rattle.spin_objects.proofs.NumberedItems.{numbered-at}

-- none of a list of conditions holds
pub none_hold : {R : Type 0} (xs : List (Bool × R)) → first_of xs ≡ None → (k : ℕ) (r : R) → (get_or xs k (false, r)).0 ≡ false
none_hold [] none k r = refl
none_hold ((true, refusal) ∷ others) none k r = cc
none_hold ((false, refusal) ∷ others) none zero r = refl
none_hold ((false, refusal) ∷ others) none (suc k) r = none_hold others none k r

-- what each condition says that doesn't hold
pub record Passes (d : SetupData) (e : EventDef) (bs : List Binding) (c : Command) : Type 0 where
  pub handler : lacks_handler d.handlers c ≡ false
  pub guard : lacks_guard d.guards c ≡ false
  pub signature : of_handler d.handlers c (λ h. not (same_signature h.sig e.sig)) ≡ false
  pub kinds : of_guard d.guards c (λ g. not (same_parameter_kinds g.sig e.sig)) ≡ false
  pub upward : of_handler d.handlers c (λ h. raises_down c.event h.act) ≡ false
  pub mode : of_handler d.handlers c (λ h. has_wrong_mode (mode_of bs c c.op) h.act) ≡ false
  pub apart : forces_a_change_apart d.policies d.handlers e bs c ≡ false
  pub room : is_full d.live bs c ≡ false

neither : (a b : Bool) → (a || b) ≡ false → (a ≡ false) × (b ≡ false)
neither true b e = cc
neither false b e = (refl, e)

pub passes : (d : SetupData) (e : EventDef) (bs : List Binding) (c : Command) → first_of (refusals_at d e bs c) ≡ None → Passes d e bs c
passes d e bs c none =
    let at = λ (k : ℕ). none_hold (refusals_at d e bs c) none k refusal.TooMany in
    let types = neither (of_handler d.handlers c (λ h. not (same_signature h.sig e.sig))) (of_guard d.guards c (λ g. not (same_parameter_kinds g.sig e.sig))) (at 4) in
    record { handler = at 1; guard = at 2; signature = types.0; kinds = types.1; upward = at 5; mode = at 6; apart = at 8; room = at 9 }

-- what is said of the unit of a number that is there
unit_there : {X : Type 0} (units : List X) (number : ℕ) → (number ≡ 0 → ⊥) → number ≤ length units → (u : X) × (numbered units number ≡ Some u)
unit_there units number first last =
    elim (slice_get_cases units (number - 1)).1 [
      | inl (u, inside, read, at) ↦ (u, numbered-at units number first ∙ read)
      | inr (past, none) ↦ absurd (omega arith)
    ]

-- a condition on the handler that is used and there
of_used : (used : Bool) (o : Option HandlerUnit) (u : HandlerUnit) (test : HandlerUnit → Bool) → used ≡ true → o ≡ Some u → option_map_or test (cond used o None) false ≡ false → test u ≡ false
of_used true None u test t e f = cc
of_used true (Some v) u test t e f = let same : v ≡ u = cc in sym (ap test same) ∙ f
of_used false o u test t e f = cc

serves : (a b c : Bool) → not a ≡ false → b ≡ false → c ≡ false → (a && not b && not c) ≡ true
serves true false false p q r = refl
serves false b c p q r = cc
serves true true c p q r = cc
serves true false true p q r = cc

-- the handler of a command that uses one serves the event in a mode that isn't wrong for it
pub fit_handler : (d : SetupData) (e : EventDef) (bs : List Binding) (c : Command) (m : Mode) → Passes d e bs c → handler_is_used c.op ≡ true
    → of_handler d.handlers c (λ h. has_wrong_mode m h.act) ≡ false → is_fit_handler d.handlers c.event e m c.handler ≡ true
fit_handler d e bs c m p used right =
    let there : ((c.handler == 0) || nat_lt (length d.handlers) c.handler) ≡ false = grind (arith, p.handler, used) in
    let parts = neither (c.handler == 0) (nat_lt (length d.handlers) c.handler) there in
    let unit = unit_there d.handlers c.handler (λ z. grind (arith, parts.0, z)) (grind (arith, parts.1)) in
    let u = unit.0 in
    let found = numbered d.handlers c.handler in
    let signature = of_used (handler_is_used c.op) found u (λ h. not (same_signature h.sig e.sig)) used unit.1 p.signature in
    let upward = of_used (handler_is_used c.op) found u (λ h. raises_down c.event h.act) used unit.1 p.upward in
    let mode = of_used (handler_is_used c.op) found u (λ h. has_wrong_mode m h.act) used unit.1 right in
    ap (λ o. option_map_or (is_handler_for c.event e m) o false) unit.1 ∙ serves (same_signature u.sig e.sig) (raises_down c.event u.act) (has_wrong_mode m u.act) signature upward mode

-- a handler that changes no argument may run asynchronously
harmless : (used : Bool) (o : Option HandlerUnit) → option_map_or (λ (h : HandlerUnit). sets_argument h.act) (cond used o None) false ≡ false
    → option_map_or (λ (h : HandlerUnit). has_wrong_mode mode.Async h.act) (cond used o None) false ≡ false
harmless false o e = refl
harmless true None e = refl
harmless true (Some u) e = ap (λ b. b && true) e

-- the handler of an install serves the event in the mode that it gets
pub fit_installed : (d : SetupData) (e : EventDef) (bs : List Binding) (c : Command) (apart : Bool) → Passes d e bs c → c.op ≡ op.Install
    → forces_apart (rules_of d.policies e.authority) (answer_to d.policies e bs c) ≡ apart → is_fit_handler d.handlers c.event e (mode_under apart c.mode) c.handler ≡ true
fit_installed d e bs c false p is forced =
    fit_handler d e bs c c.mode p (ap handler_is_used is) (subst (λ m. of_handler d.handlers c (λ h. has_wrong_mode m h.act) ≡ false) (ap (mode_of bs c) is) p.mode)
fit_installed d e bs c true p is forced =
    fit_handler d e bs c mode.Async p (ap handler_is_used is) (harmless (handler_is_used c.op) (numbered d.handlers c.handler) (grind (arith, p.apart, ap is_install is, forced)))

-- a condition on the guard that is used and there
of_used_guard : (used : Bool) (o : Option GuardUnit) (u : GuardUnit) (test : GuardUnit → Bool) → used ≡ true → o ≡ Some u → (used && option_map_or (λ g. not (test g)) o false) ≡ false → test u ≡ true
of_used_guard true None u test t e f = cc
of_used_guard true (Some v) u test t e f = let same : v ≡ u = cc in sym (ap test same) ∙ grind (arith, f)
of_used_guard false o u test t e f = cc

-- the guard of a command that uses one, if it isn't 0, asks of the event's parameters
pub fit_guard : (d : SetupData) (e : EventDef) (bs : List Binding) (c : Command) → Passes d e bs c → guard_is_used c.op ≡ true → is_fit_own_guard d.guards e c.guard ≡ true
fit_guard d e bs c p used = fit_or_none (c.guard == 0) refl
  where
    fit_or_none : (z : Bool) → (c.guard == 0) ≡ z → (z || is_fit_guard d.guards e c.guard) ≡ true
    fit_or_none true is = refl
    fit_or_none false is =
        let last : nat_lt (length d.guards) c.guard ≡ false = grind (arith, p.guard, used) in
        let unit = unit_there d.guards c.guard (λ z. grind (arith, is, z)) (grind (arith, last)) in
        let kinds = of_used_guard (guard_is_used c.op) (numbered d.guards c.guard) unit.0 (λ (g : GuardUnit). same_parameter_kinds g.sig e.sig) used unit.1 p.kinds in
        ap (λ o. option_map_or (λ (g : GuardUnit). same_parameter_kinds g.sig e.sig) o false) unit.1 ∙ kinds
