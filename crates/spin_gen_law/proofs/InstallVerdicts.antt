-- An install on an event of words is accepted unless the event has as many bindings as it may have.
use Rattle.std.proofs.Common.{◌≡◌, ◌∙◌, ◌<◌, ◌+◌, ◌-◌, ℕ, Bool, true, false, not, ◌&&◌, ◌||◌, cond, List, [], ◌∷◌, ◌++◌, length, refl, ap, subst, arith}
use Rattle.std.specs.Prelude.{◌==◌, nat_lt, nat_le, if◌then◌else◌, slice_get, Option, Some, None, MatchOption}
use Rattle.std.specs.Option.{option_map_or}
use Rattle.std.proofs.lemmas.Bool.Decides.{nat_tests}
use Rattle.std.proofs.lemmas.Option.{slice_get_within}
use Rattle.spin_values.specs.First.{first_of, numbered}
use Rattle.spin_objects.proofs.NumberedItems.{numbered-reads}
use Rattle.spin_code.specs.declared.act.ActStep.{ActStep}
use Rattle.spin_word.specs.declared.command.Op.TheVariants as op
use Rattle.spin_word.specs.declared.command.Place.{Place}
use Rattle.spin_word.specs.declared.command.Mode.TheVariants as mode
use Rattle.spin_word.specs.declared.command.Command.{Command}
use Rattle.spin_policy.specs.declared.rule.Verdict.{Verdict}
use Rattle.spin_policy.specs.declared.rule.Verdict.TheVariants as allowed
use Rattle.spin_policy.specs.Imposed.{forces_apart}
use Rattle.spin_policy.specs.Verdicts.{verdict_of}
use Rattle.spin_place.specs.declared.binding.Binding.{Binding}
use Rattle.spin_place.specs.Precedence.{IsCycle}
use Rattle.spin_objects.specs.Units.{HandlerUnit, GuardUnit}
use Rattle.spin_table.specs.declared.refusal.Refusal.{Refusal}
use Rattle.spin_table.specs.declared.refusal.Refusal.TheVariants as refusal
use Rattle.spin_table.specs.declared.refusal.Verdicted.{Verdicted}
use Rattle.spin_table.specs.declared.refusal.Verdicted.TheVariants as verdicted
use Rattle.spin_table.specs.Setups.{SetupData, rules_of}
use Rattle.spin_table.specs.States.{State, EventState}
use Rattle.spin_table.specs.Verdicts.{answer_to, is_denied, named_rule, request_of}
use Rattle.spin_table.specs.Units.{same_signature, same_parameter_kinds, raises_down, sets_argument, has_wrong_mode}
use Rattle.spin_table.specs.Refusals.{refusals_at, lacks_handler, lacks_guard, has_wrong_type, goes_down, has_mode_fault, is_denied_by, forces_a_change_apart, of_handler, of_guard, mode_of}
use Rattle.spin_table.specs.Steps.{no_numbers, installed, state_after, bindings_at, ChangesTo, IsStep, IsConflict}
use Rattle.spin_table.proofs.CommandSteps.{known, next_bindings}
use Rattle.spin_gen_law.proofs.WordSetups.{IsWordEvent, IsWordHandler, IsWordGuard, HasWords}

-- an install of module 0, plain, which names no binding
abbrev pub install_of : (event handler guard : ℕ) → Place → Command
install_of event handler guard p = record {
  op = op.Install;
  event = event;
  lane = event;
  requester = 0;
  handler = handler;
  guard = guard;
  place = p;
  before = no_numbers;
  after = no_numbers;
  target = 0;
  mode = mode.Plain;
}

-- the binding that it makes
abbrev pub binding_by : (number handler guard : ℕ) → Place → Binding
binding_by number handler guard p = record {
  number = number;
  requester = 0;
  handler = handler;
  own_guard = guard;
  imposed = [];
  place = p;
  before = no_numbers;
  after = no_numbers;
  mode = mode.Plain;
}

-- where no cycle is among the bindings, no install is refused by one
no_conflict : (bs : List Binding) (r : Refusal) → ((ns : List ℕ) → IsCycle bs ns → ⊥) → IsConflict op.Install bs r → ⊥
no_conflict bs (refusal.Conflict ns) none h = none ns h
no_conflict bs refusal.UnknownEvent none h = h
no_conflict bs refusal.UnknownModule none h = h
no_conflict bs refusal.UnknownHandler none h = h
no_conflict bs refusal.UnknownGuard none h = h
no_conflict bs refusal.UnknownBinding none h = h
no_conflict bs refusal.WrongType none h = h
no_conflict bs refusal.Downward none h = h
no_conflict bs refusal.WrongMode none h = h
no_conflict bs (refusal.Denied rule) none h = h
no_conflict bs refusal.TooMany none h = h
no_conflict bs (refusal.ForcedMode rule) none h = h

module _ (d : SetupData) (s : State) (t : EventState) (event handler guard : ℕ) (p : Place)
    (fit : HasWords d) (e : IsWordEvent d event) (h : IsWordHandler d handler) (first : 0 < handler)
    (g : (0 < guard) → IsWordGuard d guard) (there : slice_get s.events event ≡ Some t) where
  abbrev pub c : Command
  c = install_of event handler guard p

  found : numbered d.handlers handler ≡ Some h.unit
  found = h.there

  one_module : nat_le d.modules 0 ≡ false
  one_module = ap (λ (n : ℕ). nat_le n 0) fit.modules

  handler_there : lacks_handler d.handlers c ≡ false
  handler_there =
      let inside = slice_get_within d.handlers (handler - 1) h.unit (numbered-reads d.handlers handler h.unit h.there) in
      grind (arith, nat_tests, inside, first)

  guard_there : lacks_guard d.guards c ≡ false
  guard_there = go (guard == 0) refl
    where
      go : (z : Bool) → (guard == 0) ≡ z → nat_lt (length d.guards) guard ≡ false
      go true is = grind (arith, nat_tests, is)
      go false is =
          let some : 0 < guard = grind (arith, nat_tests, is) in
          let unit = g some in
          let inside = slice_get_within d.guards (guard - 1) unit.unit unit.there in
          grind (arith, nat_tests, inside, some)

  by_handler : (test : HandlerUnit → Bool) → of_handler d.handlers c test ≡ test h.unit
  by_handler test = ap (λ (o : Option HandlerUnit). option_map_or test o false) found

  signature : of_handler d.handlers c (λ u. not (same_signature u.sig e.def.sig)) ≡ false
  signature = by_handler (λ u. not (same_signature u.sig e.def.sig)) ∙ (λ i. not (same_signature (h.sig i) (e.sig i)))

  kinds : of_guard d.guards c (λ u. not (same_parameter_kinds u.sig e.def.sig)) ≡ false
  kinds = go (guard == 0) refl
    where
      go : (z : Bool) → (guard == 0) ≡ z → option_map_or (λ (u : GuardUnit). not (same_parameter_kinds u.sig e.def.sig)) (if z then None else slice_get d.guards (guard - 1)) false ≡ false
      go true is = refl
      go false is =
          let some : 0 < guard = grind (arith, nat_tests, is) in
          ap (λ (o : Option GuardUnit). option_map_or (λ (u : GuardUnit). not (same_parameter_kinds u.sig e.def.sig)) o false) (g some).there
          ∙ (λ i. not (same_parameter_kinds ((g some).sig i) (e.sig i)))

  types : has_wrong_type d.handlers d.guards e.def c ≡ false
  types = λ i. signature i || kinds i

  upward : goes_down d.handlers c ≡ false
  upward = by_handler (λ u. raises_down event u.act) ∙ ap (λ (steps : List ActStep). raises_down event (record { steps = steps })) h.steps

  plain : has_mode_fault d.handlers t.bindings c ≡ false
  plain =
      by_handler (λ u. has_wrong_mode (mode_of t.bindings c c.op) u.act)
      ∙ ap (λ (steps : List ActStep). has_wrong_mode mode.Plain (record { steps = steps })) h.steps

  pub allows : answer_to d.policies e.def t.bindings c ≡ allowed.Allow
  allows = ap (λ (n : ℕ). if 0 == n then allowed.Allow else verdict_of (rules_of d.policies e.def.authority) (request_of t.bindings c)) e.owner

  owned : is_denied_by d.policies e.def t.bindings c ≡ false
  owned = ap is_denied allows

  unforced : forces_a_change_apart d.policies d.handlers e.def t.bindings c ≡ false
  unforced = ap (λ (v : Verdict). forces_apart (rules_of d.policies e.def.authority) v && of_handler d.handlers c (λ u. sets_argument u.act)) allows

  abbrev pub full : Bool
  full = nat_le d.live (length t.bindings)

  refusals : first_of (refusals_at d e.def t.bindings c) ≡ cond full (Some refusal.TooMany) None
  refusals = λ i. first_of (
      (one_module i, refusal.UnknownModule)
      ∷ (handler_there i, refusal.UnknownHandler)
      ∷ (guard_there i, refusal.UnknownGuard)
      ∷ (false, refusal.UnknownBinding)
      ∷ (types i, refusal.WrongType)
      ∷ (upward i, refusal.Downward)
      ∷ (plain i, refusal.WrongMode)
      ∷ (owned i, refusal.Denied (named_rule (answer_to d.policies e.def t.bindings c)))
      ∷ (unforced i, refusal.ForcedMode (named_rule (answer_to d.policies e.def t.bindings c)))
      ∷ (full, refusal.TooMany)
      ∷ [])

  -- the binding is added behind the others
  pub added : bindings_at (state_after d c s) event ≡ t.bindings ++ binding_by (s.place + 1) handler guard p ∷ []
  added =
      next_bindings d s c e.def t e.there there
      ∙ ap (λ (v : Verdict). t.bindings ++ installed (rules_of d.policies e.def.authority) v (s.place + 1) c ∷ []) allows

  -- refused where the event has as many bindings as it may have
  abbrev pub Comes : Bool → Verdicted → State → Type 0
  Comes true v next = (v ≡ verdicted.Refused refusal.TooMany) × (next ≡ s)
  Comes false v next = (v ≡ verdicted.Accepted) × (next ≡ state_after d c s)

  module _ (none : (ns : List ℕ) → IsCycle (t.bindings ++ binding_by (s.place + 1) handler guard p ∷ []) ns → ⊥) where
    changes : (v : Verdicted) (next : State) → ChangesTo d s c v next → Comes false v next
    changes verdicted.Accepted next h = (refl, h.0)
    changes (verdicted.Refused r) next h =
        absurd (no_conflict (t.bindings ++ binding_by (s.place + 1) handler guard p ∷ []) r none (subst (λ (bs : List Binding). IsConflict op.Install bs r) added h.1))

    -- what an install comes to
    pub install_comes : (v : Verdicted) (next : State) → IsStep d s c v next → Comes full v next
    install_comes v next step =
        go full (subst (λ (o : Option Refusal). MatchOption o (ChangesTo d s c v next) (λ r. (v ≡ verdicted.Refused r) × (next ≡ s))) (known d s c e.def t e.there there ∙ refusals) step)
      where
        go : (b : Bool) → MatchOption (cond b (Some refusal.TooMany) None) (ChangesTo d s c v next) (λ r. (v ≡ verdicted.Refused r) × (next ≡ s)) → Comes b v next
        go true h = h
        go false h = changes v next h
