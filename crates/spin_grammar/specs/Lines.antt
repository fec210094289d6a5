-- What each line says, the words behind its first, and what is wanted there.
use Rattle.std.specs.Prelude.{◌≡◌, ◌<◌, ◌≤◌, ℕ, Bool, true, false, nat_lt, List, [], ◌∷◌, codes}
use Rattle.std.specs.Prelude.{Option, None, Some, Result, Ok, Err, drop}
use Rattle.std.specs.List.{list_any}
use Rattle.spin_values.specs.declared.types.EventType.{EventType}
use Rattle.spin_code.specs.declared.test.Test.{Test}
use Rattle.spin_code.specs.declared.act.ActStep.{ActStep}
use Rattle.spin_code.specs.declared.merge.Merge.{Merge}
use Rattle.spin_code.specs.declared.merge.Merge.TheVariants as merge
use Rattle.spin_code.specs.declared.depth.TheConstants.{MAX_DEPTH}
use Rattle.spin_code.specs.Size.{expr_depth, test_depth, is_step_deep}
use Rattle.spin_policy.specs.declared.rule.Rule.{Rule}
use Rattle.spin_policy.specs.Verdicts.{has_wrong_guards}
use Rattle.spin_grammar.specs.declared.cause.Cause.{Cause}
use Rattle.spin_grammar.specs.declared.fault.Fault.{Fault}
use Rattle.spin_grammar.specs.declared.fault.Fault.TheVariants as fault
use Rattle.spin_grammar.specs.declared.kind.Kind.{Kind}
use Rattle.spin_grammar.specs.declared.kind.Kind.TheVariants as kind
use Rattle.spin_grammar.specs.declared.limits.TheConstants.{MAX_MODULES, LAST_MODULE, LAST_EVENT}
use Rattle.spin_grammar.specs.declared.limits.TheConstants.{LAST_ENDPOINT, LAST_HANDLER}
use Rattle.spin_grammar.specs.declared.limits.TheConstants.{LAST_GUARD, LAST_LANE}
use Rattle.spin_grammar.specs.declared.line.Statement.{Statement}
use Rattle.spin_grammar.specs.declared.line.Statement.TheVariants as said
use Rattle.spin_grammar.specs.Grammar as grammar
use Rattle.spin_grammar.specs.Grammar.{Atom, Fixed, Numeral, Called, Typed, Want, Number, reads}
use Rattle.spin_grammar.specs.Forms.{Task, steps_form, test_form, merge_form, rule_form, task_form}
use Rattle.spin_grammar.specs.Tasks.{Asks, IsValidOn}

-- what a line says
pub data LineMeaning : Type 0 where
  Modules : ℕ → LineMeaning
  Event : (event owner : ℕ) → EventType → Merge → LineMeaning
  Endpoint : ℕ → List ℕ → LineMeaning
  Handler : ℕ → EventType → List ActStep → LineMeaning
  NativeHandler : ℕ → List ℕ → LineMeaning
  Guard : ℕ → EventType → Test → LineMeaning
  NativeGuard : ℕ → List ℕ → LineMeaning
  -- a rule of an event's policy
  Rules : ℕ → Rule → LineMeaning
  Authoriser : ℕ → List ℕ → LineMeaning
  Default : (event handler : ℕ) → LineMeaning
  Lane : ℕ → Task → LineMeaning
  Barrier : LineMeaning
  Retire : ℕ → LineMeaning

-- the words of a line
abbrev pub line_form : LineMeaning → List Atom
line_form (Modules n) = Fixed (codes "modules") ∷ Numeral n ∷ []
line_form (Event e owner sig m) = Fixed (codes "event") ∷ Numeral e ∷ Numeral owner ∷ Typed sig ∷ merge_form m
line_form (Endpoint p name) = Fixed (codes "endpoint") ∷ Numeral p ∷ Called name ∷ []
line_form (Handler h sig steps) = Fixed (codes "handler") ∷ Numeral h ∷ Typed sig ∷ steps_form steps
line_form (NativeHandler h name) = Fixed (codes "handler") ∷ Numeral h ∷ Fixed (codes "native") ∷ Called name ∷ []
line_form (Guard g sig t) = Fixed (codes "guard") ∷ Numeral g ∷ Typed sig ∷ test_form t
line_form (NativeGuard g name) = Fixed (codes "guard") ∷ Numeral g ∷ Fixed (codes "native") ∷ Called name ∷ []
line_form (Rules e r) = Fixed (codes "rule") ∷ Numeral e ∷ rule_form r
line_form (Authoriser e name) = Fixed (codes "authoriser") ∷ Numeral e ∷ Called name ∷ []
line_form (Default e h) = Fixed (codes "default") ∷ Numeral e ∷ Numeral h ∷ []
line_form (Lane l t) = Fixed (codes "lane") ∷ Numeral l ∷ task_form t
line_form Barrier = Fixed (codes "barrier") ∷ []
line_form (Retire p) = Fixed (codes "retire") ∷ Numeral p ∷ []

-- the words behind a line's first
abbrev pub form : LineMeaning → List Atom
form l = drop 1 (line_form l)

-- the kind of a line, which its first word names: native handlers and guards are of the kind of the others
abbrev pub line_kind : LineMeaning → Kind
line_kind (Modules n) = kind.Modules
line_kind (Event e owner sig m) = kind.Event
line_kind (Endpoint p name) = kind.Endpoint
line_kind (Handler h sig steps) = kind.Handler
line_kind (NativeHandler h name) = kind.Handler
line_kind (Guard g sig t) = kind.Guard
line_kind (NativeGuard g name) = kind.Guard
line_kind (Rules e r) = kind.Rule
line_kind (Authoriser e name) = kind.Authoriser
line_kind (Default e h) = kind.Default
line_kind (Lane l t) = kind.Lane
line_kind Barrier = kind.Barrier
line_kind (Retire p) = kind.Retire

-- what is wanted behind the first word of a line, in a script of this version
abbrev pub wanted : ℕ → Kind → List Want
wanted version kind.Modules = Number 1 MAX_MODULES ∷ []
wanted version kind.Event = Number 0 LAST_EVENT ∷ Number 0 LAST_MODULE ∷ grammar.Signature ∷ grammar.Merge ∷ []
wanted version kind.Endpoint = Number 0 LAST_ENDPOINT ∷ grammar.Name ∷ []
wanted version kind.Handler = Number 1 LAST_HANDLER ∷ grammar.HandlerBody ∷ []
wanted version kind.Guard = Number 1 LAST_GUARD ∷ grammar.GuardBody ∷ []
wanted version kind.Rule =
    Number 0 LAST_EVENT ∷ Number 0 LAST_MODULE ∷ Number 0 LAST_MODULE ∷ grammar.Op
    ∷ grammar.HandlerOrAny ∷ grammar.Own ∷ grammar.Effect version ∷ []
wanted version kind.Authoriser = Number 0 LAST_EVENT ∷ grammar.Name ∷ []
wanted version kind.Default = Number 0 LAST_EVENT ∷ Number 1 LAST_HANDLER ∷ []
wanted version kind.Lane = Number 0 LAST_LANE ∷ grammar.Deed version ∷ []
wanted version kind.Barrier = []
wanted version kind.Retire = Number 0 LAST_ENDPOINT ∷ []

-- The words behind a line's first say this, in a script of this version.
pub record Spells (version : ℕ) (k : Kind) (ws : List (List ℕ)) (l : LineMeaning) : Type 0 where
  pub kind : line_kind l ≡ k
  pub words : reads (wanted version k) ws ≡ Ok (form l)

-- ---- what is kept of a line

-- what was read was kept where it is at most so deep, and passed over where it is deeper
abbrev pub IsWithin : {A : Type 0} → (A → ℕ) → ℕ → Option A → A → Type 0
IsWithin depth limit None a = limit < depth a
IsWithin depth limit (Some kept) a = (kept ≡ a) × (depth a ≤ limit)

-- what was read was kept where it isn't too deep
abbrev pub IsKept : {A : Type 0} → (A → Bool) → Option A → A → Type 0
IsKept is_deep None a = is_deep a ≡ true
IsKept is_deep (Some kept) a = (kept ≡ a) × (is_deep a ≡ false)

-- the expression of a fold is deeper than 8
abbrev pub is_merge_deep : Merge → Bool
is_merge_deep merge.Last = false
is_merge_deep (merge.Fold e) = nat_lt MAX_DEPTH (expr_depth e)

-- What was read of a line stands for what the line says: it is that, but for what is too deep,
-- which wasn't kept.
abbrev pub Stands : Statement → LineMeaning → Type 0
Stands (said.Modules n) l = l ≡ Modules n
Stands (said.Event e owner sig o) l = (m : Merge) × (l ≡ Event e owner sig m) × IsKept is_merge_deep o m
Stands (said.Endpoint p name) l = l ≡ Endpoint p name
Stands (said.Handler h sig o) l =
    (steps : List ActStep) × (l ≡ Handler h sig steps) × IsKept (list_any is_step_deep) o steps
Stands (said.NativeHandler h name) l = l ≡ NativeHandler h name
Stands (said.Guard g sig o) l = (t : Test) × (l ≡ Guard g sig t) × IsWithin test_depth MAX_DEPTH o t
Stands (said.NativeGuard g name) l = l ≡ NativeGuard g name
Stands (said.Rule e r) l = l ≡ Rules e r
Stands (said.Authoriser e name) l = l ≡ Authoriser e name
Stands (said.Default e h) l = l ≡ Default e h
Stands (said.Lane lane w) l = (t : Task) × (l ≡ Lane lane t) × Asks lane w t
Stands said.Barrier l = l ≡ Barrier
Stands (said.Retire p) l = l ≡ Retire p

-- all words say a line of this kind, for which what was read stands, or this is the cause why they
-- don't
abbrev pub GivesLine : ℕ → Kind → List (List ℕ) → Result Statement Fault → Type 0
GivesLine version k ws (Ok s) = (l : LineMeaning) × Spells version k ws l × Stands s l
GivesLine version k ws (Err f) = (c : Cause) → f ≡ fault.Bad c → reads (wanted version k) ws ≡ Err c

-- what a line declares has the number of such a thing, and what it asks for is valid
abbrev pub IsInRange : Statement → Type 0
IsInRange (said.Modules n) = (1 ≤ n) × (n ≤ MAX_MODULES)
IsInRange (said.Event e owner sig o) = e ≤ LAST_EVENT
IsInRange (said.Endpoint p name) = p ≤ LAST_ENDPOINT
IsInRange (said.Handler h sig o) = h ≤ LAST_HANDLER
IsInRange (said.NativeHandler h name) = h ≤ LAST_HANDLER
IsInRange (said.Guard g sig o) = g ≤ LAST_GUARD
IsInRange (said.NativeGuard g name) = g ≤ LAST_GUARD
IsInRange (said.Rule e r) = has_wrong_guards r.effect ≡ false
IsInRange (said.Lane lane w) = IsValidOn lane w
IsInRange s = Unit {0}
