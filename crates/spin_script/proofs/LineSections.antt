-- The section of a line is set before the line is added.
use Rattle.std.proofs.Common.{◌≡◌, ◌+◌, ℕ, Bool, true, false, not, ◌||◌, List, [], ◌∷◌, length, Option, Some, None, Result, Ok, Err, refl, sym, ap, subst, ◌∙◌}
use Rattle.std.specs.Prelude.{if◌then◌else◌, slice_get, ◌==◌, is_none}
use Rattle.spin_table.specs.declared.event.EventDef.{EventDef}
use Rattle.spin_grammar.specs.declared.cause.Cause.{Cause}
use Rattle.spin_grammar.specs.declared.cause.Cause.TheVariants as cause
use Rattle.spin_grammar.specs.declared.fault.Fault.{Fault}
use Rattle.spin_grammar.specs.declared.kind.Kind.{Kind}
use Rattle.spin_grammar.specs.declared.line.Statement.{Statement}
use Rattle.spin_grammar.specs.declared.line.Statement.TheVariants as said
use Rattle.spin_grammar.specs.Lines as line
use Rattle.spin_grammar.specs.Lines.{LineMeaning, Stands, GivesLine, line_kind}
use Rattle.spin_script.specs.Sections.{section}
use Rattle.spin_script.specs.States.{NativeData, ScriptState, after, native_at, with_handler, with_guard, with_authority, given_rules}
use Rattle.spin_values.specs.First.{first_of}
use Rattle.spin_script.specs.Checks.{checks, native_checks, authoriser_checks, policy_at}
use Rattle.spin_script.specs.Inner.Reader.{Adds, AddsSaid, Takes, TakesSaid}

-- lines that the same was read of have one kind
one_kind : (what : Statement) (l m : LineMeaning) → Stands what l → Stands what m → line_kind l ≡ line_kind m
one_kind (said.Modules n) l m p q = ap line_kind (p ∙ sym q)
one_kind (said.Event e owner sig o) l m p q = ap line_kind p.1 ∙ sym (ap line_kind q.1)
one_kind (said.Endpoint e name) l m p q = ap line_kind (p ∙ sym q)
one_kind (said.Handler h sig o) l m p q = ap line_kind p.1 ∙ sym (ap line_kind q.1)
one_kind (said.NativeHandler h name) l m p q = ap line_kind (p ∙ sym q)
one_kind (said.Guard g sig o) l m p q = ap line_kind p.1 ∙ sym (ap line_kind q.1)
one_kind (said.NativeGuard g name) l m p q = ap line_kind (p ∙ sym q)
one_kind (said.Rule e r) l m p q = ap line_kind (p ∙ sym q)
one_kind (said.Authoriser e name) l m p q = ap line_kind (p ∙ sym q)
one_kind (said.Default e h) l m p q = ap line_kind (p ∙ sym q)
one_kind (said.Lane lane w) l m p q = ap line_kind p.1 ∙ sym (ap line_kind q.1)
one_kind said.Barrier l m p q = ap line_kind (p ∙ sym q)
one_kind (said.Retire e) l m p q = ap line_kind (p ∙ sym q)

-- the script so far, in that section
abbrev at_section : ScriptState → ℕ → ScriptState
at_section s x = record s { section = x }

same_checks : (n : NativeData) (s : ScriptState) (x : ℕ) (l : LineMeaning) → checks n (at_section s x) l ≡ checks n s l
same_checks n s x (line.Modules count) = refl
same_checks n s x (line.Event e owner sig m) = refl
same_checks n s x (line.Endpoint p name) = refl
same_checks n s x (line.Handler h sig steps) = refl
same_checks n s x (line.NativeHandler h name) = refl
same_checks n s x (line.Guard g sig t) = refl
same_checks n s x (line.NativeGuard g name) = refl
same_checks n s x (line.Rules e r) = refl
same_checks n s x (line.Authoriser e name) = refl
same_checks n s x (line.Default e h) = refl
same_checks n s x (line.Lane l t) = refl
same_checks n s x line.Barrier = refl
same_checks n s x (line.Retire p) = refl

behind : (b : Bool) (c : Cause) (rest : Option Cause) → (if b then Some c else rest) ≡ None → rest ≡ None
behind true c rest none = cc
behind false c rest none = none

some_first : (b : Bool) (c d : Cause) → (if b then Some c else Some d) ≡ None → ⊥
some_first true c d e = cc
some_first false c d e = cc

handler_set : (n : NativeData) (s : ScriptState) (o : Option ℕ) → first_of (native_checks n s o) ≡ None
    → at_section (with_handler n (at_section s 4) o) 4 ≡ with_handler n s o
handler_set n s None none = cc
handler_set n s (Some native) none = refl

guard_set : (n : NativeData) (s : ScriptState) (o : Option ℕ) → first_of ((is_none o, cause.Native) ∷ []) ≡ None
    → at_section (with_guard n (at_section s 5) o) 5 ≡ with_guard n s o
guard_set n s None none = cc
guard_set n s (Some native) none = refl

-- an authoriser that isn't there is refused
authoriser_set : (n : NativeData) (s : ScriptState) (k : ℕ) (o : Option ℕ) (def : Option EventDef)
    → first_of (authoriser_checks s (policy_at n o) def) ≡ None
    → at_section (with_authority (at_section s 6) k o) 6 ≡ with_authority s k o
authoriser_set n s k None None none = cc
authoriser_set n s k None (Some e) none = absurd (some_first (not (length (given_rules e.authority) == 0) || not true) cause.Mismatch cause.Native none)
authoriser_set n s k (Some native) def none = refl

-- a line that stands leaves the script in the line's section
after_set : (n : NativeData) (s : ScriptState) (number : ℕ) (l : LineMeaning) → first_of (checks n s l) ≡ None
    → at_section (after n (at_section s (section (line_kind l))) number l) (section (line_kind l)) ≡ after n s number l
after_set n s number (line.Modules count) none = refl
after_set n s number (line.Event e owner sig m) none = refl
after_set n s number (line.Endpoint p name) none = refl
after_set n s number (line.Handler h sig steps) none = refl
after_set n s number (line.NativeHandler h name) none = handler_set n s (native_at name n.handlers) (behind (not (h == length s.handlers + 1)) cause.Next _ none)
after_set n s number (line.Guard g sig t) none = refl
after_set n s number (line.NativeGuard g name) none = guard_set n s (native_at name n.guards) (behind (not (g == length s.guards + 1)) cause.Next _ none)
after_set n s number (line.Rules e r) none = refl
after_set n s number (line.Authoriser e name) none = authoriser_set n s e (native_at name n.authorisers) (slice_get s.events e) none
after_set n s number (line.Default e h) none = refl
after_set n s number (line.Lane l t) none = refl
after_set n s number line.Barrier none = refl
after_set n s number (line.Retire p) none = refl

line_set : {A : Type 0} (n : NativeData) (s : ScriptState) (number : ℕ) (l : LineMeaning) (r : Result A Fault) (t : ScriptState)
    → Adds n (at_section s (section (line_kind l))) number l r t → Takes n s number l r t
line_set n s number l (Ok a) t adds =
    let good = ap first_of (sym (same_checks n s (section (line_kind l)) l)) ∙ adds.0 in (good, adds.1 ∙ after_set n s number l good)
line_set n s number l (Err f) t adds = λ c is. ap first_of (sym (same_checks n s (section (line_kind l)) l)) ∙ adds c is

-- what was read of words of a line of this kind was added behind the script in that kind's section
pub section_set : {A : Type 0} (n : NativeData) (s : ScriptState) (x number : ℕ) (k : Kind) (ws : List (List ℕ)) (what : Statement) (r : Result A Fault) (t : ScriptState)
    → GivesLine s.version k ws (Ok what) → x ≡ section k → AddsSaid n (record s { section = x }) number what r t → TakesSaid n s number what r t
section_set n s x number k ws what r t gives is adds = λ l stands.
    let kind : k ≡ line_kind l = sym gives.1.kind ∙ one_kind what gives.0 l gives.2 stands in
    let own : x ≡ section (line_kind l) = is ∙ ap section kind in
    line_set n s number l r t (subst (λ (y : ℕ). Adds n (record s { section = y }) number l r t) own (adds l stands))
