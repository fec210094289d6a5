-- Rules, authorisers and defaults find their places among the canonical lines.
use Rattle.std.proofs.Common.{◌≡◌, ℕ, zero, suc, ◌+◌, ◌<◌, ◌≤◌, ◌||◌, Bool, true, false, cond, eqb, ltb, List, [], ◌∷◌}
use Rattle.std.proofs.Common.{◌++◌, length, map, Option, Some, None, refl, sym, ap, subst, ◌∙◌, append_assoc, arith}
use Rattle.std.specs.Prelude.{not, is_none, nat_le, nat_lt, slice_get}
use Rattle.std.specs.List.{list_all, list_any, AllByRecursion}
use Rattle.std.proofs.lemmas.Bool.Decides.{nat_tests}
use Rattle.std.proofs.lemmas.List.{map-append}
use Rattle.spin_policy.specs.declared.rule.Rule.{Rule}
use Rattle.spin_objects.specs.declared.unit.Body.{Body}
use Rattle.spin_objects.specs.declared.unit.Check.{Check}
use Rattle.spin_objects.specs.Units.{HandlerUnit, GuardUnit}
use Rattle.spin_table.specs.declared.event.EventDef.{EventDef}
use Rattle.spin_table.specs.declared.event.Authority.{Authority}
use Rattle.spin_table.specs.declared.event.Authority.TheVariants as authority
use Rattle.spin_table.specs.Setups.{rules_if}
use Rattle.spin_table.specs.Faults.{is_fit_rule}
use Rattle.spin_grammar.specs.declared.cause.Cause.{Cause}
use Rattle.spin_grammar.specs.declared.cause.Cause.TheVariants as cause
use Rattle.spin_grammar.specs.Lines as line
use Rattle.spin_grammar.specs.Lines.{LineMeaning, line_kind}
use Rattle.spin_script.specs.Sections.{section, is_out_of_order}
use Rattle.spin_script.specs.States.{ScriptState, NativeData, start, native_at, given_rules, is_native, with_event, with_rule, with_authoriser, with_default, with_authority, after}
use Rattle.spin_values.specs.First.{first_of}
use Rattle.spin_script.specs.Checks.{imposes_unknown, speaks_of_unknown, rule_checks, policy_at, authoriser_checks, cannot_serve, default_checks}
use Rattle.spin_script.specs.Canonical.{event_line, authority_lines}
use Rattle.spin_script.specs.RoundTrip.{Fits}
use Rattle.spin_script.proofs.WrittenDeclarations.{declarations_back}
use Rattle.spin_script.proofs.LineRuns.{Runs, runs_append, runs_last, runs_split, in_sections, no_authoriser}
use Rattle.spin_script.proofs.LineSwaps.{Change, Changes, IsApart, AreOwn, move, inserted, all_lines}
use Rattle.spin_script.proofs.CanonicalBlocks.{cut, endpoints_of, handler_lines, guard_lines, authority_of, default_of, segments_of, front_of, blocks, mapped_same, flat_same, one, at, fits_at}
use Rattle.spin_script.proofs.CanonicalLines.{Canon, empties_for, up_to, two_cut, all_false}

-- ---- what each of these lines changes

abbrev rule_rows : List HandlerUnit → List GuardUnit → Rule → EventDef → List (Bool × Cause)
rule_rows hs gs r e =
    (nat_le 16 (length (given_rules e.authority)), cause.Limit)
    ∷ (speaks_of_unknown (length hs) (length gs) r, cause.Undeclared)
    ∷ (not (is_fit_rule gs e r) || is_native e.authority, cause.Mismatch)
    ∷ []

rule_same : (s u : ScriptState) (r : Rule) (o : Option EventDef) → s.handlers ≡ u.handlers → s.guards ≡ u.guards → rule_checks s r o ≡ rule_checks u r o
rule_same s u r None h g = refl
rule_same s u r (Some e) h g = ap (λ (hs : List HandlerUnit). rule_rows hs s.guards r e) h ∙ ap (λ (gs : List GuardUnit). rule_rows u.handlers gs r e) g

rule_changes : (n : NativeData) (e : ℕ) (r : Rule) → Changes n (line.Rules e r) e (with_rule r)
rule_changes n e r = record {
  does = λ s. refl;
  asks = λ s u v h g get. ap (rule_checks s r) get ∙ rule_same s u r (slice_get u.events e) h g;
  plain = λ before begins h. refl;
}

abbrev authoriser_rows : List GuardUnit → Option (List Rule) → EventDef → List (Bool × Cause)
authoriser_rows gs policy e =
    (list_any (imposes_unknown (length gs)) (rules_if policy), cause.Undeclared)
    ∷ (not (eqb (length (given_rules e.authority)) 0) || not (list_all (is_fit_rule gs e) (rules_if policy)), cause.Mismatch)
    ∷ (is_none policy, cause.Native)
    ∷ (is_native e.authority, cause.Repeated)
    ∷ []

authoriser_same : (s u : ScriptState) (policy : Option (List Rule)) (o : Option EventDef) → s.guards ≡ u.guards → authoriser_checks s policy o ≡ authoriser_checks u policy o
authoriser_same s u policy None g = refl
authoriser_same s u policy (Some e) g = ap (λ (gs : List GuardUnit). authoriser_rows gs policy e) g

authoriser_changes : (n : NativeData) (e : ℕ) (name : List ℕ) (k : ℕ) → native_at name n.authorisers ≡ Some k → Changes n (line.Authoriser e name) e (with_authoriser k)
authoriser_changes n e name k is = record {
  does = λ s. ap (with_authority s e) is;
  asks = λ s u v h g get. ap (authoriser_checks s (policy_at n (native_at name n.authorisers))) get ∙ authoriser_same s u (policy_at n (native_at name n.authorisers)) (slice_get u.events e) g;
  plain = λ before begins h. refl;
}

abbrev default_rows : List HandlerUnit → (event handler : ℕ) → EventDef → List (Bool × Cause)
default_rows hs event handler e =
    (nat_lt (length hs) handler, cause.Undeclared) ∷ (cannot_serve hs event e handler, cause.Mismatch) ∷ (not (eqb e.first_default 0), cause.Repeated) ∷ []

default_same : (s u : ScriptState) (event handler : ℕ) (o : Option EventDef) → s.handlers ≡ u.handlers → default_checks s event handler o ≡ default_checks u event handler o
default_same s u event handler None h = refl
default_same s u event handler (Some e) h = ap (λ (hs : List HandlerUnit). default_rows hs event handler e) h

default_changes : (n : NativeData) (e h : ℕ) → Changes n (line.Default e h) e (with_default h)
default_changes n e h = record {
  does = λ s. refl;
  asks = λ s u v hs gs get. ap (default_checks s e h) get ∙ default_same s u e h (slice_get u.events e) hs;
  plain = λ before begins is. refl;
}

-- ---- lines of greater events

rules_apart : (n : NativeData) (event least : ℕ) (rules : List Rule) → least < event → AllByRecursion (IsApart n least 6) (map (line.Rules event) rules)
rules_apart n event least [] h = tt
rules_apart n event least (r ∷ rs) h =
    (record { other = event; changes = λ s f. (with_rule r, rule_changes n event r); apart = λ e. omega (arith, h, e); here = refl }, rules_apart n event least rs h)

authoriser_change : (n : NativeData) (s : ScriptState) (event : ℕ) (name : List ℕ) (o : Option ℕ) → native_at name n.authorisers ≡ o
    → first_of (authoriser_checks s (policy_at n o) (slice_get s.events event)) ≡ None → (c : Change) × Changes n (line.Authoriser event name) event c
authoriser_change n s event name None e h = absurd (no_authoriser s (slice_get s.events event) h)
authoriser_change n s event name (Some k) e h = (with_authoriser k, authoriser_changes n event name k e)

authority_apart : (n : NativeData) (event least : ℕ) (a : Authority) → least < event → AllByRecursion (IsApart n least 6) (authority_lines n event a)
authority_apart n event least (authority.Rules rules) h = rules_apart n event least rules h
authority_apart n event least (authority.Native native) h =
    (record { other = event; changes = λ s f. authoriser_change n s event _ _ refl f.good; apart = λ e. omega (arith, h, e); here = refl }, tt)

own_authorities : (n : NativeData) → AreOwn n (authority_of n) 6
own_authorities n event least ev h = authority_apart n event least ev.authority h

own_defaults : (n : NativeData) → AreOwn n default_of 7
own_defaults n event least ev h = by_zero (eqb ev.first_default 0)
  where
    by_zero : (b : Bool) → AllByRecursion (IsApart n least 7) (cond b [] (line.Default event ev.first_default ∷ []))
    by_zero true = tt
    by_zero false = (record { other = event; changes = λ s f. (with_default ev.first_default, default_changes n event ev.first_default); apart = λ e. omega (arith, h, e); here = refl }, tt)

-- ---- a line among those of its section

abbrev IsFree : LineMeaning → Type 0
IsFree l = (x : ℕ) (b : Bool) → x ≤ section (line_kind l) → is_out_of_order (line_kind l) x b ≡ false

placed : (n : NativeData) (first s : ScriptState) (l : LineMeaning) (e : ℕ) (c : Change) (pre : List LineMeaning) (g : ℕ × EventDef → List LineMeaning) (ev : EventDef)
    → Changes n l e c → IsFree l → AreOwn n g (section (line_kind l)) → slice_get s.events e ≡ Some ev
    → g (e, c ev) ≡ g (e, ev) ++ l ∷ [] → Runs n first (pre ++ all_lines g 0 s.events) (at s) → Fits n (at s) l → Runs n first (pre ++ all_lines g 0 (with_event c e s.events)) (after n (at s) 0 l)
placed n first s l e c pre g ev ch free own there grown run fit =
    let k : ℕ = section (line_kind l) in
    let zero_e : 0 + e ≡ e = omega arith in
    let i = inserted n g 0 s.events e k c l ev own there (subst (λ (j : ℕ). g (j, c ev) ≡ g (j, ev) ++ l ∷ []) (sym zero_e) grown) in
    let t : ScriptState = after n (at s) 0 l in
    let before = subst (λ (ls : List LineMeaning). Runs n first (pre ++ ls) (at s)) i.was run in
    let after_all = runs_last n first (at s) (pre ++ (i.front ++ i.back)) l before fit in
    let row : (pre ++ (i.front ++ i.back)) ++ l ∷ [] ≡ (pre ++ i.front) ++ (i.back ++ l ∷ []) =
    ap (λ (ls : List LineMeaning). ls ++ l ∷ []) (sym (append_assoc pre i.front i.back)) ∙ append_assoc (pre ++ i.front) i.back (l ∷ []) in
    let parts = runs_split n first t (pre ++ i.front) (i.back ++ l ∷ []) (subst (λ (ls : List LineMeaning). Runs n first ls t) row after_all) in
    let u : ScriptState = parts.0 in
    let last : t.section ≡ k = ap (λ (z : ScriptState). z.section) (ch.does (at s)) in
    let low : u.section ≤ k = omega (arith, (in_sections n u t (i.back ++ l ∷ []) parts.2).0, last) in
    let apart = subst (λ (j : ℕ). AllByRecursion (IsApart n j k) i.back) zero_e i.apart in
    let moved = move n u t i.back l e c ch apart (free u.section u.begins low) parts.2 in
    let joined = runs_append n first u t (pre ++ i.front) (l ∷ i.back) parts.1 moved in
    subst (λ (ls : List LineMeaning). Runs n first ls t) (append_assoc pre i.front (l ∷ i.back) ∙ ap (λ (ls : List LineMeaning). pre ++ ls) (sym i.is)) joined

-- a rule or an authoriser
with_authority_line : (n : NativeData) (v : ℕ) (hs : List Body) (gs : List Check) (s : ScriptState) (l : LineMeaning) (e : ℕ) (c : Change) (ev : EventDef)
    → Canon n v hs gs s → Fits n s l → section (line_kind l) ≡ 6 → Changes n l e c → IsFree l → slice_get s.events e ≡ Some ev
    → authority_of n (e, c ev) ≡ authority_of n (e, ev) ++ l ∷ [] → ((k : ℕ) (x : EventDef) → event_line (k, c x) ≡ event_line (k, x))
    → ((k : ℕ) (x : EventDef) → default_of (k, c x) ≡ default_of (k, x)) → Canon n v hs gs (after n s 0 l)
with_authority_line n v hs gs s l e c ev canon f six ch free there grown keeps quiet =
    let first : ScriptState = record start { version = v } in
    let k = up_to n s l f (omega (arith, six)) in
    let em = empties_for n v hs gs s canon in
    let d = em.defaults (omega (arith, k, six)) in
    let x = em.segments (omega (arith, k, six)) in
    let es : List EventDef = with_event c e s.events in
    let u : ScriptState = record s { section = section (line_kind l); events = es } in
    let m : LineMeaning = line.Modules s.modules in
    let front : List LineMeaning = front_of n hs gs s in
    let old = two_cut (front ++ all_lines (authority_of n) 0 s.events) (all_lines default_of 0 s.events) (segments_of s) d x in
    let same_front : front_of n hs gs u ≡ front = ap (λ (ls : List LineMeaning). ((ls ++ endpoints_of s) ++ handler_lines n hs) ++ guard_lines n gs) (mapped_same event_line c keeps 0 s.events e) in
    let new : blocks n hs gs u ≡ front ++ all_lines (authority_of n) 0 es =
    two_cut (front_of n hs gs u ++ all_lines (authority_of n) 0 es) (all_lines default_of 0 es) (segments_of s) (flat_same default_of c quiet 0 s.events e ∙ d) x
    ∙ ap (λ (ls : List LineMeaning). ls ++ all_lines (authority_of n) 0 es) same_front in
    let own : AreOwn n (authority_of n) (section (line_kind l)) = subst (λ (j : ℕ). AreOwn n (authority_of n) j) (sym six) (own_authorities n) in
    let run = placed n first s l e c (m ∷ front) (authority_of n) ev ch free own there grown
    (subst (λ (ls : List LineMeaning). Runs n first (m ∷ ls) (at s)) old canon.run) (fits_at n s l (omega (arith, six)) f) in
    let led : after n (at s) 0 l ≡ at u = ch.does (at s) ∙ ap (λ (j : ℕ). record s { section = j; events = es }) (six ∙ sym (ap one six)) in
    subst (λ (z : ScriptState). Canon n v hs gs z) (sym (ch.does s)) (record {
      run = subst (λ (ls : List LineMeaning). Runs n first (m ∷ ls) (at u)) (sym new) (subst (λ (z : ScriptState). Runs n first (m ∷ (front ++ all_lines (authority_of n) 0 es)) z) led run);
      handlers = canon.handlers;
      guards = canon.guards;
      begins = canon.begins;
    })

free_in : (k : ℕ) (x : ℕ) → x ≤ k → ltb k x ≡ false
free_in k x h = grind (arith, nat_tests, h)

or_first : (a b : Bool) → (a || b) ≡ false → a ≡ false
or_first true b e = absurd cc
or_first false b e = refl

or_second : (a b : Bool) → (a || b) ≡ false → b ≡ false
or_second true b e = absurd cc
or_second false b e = e

native_is : (a : Authority) (k : ℕ) → a ≡ authority.Native k → is_native a ≡ false → ⊥
native_is a k is h = let bad : true ≡ false = sym (ap is_native is) ∙ h in absurd cc

-- the rules of the event, which aren't a native's
rule_grown : (n : NativeData) (e : ℕ) (r : Rule) (hs : List HandlerUnit) (gs : List GuardUnit) (ev : EventDef) (a : Authority) → ev.authority ≡ a → first_of (rule_rows hs gs r ev) ≡ None
    → authority_lines n e (authority.Rules (given_rules ev.authority ++ r ∷ [])) ≡ authority_lines n e ev.authority ++ line.Rules e r ∷ []
rule_grown n e r hs gs ev (authority.Rules rs) is h = rw is (map-append (line.Rules e) rs (r ∷ []))
rule_grown n e r hs gs ev (authority.Native k) is h = absurd (native_is ev.authority k is (or_second (not (is_fit_rule gs ev r)) (is_native ev.authority) (all_false (rule_rows hs gs r ev) h).1.1.0))

pub rule_at : (n : NativeData) (v : ℕ) (hs : List Body) (gs : List Check) (s : ScriptState) (e : ℕ) (r : Rule) → Canon n v hs gs s → Fits n s (line.Rules e r)
    → (o : Option EventDef) → slice_get s.events e ≡ o → first_of (rule_checks s r o) ≡ None → Canon n v hs gs (after n s 0 (line.Rules e r))
rule_at n v hs gs s e r c f None there h = absurd cc
rule_at n v hs gs s e r c f (Some ev) there h =
    with_authority_line n v hs gs s (line.Rules e r) e (with_rule r) ev c f refl (rule_changes n e r) (λ x b low. rw (free_in 6 x low) refl) there
    (rule_grown n e r s.handlers s.guards ev ev.authority refl h) (λ k x. refl) (λ k x. refl)

no_rules : (rs : List Rule) → not (eqb (length rs) 0) ≡ false → rs ≡ []
no_rules [] h = refl
no_rules (r ∷ rs) h = absurd (grind (arith, nat_tests, h))

authoriser_grown : (n : NativeData) (e : ℕ) (name : List ℕ) (k : ℕ) (gs : List GuardUnit) (policy : Option (List Rule)) (ev : EventDef) (a : Authority)
    → ev.authority ≡ a → native_at name n.authorisers ≡ Some k → first_of (authoriser_rows gs policy ev) ≡ None
    → authority_lines n e (authority.Native k) ≡ authority_lines n e ev.authority ++ line.Authoriser e name ∷ []
authoriser_grown n e name k gs policy ev (authority.Rules rs) is at h =
    let given : not (eqb (length (given_rules ev.authority)) 0) ≡ false =
    or_first (not (eqb (length (given_rules ev.authority)) 0)) (not (list_all (is_fit_rule gs ev) (rules_if policy))) (all_false (authoriser_rows gs policy ev) h).1.0 in
    let none : rs ≡ [] = no_rules rs (subst (λ (a : Authority). not (eqb (length (given_rules a)) 0) ≡ false) is given) in
    declarations_back.authorisers n e name k at ∙ sym (ap (λ (a : Authority). authority_lines n e a ++ line.Authoriser e name ∷ []) (is ∙ ap (λ (x : List Rule). authority.Rules x) none))
authoriser_grown n e name k gs policy ev (authority.Native j) is at h = absurd (native_is ev.authority j is (all_false (authoriser_rows gs policy ev) h).1.1.1.0)

pub authoriser_at : (n : NativeData) (v : ℕ) (hs : List Body) (gs : List Check) (s : ScriptState) (e : ℕ) (name : List ℕ) → Canon n v hs gs s → Fits n s (line.Authoriser e name)
    → (o : Option ℕ) → native_at name n.authorisers ≡ o → (p : Option EventDef) → slice_get s.events e ≡ p
    → first_of (authoriser_checks s (policy_at n o) p) ≡ None → Canon n v hs gs (after n s 0 (line.Authoriser e name))
authoriser_at n v hs gs s e name c f None is p there h = absurd (no_authoriser s p h)
authoriser_at n v hs gs s e name c f (Some k) is None there h = absurd cc
authoriser_at n v hs gs s e name c f (Some k) is (Some ev) there h =
    with_authority_line n v hs gs s (line.Authoriser e name) e (with_authoriser k) ev c f refl (authoriser_changes n e name k is) (λ x b low. rw (free_in 6 x low) refl) there
    (authoriser_grown n e name k s.guards (policy_at n (Some k)) ev ev.authority refl is h) (λ i x. refl) (λ i x. refl)

-- ---- defaults

none_serves : (hs : List HandlerUnit) (event : ℕ) (e : EventDef) → cannot_serve hs event e 0 ≡ true
unfolding cannot_serve
none_serves hs event e = refl

two_rows : (a b x : Bool) (c d f : Cause) → cond a (Some c) (cond b (Some d) (cond (not x) (Some f) None)) ≡ None → (b ≡ false) × (x ≡ true)
two_rows true b x c d f h = absurd cc
two_rows false true x c d f h = absurd cc
two_rows false false true c d f h = (refl, refl)
two_rows false false false c d f h = absurd cc

some_handler : (h : ℕ) (hs : List HandlerUnit) (event : ℕ) (e : EventDef) → cannot_serve hs event e h ≡ false → eqb h 0 ≡ false
some_handler zero hs event e is = absurd (let bad : true ≡ false = sym (none_serves hs event e) ∙ is in cc)
some_handler (suc h) hs event e is = grind (arith, nat_tests)

pub default_at : (n : NativeData) (v : ℕ) (hs : List Body) (gs : List Check) (s : ScriptState) (e h : ℕ) → Canon n v hs gs s → Fits n s (line.Default e h)
    → (o : Option EventDef) → slice_get s.events e ≡ o → first_of (default_checks s e h o) ≡ None → Canon n v hs gs (after n s 0 (line.Default e h))
default_at n v hs gs s e h c f None there good = absurd cc
default_at n v hs gs s e h c f (Some ev) there good =
    let l : LineMeaning = line.Default e h in
    let first : ScriptState = record start { version = v } in
    let two = two_rows _ _ (eqb ev.first_default 0) _ _ _ good in
    let grown : default_of (e, with_default h ev) ≡ default_of (e, ev) ++ l ∷ [] = rw (some_handler h s.handlers e ev two.0, two.1) refl in
    let k = up_to n s l f (omega arith) in
    let x = (empties_for n v hs gs s c).segments (omega (arith, k)) in
    let es : List EventDef = with_event (with_default h) e s.events in
    let u : ScriptState = after n s 0 l in
    let m : LineMeaning = line.Modules s.modules in
    let front : List LineMeaning = front_of n hs gs s ++ all_lines (authority_of n) 0 s.events in
    let old = cut (front ++ all_lines default_of 0 s.events) (segments_of s) x in
    let same_front : front_of n hs gs u ++ all_lines (authority_of n) 0 es ≡ front =
    ap (λ (ls : List LineMeaning). (((ls ++ endpoints_of s) ++ handler_lines n hs) ++ guard_lines n gs) ++ all_lines (authority_of n) 0 es)
    (mapped_same event_line (with_default h) (λ i y. refl) 0 s.events e)
    ∙ ap (λ (ls : List LineMeaning). front_of n hs gs s ++ ls) (flat_same (authority_of n) (with_default h) (λ i y. refl) 0 s.events e) in
    let new : blocks n hs gs u ≡ front ++ all_lines default_of 0 es =
    cut ((front_of n hs gs u ++ all_lines (authority_of n) 0 es) ++ all_lines default_of 0 es) (segments_of s) x ∙ ap (λ (ls : List LineMeaning). ls ++ all_lines default_of 0 es) same_front in
    let run = placed n first s l e (with_default h) (m ∷ front) default_of ev (default_changes n e h) (λ y b low. rw (free_in 7 y low) refl) (own_defaults n) there grown
    (subst (λ (ls : List LineMeaning). Runs n first (m ∷ ls) (at s)) old c.run) (fits_at n s l (omega arith) f) in
    record { run = subst (λ (ls : List LineMeaning). Runs n first (m ∷ ls) (at u)) (sym new) run; handlers = c.handlers; guards = c.guards; begins = c.begins }
