-- The canonical lines of a script so far, section by section.
use Rattle.std.proofs.Common.{◌≡◌, ℕ, zero, suc, ◌+◌, ◌<◌, ◌≤◌, Bool, true, false, cond, eqb, List, [], ◌∷◌, ◌++◌, length, map, refl, ap, ◌∙◌, arith}
use Rattle.std.specs.List.{flat_map, enumerate_from, AllByRecursion}
use Rattle.std.proofs.lemmas.List.{append-nil, map-append}
use Rattle.std.proofs.lemmas.Grind.{flat_map-append}
use Rattle.spin_objects.specs.declared.unit.Body.{Body}
use Rattle.spin_objects.specs.declared.unit.Body.TheVariants as body
use Rattle.spin_objects.specs.declared.unit.Check.{Check}
use Rattle.spin_objects.specs.declared.unit.Check.TheVariants as check
use Rattle.spin_table.specs.declared.event.EventDef.{EventDef}
use Rattle.spin_table.specs.declared.event.Authority.{Authority}
use Rattle.spin_table.specs.declared.event.Authority.TheVariants as authority
use Rattle.spin_grammar.specs.declared.kind.Kind.{Kind}
use Rattle.spin_grammar.specs.declared.kind.Kind.TheVariants as kind
use Rattle.spin_grammar.specs.Lines as line
use Rattle.spin_grammar.specs.Lines.{LineMeaning, line_kind}
use Rattle.spin_script.specs.declared.script.Segment.{Segment}
use Rattle.spin_script.specs.Sections.{section, is_out_of_order}
use Rattle.spin_script.specs.States.{ScriptState, NativeData, with_event}
use Rattle.spin_values.specs.First.{first_of}
use Rattle.spin_script.specs.Checks.{checks}
use Rattle.spin_script.specs.Canonical.{event_line, endpoint_line, handler_line, guard_line, authority_lines, default_lines, lane_line, segment_lines, segments_lines}
use Rattle.spin_script.specs.RoundTrip.{Fits}
use Rattle.spin_script.proofs.LineSwaps.{Change, cons_event, all_lines, all_both}

-- ---- the sections of lines

abbrev pub IsIn : ℕ → LineMeaning → Type 0
IsIn k l = section (line_kind l) ≡ k

abbrev pub IsUpTo : ℕ → LineMeaning → Type 0
IsUpTo k l = section (line_kind l) ≤ k

pub none : (k j : ℕ) (ls : List LineMeaning) → AllByRecursion (IsIn j) ls → AllByRecursion (IsUpTo k) ls → k < j → ls ≡ []
none k j [] a b h = refl
none k j (l ∷ ls) a b h = absurd (omega (arith, a.0, b.0, h))

all_mapped : {X : Type 0} (f : X → LineMeaning) (k : ℕ) → ((x : X) → section (line_kind (f x)) ≡ k) → (xs : List X) → AllByRecursion (IsIn k) (map f xs)
all_mapped f k h [] = tt
all_mapped f k h (x ∷ xs) = (h x, all_mapped f k h xs)

all_flat : {X : Type 0} (g : X → List LineMeaning) (k : ℕ) → ((x : X) → AllByRecursion (IsIn k) (g x)) → (xs : List X) → AllByRecursion (IsIn k) (flat_map g xs)
all_flat g k h [] = tt
all_flat g k h (x ∷ xs) = all_both (IsIn k) (g x) (flat_map g xs) (h x) (all_flat g k h xs)

body_in : (n : NativeData) (number : ℕ) (b : Body) → section (line_kind (handler_line n number b)) ≡ 4
body_in n number (body.Coded sig act) = refl
body_in n number (body.Native native) = refl

check_in : (n : NativeData) (number : ℕ) (c : Check) → section (line_kind (guard_line n number c)) ≡ 5
check_in n number (check.Coded sig test) = refl
check_in n number (check.Native native) = refl

authority_in : (n : NativeData) (event : ℕ) (a : Authority) → AllByRecursion (IsIn 6) (authority_lines n event a)
authority_in n event (authority.Rules rules) = all_mapped (line.Rules event) 6 (λ r. refl) rules
authority_in n event (authority.Native native) = (refl, tt)

default_in : (event handler : ℕ) → AllByRecursion (IsIn 7) (default_lines event handler)
default_in event handler = by_zero (eqb handler 0)
  where
    by_zero : (b : Bool) → AllByRecursion (IsIn 7) (cond b [] (line.Default event handler ∷ []))
    by_zero true = tt
    by_zero false = (refl, tt)

segment_in : (version : ℕ) (s : Segment) → AllByRecursion (IsIn 8) (segment_lines version s)
segment_in version s =
    all_both (IsIn 8) (map line.Retire s.retires) (map (lane_line version) s.lines) (all_mapped line.Retire 8 (λ p. refl) s.retires) (all_mapped (lane_line version) 8 (λ l. refl) s.lines)

segments_in : (version : ℕ) (ss : List Segment) → AllByRecursion (IsIn 8) (segments_lines version ss)
segments_in version [] = tt
segments_in version (s ∷ more) =
    all_both (IsIn 8) (segment_lines version s) (flat_map (λ (t : Segment). line.Barrier ∷ segment_lines version t) more) (segment_in version s)
    (all_flat (λ (t : Segment). line.Barrier ∷ segment_lines version t) 8 (λ t. (refl, segment_in version t)) more)

left_all : (P : LineMeaning → Type 0) (xs ys : List LineMeaning) → AllByRecursion P (xs ++ ys) → AllByRecursion P xs
left_all P [] ys h = tt
left_all P (x ∷ xs) ys h = (h.0, left_all P xs ys h.1)

right_all : (P : LineMeaning → Type 0) (xs ys : List LineMeaning) → AllByRecursion P (xs ++ ys) → AllByRecursion P ys
right_all P [] ys h = h
right_all P (x ∷ xs) ys h = right_all P xs ys h.1

-- ---- blocks

abbrev pub events_of : ScriptState → List LineMeaning
events_of s = map event_line (enumerate_from 0 s.events)

abbrev pub endpoints_of : ScriptState → List LineMeaning
endpoints_of s = map endpoint_line (enumerate_from 0 s.endpoints)

abbrev pub handler_lines : NativeData → List Body → List LineMeaning
handler_lines n hs = map (λ (p : ℕ × Body). handler_line n p.0 p.1) (enumerate_from 1 hs)

abbrev pub guard_lines : NativeData → List Check → List LineMeaning
guard_lines n gs = map (λ (p : ℕ × Check). guard_line n p.0 p.1) (enumerate_from 1 gs)

abbrev pub authority_of : NativeData → ℕ × EventDef → List LineMeaning
authority_of n p = authority_lines n p.0 p.1.authority

abbrev pub default_of : ℕ × EventDef → List LineMeaning
default_of p = default_lines p.0 p.1.first_default

abbrev pub segments_of : ScriptState → List LineMeaning
segments_of s = segments_lines s.version (s.ended ++ s.segment ∷ [])

abbrev pub front_of : NativeData → List Body → List Check → ScriptState → List LineMeaning
front_of n hs gs s = ((events_of s ++ endpoints_of s) ++ handler_lines n hs) ++ guard_lines n gs

abbrev pub blocks : NativeData → List Body → List Check → ScriptState → List LineMeaning
blocks n hs gs s = ((front_of n hs gs s ++ all_lines (authority_of n) 0 s.events) ++ all_lines default_of 0 s.events) ++ segments_of s

-- which blocks are empty, where no line is in a section behind this
pub record Empties (n : NativeData) (hs : List Body) (gs : List Check) (s : ScriptState) (k : ℕ) : Type 0 where
  pub segments : k < 8 → segments_of s ≡ []
  pub defaults : k < 7 → all_lines default_of 0 s.events ≡ []
  pub authorities : k < 6 → all_lines (authority_of n) 0 s.events ≡ []
  pub guards : k < 5 → guard_lines n gs ≡ []
  pub handlers : k < 4 → handler_lines n hs ≡ []
  pub endpoints : k < 3 → endpoints_of s ≡ []
  pub events : k < 2 → events_of s ≡ []

pub empties : (n : NativeData) (hs : List Body) (gs : List Check) (s : ScriptState) (k : ℕ) → AllByRecursion (IsUpTo k) (blocks n hs gs s) → Empties n hs gs s k
empties n hs gs s k all =
    let e : List LineMeaning = events_of s in
    let p : List LineMeaning = endpoints_of s in
    let h : List LineMeaning = handler_lines n hs in
    let g : List LineMeaning = guard_lines n gs in
    let a : List LineMeaning = all_lines (authority_of n) 0 s.events in
    let d : List LineMeaning = all_lines default_of 0 s.events in
    let x : List LineMeaning = segments_of s in
    let to_d = left_all (IsUpTo k) (((((e ++ p) ++ h) ++ g) ++ a) ++ d) x all in
    let to_a = left_all (IsUpTo k) ((((e ++ p) ++ h) ++ g) ++ a) d to_d in
    let to_g = left_all (IsUpTo k) (((e ++ p) ++ h) ++ g) a to_a in
    let to_h = left_all (IsUpTo k) ((e ++ p) ++ h) g to_g in
    let to_p = left_all (IsUpTo k) (e ++ p) h to_h in
    record {
      segments = none k 8 x (segments_in s.version (s.ended ++ s.segment ∷ [])) (right_all (IsUpTo k) (((((e ++ p) ++ h) ++ g) ++ a) ++ d) x all);
      defaults = none k 7 d (all_flat default_of 7 (λ (q : ℕ × EventDef). default_in q.0 q.1.first_default) (enumerate_from 0 s.events)) (right_all (IsUpTo k) ((((e ++ p) ++ h) ++ g) ++ a) d to_d);
      authorities = none k 6 a (all_flat (authority_of n) 6 (λ (q : ℕ × EventDef). authority_in n q.0 q.1.authority) (enumerate_from 0 s.events)) (right_all (IsUpTo k) (((e ++ p) ++ h) ++ g) a to_a);
      guards = none k 5 g (all_mapped (λ (q : ℕ × Check). guard_line n q.0 q.1) 5 (λ (q : ℕ × Check). check_in n q.0 q.1) (enumerate_from 1 gs)) (right_all (IsUpTo k) ((e ++ p) ++ h) g to_g);
      handlers = none k 4 h (all_mapped (λ (q : ℕ × Body). handler_line n q.0 q.1) 4 (λ (q : ℕ × Body). body_in n q.0 q.1) (enumerate_from 1 hs)) (right_all (IsUpTo k) (e ++ p) h to_h);
      endpoints = none k 3 p (all_mapped endpoint_line 3 (λ (q : ℕ × List ℕ). refl) (enumerate_from 0 s.endpoints)) (right_all (IsUpTo k) e p to_p);
      events = none k 2 e (all_mapped event_line 2 (λ (q : ℕ × EventDef). refl) (enumerate_from 0 s.events)) (left_all (IsUpTo k) e p to_p);
    }

-- what is left of a row of blocks whose last are empty
pub cut : (x y : List LineMeaning) → y ≡ [] → x ++ y ≡ x
cut x y e = ap (λ (z : List LineMeaning). x ++ z) e ∙ append-nil x

pub enumerate_push : {X : Type 0} (k m : ℕ) (xs : List X) (x : X) → k + length xs ≡ m → enumerate_from k (xs ++ x ∷ []) ≡ enumerate_from k xs ++ (m, x) ∷ []
enumerate_push {X} k m [] x e = let same : k ≡ m = omega (arith, e) in ap (λ (i : ℕ). (i, x) ∷ []) same
enumerate_push {X} k m (y ∷ ys) x e = ap (λ (ps : List (ℕ × X)). (k, y) ∷ ps) (enumerate_push (k + 1) m ys x (omega (arith, e)))

-- one line more at the end of a block
pub mapped_push : {X : Type 0} (f : ℕ × X → LineMeaning) (k m : ℕ) (xs : List X) (x : X) (l : LineMeaning)
    → k + length xs ≡ m → f (m, x) ≡ l → map f (enumerate_from k (xs ++ x ∷ [])) ≡ map f (enumerate_from k xs) ++ l ∷ []
mapped_push {X} f k m xs x l e is =
    ap (map f) (enumerate_push k m xs x e) ∙ map-append f (enumerate_from k xs) ((m, x) ∷ []) ∙ ap (λ (y : LineMeaning). map f (enumerate_from k xs) ++ y ∷ []) is

-- an event that says nothing
pub flat_push : (g : ℕ × EventDef → List LineMeaning) (es : List EventDef) (ev : EventDef) → g (length es, ev) ≡ [] → all_lines g 0 (es ++ ev ∷ []) ≡ all_lines g 0 es
flat_push g es ev quiet =
    ap (flat_map g) (enumerate_push 0 (length es) es ev (omega arith)) ∙ flat_map-append g (enumerate_from 0 es) ((length es, ev) ∷ [])
    ∙ ap (λ (ls : List LineMeaning). all_lines g 0 es ++ (ls ++ [])) quiet ∙ append-nil (all_lines g 0 es)

-- a change that doesn't show
pub mapped_same : (f : ℕ × EventDef → LineMeaning) (c : Change) → ((k : ℕ) (ev : EventDef) → f (k, c ev) ≡ f (k, ev))
    → (base : ℕ) (es : List EventDef) (e : ℕ) → map f (enumerate_from base (with_event c e es)) ≡ map f (enumerate_from base es)
mapped_same f c h base [] e = refl
mapped_same f c h base (x ∷ xs) zero = ap (λ (l : LineMeaning). l ∷ map f (enumerate_from (base + 1) xs)) (h base x)
mapped_same f c h base (x ∷ xs) (suc e) =
    ap (λ (ys : List EventDef). map f (enumerate_from base ys)) (cons_event c x xs e) ∙ ap (λ (ls : List LineMeaning). f (base, x) ∷ ls) (mapped_same f c h (base + 1) xs e)

pub flat_same : (g : ℕ × EventDef → List LineMeaning) (c : Change) → ((k : ℕ) (ev : EventDef) → g (k, c ev) ≡ g (k, ev))
    → (base : ℕ) (es : List EventDef) (e : ℕ) → all_lines g base (with_event c e es) ≡ all_lines g base es
flat_same g c h base [] e = refl
flat_same g c h base (x ∷ xs) zero = ap (λ (ls : List LineMeaning). ls ++ all_lines g (base + 1) xs) (h base x)
flat_same g c h base (x ∷ xs) (suc e) = ap (all_lines g base) (cons_event c x xs e) ∙ ap (λ (ls : List LineMeaning). g (base, x) ++ ls) (flat_same g c h (base + 1) xs e)

-- ---- the state that the canonical lines lead to

abbrev pub one : ℕ → ℕ
one zero = 1
one (suc m) = suc m

abbrev pub at : ScriptState → ScriptState
at s = record s { section = one s.section }

pub one_le : (m j : ℕ) → m ≤ j → 1 ≤ j → one m ≤ j
one_le zero j h k = k
one_le (suc m) j h k = h

ordered : (k : Kind) (before : ℕ) (begins : Bool) → 2 ≤ section k → is_out_of_order k before begins ≡ false → is_out_of_order k (one before) begins ≡ false
ordered k (suc m) begins two h = h
ordered kind.Modules zero begins two h = absurd (omega (arith, two))
ordered kind.Event zero begins two h = refl
ordered kind.Endpoint zero begins two h = refl
ordered kind.Handler zero begins two h = refl
ordered kind.Guard zero begins two h = refl
ordered kind.Rule zero begins two h = refl
ordered kind.Authoriser zero begins two h = refl
ordered kind.Default zero begins two h = refl
ordered kind.Lane zero begins two h = refl
ordered kind.Barrier zero begins two h = refl
ordered kind.Retire zero begins two h = h

at_checks : (n : NativeData) (s : ScriptState) (l : LineMeaning) → checks n (at s) l ≡ checks n s l
at_checks n s (line.Modules count) = refl
at_checks n s (line.Event e owner sig m) = refl
at_checks n s (line.Endpoint p name) = refl
at_checks n s (line.Handler h sig steps) = refl
at_checks n s (line.NativeHandler h name) = refl
at_checks n s (line.Guard g sig t) = refl
at_checks n s (line.NativeGuard g name) = refl
at_checks n s (line.Rules e r) = refl
at_checks n s (line.Authoriser e name) = refl
at_checks n s (line.Default e h) = refl
at_checks n s (line.Lane l t) = refl
at_checks n s line.Barrier = refl
at_checks n s (line.Retire p) = refl

-- what fits behind the script so far fits behind its canonical lines
pub fits_at : (n : NativeData) (s : ScriptState) (l : LineMeaning) → 2 ≤ section (line_kind l) → Fits n s l → Fits n (at s) l
fits_at n s l two f = record { said = f.said; order = ordered (line_kind l) s.section s.begins two f.order; good = ap first_of (at_checks n s l) ∙ f.good }
