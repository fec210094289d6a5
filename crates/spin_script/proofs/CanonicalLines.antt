-- The canonical lines of a script lead to it: a line is added to the script so far.
use Rattle.std.proofs.Common.{◌≡◌, ℕ, ◌+◌, ◌≤◌, ◌&&◌, ◌||◌, Bool, true, false, cond, eqb, ltb, List, [], ◌∷◌, ◌++◌, length, map, Option, Some, None, refl, sym, ap, subst, ◌∙◌, append_assoc, arith}
use Rattle.std.specs.Prelude.{not}
use Rattle.std.specs.List.{flat_map, AllByRecursion}
use Rattle.std.proofs.lemmas.Bool.Decides.{nat_tests}
use Rattle.std.proofs.lemmas.List.{append-nil, map-append, length-map}
use Rattle.std.proofs.lemmas.Grind.{flat_map-append}
use Rattle.spin_values.specs.declared.types.EventType.{EventType}
use Rattle.spin_code.specs.declared.act.ActStep.{ActStep}
use Rattle.spin_code.specs.declared.test.Test.{Test}
use Rattle.spin_code.specs.declared.merge.Merge.{Merge}
use Rattle.spin_objects.specs.declared.unit.Body.{Body}
use Rattle.spin_objects.specs.declared.unit.Body.TheVariants as body
use Rattle.spin_objects.specs.declared.unit.Check.{Check}
use Rattle.spin_objects.specs.declared.unit.Check.TheVariants as check
use Rattle.spin_objects.specs.Units.{HandlerUnit, GuardUnit, unit_of_body, unit_of_check}
use Rattle.spin_table.specs.declared.event.EventDef.{EventDef}
use Rattle.spin_grammar.specs.declared.cause.Cause.{Cause}
use Rattle.spin_grammar.specs.declared.cause.Cause.TheVariants as cause
use Rattle.spin_grammar.specs.Forms.{Task}
use Rattle.spin_grammar.specs.Lines as line
use Rattle.spin_grammar.specs.Lines.{LineMeaning, line_kind}
use Rattle.spin_script.specs.declared.script.Line as script
use Rattle.spin_script.specs.declared.script.Segment.{Segment}
use Rattle.spin_script.specs.Sections.{section}
use Rattle.spin_grammar.specs.Tasks.{work_of}
use Rattle.spin_script.specs.States.{ScriptState, NativeData, start, new_event, native_at, empty_segment, with_handler, with_guard, after}
use Rattle.spin_values.specs.First.{first_of}
use Rattle.spin_script.specs.Checks.{checks}
use Rattle.spin_script.specs.Canonical.{event_line, endpoint_line, handler_line, guard_line, lane_line, segment_lines, segments_lines}
use Rattle.spin_script.specs.RoundTrip.{Fits}
use Rattle.spin_script.specs.Inner.Declaring.{with_body, with_check}
use Rattle.spin_script.proofs.WrittenDeeds.{deeds_back}
use Rattle.spin_script.proofs.WrittenDeclarations.{declarations_back}
use Rattle.spin_script.proofs.LineRuns.{Runs, runs_last, in_order, in_sections, refused}
use Rattle.spin_script.proofs.LineSwaps.{all_lines}
use Rattle.spin_script.proofs.CanonicalBlocks.{events_of, endpoints_of, handler_lines, guard_lines, authority_of, default_of, segments_of}
use Rattle.spin_script.proofs.CanonicalBlocks.{front_of, blocks, Empties, empties, cut, mapped_push, flat_push, one, at, one_le, fits_at}

pub record Canon (n : NativeData) (v : ℕ) (hs : List Body) (gs : List Check) (s : ScriptState) : Type 0 where
  pub run : Runs n (record start { version = v }) (line.Modules s.modules ∷ blocks n hs gs s) (at s)
  pub handlers : map (unit_of_body n.handlers) hs ≡ s.handlers
  pub guards : map (unit_of_check n.guards) gs ≡ s.guards
  pub begins : s.begins ≡ true → s.segment.lines ≡ []

-- which blocks are empty where this line stands next
pub empties_for : (n : NativeData) (v : ℕ) (hs : List Body) (gs : List Check) (s : ScriptState) → Canon n v hs gs s → Empties n hs gs s (one s.section)
empties_for n v hs gs s c = empties n hs gs s (one s.section) (in_sections n (record start { version = v }) (at s) (line.Modules s.modules ∷ blocks n hs gs s) c.run).1.1

pub up_to : (n : NativeData) (s : ScriptState) (l : LineMeaning) → Fits n s l → 1 ≤ section (line_kind l) → one s.section ≤ section (line_kind l)
up_to n s l f h = one_le s.section (section (line_kind l)) (in_order (line_kind l) s.section s.begins f.order) h

grow : (n : NativeData) (v : ℕ) (hs ks : List Body) (gs cs : List Check) (s : ScriptState) (l : LineMeaning)
    → Canon n v hs gs s → Fits n s l → 2 ≤ section (line_kind l) → after n (at s) 0 l ≡ at (after n s 0 l)
    → line.Modules (after n s 0 l).modules ∷ blocks n ks cs (after n s 0 l) ≡ (line.Modules s.modules ∷ blocks n hs gs s) ++ l ∷ []
    → Runs n (record start { version = v }) (line.Modules (after n s 0 l).modules ∷ blocks n ks cs (after n s 0 l)) (at (after n s 0 l))
grow n v hs ks gs cs s l c f two same more =
    let first : ScriptState = record start { version = v } in
    let all : List LineMeaning = line.Modules s.modules ∷ blocks n hs gs s in
    subst (λ (ls : List LineMeaning). Runs n first ls (at (after n s 0 l))) (sym more)
    (subst (λ (t : ScriptState). Runs n first (all ++ l ∷ []) t) same (runs_last n first (at s) all l c.run (fits_at n s l two f)))

-- ---- rows of blocks whose last are empty

pub two_cut : (x y z : List LineMeaning) → y ≡ [] → z ≡ [] → (x ++ y) ++ z ≡ x
two_cut x y z a b = cut (x ++ y) z b ∙ cut x y a

three_cut : (x y z w : List LineMeaning) → y ≡ [] → z ≡ [] → w ≡ [] → ((x ++ y) ++ z) ++ w ≡ x
three_cut x y z w a b c = cut ((x ++ y) ++ z) w c ∙ two_cut x y z a b

four_cut : (x y z w u : List LineMeaning) → y ≡ [] → z ≡ [] → w ≡ [] → u ≡ [] → (((x ++ y) ++ z) ++ w) ++ u ≡ x
four_cut x y z w u a b c d = cut (((x ++ y) ++ z) ++ w) u d ∙ three_cut x y z w a b c

five_cut : (x y z w u t : List LineMeaning) → y ≡ [] → z ≡ [] → w ≡ [] → u ≡ [] → t ≡ [] → ((((x ++ y) ++ z) ++ w) ++ u) ++ t ≡ x
five_cut x y z w u t a b c d e = cut ((((x ++ y) ++ z) ++ w) ++ u) t e ∙ four_cut x y z w u a b c d

pub six_cut : (x y z w u t r : List LineMeaning) → y ≡ [] → z ≡ [] → w ≡ [] → u ≡ [] → t ≡ [] → r ≡ [] → (((((x ++ y) ++ z) ++ w) ++ u) ++ t) ++ r ≡ x
six_cut x y z w u t r a b c d e f = cut (((((x ++ y) ++ z) ++ w) ++ u) ++ t) r f ∙ five_cut x y z w u t a b c d e

rows : (m l : LineMeaning) (old new x y : List LineMeaning) → old ≡ x → new ≡ y → y ≡ x ++ l ∷ [] → m ∷ new ≡ (m ∷ old) ++ l ∷ []
rows m l old new x y a b c = ap (λ (ls : List LineMeaning). m ∷ ls) (b ∙ c ∙ ap (λ (ls : List LineMeaning). ls ++ l ∷ []) (sym a))

-- ---- numbers that are the next

-- none of the conditions holds
pub all_false : (rows : List (Bool × Cause)) → first_of rows ≡ None → AllByRecursion (λ (r : Bool × Cause). r.0 ≡ false) rows
all_false [] h = tt
all_false (r ∷ rs) h = by_test r.0 refl h (all_false rs)
  where
    by_test : (t : Bool) → r.0 ≡ t → cond t (Some r.1) (first_of rs) ≡ None → (first_of rs ≡ None → AllByRecursion (λ (q : Bool × Cause). q.0 ≡ false) rs)
        → (r.0 ≡ false) × AllByRecursion (λ (q : Bool × Cause). q.0 ≡ false) rs
    by_test true e g others = absurd cc
    by_test false e g others = (e, others g)

number_is : (a b : ℕ) → not (eqb a b) ≡ false → a ≡ b
number_is a b h = by_test (eqb a b) refl h
  where
    by_test : (t : Bool) → eqb a b ≡ t → not t ≡ false → a ≡ b
    by_test true e g = grind (arith, nat_tests, e)
    by_test false e g = absurd cc

-- ---- declarations

pub with_an_event : (n : NativeData) (v : ℕ) (hs : List Body) (gs : List Check) (s : ScriptState) (e owner : ℕ) (sig : EventType) (m : Merge)
    → Canon n v hs gs s → Fits n s (line.Event e owner sig m) → Canon n v hs gs (after n s 0 (line.Event e owner sig m))
with_an_event n v hs gs s e owner sig m c f =
    let l : LineMeaning = line.Event e owner sig m in
    let ev : EventDef = new_event owner sig m in
    let k = up_to n s l f (omega arith) in
    let em = empties_for n v hs gs s c in
    let is : e ≡ length s.events = number_is e (length s.events) (all_false (checks n s l) f.good).0 in
    let grown = mapped_push event_line 0 (length s.events) s.events ev l (omega arith) (ap (λ (i : ℕ). line.Event i owner sig m) (sym is)) in
    let p = em.endpoints (omega (arith, k)) in
    let h = em.handlers (omega (arith, k)) in
    let g = em.guards (omega (arith, k)) in
    let a = em.authorities (omega (arith, k)) in
    let d = em.defaults (omega (arith, k)) in
    let x = em.segments (omega (arith, k)) in
    let t : ScriptState = after n s 0 l in
    let old = six_cut (events_of s) (endpoints_of s) (handler_lines n hs) (guard_lines n gs) (all_lines (authority_of n) 0 s.events) (all_lines default_of 0 s.events) (segments_of s) p h g a d x in
    let new = six_cut (events_of t) (endpoints_of s) (handler_lines n hs) (guard_lines n gs) (all_lines (authority_of n) 0 t.events) (all_lines default_of 0 t.events) (segments_of s) p h g
    (flat_push (authority_of n) s.events ev refl ∙ a) (flat_push default_of s.events ev refl ∙ d) x in
    record {
      run = grow n v hs hs gs gs s l c f (omega arith) refl (rows (line.Modules s.modules) l (blocks n hs gs s) (blocks n hs gs t) (events_of s) (events_of t) old new grown);
      handlers = c.handlers;
      guards = c.guards;
      begins = c.begins;
    }

pub with_an_endpoint : (n : NativeData) (v : ℕ) (hs : List Body) (gs : List Check) (s : ScriptState) (p : ℕ) (name : List ℕ)
    → Canon n v hs gs s → Fits n s (line.Endpoint p name) → Canon n v hs gs (after n s 0 (line.Endpoint p name))
with_an_endpoint n v hs gs s p name c f =
    let l : LineMeaning = line.Endpoint p name in
    let k = up_to n s l f (omega arith) in
    let em = empties_for n v hs gs s c in
    let is : p ≡ length s.endpoints = number_is p (length s.endpoints) (all_false (checks n s l) f.good).0 in
    let grown = mapped_push endpoint_line 0 (length s.endpoints) s.endpoints name l (omega arith) (ap (λ (i : ℕ). line.Endpoint i name) (sym is)) in
    let h = em.handlers (omega (arith, k)) in
    let g = em.guards (omega (arith, k)) in
    let a = em.authorities (omega (arith, k)) in
    let d = em.defaults (omega (arith, k)) in
    let x = em.segments (omega (arith, k)) in
    let t : ScriptState = after n s 0 l in
    let auths : List LineMeaning = all_lines (authority_of n) 0 s.events in
    let defs : List LineMeaning = all_lines default_of 0 s.events in
    let old = five_cut (events_of s ++ endpoints_of s) (handler_lines n hs) (guard_lines n gs) auths defs (segments_of s) h g a d x in
    let new = five_cut (events_of s ++ endpoints_of t) (handler_lines n hs) (guard_lines n gs) auths defs (segments_of s) h g a d x in
    let row = ap (λ (ls : List LineMeaning). events_of s ++ ls) grown ∙ sym (append_assoc (events_of s) (endpoints_of s) (l ∷ [])) in
    record {
      run = grow n v hs hs gs gs s l c f (omega arith) refl (rows (line.Modules s.modules) l (blocks n hs gs s) (blocks n hs gs t)
          (events_of s ++ endpoints_of s) (events_of s ++ endpoints_of t) old new row);
      handlers = c.handlers;
      guards = c.guards;
      begins = c.begins;
    }

-- a body of the next handler is written as the line that declared it
with_a_body : (n : NativeData) (v : ℕ) (hs : List Body) (gs : List Check) (s t : ScriptState) (l : LineMeaning) (b : Body)
    → Canon n v hs gs s → Fits n s l → section (line_kind l) ≡ 4 → after n s 0 l ≡ t
    → t ≡ record s { section = 4; handlers = s.handlers ++ unit_of_body n.handlers b ∷ [] }
    → after n (at s) 0 l ≡ at (after n s 0 l) → handler_line n (length s.handlers + 1) b ≡ l → Canon n v (hs ++ b ∷ []) gs t
with_a_body n v hs gs s t l b c f four does is same says =
    let k = up_to n s l f (omega (arith, four)) in
    let em = empties_for n v hs gs s c in
    let u : ScriptState = record s { section = 4; handlers = s.handlers ++ unit_of_body n.handlers b ∷ [] } in
    let size : length hs ≡ length s.handlers = sym (length-map hs (unit_of_body n.handlers)) ∙ ap length c.handlers in
    let grown = mapped_push (λ (p : ℕ × Body). handler_line n p.0 p.1) 1 (length s.handlers + 1) hs b l (omega (arith, size)) says in
    let g = em.guards (omega (arith, k, four)) in
    let a = em.authorities (omega (arith, k, four)) in
    let d = em.defaults (omega (arith, k, four)) in
    let x = em.segments (omega (arith, k, four)) in
    let auths : List LineMeaning = all_lines (authority_of n) 0 s.events in
    let defs : List LineMeaning = all_lines default_of 0 s.events in
    let front : List LineMeaning = events_of s ++ endpoints_of s in
    let old = four_cut (front ++ handler_lines n hs) (guard_lines n gs) auths defs (segments_of s) g a d x in
    let new = four_cut (front ++ handler_lines n (hs ++ b ∷ [])) (guard_lines n gs) auths defs (segments_of s) g a d x in
    let row = ap (λ (ls : List LineMeaning). front ++ ls) grown ∙ sym (append_assoc front (handler_lines n hs) (l ∷ [])) in
    let all = rows (line.Modules s.modules) l (blocks n hs gs s) (blocks n (hs ++ b ∷ []) gs u) (front ++ handler_lines n hs) (front ++ handler_lines n (hs ++ b ∷ [])) old new row in
    let made : after n s 0 l ≡ u = does ∙ is in
    let ran = grow n v hs (hs ++ b ∷ []) gs gs s l c f (omega (arith, four)) same
    (subst (λ (z : ScriptState). line.Modules z.modules ∷ blocks n (hs ++ b ∷ []) gs z ≡ (line.Modules s.modules ∷ blocks n hs gs s) ++ l ∷ []) (sym made) all) in
    subst (λ (z : ScriptState). Canon n v (hs ++ b ∷ []) gs z) (sym is) (record {
      run = subst (λ (z : ScriptState). Runs n (record start { version = v }) (line.Modules z.modules ∷ blocks n (hs ++ b ∷ []) gs z) (at z)) made ran;
      handlers = map-append (unit_of_body n.handlers) hs (b ∷ []) ∙ ap (λ (us : List HandlerUnit). us ++ unit_of_body n.handlers b ∷ []) c.handlers;
      guards = c.guards;
      begins = c.begins;
    })

pub with_a_handler : (n : NativeData) (v : ℕ) (hs : List Body) (gs : List Check) (s : ScriptState) (h : ℕ) (sig : EventType) (steps : List ActStep)
    → Canon n v hs gs s → Fits n s (line.Handler h sig steps)
    → Canon n v (hs ++ body.Coded sig (record { steps = steps }) ∷ []) gs (after n s 0 (line.Handler h sig steps))
with_a_handler n v hs gs s h sig steps c f =
    let l : LineMeaning = line.Handler h sig steps in
    let is : h ≡ length s.handlers + 1 = number_is h (length s.handlers + 1) (all_false (checks n s l) f.good).0 in
    with_a_body n v hs gs s (after n s 0 l) l (body.Coded sig (record { steps = steps })) c f refl refl refl refl (ap (λ (i : ℕ). line.Handler i sig steps) (sym is))

pub with_a_native : (n : NativeData) (v : ℕ) (hs : List Body) (gs : List Check) (s : ScriptState) (h : ℕ) (name : List ℕ) → Canon n v hs gs s → Fits n s (line.NativeHandler h name)
    → (o : Option ℕ) → native_at name n.handlers ≡ o → Canon n v (with_body hs o) gs (after n s 0 (line.NativeHandler h name))
with_a_native n v hs gs s h name c f None e = absurd (refused _ cause.Next cause.Native (rw e at f.good))
with_a_native n v hs gs s h name c f (Some k) e =
    let l : LineMeaning = line.NativeHandler h name in
    let is : h ≡ length s.handlers + 1 = number_is h (length s.handlers + 1) (all_false (checks n s l) f.good).0 in
    let same : after n (at s) 0 l ≡ at (after n s 0 l) = ap (with_handler n (at s)) e ∙ sym (ap (λ (o : Option ℕ). at (with_handler n s o)) e) in
    let says : handler_line n (length s.handlers + 1) (body.Native k) ≡ l = declarations_back.native_handlers n (length s.handlers + 1) name k e ∙ ap (λ (i : ℕ). line.NativeHandler i name) (sym is) in
    with_a_body n v hs gs s (after n s 0 l) l (body.Native k) c f refl refl (ap (with_handler n s) e) same says

-- a check of the next guard is written as the line that declared it
with_a_check : (n : NativeData) (v : ℕ) (hs : List Body) (gs : List Check) (s t : ScriptState) (l : LineMeaning) (b : Check)
    → Canon n v hs gs s → Fits n s l → section (line_kind l) ≡ 5 → after n s 0 l ≡ t
    → t ≡ record s { section = 5; guards = s.guards ++ unit_of_check n.guards b ∷ [] }
    → after n (at s) 0 l ≡ at (after n s 0 l) → guard_line n (length s.guards + 1) b ≡ l → Canon n v hs (gs ++ b ∷ []) t
with_a_check n v hs gs s t l b c f five does is same says =
    let k = up_to n s l f (omega (arith, five)) in
    let em = empties_for n v hs gs s c in
    let u : ScriptState = record s { section = 5; guards = s.guards ++ unit_of_check n.guards b ∷ [] } in
    let size : length gs ≡ length s.guards = sym (length-map gs (unit_of_check n.guards)) ∙ ap length c.guards in
    let grown = mapped_push (λ (p : ℕ × Check). guard_line n p.0 p.1) 1 (length s.guards + 1) gs b l (omega (arith, size)) says in
    let a = em.authorities (omega (arith, k, five)) in
    let d = em.defaults (omega (arith, k, five)) in
    let x = em.segments (omega (arith, k, five)) in
    let auths : List LineMeaning = all_lines (authority_of n) 0 s.events in
    let defs : List LineMeaning = all_lines default_of 0 s.events in
    let front : List LineMeaning = (events_of s ++ endpoints_of s) ++ handler_lines n hs in
    let old = three_cut (front ++ guard_lines n gs) auths defs (segments_of s) a d x in
    let new = three_cut (front ++ guard_lines n (gs ++ b ∷ [])) auths defs (segments_of s) a d x in
    let row = ap (λ (ls : List LineMeaning). front ++ ls) grown ∙ sym (append_assoc front (guard_lines n gs) (l ∷ [])) in
    let all = rows (line.Modules s.modules) l (blocks n hs gs s) (blocks n hs (gs ++ b ∷ []) u) (front ++ guard_lines n gs) (front ++ guard_lines n (gs ++ b ∷ [])) old new row in
    let made : after n s 0 l ≡ u = does ∙ is in
    let ran = grow n v hs hs gs (gs ++ b ∷ []) s l c f (omega (arith, five)) same
    (subst (λ (z : ScriptState). line.Modules z.modules ∷ blocks n hs (gs ++ b ∷ []) z ≡ (line.Modules s.modules ∷ blocks n hs gs s) ++ l ∷ []) (sym made) all) in
    subst (λ (z : ScriptState). Canon n v hs (gs ++ b ∷ []) z) (sym is) (record {
      run = subst (λ (z : ScriptState). Runs n (record start { version = v }) (line.Modules z.modules ∷ blocks n hs (gs ++ b ∷ []) z) (at z)) made ran;
      handlers = c.handlers;
      guards = map-append (unit_of_check n.guards) gs (b ∷ []) ∙ ap (λ (us : List GuardUnit). us ++ unit_of_check n.guards b ∷ []) c.guards;
      begins = c.begins;
    })

pub with_a_guard : (n : NativeData) (v : ℕ) (hs : List Body) (gs : List Check) (s : ScriptState) (g : ℕ) (sig : EventType) (t : Test)
    → Canon n v hs gs s → Fits n s (line.Guard g sig t) → Canon n v hs (gs ++ check.Coded sig t ∷ []) (after n s 0 (line.Guard g sig t))
with_a_guard n v hs gs s g sig t c f =
    let l : LineMeaning = line.Guard g sig t in
    let is : g ≡ length s.guards + 1 = number_is g (length s.guards + 1) (all_false (checks n s l) f.good).0 in
    let says : guard_line n (length s.guards + 1) (check.Coded sig t) ≡ l = subst (λ (i : ℕ). guard_line n i (check.Coded sig t) ≡ l) is (declarations_back.guards s.version n g sig t f.said) in
    with_a_check n v hs gs s (after n s 0 l) l (check.Coded sig t) c f refl refl refl refl says

pub with_a_native_guard : (n : NativeData) (v : ℕ) (hs : List Body) (gs : List Check) (s : ScriptState) (g : ℕ) (name : List ℕ) → Canon n v hs gs s → Fits n s (line.NativeGuard g name)
    → (o : Option ℕ) → native_at name n.guards ≡ o → Canon n v hs (with_check gs o) (after n s 0 (line.NativeGuard g name))
with_a_native_guard n v hs gs s g name c f None e = absurd (refused _ cause.Next cause.Native (rw e at f.good))
with_a_native_guard n v hs gs s g name c f (Some k) e =
    let l : LineMeaning = line.NativeGuard g name in
    let is : g ≡ length s.guards + 1 = number_is g (length s.guards + 1) (all_false (checks n s l) f.good).0 in
    let same : after n (at s) 0 l ≡ at (after n s 0 l) = ap (with_guard n (at s)) e ∙ sym (ap (λ (o : Option ℕ). at (with_guard n s o)) e) in
    let says : guard_line n (length s.guards + 1) (check.Native k) ≡ l = declarations_back.native_guards n (length s.guards + 1) name k e ∙ ap (λ (i : ℕ). line.NativeGuard i name) (sym is) in
    with_a_check n v hs gs s (after n s 0 l) l (check.Native k) c f refl refl (ap (with_guard n s) e) same says

-- ---- segments

segment_grown : (v : ℕ) (ended : List Segment) (a b : Segment) (ls : List LineMeaning)
    → segment_lines v b ≡ segment_lines v a ++ ls → segments_lines v (ended ++ b ∷ []) ≡ segments_lines v (ended ++ a ∷ []) ++ ls
segment_grown v [] a b ls e = append-nil (segment_lines v b) ∙ e ∙ sym (ap (λ (x : List LineMeaning). x ++ ls) (append-nil (segment_lines v a)))
segment_grown v (x ∷ more) a b ls e =
    let each : Segment → List LineMeaning = λ t. line.Barrier ∷ segment_lines v t in
    let new : flat_map each (more ++ b ∷ []) ≡ flat_map each more ++ each b = flat_map-append each more (b ∷ []) ∙ ap (λ (y : List LineMeaning). flat_map each more ++ y) (append-nil (each b)) in
    let old : flat_map each (more ++ a ∷ []) ≡ flat_map each more ++ each a = flat_map-append each more (a ∷ []) ∙ ap (λ (y : List LineMeaning). flat_map each more ++ y) (append-nil (each a)) in
    let both : flat_map each (more ++ b ∷ []) ≡ flat_map each (more ++ a ∷ []) ++ ls =
    new ∙ ap (λ (y : List LineMeaning). flat_map each more ++ line.Barrier ∷ y) e ∙ sym (append_assoc (flat_map each more) (each a) ls) ∙ sym (ap (λ (y : List LineMeaning). y ++ ls) old) in
    ap (λ (y : List LineMeaning). segment_lines v x ++ y) both ∙ sym (append_assoc (segment_lines v x) (flat_map each (more ++ a ∷ [])) ls)

barrier_grown : (v : ℕ) (ended : List Segment) (a : Segment) → segments_lines v ((ended ++ a ∷ []) ++ empty_segment ∷ []) ≡ segments_lines v (ended ++ a ∷ []) ++ line.Barrier ∷ []
barrier_grown v [] a = ap (λ (y : List LineMeaning). y ++ line.Barrier ∷ []) (sym (append-nil (segment_lines v a)))
barrier_grown v (x ∷ more) a =
    let each : Segment → List LineMeaning = λ t. line.Barrier ∷ segment_lines v t in
    ap (λ (y : List LineMeaning). segment_lines v x ++ y) (flat_map-append each (more ++ a ∷ []) (empty_segment ∷ []))
    ∙ sym (append_assoc (segment_lines v x) (flat_map each (more ++ a ∷ [])) (line.Barrier ∷ []))

-- a line of the last section
with_last : (n : NativeData) (v : ℕ) (hs : List Body) (gs : List Check) (s : ScriptState) (l : LineMeaning)
    → Canon n v hs gs s → Fits n s l → section (line_kind l) ≡ 8 → after n (at s) 0 l ≡ at (after n s 0 l)
    → (segments : List LineMeaning) → segments ≡ segments_of s ++ l ∷ []
    → line.Modules (after n s 0 l).modules ∷ blocks n hs gs (after n s 0 l) ≡ line.Modules s.modules
    ∷ (((front_of n hs gs s ++ all_lines (authority_of n) 0 s.events) ++ all_lines default_of 0 s.events) ++ segments)
    → Runs n (record start { version = v }) (line.Modules (after n s 0 l).modules ∷ blocks n hs gs (after n s 0 l)) (at (after n s 0 l))
with_last n v hs gs s l c f eight same segments grown is =
    let front : List LineMeaning = (front_of n hs gs s ++ all_lines (authority_of n) 0 s.events) ++ all_lines default_of 0 s.events in
    let row = ap (λ (ls : List LineMeaning). front ++ ls) grown ∙ sym (append_assoc front (segments_of s) (l ∷ [])) in
    grow n v hs hs gs gs s l c f (omega (arith, eight)) same (is ∙ ap (λ (ls : List LineMeaning). line.Modules s.modules ∷ ls) row)

pub with_a_lane : (n : NativeData) (v : ℕ) (hs : List Body) (gs : List Check) (s : ScriptState) (lane : ℕ) (t : Task)
    → Canon n v hs gs s → Fits n s (line.Lane lane t) → Canon n v hs gs (after n s 0 (line.Lane lane t))
with_a_lane n v hs gs s lane t c f =
    let l : LineMeaning = line.Lane lane t in
    let x : script.Line = record { number = 0; lane = lane; work = work_of lane t } in
    let rs : List LineMeaning = map line.Retire s.segment.retires in
    let ls : List LineMeaning = map (lane_line s.version) s.segment.lines in
    let says : lane_line s.version x ≡ l = ap (line.Lane lane) (deeds_back s.version lane t f.said) in
    let one_more : rs ++ map (lane_line s.version) (s.segment.lines ++ x ∷ []) ≡ (rs ++ ls) ++ l ∷ [] =
    ap (λ (y : List LineMeaning). rs ++ y) (map-append (lane_line s.version) s.segment.lines (x ∷ []) ∙ ap (λ (z : LineMeaning). ls ++ z ∷ []) says) ∙ sym (append_assoc rs ls (l ∷ [])) in
    let u : ScriptState = after n s 0 l in
    record {
      run = with_last n v hs gs s l c f refl refl (segments_of u) (segment_grown s.version s.ended s.segment u.segment (l ∷ []) one_more) refl;
      handlers = c.handlers;
      guards = c.guards;
      begins = λ h. absurd cc;
    }

pub with_a_barrier : (n : NativeData) (v : ℕ) (hs : List Body) (gs : List Check) (s : ScriptState) → Canon n v hs gs s → Fits n s line.Barrier → Canon n v hs gs (after n s 0 line.Barrier)
with_a_barrier n v hs gs s c f =
    let u : ScriptState = after n s 0 line.Barrier in
    record { run = with_last n v hs gs s line.Barrier c f refl refl (segments_of u) (barrier_grown s.version s.ended s.segment) refl; handlers = c.handlers; guards = c.guards; begins = λ h. refl }

begun : (x y b : Bool) → (x || (false && y) || (true && not b)) ≡ false → b ≡ true
begun x y true h = refl
begun true y false h = absurd cc
begun false y false h = absurd cc

pub with_a_retire : (n : NativeData) (v : ℕ) (hs : List Body) (gs : List Check) (s : ScriptState) (p : ℕ) → Canon n v hs gs s → Fits n s (line.Retire p) → Canon n v hs gs (after n s 0 (line.Retire p))
with_a_retire n v hs gs s p c f =
    let l : LineMeaning = line.Retire p in
    let u : ScriptState = after n s 0 l in
    let none : s.segment.lines ≡ [] = c.begins (begun (ltb 8 s.section) (eqb s.section 1) s.begins f.order) in
    let rs : List LineMeaning = map line.Retire s.segment.retires in
    let bare : map line.Retire (s.segment.retires ++ p ∷ []) ++ map (lane_line s.version) s.segment.lines ≡ (rs ++ map (lane_line s.version) s.segment.lines) ++ l ∷ [] =
    ap (λ (y : List script.Line). map line.Retire (s.segment.retires ++ p ∷ []) ++ map (lane_line s.version) y) none
    ∙ append-nil (map line.Retire (s.segment.retires ++ p ∷ [])) ∙ map-append line.Retire s.segment.retires (p ∷ [])
    ∙ ap (λ (y : List LineMeaning). y ++ l ∷ []) (sym (ap (λ (y : List script.Line). rs ++ map (lane_line s.version) y) none ∙ append-nil rs)) in
    record {
      run = with_last n v hs gs s l c f refl refl (segments_of u) (segment_grown s.version s.ended s.segment u.segment (l ∷ []) bare) refl;
      handlers = c.handlers;
      guards = c.guards;
      begins = λ h. none;
    }
