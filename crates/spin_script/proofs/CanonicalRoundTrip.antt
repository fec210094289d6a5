-- The canonical text of each script is read as that script, but for the numbers of its lines.
use Rattle.std.proofs.Common.{◌≡◌, ℕ, zero, suc, ◌≤◌, Bool, true, false, eqb, List, [], ◌∷◌, ◌++◌, length, map, Some, Ok, codes, refl, sym, ap, subst, ◌∙◌, arith}
use Rattle.std.specs.Prelude.{nat_lt, slice_get}
use Rattle.std.specs.List.{flat_map, enumerate_from}
use Rattle.std.specs.Str.Lines.{lines}
use Rattle.std.proofs.lemmas.Bool.Decides.{nat_tests}
use Rattle.spin_objects.specs.declared.unit.Body.{Body}
use Rattle.spin_objects.specs.declared.unit.Check.{Check}
use Rattle.spin_grammar.specs.declared.kind.Kind.TheVariants as kind
use Rattle.spin_grammar.specs.Spelling.{number}
use Rattle.spin_grammar.specs.Grammar.{Numeral, Number, accepts, reads}
use Rattle.spin_grammar.specs.Lines as line
use Rattle.spin_grammar.specs.Lines.{LineMeaning}
use Rattle.spin_script.specs.declared.script.Line as script
use Rattle.spin_script.specs.declared.script.Segment.{Segment}
use Rattle.spin_script.specs.Sections.{is_out_of_order}
use Rattle.spin_script.specs.States.{ScriptState, NativeData, ScriptData, start, native_at, after, script_in}
use Rattle.spin_script.specs.Language.{most_bytes, IsScript}
use Rattle.spin_script.specs.Canonical.{event_line, endpoint_line, lane_line, segment_lines, segments_lines, lines_of, version_text, text_of_lines, canonical_of}
use Rattle.spin_script.specs.RoundTrip.{CanBeSaid, Fits, is_version, unnumbered_line, unnumbered_segment, unnumbered, ComesBack, ScriptsComeBack}
use Rattle.spin_script.specs.Inner.Declaring.{bodies_after, checks_after, HasCome}
use Rattle.spin_script.proofs.LineNumbers.{bare, bare_after, bare_script}
use Rattle.spin_script.proofs.WrittenLines.{same_version, some_version, lines_read}
use Rattle.spin_script.proofs.WritableScripts.{opening, came, made, makes, small_enough}
use Rattle.spin_script.proofs.LineRuns.{Runs, fits_bare, runs_of, leads_of}
use Rattle.spin_script.proofs.CanonicalBlocks.{events_of, endpoints_of, handler_lines, guard_lines, authority_of, default_of, segments_of, blocks, one, at}
use Rattle.spin_script.proofs.LineSwaps.{all_lines}
use Rattle.spin_script.proofs.CanonicalLines.{Canon, empties_for, six_cut, with_an_event, with_an_endpoint, with_a_handler, with_a_native}
use Rattle.spin_script.proofs.CanonicalLines.{with_a_guard, with_a_native_guard, with_a_lane, with_a_barrier, with_a_retire}
use Rattle.spin_script.proofs.CanonicalPlaces.{rule_at, authoriser_at, default_at}

-- ---- the number of modules

zero_section : (x : ℕ) (b : Bool) → is_out_of_order kind.Modules x b ≡ false → x ≡ 0
zero_section x b h = grind (arith, nat_tests, h)

with_modules : (n : NativeData) (v : ℕ) (hs : List Body) (gs : List Check) (s : ScriptState) (m : ℕ) → Canon n v hs gs s → Fits n s (line.Modules m) → Canon n v hs gs (after n s 0 (line.Modules m))
with_modules n v hs gs s m c f =
    let first : ScriptState = record start { version = v } in
    let is : s.section ≡ 0 = zero_section s.section s.begins f.order in
    let k : one s.section ≡ 1 = ap one is in
    let em = empties_for n v hs gs s c in
    let empty : blocks n hs gs s ≡ [] =
    six_cut (events_of s) (endpoints_of s) (handler_lines n hs) (guard_lines n gs) (all_lines (authority_of n) 0 s.events) (all_lines default_of 0 s.events) (segments_of s)
    (em.endpoints (omega (arith, k))) (em.handlers (omega (arith, k))) (em.guards (omega (arith, k)))
    (em.authorities (omega (arith, k))) (em.defaults (omega (arith, k))) (em.segments (omega (arith, k)))
    ∙ em.events (omega (arith, k)) in
    let ran = subst (λ (ls : List LineMeaning). Runs n first (line.Modules s.modules ∷ ls) (at s)) empty c.run in
    let version : s.version ≡ v = ap (λ (z : ScriptState). z.version) ran.1 in
    let fit : Fits n first (line.Modules m) = record { said = subst (λ (w : ℕ). CanBeSaid w (line.Modules m)) version f.said; order = refl; good = refl } in
    let there : at (after n s 0 (line.Modules m)) ≡ after n first 0 (line.Modules m) =
    ap (λ (j : ℕ). record s { section = j; modules = m }) (sym k) ∙ ap (λ (z : ScriptState). record z { modules = m }) ran.1 in
    record {
      run = subst (λ (ls : List LineMeaning). Runs n first (line.Modules m ∷ ls) (at (after n s 0 (line.Modules m)))) (sym empty) (fit, there);
      handlers = c.handlers;
      guards = c.guards;
      begins = c.begins;
    }

one_is : number (codes "1") ≡ Some 1
unfolding number
one_is = refl

one_word : accepts (Number 1 256) (codes "1") ≡ Ok (Numeral 1, [])
unfolding accepts
one_word = rw one_is refl

one_read : reads (Number 1 256 ∷ []) (codes "1" ∷ []) ≡ Ok (Numeral 1 ∷ [])
unfolding reads
one_read = rw (one_word, reads) refl

one_module : (v : ℕ) → CanBeSaid v (line.Modules 1)
one_module v = (codes "1" ∷ [], record { kind = refl; words = one_read })

begun : (n : NativeData) (v : ℕ) → Canon n v [] [] (record start { version = v })
begun n v = record { run = (record { said = one_module v; order = refl; good = refl }, refl); handlers = refl; guards = refl; begins = λ h. refl }

-- ---- all lines

-- one line more
step : (n : NativeData) (v : ℕ) (hs : List Body) (gs : List Check) (s : ScriptState) (l : LineMeaning)
    → Canon n v hs gs s → Fits n s l → Canon n v (bodies_after n hs l) (checks_after n gs l) (after n s 0 l)
step n v hs gs s (line.Modules m) c f = with_modules n v hs gs s m c f
step n v hs gs s (line.Event e owner sig m) c f = with_an_event n v hs gs s e owner sig m c f
step n v hs gs s (line.Endpoint p name) c f = with_an_endpoint n v hs gs s p name c f
step n v hs gs s (line.Handler h sig steps) c f = with_a_handler n v hs gs s h sig steps c f
step n v hs gs s (line.NativeHandler h name) c f = with_a_native n v hs gs s h name c f (native_at name n.handlers) refl
step n v hs gs s (line.Guard g sig t) c f = with_a_guard n v hs gs s g sig t c f
step n v hs gs s (line.NativeGuard g name) c f = with_a_native_guard n v hs gs s g name c f (native_at name n.guards) refl
step n v hs gs s (line.Rules e r) c f = rule_at n v hs gs s e r c f (slice_get s.events e) refl f.good
step n v hs gs s (line.Authoriser e name) c f = authoriser_at n v hs gs s e name c f (native_at name n.authorisers) refl (slice_get s.events e) refl f.good
step n v hs gs s (line.Default e h) c f = default_at n v hs gs s e h c f (slice_get s.events e) refl f.good
step n v hs gs s (line.Lane lane t) c f = with_a_lane n v hs gs s lane t c f
step n v hs gs s line.Barrier c f = with_a_barrier n v hs gs s c f
step n v hs gs s (line.Retire p) c f = with_a_retire n v hs gs s p c f

record Grown (n : NativeData) (v : ℕ) (t : ScriptState) : Type 0 where
  bodies : List Body
  checks : List Check
  canon : Canon n v bodies checks t

all_steps : (n : NativeData) (v : ℕ) (hs : List Body) (gs : List Check) (s t : ScriptState) (ls : List LineMeaning) → Canon n v hs gs s → Runs n s ls t → Grown n v t
all_steps n v hs gs s t [] c run = record { bodies = hs; checks = gs; canon = subst (λ (z : ScriptState). Canon n v hs gs z) (sym run) c }
all_steps n v hs gs s t (l ∷ ls) c run = all_steps n v (bodies_after n hs l) (checks_after n gs l) (after n s 0 l) t ls (step n v hs gs s l c run.0) run.1

-- lines that have come to a script so far
pub canon_of : (n : NativeData) (k : ℕ) (s : ScriptState) (hs : List Body) (gs : List Check) → HasCome n k s hs gs → Canon n s.version hs gs (bare s)
canon_of n zero s hs gs h =
    let first : ScriptState = record start { version = s.version } in
    subst (λ (z : ScriptState). Canon n s.version hs gs (bare z)) (sym h.0)
    (subst (λ (x : List Body). Canon n s.version x gs first) (sym h.1) (subst (λ (x : List Check). Canon n s.version [] x first) (sym h.2) (begun n s.version)))
canon_of n (suc k) s hs gs h =
    let t : ScriptState = h.0 in
    let l : LineMeaning = h.4 in
    let earlier : Canon n t.version h.1 h.2 (bare t) = canon_of n k t h.1 h.2 h.5 in
    let next = step n t.version h.1 h.2 (bare t) l earlier (fits_bare n t l h.6) in
    let there : bare s ≡ after n (bare t) 0 l = ap bare h.7 ∙ bare_after n t h.3 l in
    let version : s.version ≡ t.version = ap (λ (z : ScriptState). z.version) h.7 ∙ same_version n t h.3 l in
    subst (λ (v : ℕ). Canon n v hs gs (bare s)) (sym version)
    (subst (λ (z : ScriptState). Canon n t.version hs gs z) (sym there)
    (subst (λ (x : List Body). Canon n t.version x gs (after n (bare t) 0 l)) (sym h.8)
    (subst (λ (x : List Check). Canon n t.version (bodies_after n h.1 l) x (after n (bare t) 0 l)) (sym h.9) next)))

-- ---- numbers

same_lines : (v : ℕ) (ls : List script.Line) → map (lane_line v) (map unnumbered_line ls) ≡ map (lane_line v) ls
same_lines v [] = refl
same_lines v (l ∷ ls) = ap (λ (more : List LineMeaning). lane_line v l ∷ more) (same_lines v ls)

same_segment : (v : ℕ) (s : Segment) → segment_lines v (unnumbered_segment s) ≡ segment_lines v s
same_segment v s = ap (λ (more : List LineMeaning). map line.Retire s.retires ++ more) (same_lines v s.lines)

same_later : (v : ℕ) (ss : List Segment) → flat_map (λ (t : Segment). line.Barrier ∷ segment_lines v t) (map unnumbered_segment ss) ≡ flat_map (λ (t : Segment). line.Barrier ∷ segment_lines v t) ss
same_later v [] = refl
same_later v (s ∷ ss) =
    let each : Segment → List LineMeaning = λ t. line.Barrier ∷ segment_lines v t in
    ap (λ (more : List LineMeaning). (line.Barrier ∷ more) ++ flat_map each (map unnumbered_segment ss)) (same_segment v s) ∙ ap (λ (more : List LineMeaning). each s ++ more) (same_later v ss)

same_segments : (v : ℕ) (ss : List Segment) → segments_lines v (map unnumbered_segment ss) ≡ segments_lines v ss
same_segments v [] = refl
same_segments v (s ∷ ss) =
    let each : Segment → List LineMeaning = λ t. line.Barrier ∷ segment_lines v t in
    ap (λ (more : List LineMeaning). more ++ flat_map each (map unnumbered_segment ss)) (same_segment v s) ∙ ap (λ (more : List LineMeaning). segment_lines v s ++ more) (same_later v ss)

numberless : (n : NativeData) (hs : List Body) (gs : List Check) (d : ScriptData) → lines_of n hs gs (unnumbered d) ≡ lines_of n hs gs d
numberless n hs gs d =
    let rest : List LineMeaning = (((((map event_line (enumerate_from 0 d.setup.events) ++ map endpoint_line (enumerate_from 0 d.endpoints)) ++ handler_lines n hs) ++ guard_lines n gs)
    ++ all_lines (authority_of n) 0 d.setup.events) ++ all_lines default_of 0 d.setup.events) in
    ap (λ (more : List LineMeaning). line.Modules d.setup.modules ∷ (rest ++ more)) (same_segments d.version d.segments)

-- ---- the whole

-- where the canonical lines lead to a script, its canonical text is read as it
pub is_back : (n : NativeData) (hs : List Body) (gs : List Check) (s : ScriptState) → is_version s.version ≡ true
    → Canon n s.version hs gs (bare s) → ComesBack n (canonical_of n hs gs (script_in n s)) (script_in n s)
is_back n hs gs s is c =
    let first : ScriptState = record start { version = s.version } in
    let d : ScriptData = script_in n s in
    let all : List LineMeaning = lines_of n hs gs (script_in n (bare s)) in
    let led = leads_of n first (at (bare s)) 2 all c.run in
    let u : ScriptState = led.0 in
    let bared : script_in n (bare s) ≡ unnumbered d = sym (bare_script n s) in
    let same : all ≡ lines_of n hs gs d = ap (lines_of n hs gs) bared ∙ numberless n hs gs d in
    let w : eqb u.version 0 ≡ false = ap (λ (z : ScriptState). eqb z.version 0) led.2 ∙ some_version s.version is in
    let e : ScriptData = script_in n u in
    let equal : unnumbered e ≡ unnumbered d = bare_script n u ∙ ap (λ (z : ScriptState). script_in n z) led.2 ∙ bared in
    λ small. (
      e,
      subst (λ (ls : List LineMeaning). IsScript n (version_text s.version ++ text_of_lines ls) (Ok e)) same
          (lines_read n s.version all u (Ok e) is led.1 (makes n u w) (subst (λ (ls : List LineMeaning). length (version_text s.version ++ text_of_lines ls) ≤ 1048576) (sym same) small)),
      equal,
    )

pub come_back : ScriptsComeBack
come_back n text d h =
    let o = opening n 1 (lines text) d (small_enough n text d (nat_lt most_bytes (length text)) h) in
    let first : ScriptState = record start { version = o.version } in
    let c = came n o.number o.more d first first 2 (some_version o.version o.is) refl o.comes in
    let v : eqb c.last.version 0 ≡ false = ap (λ (x : ℕ). eqb x 0) c.version ∙ some_version o.version o.is in
    let was : d ≡ script_in n c.last = made n c.last d v c.ends in
    let g = all_steps n o.version [] [] first (bare c.other) c.said (begun n o.version) (runs_of n first c.other 2 c.said c.leads) in
    let bodies : List Body = g.bodies in
    let checks : List Check = g.checks in
    let canon : Canon n c.last.version bodies checks (bare c.last) =
    subst (λ (x : ℕ). Canon n x bodies checks (bare c.last)) (sym c.version) (subst (λ (z : ScriptState). Canon n o.version bodies checks z) (sym c.alike) g.canon) in
    let is : is_version c.last.version ≡ true = ap is_version c.version ∙ o.is in (
      bodies,
      checks,
      canon.handlers ∙ sym (ap (λ (x : ScriptData). x.setup.handlers) was),
      canon.guards ∙ sym (ap (λ (x : ScriptData). x.setup.guards) was),
      subst (λ (x : ScriptData). ComesBack n (canonical_of n bodies checks x) x) (sym was) (is_back n bodies checks c.last is canon),
    )
