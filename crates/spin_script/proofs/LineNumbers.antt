-- The numbers of lines aside, a line does the same to states that are the same.
use Rattle.std.proofs.Common.{◌≡◌, ℕ, List, [], ◌∷◌, map, Option, Some, None, refl, sym, ap, ◌∙◌}
use Rattle.std.proofs.lemmas.List.{map-append}
use Rattle.spin_grammar.specs.Lines as line
use Rattle.spin_grammar.specs.Lines.{LineMeaning}
use Rattle.spin_script.specs.declared.script.Line as script
use Rattle.spin_script.specs.declared.script.Segment.{Segment}
use Rattle.spin_grammar.specs.Tasks.{work_of}
use Rattle.spin_script.specs.States.{ScriptState, NativeData, after, with_handler, with_guard, with_authority, native_at, script_in}
use Rattle.spin_script.specs.Checks.{checks}
use Rattle.spin_script.specs.RoundTrip.{unnumbered_line, unnumbered_segment, unnumbered}

-- the state without the numbers of its lines
abbrev pub bare : ScriptState → ScriptState
bare s = record s { ended = map unnumbered_segment s.ended; segment = unnumbered_segment s.segment }

same_checks : (n : NativeData) (s : ScriptState) (l : LineMeaning) → checks n (bare s) l ≡ checks n s l
same_checks n s (line.Modules count) = refl
same_checks n s (line.Event e owner sig m) = refl
same_checks n s (line.Endpoint p name) = refl
same_checks n s (line.Handler h sig steps) = refl
same_checks n s (line.NativeHandler h name) = refl
same_checks n s (line.Guard g sig t) = refl
same_checks n s (line.NativeGuard g name) = refl
same_checks n s (line.Rules e r) = refl
same_checks n s (line.Authoriser e name) = refl
same_checks n s (line.Default e h) = refl
same_checks n s (line.Lane l t) = refl
same_checks n s line.Barrier = refl
same_checks n s (line.Retire p) = refl

pub checks_alike : (n : NativeData) (s u : ScriptState) (l : LineMeaning) → bare s ≡ bare u → checks n s l ≡ checks n u l
checks_alike n s u l e = sym (same_checks n s l) ∙ ap (λ (t : ScriptState). checks n t l) e ∙ same_checks n u l

bare_handler : (n : NativeData) (s : ScriptState) (o : Option ℕ) → bare (with_handler n s o) ≡ with_handler n (bare s) o
bare_handler n s None = refl
bare_handler n s (Some native) = refl

bare_guard : (n : NativeData) (s : ScriptState) (o : Option ℕ) → bare (with_guard n s o) ≡ with_guard n (bare s) o
bare_guard n s None = refl
bare_guard n s (Some native) = refl

bare_authority : (s : ScriptState) (event : ℕ) (o : Option ℕ) → bare (with_authority s event o) ≡ with_authority (bare s) event o
bare_authority s event None = refl
bare_authority s event (Some native) = refl

pub bare_after : (n : NativeData) (s : ScriptState) (number : ℕ) (l : LineMeaning) → bare (after n s number l) ≡ after n (bare s) 0 l
bare_after n s number (line.Modules count) = refl
bare_after n s number (line.Event e owner sig m) = refl
bare_after n s number (line.Endpoint p name) = refl
bare_after n s number (line.Handler h sig steps) = refl
bare_after n s number (line.NativeHandler h name) = bare_handler n s (native_at name n.handlers)
bare_after n s number (line.Guard g sig t) = refl
bare_after n s number (line.NativeGuard g name) = bare_guard n s (native_at name n.guards)
bare_after n s number (line.Rules e r) = refl
bare_after n s number (line.Authoriser e name) = bare_authority s e (native_at name n.authorisers)
bare_after n s number (line.Default e h) = refl
bare_after n s number (line.Lane l t) =
    ap (λ (ls : List script.Line). record (after n (bare s) 0 (line.Lane l t)) { segment = record { retires = s.segment.retires; lines = ls } })
    (map-append unnumbered_line s.segment.lines (record { number = number; lane = l; work = work_of l t } ∷ []))
bare_after n s number line.Barrier =
    ap (λ (es : List Segment). record (after n (bare s) 0 line.Barrier) { ended = es }) (map-append unnumbered_segment s.ended (s.segment ∷ []))
bare_after n s number (line.Retire p) = refl

pub after_alike : (n : NativeData) (s u : ScriptState) (j k : ℕ) (l : LineMeaning) → bare s ≡ bare u → bare (after n s j l) ≡ bare (after n u k l)
after_alike n s u j k l e = bare_after n s j l ∙ ap (λ (t : ScriptState). after n t 0 l) e ∙ sym (bare_after n u k l)

pub bare_script : (n : NativeData) (s : ScriptState) → unnumbered (script_in n s) ≡ script_in n (bare s)
bare_script n s = ap (λ (ss : List Segment). record (script_in n (bare s)) { segments = ss }) (map-append unnumbered_segment s.ended (s.segment ∷ []))

pub scripts_alike : (n : NativeData) (s u : ScriptState) → bare s ≡ bare u → unnumbered (script_in n s) ≡ unnumbered (script_in n u)
scripts_alike n s u e = bare_script n s ∙ ap (λ (t : ScriptState). script_in n t) e ∙ sym (bare_script n u)
