-- Lines behind one another, whatever their numbers are.
use Rattle.std.proofs.Common.{◌≡◌, ℕ, ◌+◌, ◌≤◌, ◌&&◌, ◌||◌, Bool, true, false, cond, eqb, ltb, List, [], ◌∷◌, ◌++◌, length, map, Option, Some, None, refl, sym, ap, subst, ◌∙◌, arith}
use Rattle.std.specs.Prelude.{not, is_none, slice_get}
use Rattle.std.specs.List.{AllByRecursion}
use Rattle.std.proofs.lemmas.Bool.Decides.{nat_tests}
use Rattle.spin_table.specs.declared.event.EventDef.{EventDef}
use Rattle.spin_grammar.specs.declared.cause.Cause.{Cause}
use Rattle.spin_grammar.specs.declared.cause.Cause.TheVariants as cause
use Rattle.spin_grammar.specs.declared.kind.Kind.{Kind}
use Rattle.spin_grammar.specs.Lines as line
use Rattle.spin_grammar.specs.Lines.{LineMeaning, line_kind}
use Rattle.spin_script.specs.declared.script.Line as script
use Rattle.spin_script.specs.declared.script.Segment.{Segment}
use Rattle.spin_script.specs.Sections.{section, is_retire, is_out_of_order}
use Rattle.spin_script.specs.States.{ScriptState, NativeData, native_at, after, with_handler, with_guard, with_authority}
use Rattle.spin_values.specs.First.{first_of}
use Rattle.spin_script.specs.Checks.{checks, native_checks, policy_at, authoriser_checks}
use Rattle.spin_script.specs.RoundTrip.{Fits, LeadTo, unnumbered_line, unnumbered_segment}
use Rattle.spin_script.proofs.LineNumbers.{bare, bare_after}
use Rattle.spin_script.proofs.WritableScripts.{fits}

abbrev pub Runs : NativeData → ScriptState → List LineMeaning → ScriptState → Type 0
Runs n s [] t = t ≡ s
Runs n s (l ∷ ls) t = Fits n s l × Runs n (after n s 0 l) ls t

pub runs_append : (n : NativeData) (s t u : ScriptState) (xs ys : List LineMeaning) → Runs n s xs t → Runs n t ys u → Runs n s (xs ++ ys) u
runs_append n s t u [] ys h k = subst (λ (x : ScriptState). Runs n x ys u) h k
runs_append n s t u (x ∷ xs) ys h k = (h.0, runs_append n (after n s 0 x) t u xs ys h.1 k)

-- one line more
pub runs_last : (n : NativeData) (s t : ScriptState) (xs : List LineMeaning) (l : LineMeaning) → Runs n s xs t → Fits n t l → Runs n s (xs ++ l ∷ []) (after n t 0 l)
runs_last n s t xs l h f = runs_append n s t (after n t 0 l) xs (l ∷ []) h (f, refl)

-- two parts, one after the other
pub runs_split : (n : NativeData) (s u : ScriptState) (xs ys : List LineMeaning) → Runs n s (xs ++ ys) u → (t : ScriptState) × Runs n s xs t × Runs n t ys u
runs_split n s u [] ys h = (s, refl, h)
runs_split n s u (x ∷ xs) ys h = let more = runs_split n (after n s 0 x) u xs ys h.1 in (more.0, (h.0, more.1), more.2)

-- ---- numbers

twice : {A : Type 0} (f : A → A) → ((x : A) → f (f x) ≡ f x) → (xs : List A) → map f (map f xs) ≡ map f xs
twice f h [] = refl
twice {A} f h (x ∷ xs) = ap (λ (y : A). y ∷ map f (map f xs)) (h x) ∙ ap (λ (ys : List A). f x ∷ ys) (twice f h xs)

segment_twice : (s : Segment) → unnumbered_segment (unnumbered_segment s) ≡ unnumbered_segment s
segment_twice s = ap (λ (ls : List script.Line). record { retires = s.retires; lines = ls }) (twice unnumbered_line (λ l. refl) s.lines)

bare_twice : (s : ScriptState) → bare (bare s) ≡ bare s
bare_twice s =
    ap (λ (es : List Segment). record s { ended = es; segment = unnumbered_segment (unnumbered_segment s.segment) }) (twice unnumbered_segment segment_twice s.ended)
    ∙ ap (λ (e : Segment). record s { ended = map unnumbered_segment s.ended; segment = e }) (segment_twice s.segment)

fits_alike : (n : NativeData) (s u : ScriptState) (l : LineMeaning) → bare s ≡ bare u → Fits n s l → Fits n u l
fits_alike n s u l a f = fits n s u (line_kind l) f.said.0 l a f.said.1 f.order f.good

-- a line that fits behind the script so far fits behind it without numbers
pub fits_bare : (n : NativeData) (s : ScriptState) (l : LineMeaning) → Fits n s l → Fits n (bare s) l
fits_bare n s l f = fits_alike n s (bare s) l (sym (bare_twice s)) f

pub runs_of : (n : NativeData) (s t : ScriptState) (k : ℕ) (ls : List LineMeaning) → LeadTo n s k ls t → Runs n (bare s) ls (bare t)
runs_of n s t k [] h = ap bare h
runs_of n s t k (l ∷ ls) h =
    (fits_bare n s l h.0, subst (λ (x : ScriptState). Runs n x ls (bare t)) (bare_after n s k l) (runs_of n (after n s k l) t (k + 1) ls h.1))

pub leads_of : (n : NativeData) (s t : ScriptState) (k : ℕ) (ls : List LineMeaning) → Runs n (bare s) ls t → (u : ScriptState) × LeadTo n s k ls u × (bare u ≡ t)
leads_of n s t k [] h = (s, refl, sym h)
leads_of n s t k (l ∷ ls) h =
    let more = leads_of n (after n s k l) t (k + 1) ls (subst (λ (x : ScriptState). Runs n x ls t) (sym (bare_after n s k l)) h.1) in
    (more.0, (fits_alike n (bare s) s l (bare_twice s) h.0, more.1), more.2)

-- ---- sections

pub in_order : (k : Kind) (before : ℕ) (begins : Bool) → is_out_of_order k before begins ≡ false → before ≤ section k
in_order k before begins h = by_first (ltb (section k) before) refl h
  where
    by_first : (b : Bool) → ltb (section k) before ≡ b → (b || (eqb (section k) 1 && eqb before 1) || (is_retire k && not begins)) ≡ false → before ≤ section k
    by_first false e h = grind (arith, nat_tests, e)
    by_first true e h = absurd cc

pub refused : (b : Bool) (c d : Cause) → cond b (Some c) (Some d) ≡ None → ⊥
refused true c d e = absurd cc
refused false c d e = absurd cc

handler_section : (n : NativeData) (s : ScriptState) (b : Bool) (o : Option ℕ) → first_of ((b, cause.Next) ∷ native_checks n s o) ≡ None → (with_handler n s o).section ≡ 4
handler_section n s b None e = absurd (refused b cause.Next cause.Native e)
handler_section n s b (Some native) e = refl

guard_section : (n : NativeData) (s : ScriptState) (b : Bool) (o : Option ℕ) → first_of ((b, cause.Next) ∷ (is_none o, cause.Native) ∷ []) ≡ None → (with_guard n s o).section ≡ 5
guard_section n s b None e = absurd (refused b cause.Next cause.Native e)
guard_section n s b (Some native) e = refl

pub no_authoriser : (s : ScriptState) (e : Option EventDef) → first_of (authoriser_checks s None e) ≡ None → ⊥
no_authoriser s None h = absurd cc
no_authoriser s (Some e) h = refused _ cause.Mismatch cause.Native h

authority_section : (n : NativeData) (s : ScriptState) (event : ℕ) (o : Option ℕ)
    → first_of (authoriser_checks s (policy_at n o) (slice_get s.events event)) ≡ None → (with_authority s event o).section ≡ 6
authority_section n s event None h = absurd (no_authoriser s (slice_get s.events event) h)
authority_section n s event (Some native) h = refl

pub after_section : (n : NativeData) (s : ScriptState) (number : ℕ) (l : LineMeaning) → first_of (checks n s l) ≡ None → (after n s number l).section ≡ section (line_kind l)
after_section n s number (line.Modules count) h = refl
after_section n s number (line.Event e owner sig m) h = refl
after_section n s number (line.Endpoint p name) h = refl
after_section n s number (line.Handler k sig steps) h = refl
after_section n s number (line.NativeHandler k name) h = handler_section n s (not (eqb k (length s.handlers + 1))) (native_at name n.handlers) h
after_section n s number (line.Guard g sig t) h = refl
after_section n s number (line.NativeGuard g name) h = guard_section n s (not (eqb g (length s.guards + 1))) (native_at name n.guards) h
after_section n s number (line.Rules e r) h = refl
after_section n s number (line.Authoriser e name) h = authority_section n s e (native_at name n.authorisers) h
after_section n s number (line.Default e k) h = refl
after_section n s number (line.Lane l t) h = refl
after_section n s number line.Barrier h = refl
after_section n s number (line.Retire p) h = refl

-- no line stands in a section behind the last
pub in_sections : (n : NativeData) (s t : ScriptState) (ls : List LineMeaning) → Runs n s ls t → (s.section ≤ t.section) × AllByRecursion (λ (l : LineMeaning). section (line_kind l) ≤ t.section) ls
in_sections n s t [] h = let same : t.section ≡ s.section = ap (λ (x : ScriptState). x.section) h in (omega (arith, same), tt)
in_sections n s t (l ∷ ls) h =
    let more = in_sections n (after n s 0 l) t ls h.1 in
    let here : (after n s 0 l).section ≡ section (line_kind l) = after_section n s 0 l h.0.good in
    let before : s.section ≤ section (line_kind l) = in_order (line_kind l) s.section s.begins h.0.order in
    (omega (arith, more.0, here, before), (omega (arith, more.0, here), more.1))
