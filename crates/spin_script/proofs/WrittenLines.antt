-- Written lines are read as what they were written from.
use Rattle.std.proofs.Common.{◌≡◌, ℕ, zero, suc, ◌+◌, ◌≤◌, inl, true, false, eqb, List, [], ◌∷◌, ◌++◌, length, map, decimal, Option, Some, None, Ok, codes, refl, sym, ap, ◌∙◌, append_assoc, arith}
use Rattle.std.specs.Prelude.{slice_index}
use Rattle.std.specs.List.{flat_map, AllByRecursion}
use Rattle.std.specs.Str.Lines.{lines}
use Rattle.std.proofs.lemmas.Bool.Decides.{nat_tests}
use Rattle.std.proofs.lemmas.Fmt.{decimal_digit}
use Rattle.std.proofs.lemmas.List.Folds.{flat_map-map}
use Rattle.spin_grammar.specs.declared.kind.Kind.{Kind}
use Rattle.spin_grammar.specs.declared.kind.Kind.TheVariants as kind
use Rattle.spin_text.specs.Words.{line_of}
use Rattle.spin_grammar.specs.Canonical.{spell}
use Rattle.spin_grammar.specs.Lines as line
use Rattle.spin_grammar.specs.Lines.{LineMeaning, form, line_kind}
use Rattle.spin_grammar.proofs.CanonicalSpelling.{line_respelled}
use Rattle.spin_grammar.proofs.CanonicalWords.{IsWord, decimal_word, line_words, words_back}
use Rattle.spin_script.specs.Sections.{first_words}
use Rattle.spin_grammar.specs.Lookup.{look_up}
use Rattle.spin_script.specs.States.{ScriptState, NativeData, start, after, with_handler, with_guard, with_authority}
use Rattle.spin_script.specs.Language.{Says, Begins, version_word, head, Passes, Outcome, outcome_at_end, ComesTo, IsScript}
use Rattle.spin_script.specs.Canonical.{first_word, words_of, text_of_lines, version_text}
use Rattle.spin_script.specs.RoundTrip.{Fits, LeadTo, is_version}
use Rattle.spin_script.proofs.CanonicalText.{IsPlain, line_allowed, line_first, lines_back}
use Rattle.spin_script.proofs.ScriptReading.{is_script}

-- ---- one line

first_known : (k : Kind) → look_up (first_word k) first_words ≡ Some k
first_known kind.Modules = refl
first_known kind.Event = refl
first_known kind.Endpoint = refl
first_known kind.Handler = refl
first_known kind.Guard = refl
first_known kind.Rule = refl
first_known kind.Authoriser = refl
first_known kind.Default = refl
first_known kind.Lane = refl
first_known kind.Barrier = refl
first_known kind.Retire = refl

no_comment : (k : Kind) → eqb (slice_index (first_word k) 0) 35 ≡ false
no_comment kind.Modules = refl
no_comment kind.Event = refl
no_comment kind.Endpoint = refl
no_comment kind.Handler = refl
no_comment kind.Guard = refl
no_comment kind.Rule = refl
no_comment kind.Authoriser = refl
no_comment kind.Default = refl
no_comment kind.Lane = refl
no_comment kind.Barrier = refl
no_comment kind.Retire = refl

first_printed : (k : Kind) → IsWord (first_word k)
first_printed kind.Modules = refl
first_printed kind.Event = refl
first_printed kind.Endpoint = refl
first_printed kind.Handler = refl
first_printed kind.Guard = refl
first_printed kind.Rule = refl
first_printed kind.Authoriser = refl
first_printed kind.Default = refl
first_printed kind.Lane = refl
first_printed kind.Barrier = refl
first_printed kind.Retire = refl

abbrev pub written : LineMeaning → List ℕ
written l = line_of (words_of l)

are_words : (n : NativeData) (s : ScriptState) (l : LineMeaning) → Fits n s l → AllByRecursion IsWord (words_of l)
are_words n s l f = (first_printed (line_kind l), line_words s.version (line_kind l) f.said.0 l f.said.1)

said_head : (n : NativeData) (s : ScriptState) (l : LineMeaning) → eqb s.version 0 ≡ false → Fits n s l → head s (written l) ≡ Ok (Says (line_kind l) (map spell (form l)))
unfolding head
said_head n s l v f =
    rw (line_allowed (words_of l) (are_words n s l f), words_back (first_word (line_kind l)) (map spell (form l)) (are_words n s l f), no_comment (line_kind l), v, first_known (line_kind l), f.order)
    refl

line_passes : (n : NativeData) (s : ScriptState) (number : ℕ) (l : LineMeaning) → eqb s.version 0 ≡ false → Fits n s l → Passes n s number (head s (written l)) (after n s number l)
line_passes n s number l v f = rw (said_head n s l v f) (l, line_respelled s.version (line_kind l) f.said.0 l f.said.1, f.good, refl)

-- ---- all lines

kept_handler : (n : NativeData) (s : ScriptState) (o : Option ℕ) → (with_handler n s o).version ≡ s.version
kept_handler n s None = refl
kept_handler n s (Some native) = refl

kept_guard : (n : NativeData) (s : ScriptState) (o : Option ℕ) → (with_guard n s o).version ≡ s.version
kept_guard n s None = refl
kept_guard n s (Some native) = refl

kept_authority : (s : ScriptState) (event : ℕ) (o : Option ℕ) → (with_authority s event o).version ≡ s.version
kept_authority s event None = refl
kept_authority s event (Some native) = refl

pub same_version : (n : NativeData) (s : ScriptState) (number : ℕ) (l : LineMeaning) → (after n s number l).version ≡ s.version
same_version n s number (line.Modules count) = refl
same_version n s number (line.Event e owner sig m) = refl
same_version n s number (line.Endpoint p name) = refl
same_version n s number (line.Handler h sig steps) = refl
same_version n s number (line.NativeHandler h name) = kept_handler n s _
same_version n s number (line.Guard g sig t) = refl
same_version n s number (line.NativeGuard g name) = kept_guard n s _
same_version n s number (line.Rules e r) = refl
same_version n s number (line.Authoriser e name) = kept_authority s e _
same_version n s number (line.Default e h) = refl
same_version n s number (line.Lane l t) = refl
same_version n s number line.Barrier = refl
same_version n s number (line.Retire p) = refl

lines_come : (n : NativeData) (s t : ScriptState) (number : ℕ) (ls : List LineMeaning) (o : Outcome)
    → eqb s.version 0 ≡ false → LeadTo n s number ls t → o ≡ outcome_at_end n t → ComesTo n s number (map written ls) o
lines_come n s t number [] o v h e = e ∙ ap (λ (u : ScriptState). outcome_at_end n u) h
lines_come n s t number (l ∷ ls) o v h e =
    let same : eqb (after n s number l).version 0 ≡ false = ap (λ (version : ℕ). eqb version 0) (same_version n s number l) ∙ v in
    inl (after n s number l, line_passes n s number l v h.0, lines_come n (after n s number l) t (number + 1) ls o same h.1 e)

plain_lines : (n : NativeData) (s t : ScriptState) (number : ℕ) (ls : List LineMeaning) → LeadTo n s number ls t → AllByRecursion IsPlain (map written ls)
plain_lines n s t number [] h = tt
plain_lines n s t number (l ∷ ls) h = (line_allowed (words_of l) (are_words n s l h.0), plain_lines n (after n s number l) t (number + 1) ls h.1)

-- ---- the first line

version_back : (version : ℕ) → is_version version ≡ true → version_word (decimal version) ≡ Some version
version_back zero h = absurd (grind (arith, nat_tests, h))
version_back (suc zero) h = rw (decimal_digit 1 (omega arith)) refl
version_back (suc (suc zero)) h = rw (decimal_digit 2 (omega arith)) refl
version_back (suc (suc (suc zero))) h = rw (decimal_digit 3 (omega arith)) refl
version_back (suc (suc (suc (suc more)))) h = absurd (grind (arith, nat_tests, h))

abbrev version_words : ℕ → List (List ℕ)
version_words version = codes "spin" ∷ decimal version ∷ []

version_printed : (version : ℕ) → is_version version ≡ true → AllByRecursion IsWord (version_words version)
version_printed version h =
    let small : version ≤ 3 = grind (arith, nat_tests, h) in
    (refl, (decimal_word version (omega (arith, small)), tt))

version_head : (version : ℕ) → is_version version ≡ true → head start (line_of (version_words version)) ≡ Ok (Begins version)
unfolding head
version_head version h =
    rw (line_allowed (version_words version) (version_printed version h), words_back (codes "spin") (decimal version ∷ []) (version_printed version h), version_back version h) refl

-- ---- the text

text_lines : (version : ℕ) (ls : List LineMeaning) → is_version version ≡ true → AllByRecursion IsPlain (map written ls)
    → lines (version_text version ++ text_of_lines ls) ≡ line_of (version_words version) ∷ map written ls
text_lines version ls v h =
    let ends : text_of_lines ls ≡ flat_map (λ (l : List ℕ). l ++ 10 ∷ []) (map written ls) = sym (flat_map-map (λ (l : List ℕ). l ++ 10 ∷ []) written ls) in
    ap lines (append_assoc (line_of (version_words version)) (10 ∷ []) (text_of_lines ls))
    ∙ line_first (line_of (version_words version)) (text_of_lines ls) (line_allowed (version_words version) (version_printed version v))
    ∙ ap (λ (t : List ℕ). line_of (version_words version) ∷ lines t) ends
    ∙ ap (λ (more : List (List ℕ)). line_of (version_words version) ∷ more) (lines_back (map written ls) h)

pub some_version : (version : ℕ) → is_version version ≡ true → eqb version 0 ≡ false
some_version version h = grind (arith, nat_tests, h)

pub lines_read : (n : NativeData) (version : ℕ) (ls : List LineMeaning) (t : ScriptState) (o : Outcome)
    → is_version version ≡ true → LeadTo n (record start { version = version }) 2 ls t → o ≡ outcome_at_end n t
    → length (version_text version ++ text_of_lines ls) ≤ 1048576 → IsScript n (version_text version ++ text_of_lines ls) o
lines_read n version ls t o v h e small =
    let first : ScriptState = record start { version = version } in
    let passes : Passes n start 1 (head start (line_of (version_words version))) first = rw (version_head version v) refl in
    let comes : ComesTo n start 1 (line_of (version_words version) ∷ map written ls) o = inl (first, passes, lines_come n first t 2 ls o (some_version version v) h e) in
    is_script n (version_text version ++ text_of_lines ls) o small (rw (text_lines version ls v (plain_lines n first t 2 ls h)) comes)
