-- A text comes to one thing.
use Rattle.std.proofs.Common.{◌≡◌, ℕ, ◌+◌, ◌==◌, Bool, true, false, nat_lt, if◌then◌else◌, List, [], ◌∷◌, length, Option, Some, None, Result, Ok, Err, refl, sym, ap, subst, ◌∙◌, inl, inr}
use Rattle.std.specs.Bool.{MatchBool}
use Rattle.std.specs.Str.Lines.{lines}
use Rattle.spin_grammar.specs.declared.cause.Cause.{Cause}
use Rattle.spin_grammar.specs.declared.cause.Cause.TheVariants as cause
use Rattle.spin_grammar.specs.declared.kind.Kind.{Kind}
use Rattle.spin_grammar.specs.Grammar.{reads}
use Rattle.spin_grammar.specs.Bare.{bare_line}
use Rattle.spin_grammar.specs.Lines.{LineMeaning, form, wanted, Spells}
use Rattle.spin_grammar.proofs.LineUniqueness.{one_line}
use Rattle.spin_script.specs.States.{ScriptState, NativeData, start, script_in, after}
use Rattle.spin_values.specs.First.{first_of}
use Rattle.spin_script.specs.Checks.{checks}
use Rattle.spin_script.specs.Language.{Head, Skipped, Begins, Says, head, SaysWell, SaysIll, Passes, IsLineRefused, Outcome, outcome_at_end, ComesTo, IsScript, most_bytes}
use Rattle.spin_script.specs.Laws.{AreOne}
use Rattle.spin_script.proofs.BareLines.{bare_state, bare_natives, checks_same, after_same}

ok_is : {A B : Type 0} (r : Result A B) (a b : A) → r ≡ Ok a → r ≡ Ok b → a ≡ b
ok_is r a b e f = cc

err_is : {A B : Type 0} (r : Result A B) (a b : B) → r ≡ Err a → r ≡ Err b → a ≡ b
err_is r a b e f = cc

not_both : {A B : Type 0} (r : Result A B) (a : A) (b : B) → r ≡ Ok a → r ≡ Err b → ⊥
not_both r a b e f = absurd (cc)

some_is : {A : Type 0} (o : Option A) (a b : A) → o ≡ Some a → o ≡ Some b → a ≡ b
some_is o a b e f = cc

not_none : {A : Type 0} (o : Option A) (a : A) → o ≡ None → o ≡ Some a → ⊥
not_none o a e f = absurd (cc)

-- ---- one line behind scripts that are one

abbrev Alike : ScriptState → ScriptState → Type 0
Alike s t = bare_state s ≡ bare_state t

head_same : (s : ScriptState) (text : List ℕ) → head (bare_state s) text ≡ head s text
unfolding head
head_same s text = refl

heads : (s t : ScriptState) (text : List ℕ) → Alike s t → head s text ≡ head t text
heads s t text e = sym (head_same s text) ∙ ap (λ (u : ScriptState). head u text) e ∙ head_same t text

version_same : (s t : ScriptState) → Alike s t → s.version ≡ t.version
version_same s t e = ap (λ (u : ScriptState). u.version) e

-- the words say one thing
one : (s t : ScriptState) (k : Kind) (ws : List (List ℕ)) (l m : LineMeaning) → Alike s t → Spells s.version k ws l → Spells t.version k ws m → bare_line l ≡ bare_line m
one s t k ws l m e a b =
    let read = ap (λ (v : ℕ). reads (wanted v k) ws) (version_same s t e) ∙ b.words in
    one_line l m (a.kind ∙ sym b.kind) (ok_is (reads (wanted s.version k) ws) (form l) (form m) a.words read)

-- and have the same first cause
causes : (n : NativeData) (s t : ScriptState) (k : Kind) (ws : List (List ℕ)) (l m : LineMeaning) → Alike s t
    → Spells s.version k ws l → Spells t.version k ws m → first_of (checks n s l) ≡ first_of (checks n t m)
causes n s t k ws l m e a b =
    ap first_of (sym (checks_same n s l) ∙ ap (λ (u : ScriptState). checks n u (bare_line l)) e ∙ ap (checks n (bare_state t)) (one s t k ws l m e a b) ∙ checks_same n t m)

afters : (n : NativeData) (s t : ScriptState) (number : ℕ) (l m : LineMeaning) → Alike s t → bare_line l ≡ bare_line m → Alike (after n s number l) (after n t number m)
afters n s t number l m e same =
    after_same n s number l ∙ ap (λ (u : ScriptState). after (bare_natives n) u number (bare_line l)) e ∙ ap (after (bare_natives n) (bare_state t) number) same ∙ sym (after_same n t number m)

both_pass : (n : NativeData) (s t : ScriptState) (number : ℕ) (h : Result Head Cause) (s' t' : ScriptState) → Alike s t → Passes n s number h s' → Passes n t number h t' → Alike s' t'
both_pass n s t number (Err c) s' t' e a b = absurd a
both_pass n s t number (Ok Skipped) s' t' e a b = ap bare_state a ∙ e ∙ sym (ap bare_state b)
both_pass n s t number (Ok (Begins version)) s' t' e a b =
    ap bare_state a ∙ ap (λ (u : ScriptState). record u { version = version }) e ∙ sym (ap bare_state b)
both_pass n s t number (Ok (Says k ws)) s' t' e a b =
    ap bare_state a.3 ∙ afters n s t number a.0 b.0 e (one s t k ws a.0 b.0 e a.1 b.1) ∙ sym (ap bare_state b.3)

ill : (n : NativeData) (s t : ScriptState) (number : ℕ) (k : Kind) (ws : List (List ℕ)) (s' : ScriptState) (c : Cause) → Alike s t → SaysWell n s number k ws s' → SaysIll n t k ws c → ⊥
ill n s t number k ws s' c e a (inl wrong) =
    not_both (reads (wanted t.version k) ws) (form a.0) c (ap (λ (v : ℕ). reads (wanted v k) ws) (sym (version_same s t e)) ∙ a.1.words) wrong
ill n s t number k ws s' c e a (inr b) =
    not_none (first_of (checks n t b.0)) c (sym (causes n s t k ws a.0 b.0 e a.1 b.1) ∙ a.2) b.2

-- a line doesn't both pass and not pass
one_way : (n : NativeData) (s t : ScriptState) (number : ℕ) (h : Result Head Cause) (s' : ScriptState) (c : Cause) → Alike s t → Passes n s number h s' → IsLineRefused n t h c → ⊥
one_way n s t number (Err why) s' c e a b = a
one_way n s t number (Ok Skipped) s' c e a b = b
one_way n s t number (Ok (Begins version)) s' c e a b = b
one_way n s t number (Ok (Says k ws)) s' c e a b = ill n s t number k ws s' c e a b

one_cause : (n : NativeData) (s t : ScriptState) (k : Kind) (ws : List (List ℕ)) (c d : Cause) → Alike s t → SaysIll n s k ws c → SaysIll n t k ws d → c ≡ d
one_cause n s t k ws c d e (inl a) (inl b) =
    err_is (reads (wanted s.version k) ws) c d a (ap (λ (v : ℕ). reads (wanted v k) ws) (version_same s t e) ∙ b)
one_cause n s t k ws c d e (inl a) (inr b) =
    absurd (not_both (reads (wanted s.version k) ws) (form b.0) c (ap (λ (v : ℕ). reads (wanted v k) ws) (version_same s t e) ∙ b.1.words) a)
one_cause n s t k ws c d e (inr a) (inl b) =
    absurd (not_both (reads (wanted t.version k) ws) (form a.0) d (ap (λ (v : ℕ). reads (wanted v k) ws) (sym (version_same s t e)) ∙ a.1.words) b)
one_cause n s t k ws c d e (inr a) (inr b) =
    some_is (first_of (checks n s a.0)) c d a.2 (causes n s t k ws a.0 b.0 e a.1 b.1 ∙ b.2)

both_refused : (n : NativeData) (s t : ScriptState) (h : Result Head Cause) (c d : Cause) → Alike s t → IsLineRefused n s h c → IsLineRefused n t h d → c ≡ d
both_refused n s t (Err why) c d e a b = a ∙ sym b
both_refused n s t (Ok Skipped) c d e a b = absurd a
both_refused n s t (Ok (Begins version)) c d e a b = absurd a
both_refused n s t (Ok (Says k ws)) c d e a b = one_cause n s t k ws c d e a b

-- ---- all lines

ended_if : (n : NativeData) (s t : ScriptState) (b : Bool) → Alike s t
    → AreOne (if b then Err (1, cause.Version) else Ok (script_in n s)) (if b then Err (1, cause.Version) else Ok (script_in n t))
ended_if n s t true e = refl
ended_if n s t false e = ap (script_in n) e

ended_one : (n : NativeData) (s t : ScriptState) → Alike s t → AreOne (outcome_at_end n s) (outcome_at_end n t)
ended_one n s t e =
    subst (λ (v : ℕ). AreOne (outcome_at_end n s) (if v == 0 then Err (1, cause.Version) else Ok (script_in n t))) (version_same s t e) (ended_if n s t (s.version == 0) e)

one_err : (number : ℕ) (c d : Cause) → c ≡ d → AreOne (Err (number, c)) (Err (number, d))
one_err number c d e = ap (λ (x : Cause). (number, x)) e

-- two things that are one stay so under other names
renamed : (o p o' p' : Outcome) → o ≡ o' → p ≡ p' → AreOne o' p' → AreOne o p
renamed o p o' p' e f a = subst (λ (x : Outcome). AreOne x p) (sym e) (subst (AreOne o') (sym f) a)

comes_to_one : (n : NativeData) (s t : ScriptState) (number : ℕ) (texts : List (List ℕ)) (o p : Outcome) → Alike s t → ComesTo n s number texts o → ComesTo n t number texts p → AreOne o p
comes_to_one n s t number [] o p e a b = renamed o p (outcome_at_end n s) (outcome_at_end n t) a b (ended_one n s t e)
comes_to_one n s t number (text ∷ more) o p e (inl a) (inl b) =
    let second : Passes n t number (head s text) b.0 = subst (λ h. Passes n t number h b.0) (sym (heads s t text e)) b.1 in
    comes_to_one n a.0 b.0 (number + 1) more o p (both_pass n s t number (head s text) a.0 b.0 e a.1 second) a.2 b.2
comes_to_one n s t number (text ∷ more) o p e (inl a) (inr b) =
    let second : IsLineRefused n t (head s text) b.0 = subst (λ h. IsLineRefused n t h b.0) (sym (heads s t text e)) b.1 in
    absurd (one_way n s t number (head s text) a.0 b.0 e a.1 second)
comes_to_one n s t number (text ∷ more) o p e (inr a) (inl b) =
    let first : IsLineRefused n s (head t text) a.0 = subst (λ h. IsLineRefused n s h a.0) (heads s t text e) a.1 in
    absurd (one_way n t s number (head t text) b.0 a.0 (sym e) b.1 first)
comes_to_one n s t number (text ∷ more) o p e (inr a) (inr b) =
    let second : IsLineRefused n t (head s text) b.0 = subst (λ h. IsLineRefused n t h b.0) (sym (heads s t text e)) b.1 in
    renamed o p (Err (number, a.0)) (Err (number, b.0)) a.2 b.2 (one_err number a.0 b.0 (both_refused n s t (head s text) a.0 b.0 e a.1 second))

by_size : (n : NativeData) (text : List ℕ) (large : Bool) (o p : Outcome)
    → MatchBool large (o ≡ Err (0, cause.TooLarge)) (ComesTo n start 1 (lines text) o) → MatchBool large (p ≡ Err (0, cause.TooLarge)) (ComesTo n start 1 (lines text) p) → AreOne o p
by_size n text true o p a b = renamed o p (Err (0, cause.TooLarge)) (Err (0, cause.TooLarge)) a b refl
by_size n text false o p a b = comes_to_one n start start 1 (lines text) o p refl a b

pub one_outcome : (n : NativeData) (text : List ℕ) (o p : Outcome) → IsScript n text o → IsScript n text p → AreOne o p
one_outcome n text o p a b = by_size n text (nat_lt most_bytes (length text)) o p a b
