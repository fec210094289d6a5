-- A text says one script, but for where its boxes lie.
use Rattle.std.proofs.Common.{◌≡◌, ◌≤◌, ℕ, ◌-◌, Bool, true, false, leb, List, [], ◌∷◌, ◌++◌, length, drop, get_or, Option, Some, codes, bytes_eq, refl, sym, ap, subst, ◌∙◌, arith, length-append}
use Rattle.std.specs.Str.Lines.{lines}
use Rattle.std.proofs.Math.Seq.{drop-append_seam}
use Rattle.std.proofs.lemmas.Bool.Decides.{nat_tests}
use Rattle.spin_values.specs.declared.types.EventType.{EventType}
use Rattle.spin_values.specs.declared.types.Param.{Param}
use Rattle.spin_grammar.specs.Bare.{bare_line}
use Rattle.spin_grammar.specs.Canonical.{params_word, signature_word}
use Rattle.spin_grammar.specs.declared.kind.Kind.{Kind}
use Rattle.spin_grammar.specs.declared.kind.Kind.TheVariants as kind
use Rattle.spin_grammar.specs.Grammar.{Atom, Fixed, Numeral, Called, Typed}
use Rattle.spin_grammar.specs.Lines as line
use Rattle.spin_grammar.specs.Lines.{LineMeaning, form, line_kind}
use Rattle.spin_grammar.specs.Lookup.{look_up}
use Rattle.spin_grammar.specs.Spelling.{params_of, says_result}
use Rattle.spin_grammar.proofs.FormUniqueness.{differ}
use Rattle.spin_grammar.proofs.LineUniqueness.{one_line}
use Rattle.spin_grammar.proofs.Signatures.{not_native, params_again, no_result}
use Rattle.spin_script.specs.Canonical.{first_word}
use Rattle.spin_script.specs.Laws.{bare_script}
use Rattle.spin_script.specs.Sections.{first_words}
use Rattle.spin_script.specs.States.{NativeData, ScriptData, ScriptState, start, after, script_in}
use Rattle.spin_script.proofs.BareLines.{bare_state, bare_natives, after_same}
use Rattle.spin_report.specs.Laws.{OneHistoryAs, OneRunAs}
use Rattle.spin_report.proofs.Whole.{HasLaneLines, has_lane_lines, ReadAlike, history_as, run_as}
use Rattle.spin_inputs.specs.Laws.{OneScript, IsSaidAccepted}
use Rattle.spin_inputs.specs.Texts.{SaysAtom, IsSignature, SayLine}
use Rattle.spin_inputs.proofs.SaidAtoms.{one_list, own_test, own_steps, own_merge, own_rule, own_task}
use Rattle.spin_inputs.proofs.SaidScripts.{script_from, one_more, none_more}
use Rattle.spin_inputs.proofs.SaidTexts.{SayLines, whole_form, says_script}
use Rattle.spin_inputs.proofs.SaidWords.{AreSaid}

-- ---- signatures

some_same : {A : Type 0} (o : Option A) (x y : A) → o ≡ Some x → o ≡ Some y → x ≡ y
some_same o x y e f = cc

one_params : (ps qs : List Param) → length ps ≤ 8 → length qs ≤ 8 → params_word ps ≡ params_word qs → ps ≡ qs
one_params ps qs few less same = some_same (params_of true (params_word ps)) ps qs (params_again true ps tt few) (ap (params_of true) same ∙ params_again true qs tt less)

ends_so : (xs : List ℕ) → says_result (xs ++ codes ":w") ≡ true
ends_so xs =
    let long : leb 2 (length (xs ++ codes ":w")) ≡ true = grind (arith, nat_tests, length-append xs (codes ":w")) in
    let at : length (xs ++ codes ":w") - 2 ≡ length xs = omega (arith, length-append xs (codes ":w")) in
    rw (long, at, drop-append_seam xs (codes ":w")) refl

not_both : (b : Bool) → b ≡ true → b ≡ false → ⊥
not_both b e f = absurd cc

front_same : (xs ys : List ℕ) → xs ++ codes ":w" ≡ ys ++ codes ":w" → xs ≡ ys
front_same [] [] e = refl
front_same [] (y ∷ ys) e = absurd (let n : 2 ≡ length ((y ∷ ys) ++ codes ":w") = ap length e in omega (arith, n, length-append (y ∷ ys) (codes ":w")))
front_same (x ∷ xs) [] e = absurd (let n : length ((x ∷ xs) ++ codes ":w") ≡ 2 = ap length e in omega (arith, n, length-append (x ∷ xs) (codes ":w")))
front_same (x ∷ xs) (y ∷ ys) e =
    let first : x ≡ y = ap (λ (w : List ℕ). get_or w 0 0) e in
    let rest : xs ++ codes ":w" ≡ ys ++ codes ":w" = ap (drop 1) e in
    let more = front_same xs ys rest in
    λ i. first i ∷ more i

one_type : (ps qs : List Param) (b c : Bool) → length ps ≤ 8 → length qs ≤ 8
    → signature_word (record { params = ps; gives = b }) ≡ signature_word (record { params = qs; gives = c })
    → ◌≡◌ {A = EventType} (record { params = ps; gives = b }) (record { params = qs; gives = c })
one_type ps qs true true few less e = let same = one_params ps qs few less (front_same (params_word ps) (params_word qs) e) in λ i. record { params = same i; gives = true }
one_type ps qs false false few less e = let same = one_params ps qs few less e in λ i. record { params = same i; gives = false }
one_type ps qs true false few less e = absurd (not_both (says_result (params_word qs)) (ap says_result (sym e) ∙ ends_so (params_word ps)) (no_result qs))
one_type ps qs false true few less e = absurd (not_both (says_result (params_word ps)) (ap says_result e ∙ ends_so (params_word qs)) (no_result ps))

one_signature : (g : Bool) (s t : EventType) (w : List ℕ) → IsSignature g s w → IsSignature g t w → s ≡ t
one_signature false s t w x y = one_type s.params t.params s.gives t.gives x.0 y.0 (sym x.1 ∙ y.1)
one_signature true s t w x y = one_type s.params t.params s.gives t.gives x.0 y.0 (sym x.2 ∙ y.2)

native_apart : (g : Bool) (s : EventType) (w : List ℕ) → w ≡ codes "native" → IsSignature g s w → ⊥
native_apart false s w is x = not_both (bytes_eq (signature_word s) (codes "native")) (ap (λ (v : List ℕ). bytes_eq v (codes "native")) (sym x.1 ∙ is)) (not_native s)
native_apart true s w is x =
    let lowered : signature_word s ≡ codes "native" = sym ((subst (λ (v : List ℕ). IsSignature true s v) is x).2) in
    not_both (bytes_eq (signature_word s) (codes "native")) (ap (λ (v : List ℕ). bytes_eq v (codes "native")) lowered) (not_native s)

-- ---- lines

-- two lists of words that are said alike are one where their first are, and the others
first_of : (g : Bool) (a b : Atom) (xs bs : List Atom) (ws : List (List ℕ)) → ((w : List ℕ) → SaysAtom g a w → SaysAtom g b w → a ≡ b)
    → ((vs : List (List ℕ)) → AreSaid g xs vs → AreSaid g bs vs → xs ≡ bs) → AreSaid g (a ∷ xs) ws → AreSaid g (b ∷ bs) ws → ◌≡◌ {A = List Atom} (a ∷ xs) (b ∷ bs)
first_of g a b xs bs [] one more x y = absurd x
first_of g a b xs bs (w ∷ ws) one more x y =
    let first = one w x.0 y.0 in
    let rest = more ws x.1 y.1 in
    λ i. first i ∷ rest i

one_numeral : (g : Bool) (n m : ℕ) (w : List ℕ) → SaysAtom g (Numeral n) w → SaysAtom g (Numeral m) w → Numeral n ≡ Numeral m
one_numeral g n m w x y = ap (λ (k : ℕ). Numeral k) (some_same _ n m x y)

one_name : (g : Bool) (v u : List ℕ) (w : List ℕ) → SaysAtom g (Called v) w → SaysAtom g (Called u) w → Called v ≡ Called u
one_name g v u w x y = ap (λ (name : List ℕ). Called name) (sym x ∙ y)

one_typed : (g : Bool) (s t : EventType) (w : List ℕ) → SaysAtom g (Typed s) w → SaysAtom g (Typed t) w → Typed s ≡ Typed t
one_typed g s t w x y = ap (λ (sig : EventType). Typed sig) (one_signature g s t w x y)

none : (g : Bool) (ws : List (List ℕ)) → AreSaid g [] ws → AreSaid g [] ws → ◌≡◌ {A = List Atom} [] []
none g ws x y = refl

-- a name alone
name_alone : (g : Bool) (v u : List ℕ) (ws : List (List ℕ)) → AreSaid g (Called v ∷ []) ws → AreSaid g (Called u ∷ []) ws → ◌≡◌ {A = List Atom} (Called v ∷ []) (Called u ∷ [])
name_alone g v u ws x y = first_of g (Called v) (Called u) [] [] ws (one_name g v u) (none g) x y

-- a list that doesn't say whose words are what, where the first ones differ
apart : (g : Bool) (a b : Atom) (xs bs : List Atom) (ws : List (List ℕ)) → ((w : List ℕ) → SaysAtom g a w → SaysAtom g b w → ⊥) → AreSaid g (a ∷ xs) ws → AreSaid g (b ∷ bs) ws → ◌≡◌ {A = List Atom} (a ∷ xs) (b ∷ bs)
apart g a b xs bs [] never x y = absurd x
apart g a b xs bs (w ∷ ws) never x y = absurd (never w x.0 y.0)

abbrev number_of : Kind → ℕ
number_of kind.Modules = 0
number_of kind.Event = 1
number_of kind.Endpoint = 2
number_of kind.Handler = 3
number_of kind.Guard = 4
number_of kind.Rule = 5
number_of kind.Authoriser = 6
number_of kind.Default = 7
number_of kind.Lane = 8
number_of kind.Barrier = 9
number_of kind.Retire = 10

-- lines of one kind that the same words say have one form
one_form : (g : Bool) (l m : LineMeaning) (ws : List (List ℕ)) → line_kind l ≡ line_kind m → AreSaid g (form l) ws → AreSaid g (form m) ws → form l ≡ form m
one_form g (line.Modules a) (line.Modules b) ws k x y = one_list g (Numeral a ∷ []) (Numeral b ∷ []) ws (tt, tt) (tt, tt) x y
one_form g (line.Event a o s m) (line.Event b p t n) ws k x y =
    first_of g (Numeral a) (Numeral b) _ _ ws (one_numeral g a b)
    (λ vs c d. first_of g (Numeral o) (Numeral p) _ _ vs (one_numeral g o p)
    (λ us e f. first_of g (Typed s) (Typed t) _ _ us (one_typed g s t) (λ ts i j. one_list g _ _ ts (own_merge m) (own_merge n) i j) e f) c d) x y
one_form g (line.Endpoint a v) (line.Endpoint b u) ws k x y = first_of g (Numeral a) (Numeral b) _ _ ws (one_numeral g a b) (name_alone g v u) x y
one_form g (line.Handler a s steps) (line.Handler b t others) ws k x y =
    first_of g (Numeral a) (Numeral b) _ _ ws (one_numeral g a b)
    (λ vs c d. first_of g (Typed s) (Typed t) _ _ vs (one_typed g s t) (λ us e f. one_list g _ _ us (own_steps steps) (own_steps others) e f) c d) x y
one_form g (line.Handler a s steps) (line.NativeHandler b name) ws k x y =
    first_of g (Numeral a) (Numeral b) _ _ ws (one_numeral g a b) (λ vs c d. apart g (Typed s) (Fixed (codes "native")) _ _ vs (λ w i j. native_apart g s w j i) c d) x y
one_form g (line.NativeHandler a name) (line.Handler b t others) ws k x y =
    first_of g (Numeral a) (Numeral b) _ _ ws (one_numeral g a b) (λ vs c d. apart g (Fixed (codes "native")) (Typed t) _ _ vs (λ w i j. native_apart g t w i j) c d) x y
one_form g (line.NativeHandler a v) (line.NativeHandler b u) ws k x y =
    first_of g (Numeral a) (Numeral b) _ _ ws (one_numeral g a b)
    (λ vs c d. first_of g (Fixed (codes "native")) (Fixed (codes "native")) _ _ vs (λ w i j. refl) (name_alone g v u) c d) x y
one_form g (line.Guard a s p) (line.Guard b t q) ws k x y =
    first_of g (Numeral a) (Numeral b) _ _ ws (one_numeral g a b)
    (λ vs c d. first_of g (Typed s) (Typed t) _ _ vs (one_typed g s t) (λ us e f. one_list g _ _ us (own_test p) (own_test q) e f) c d) x y
one_form g (line.Guard a s p) (line.NativeGuard b name) ws k x y =
    first_of g (Numeral a) (Numeral b) _ _ ws (one_numeral g a b) (λ vs c d. apart g (Typed s) (Fixed (codes "native")) _ _ vs (λ w i j. native_apart g s w j i) c d) x y
one_form g (line.NativeGuard a name) (line.Guard b t q) ws k x y =
    first_of g (Numeral a) (Numeral b) _ _ ws (one_numeral g a b) (λ vs c d. apart g (Fixed (codes "native")) (Typed t) _ _ vs (λ w i j. native_apart g t w i j) c d) x y
one_form g (line.NativeGuard a v) (line.NativeGuard b u) ws k x y =
    first_of g (Numeral a) (Numeral b) _ _ ws (one_numeral g a b)
    (λ vs c d. first_of g (Fixed (codes "native")) (Fixed (codes "native")) _ _ vs (λ w i j. refl) (name_alone g v u) c d) x y
one_form g (line.Rules a r) (line.Rules b q) ws k x y = first_of g (Numeral a) (Numeral b) _ _ ws (one_numeral g a b) (λ vs c d. one_list g _ _ vs (own_rule r) (own_rule q) c d) x y
one_form g (line.Authoriser a v) (line.Authoriser b u) ws k x y = first_of g (Numeral a) (Numeral b) _ _ ws (one_numeral g a b) (name_alone g v u) x y
one_form g (line.Default a h) (line.Default b i) ws k x y = one_list g (Numeral a ∷ Numeral h ∷ []) (Numeral b ∷ Numeral i ∷ []) ws (tt, (tt, tt)) (tt, (tt, tt)) x y
one_form g (line.Lane a t) (line.Lane b u) ws k x y = first_of g (Numeral a) (Numeral b) _ _ ws (one_numeral g a b) (λ vs c d. one_list g _ _ vs (own_task t) (own_task u) c d) x y
one_form g line.Barrier line.Barrier ws k x y = refl
one_form g (line.Retire a) (line.Retire b) ws k x y = one_list g (Numeral a ∷ []) (Numeral b ∷ []) ws (tt, tt) (tt, tt) x y
one_form g l m ws k x y = absurd (differ (number_of (line_kind l)) (number_of (line_kind m)) refl (ap number_of k))

found : (k : Kind) → look_up (first_word k) first_words ≡ Some k
found kind.Modules = refl
found kind.Event = refl
found kind.Endpoint = refl
found kind.Handler = refl
found kind.Guard = refl
found kind.Rule = refl
found kind.Authoriser = refl
found kind.Default = refl
found kind.Lane = refl
found kind.Barrier = refl
found kind.Retire = refl

one_kind : (j k : Kind) → first_word j ≡ first_word k → j ≡ k
one_kind j k e = some_same (look_up (first_word j) first_words) j k (found j) (ap (λ (w : List ℕ). look_up w first_words) e ∙ found k)

-- the words of a line say one line
one_said : (l m : LineMeaning) (ws : List (List ℕ)) → SayLine l ws → SayLine m ws → bare_line l ≡ bare_line m
one_said l m [] x y = absurd x
one_said l m (w ∷ ws) x y =
    let g = bytes_eq w (codes "guard") in
    let first : AreSaid g (Fixed (first_word (line_kind l)) ∷ form l) (w ∷ ws) = subst (λ (atoms : List Atom). AreSaid g atoms (w ∷ ws)) (sym (whole_form l)) x in
    let second : AreSaid g (Fixed (first_word (line_kind m)) ∷ form m) (w ∷ ws) = subst (λ (atoms : List Atom). AreSaid g atoms (w ∷ ws)) (sym (whole_form m)) y in
    let kinds = one_kind (line_kind l) (line_kind m) (sym first.0 ∙ second.0) in
    one_line l m kinds (one_form g l m ws kinds first.1 second.1)

-- ---- scripts

abbrev Alike : ScriptState → ScriptState → Type 0
Alike s t = bare_state s ≡ bare_state t

alike_after : (n : NativeData) (s t : ScriptState) (j k : ℕ) (l m : LineMeaning) → j ≡ k → Alike s t → bare_line l ≡ bare_line m → Alike (after n s j l) (after n t k m)
alike_after n s t j k l m same e lines =
    after_same n s j l ∙ (λ i. after (bare_natives n) (e i) (same i) (lines i)) ∙ sym (after_same n t k m)

-- what lines make behind scripts that are alike
alike_from : (n : NativeData) (s t : ScriptState) (said others : List (ℕ × LineMeaning)) (told : List (ℕ × List (List ℕ))) → Alike s t → SayLines said told → SayLines others told
    → bare_script (script_from n s said) ≡ bare_script (script_from n t others)
alike_from n s t [] [] told e x y = ap bare_script (sym (none_more n s)) ∙ ap (script_in n) e ∙ ap bare_script (none_more n t)
alike_from n s t [] (m ∷ others) [] e x y = absurd y
alike_from n s t [] (m ∷ others) (line ∷ told) e x y = absurd x
alike_from n s t (l ∷ said) [] [] e x y = absurd x
alike_from n s t (l ∷ said) [] (line ∷ told) e x y = absurd y
alike_from n s t (l ∷ said) (m ∷ others) [] e x y = absurd x
alike_from n s t ((j, l) ∷ said) ((k, m) ∷ others) (line ∷ told) e x y =
    let next : Alike (after n s j l) (after n t k m) = alike_after n s t j k l m (x.0.0 ∙ sym y.0.0) e (one_said l m line.1 x.0.1 y.0.1) in
    ap bare_script (sym (one_more n s j l said)) ∙ alike_from n (after n s j l) (after n t k m) said others told next x.1 y.1 ∙ ap bare_script (one_more n t k m others)

abbrev number_at : List Atom → ℕ
number_at (a ∷ Numeral n ∷ more) = n
number_at other = 0

one_version : (v u : ℕ) (ws : List (List ℕ)) → AreSaid false (Fixed (codes "spin") ∷ Numeral v ∷ []) ws → AreSaid false (Fixed (codes "spin") ∷ Numeral u ∷ []) ws → v ≡ u
one_version v u ws x y = ap number_at (one_list false (Fixed (codes "spin") ∷ Numeral v ∷ []) (Fixed (codes "spin") ∷ Numeral u ∷ []) ws (refl, (tt, tt)) (refl, (tt, tt)) x y)

first_same : {A : Type 0} (x y : A) (xs ys told : List A) → told ≡ x ∷ xs → told ≡ y ∷ ys → (x ≡ y) × (xs ≡ ys)
first_same x y xs ys told e f = (cc, cc)

pub one_script : OneScript
one_script n text script other a b =
    let same = first_same a.first b.first a.others b.others _ a.told b.told in
    let version : a.version ≡ b.version = one_version a.version b.version b.first.1
    (subst (λ (line : ℕ × List (List ℕ)). AreSaid false (Fixed (codes "spin") ∷ Numeral a.version ∷ []) line.1) same.0 a.begins) b.begins in
    let says : SayLines a.said b.others = subst (λ (told : List (ℕ × List (List ℕ))). SayLines a.said told) same.1 a.says in
    let states : Alike (record start { version = a.version }) (record start { version = b.version }) = ap (λ (v : ℕ). bare_state (record start { version = v })) version in
    ap bare_script a.makes
    ∙ alike_from n (record start { version = a.version }) (record start { version = b.version }) a.said b.said b.others states says b.says
    ∙ ap bare_script (sym b.makes)

-- ---- whole runs

said_alike : ReadAlike IsSaidAccepted
said_alike n text script other a b =
    let accepted : ScriptData = a.1.0 in
    let first : bare_script accepted ≡ bare_script script = one_script n text accepted script (says_script n text accepted a.1.1) a.0 in (
      subst (λ (s : ScriptData). HasLaneLines s.lanes s.segments) first (has_lane_lines n text accepted a.1.1),
      one_script n text script other a.0 b.0,
    )

pub history_said : OneHistoryAs IsSaidAccepted
history_said = history_as IsSaidAccepted said_alike

pub run_said : OneRunAs IsSaidAccepted
run_said = run_as IsSaidAccepted said_alike
