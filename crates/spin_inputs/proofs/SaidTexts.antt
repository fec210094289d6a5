-- A text that is a script says it.
use Rattle.std.proofs.Common.{◌≡◌, ℕ, ◌+◌, ◌⊎◌, inl, inr, Bool, true, false, cond, eqb, List, [], ◌∷◌, length, Option, Some, None, Ok, Err, codes, bytes_eq, refl, sym, ap, subst, ◌∙◌}
use Rattle.std.specs.Prelude.{slice_index, if◌then◌else◌, nat_lt}
use Rattle.std.specs.Bool.{MatchBool}
use Rattle.std.specs.List.{AllZip, list_all}
use Rattle.std.specs.Str.Lines.{lines}
use Rattle.spin_grammar.specs.declared.cause.Cause.TheVariants as cause
use Rattle.spin_grammar.specs.declared.kind.Kind.{Kind}
use Rattle.spin_grammar.specs.declared.kind.Kind.TheVariants as kind
use Rattle.spin_grammar.specs.Grammar.{Atom, Fixed, Numeral}
use Rattle.spin_grammar.specs.Lines as line
use Rattle.spin_grammar.specs.Lines.{LineMeaning, form, line_form, line_kind, wanted, Spells}
use Rattle.spin_grammar.specs.Lookup.{look_up}
use Rattle.spin_grammar.specs.Spelling.{number}
use Rattle.spin_grammar.specs.Words.{words}
use Rattle.spin_grammar.proofs.Signatures.{one_of}
use Rattle.spin_script.specs.Canonical.{first_word}
use Rattle.spin_script.specs.Language.{Skipped, Says, is_allowed, version_word, version_of, first_head, kind_head, words_head, head}
use Rattle.spin_script.specs.Language.{Passes, Outcome, ComesTo, IsScript, most_bytes}
use Rattle.spin_script.specs.Sections.{first_words, is_out_of_order}
use Rattle.spin_script.specs.States.{NativeData, ScriptData, ScriptState, start, after, script_in}
use Rattle.spin_inputs.specs.Texts.{SayLine, SaysScript, is_skipped, saying_lines}
use Rattle.spin_inputs.proofs.SaidScripts.{script_from, one_more, none_more, after_version}
use Rattle.spin_inputs.proofs.SaidSignatures.{same_bytes}
use Rattle.spin_inputs.proofs.SaidWords.{AreSaid, is_fit, words_said}

-- ---- a line that says something

same_kind : (j k : Kind) → Some j ≡ Some k → j ≡ k
same_kind j k e = cc

-- each row has the first word of its kind
abbrev AreFirst : List (List ℕ × Kind) → Type 0
AreFirst [] = Unit {0}
AreFirst (row ∷ rows) = (row.0 ≡ first_word row.1) × AreFirst rows

found : (w : List ℕ) (rows : List (List ℕ × Kind)) (k : Kind) → AreFirst rows → look_up w rows ≡ Some k → w ≡ first_word k
found w [] k all e = absurd cc
found w (row ∷ rows) k all e =
    elim (one_of (bytes_eq w row.0) (Some row.1) (look_up w rows) (Some k) e) [
      | inl h ↦ same_bytes w row.0 h.0 ∙ all.0 ∙ ap first_word (same_kind row.1 k h.1)
      | inr h ↦ found w rows k all.1 h.1
    ]

first_is : (w : List ℕ) (k : Kind) → look_up w first_words ≡ Some k → w ≡ first_word k
first_is w k e = found w first_words k (refl, (refl, (refl, (refl, (refl, (refl, (refl, (refl, (refl, (refl, (refl, tt))))))))))) e

abbrev is_guard : Kind → Bool
is_guard k = bytes_eq (first_word k) (codes "guard")

wanted_fit : (version : ℕ) (k : Kind) → list_all (is_fit (is_guard k)) (wanted version k) ≡ true
wanted_fit version kind.Modules = refl
wanted_fit version kind.Event = refl
wanted_fit version kind.Endpoint = refl
wanted_fit version kind.Handler = refl
wanted_fit version kind.Guard = refl
wanted_fit version kind.Rule = refl
wanted_fit version kind.Authoriser = refl
wanted_fit version kind.Default = refl
wanted_fit version kind.Lane = refl
wanted_fit version kind.Barrier = refl
wanted_fit version kind.Retire = refl

-- the words of a line are the first word of its kind, and those behind it
pub whole_form : (l : LineMeaning) → Fixed (first_word (line_kind l)) ∷ form l ≡ line_form l
whole_form (line.Modules n) = refl
whole_form (line.Event e owner sig m) = refl
whole_form (line.Endpoint p name) = refl
whole_form (line.Handler h sig steps) = refl
whole_form (line.NativeHandler h name) = refl
whole_form (line.Guard g sig t) = refl
whole_form (line.NativeGuard g name) = refl
whole_form (line.Rules e r) = refl
whole_form (line.Authoriser e name) = refl
whole_form (line.Default e h) = refl
whole_form (line.Lane l t) = refl
whole_form line.Barrier = refl
whole_form (line.Retire p) = refl

line_said : (version : ℕ) (k : Kind) (w : List ℕ) (ws : List (List ℕ)) (l : LineMeaning) → w ≡ first_word k → Spells version k ws l → SayLine l (w ∷ ws)
line_said version k w ws l first s =
    let others : AreSaid (is_guard k) (form l) ws = words_said (is_guard k) (wanted version k) ws (form l) (wanted_fit version k) s.words in
    let behind : AreSaid (bytes_eq w (codes "guard")) (form l) ws = subst (λ (v : List ℕ). AreSaid (bytes_eq v (codes "guard")) (form l) ws) (sym first) others in
    subst (λ (atoms : List Atom). AreSaid (bytes_eq w (codes "guard")) atoms (w ∷ ws)) (whole_form l) (first ∙ ap first_word (sym s.kind), behind)

-- ---- the line that names the version

word_number : (w : List ℕ) (version : ℕ) → version_word w ≡ Some version → number w ≡ Some version
unfolding number
word_number w version e =
    elim (one_of (bytes_eq w (codes "1")) (Some 1) (cond (bytes_eq w (codes "2")) (Some 2) (cond (bytes_eq w (codes "3")) (Some 3) None)) (Some version) e) [
      | inl x ↦ ap number (same_bytes w (codes "1") x.0) ∙ x.1
      | inr x ↦ elim (one_of (bytes_eq w (codes "2")) (Some 2) (cond (bytes_eq w (codes "3")) (Some 3) None) (Some version) x.1) [
        | inl y ↦ ap number (same_bytes w (codes "2") y.0) ∙ y.1
        | inr y ↦ elim (one_of (bytes_eq w (codes "3")) (Some 3) None (Some version) y.1) [
          | inl z ↦ ap number (same_bytes w (codes "3") z.0) ∙ z.1
          | inr z ↦ absurd (let bad : None ≡ Some version = z.1 in cc)
        ]
      ]
    ]

no_zero_word : (w : List ℕ) (version : ℕ) → version_word w ≡ Some version → eqb version 0 ≡ false
no_zero_word w version e =
    elim (one_of (bytes_eq w (codes "1")) (Some 1) (cond (bytes_eq w (codes "2")) (Some 2) (cond (bytes_eq w (codes "3")) (Some 3) None)) (Some version) e) [
      | inl x ↦ let same : 1 ≡ version = cc in rw (← same) refl
      | inr x ↦ elim (one_of (bytes_eq w (codes "2")) (Some 2) (cond (bytes_eq w (codes "3")) (Some 3) None) (Some version) x.1) [
        | inl y ↦ let same : 2 ≡ version = cc in rw (← same) refl
        | inr y ↦ elim (one_of (bytes_eq w (codes "3")) (Some 3) None (Some version) y.1) [
          | inl z ↦ let same : 3 ≡ version = cc in rw (← same) refl
          | inr z ↦ absurd (let bad : None ≡ Some version = z.1 in cc)
        ]
      ]
    ]

no_zero : (ws : List (List ℕ)) (version : ℕ) → version_of ws ≡ Some version → eqb version 0 ≡ false
no_zero [] version e = absurd cc
no_zero (a ∷ []) version e = absurd cc
no_zero (a ∷ b ∷ []) version e =
    elim (one_of (bytes_eq a (codes "spin")) (version_word b) None (Some version) e) [
      | inl x ↦ no_zero_word b version x.1
      | inr x ↦ absurd (let bad : None ≡ Some version = x.1 in cc)
    ]
no_zero (a ∷ b ∷ c ∷ ws) version e = absurd cc

version_said : (ws : List (List ℕ)) (version : ℕ) → version_of ws ≡ Some version → AreSaid false (Fixed (codes "spin") ∷ Numeral version ∷ []) ws
version_said [] version e = absurd cc
version_said (a ∷ []) version e = absurd cc
version_said (a ∷ b ∷ []) version e =
    elim (one_of (bytes_eq a (codes "spin")) (version_word b) None (Some version) e) [
      | inl x ↦ (same_bytes a (codes "spin") x.0, (word_number b version x.1, tt))
      | inr x ↦ absurd (let bad : None ≡ Some version = x.1 in cc)
    ]
version_said (a ∷ b ∷ c ∷ ws) version e = absurd cc

-- ---- one line

-- what passes: a line that is skipped, that names the version where none was named, or that says something where one was
abbrev Leads : NativeData → ℕ → List (List ℕ) → ScriptState → ScriptState → Type 0
Leads n number ws s t =
    ((is_skipped ws ≡ true) × (t ≡ s))
    ⊎ (((version : ℕ) × (is_skipped ws ≡ false) × (eqb s.version 0 ≡ true) × (eqb version 0 ≡ false)
    × AreSaid false (Fixed (codes "spin") ∷ Numeral version ∷ []) ws × (t ≡ record s { version = version }))
    ⊎ ((l : LineMeaning) × (is_skipped ws ≡ false) × (eqb s.version 0 ≡ false) × SayLine l ws × (t ≡ after n s number l)))

begun : (n : NativeData) (number : ℕ) (w : List ℕ) (ws : List (List ℕ)) (s t : ScriptState) (o : Option ℕ) → eqb (slice_index w 0) 35 ≡ false → eqb s.version 0 ≡ true
    → version_of (w ∷ ws) ≡ o → Passes n s number (first_head o) t → Leads n number (w ∷ ws) s t
begun n number w ws s t None skips begins e p = absurd p
begun n number w ws s t (Some version) skips begins e p = inr (inl (version, skips, begins, no_zero (w ∷ ws) version e, version_said (w ∷ ws) version e, p))

ordered : (n : NativeData) (number : ℕ) (w : List ℕ) (ws : List (List ℕ)) (s t : ScriptState) (k : Kind) (b : Bool) → eqb (slice_index w 0) 35 ≡ false → eqb s.version 0 ≡ false → w ≡ first_word k
    → Passes n s number (if b then Err cause.Order else Ok (Says k ws)) t → Leads n number (w ∷ ws) s t
ordered n number w ws s t k true skips begins first p = absurd p
ordered n number w ws s t k false skips begins first p = inr (inr (p.0, skips, begins, line_said s.version k w ws p.0 first p.1, p.3))

known : (n : NativeData) (number : ℕ) (w : List ℕ) (ws : List (List ℕ)) (s t : ScriptState) (o : Option Kind) → eqb (slice_index w 0) 35 ≡ false → eqb s.version 0 ≡ false
    → look_up w first_words ≡ o → Passes n s number (kind_head s o ws) t → Leads n number (w ∷ ws) s t
known n number w ws s t None skips begins e p = absurd p
known n number w ws s t (Some k) skips begins e p = ordered n number w ws s t k (is_out_of_order k s.section s.begins) skips begins (first_is w k e) p

by_first : (n : NativeData) (number : ℕ) (w : List ℕ) (ws : List (List ℕ)) (s t : ScriptState) (skips begins : Bool) → eqb (slice_index w 0) 35 ≡ skips → eqb s.version 0 ≡ begins
    → Passes n s number (if skips then Ok Skipped else (if begins then first_head (version_of (w ∷ ws)) else kind_head s (look_up w first_words) ws)) t → Leads n number (w ∷ ws) s t
by_first n number w ws s t true begins skipped at p = inl (skipped, p)
by_first n number w ws s t false true skipped at p = begun n number w ws s t (version_of (w ∷ ws)) skipped at refl p
by_first n number w ws s t false false skipped at p = known n number w ws s t (look_up w first_words) skipped at refl p

by_words : (n : NativeData) (number : ℕ) (ws : List (List ℕ)) (s t : ScriptState) → Passes n s number (words_head s ws) t → Leads n number ws s t
by_words n number [] s t p = inl (refl, p)
by_words n number (w ∷ ws) s t p = by_first n number w ws s t (eqb (slice_index w 0) 35) (eqb s.version 0) refl refl p

by_bytes : (n : NativeData) (number : ℕ) (ws : List (List ℕ)) (s t : ScriptState) (allowed : Bool)
    → Passes n s number (if allowed then words_head s ws else Err cause.NotAscii) t → Leads n number ws s t
by_bytes n number ws s t true p = by_words n number ws s t p
by_bytes n number ws s t false p = absurd p

leads : (n : NativeData) (number : ℕ) (line : List ℕ) (s t : ScriptState) → Passes n s number (head s line) t → Leads n number (words line) s t
unfolding head
leads n number line s t p = by_bytes n number (words line) s t (list_all is_allowed line) p

-- ---- the lines behind the one that names the version

-- each line says what stands at its place, under its number, and there are no others
abbrev pub SayLines : List (ℕ × LineMeaning) → List (ℕ × List (List ℕ)) → Type 0
SayLines said told = AllZip (λ said told. (said.0 ≡ told.0) × SayLine said.1 told.1) said told

-- what the lines say that are told, and the script that they make behind s
record Made (n : NativeData) (number : ℕ) (texts : List (List ℕ)) (s : ScriptState) (script : ScriptData) : Type 0 where
  said : List (ℕ × LineMeaning)
  says : SayLines said (saying_lines number texts)
  makes : script ≡ script_from n s said

skipped : (number : ℕ) (text : List ℕ) (more : List (List ℕ)) → is_skipped (words text) ≡ true → saying_lines number (text ∷ more) ≡ saying_lines (number + 1) more
skipped number text more e = rw e refl

told : (number : ℕ) (text : List ℕ) (more : List (List ℕ)) → is_skipped (words text) ≡ false → saying_lines number (text ∷ more) ≡ (number, words text) ∷ saying_lines (number + 1) more
told number text more e = rw e refl

at_end : (n : NativeData) (number : ℕ) (s : ScriptState) (script : ScriptData) (b : Bool)
    → ◌≡◌ {A = Outcome} (Ok script) (if b then Err (1, cause.Version) else Ok (script_in n s)) → Made n number [] s script
at_end n number s script true e = absurd cc
at_end n number s script false e = record { said = []; says = tt; makes = let same : script ≡ script_in n s = cc in same ∙ none_more n s }

made_skipped : (n : NativeData) (number : ℕ) (text : List ℕ) (more : List (List ℕ)) (s t : ScriptState) (script : ScriptData) → is_skipped (words text) ≡ true → t ≡ s
    → Made n (number + 1) more t script → Made n number (text ∷ more) s script
made_skipped n number text more s t script skips same m = record {
  said = m.said;
  says = subst (λ l. SayLines m.said l) (sym (skipped number text more skips)) m.says;
  makes = subst (λ (u : ScriptState). script ≡ script_from n u m.said) same m.makes;
}

made_more : (n : NativeData) (number : ℕ) (text : List ℕ) (more : List (List ℕ)) (s t : ScriptState) (l : LineMeaning) (script : ScriptData) → is_skipped (words text) ≡ false
    → SayLine l (words text) → t ≡ after n s number l → Made n (number + 1) more t script → Made n number (text ∷ more) s script
made_more n number text more s t l script skips says same m = record {
  said = (number, l) ∷ m.said;
  says = subst (λ x. SayLines ((number, l) ∷ m.said) x) (sym (told number text more skips)) ((refl, says), m.says);
  makes = m.makes ∙ ap (λ (u : ScriptState). script_from n u m.said) same ∙ one_more n s number l m.said;
}

no_version : (s t : ScriptState) → t ≡ s → eqb s.version 0 ≡ false → eqb t.version 0 ≡ false
no_version s t same e = ap (λ (u : ScriptState). eqb u.version 0) same ∙ e

no_version_after : (n : NativeData) (s t : ScriptState) (number : ℕ) (l : LineMeaning) → t ≡ after n s number l → eqb s.version 0 ≡ false → eqb t.version 0 ≡ false
no_version_after n s t number l same e = ap (λ (u : ScriptState). eqb u.version 0) same ∙ ap (λ (v : ℕ). eqb v 0) (after_version n s number l) ∙ e

not_both : (b : Bool) → b ≡ true → b ≡ false → ⊥
not_both b e f = absurd cc

made : (n : NativeData) (number : ℕ) (texts : List (List ℕ)) (s : ScriptState) (script : ScriptData) → eqb s.version 0 ≡ false → ComesTo n s number texts (Ok script) → Made n number texts s script
made n number [] s script v e = at_end n number s script (eqb s.version 0) e
made n number (text ∷ more) s script v (inl p) =
    elim (leads n number text s p.0 p.1) [
      | inl x ↦ made_skipped n number text more s p.0 script x.0 x.1 (made n (number + 1) more p.0 script (no_version s p.0 x.1 v) p.2)
      | inr x ↦ elim x [
        | inl y ↦ absurd (not_both (eqb s.version 0) y.2 v)
        | inr y ↦ made_more n number text more s p.0 y.0 script y.1 y.3 y.4 (made n (number + 1) more p.0 script (no_version_after n s p.0 number y.0 y.4 v) p.2)
      ]
    ]
made n number (text ∷ more) s script v (inr c) = absurd (let bad : ◌≡◌ {A = Outcome} (Ok script) (Err (number, c.0)) = c.2 in cc)

-- ---- all lines

-- the line that names the version is told first
record Begun (n : NativeData) (number : ℕ) (texts : List (List ℕ)) (s : ScriptState) (script : ScriptData) : Type 0 where
  version : ℕ
  first : ℕ × List (List ℕ)
  others : List (ℕ × List (List ℕ))
  said : List (ℕ × LineMeaning)
  told : saying_lines number texts ≡ first ∷ others
  begins : AreSaid false (Fixed (codes "spin") ∷ Numeral version ∷ []) first.1
  says : SayLines said others
  makes : script ≡ script_from n (record s { version = version }) said

begun_first : (n : NativeData) (number : ℕ) (text : List ℕ) (more : List (List ℕ)) (s t : ScriptState) (version : ℕ) (script : ScriptData) → is_skipped (words text) ≡ false
    → AreSaid false (Fixed (codes "spin") ∷ Numeral version ∷ []) (words text) → t ≡ record s { version = version } → Made n (number + 1) more t script → Begun n number (text ∷ more) s script
begun_first n number text more s t version script skips says same m = record {
  version = version;
  first = (number, words text);
  others = saying_lines (number + 1) more;
  said = m.said;
  told = told number text more skips;
  begins = says;
  says = m.says;
  makes = subst (λ (u : ScriptState). script ≡ script_from n u m.said) same m.makes;
}

begun_skipped : (n : NativeData) (number : ℕ) (text : List ℕ) (more : List (List ℕ)) (s t : ScriptState) (script : ScriptData) → is_skipped (words text) ≡ true → t ≡ s
    → Begun n (number + 1) more t script → Begun n number (text ∷ more) s script
begun_skipped n number text more s t script skips same b = record {
  version = b.version;
  first = b.first;
  others = b.others;
  said = b.said;
  told = skipped number text more skips ∙ b.told;
  begins = b.begins;
  says = b.says;
  makes = subst (λ (u : ScriptState). script ≡ script_from n (record u { version = b.version }) b.said) same b.makes;
}

unbegun : (n : NativeData) (number : ℕ) (s : ScriptState) (script : ScriptData) (b : Bool) → b ≡ true
    → ◌≡◌ {A = Outcome} (Ok script) (if b then Err (1, cause.Version) else Ok (script_in n s)) → Begun n number [] s script
unbegun n number s script true v e = absurd cc
unbegun n number s script false v e = absurd cc

begins : (n : NativeData) (number : ℕ) (texts : List (List ℕ)) (s : ScriptState) (script : ScriptData) → eqb s.version 0 ≡ true → ComesTo n s number texts (Ok script) → Begun n number texts s script
begins n number [] s script v e = unbegun n number s script (eqb s.version 0) v e
begins n number (text ∷ more) s script v (inl p) =
    elim (leads n number text s p.0 p.1) [
      | inl x ↦ begun_skipped n number text more s p.0 script x.0 x.1 (begins n (number + 1) more p.0 script (ap (λ (u : ScriptState). eqb u.version 0) x.1 ∙ v) p.2)
      | inr x ↦ elim x [
        | inl y ↦
            let named : eqb p.0.version 0 ≡ false = ap (λ (u : ScriptState). eqb u.version 0) y.5 ∙ y.3 in
            begun_first n number text more s p.0 y.0 script y.1 y.4 y.5 (made n (number + 1) more p.0 script named p.2)
        | inr y ↦ absurd (not_both (eqb s.version 0) v y.2)
      ]
    ]
begins n number (text ∷ more) s script v (inr c) = absurd (let bad : ◌≡◌ {A = Outcome} (Ok script) (Err (number, c.0)) = c.2 in cc)

by_size : (n : NativeData) (text : List ℕ) (script : ScriptData) (large : Bool)
    → MatchBool large (◌≡◌ {A = Outcome} (Ok script) (Err (0, cause.TooLarge))) (ComesTo n start 1 (lines text) (Ok script)) → SaysScript n text script
by_size n text script true e = absurd cc
by_size n text script false comes =
    let b = begins n 1 (lines text) start script refl comes in
    record { version = b.version; said = b.said; first = b.first; others = b.others; told = b.told; begins = b.begins; says = b.says; makes = b.makes }

pub says_script : (n : NativeData) (text : List ℕ) (script : ScriptData) → IsScript n text (Ok script) → SaysScript n text script
says_script n text script is = by_size n text script (nat_lt most_bytes (length text)) is
