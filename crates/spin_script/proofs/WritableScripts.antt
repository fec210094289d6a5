-- Each script that is read can be written.
use Rattle.std.proofs.Common.{◌≡◌, ℕ, ◌+◌, ◌≤◌, inl, inr, Bool, true, false, eqb, List, [], ◌∷◌, ◌++◌, length, None, Result, Ok, Err, refl, sym, ap, subst, ◌∙◌}
use Rattle.std.specs.Prelude.{nat_lt}
use Rattle.std.specs.Bool.{MatchBool}
use Rattle.std.specs.Str.Lines.{lines}
use Rattle.spin_grammar.specs.declared.cause.Cause.{Cause}
use Rattle.spin_grammar.specs.declared.cause.Cause.TheVariants as cause
use Rattle.spin_grammar.specs.declared.kind.Kind.{Kind}
use Rattle.spin_grammar.specs.Grammar.{reads}
use Rattle.spin_grammar.specs.Lines.{LineMeaning, form, line_kind, wanted, Spells}
use Rattle.spin_script.specs.Sections.{is_out_of_order}
use Rattle.spin_script.specs.States.{ScriptState, NativeData, ScriptData, start, after, script_in}
use Rattle.spin_values.specs.First.{first_of}
use Rattle.spin_script.specs.Checks.{checks}
use Rattle.spin_script.specs.Language.{Head, Skipped, Begins, Says, head, Passes, Outcome, outcome_at_end, most_bytes, ComesTo, IsScript}
use Rattle.spin_script.specs.Canonical.{version_text, text_of_lines}
use Rattle.spin_script.specs.RoundTrip.{Fits, LeadTo, is_version, unnumbered, ScriptsCanBeWritten}
use Rattle.spin_script.proofs.LinePlaces.{stands, opens}
use Rattle.spin_script.proofs.LineNumbers.{bare, checks_alike, after_alike, scripts_alike}
use Rattle.spin_script.proofs.WrittenLines.{same_version, some_version, lines_read}

-- ---- lines that fit behind one script so far fit behind another that differs in numbers alone

pub fits : (n : NativeData) (s u : ScriptState) (k : Kind) (ws : List (List ℕ)) (l : LineMeaning) → bare s ≡ bare u
    → Spells s.version k ws l → is_out_of_order k s.section s.begins ≡ false → first_of (checks n s l) ≡ None → Fits n u l
fits n s u k ws l a spells order good =
    let version : s.version ≡ u.version = ap (λ (t : ScriptState). t.version) a in
    let section : s.section ≡ u.section = ap (λ (t : ScriptState). t.section) a in
    let begins : s.begins ≡ u.begins = ap (λ (t : ScriptState). t.begins) a in
    let said : reads (wanted s.version (line_kind l)) ws ≡ Ok (form l) = subst (λ (j : Kind). reads (wanted s.version j) ws ≡ Ok (form l)) (sym spells.kind) spells.words in
    let here : is_out_of_order (line_kind l) s.section s.begins ≡ false = subst (λ (j : Kind). is_out_of_order j s.section s.begins ≡ false) (sym spells.kind) order in
    record {
      said = (ws, record { kind = refl; words = subst (λ (v : ℕ). reads (wanted v (line_kind l)) ws ≡ Ok (form l)) version said });
      order = subst (λ (b : Bool). is_out_of_order (line_kind l) u.section b ≡ false) begins (subst (λ (x : ℕ). is_out_of_order (line_kind l) x s.begins ≡ false) section here);
      good = ap first_of (sym (checks_alike n s u l a)) ∙ good;
    }

-- the lines that a text says from s on lead from u to the same but for numbers
pub record Came (n : NativeData) (s u : ScriptState) (number : ℕ) (o : Outcome) : Type 0 where
  pub said : List LineMeaning
  pub last : ScriptState
  pub other : ScriptState
  pub leads : LeadTo n u number said other
  pub alike : bare last ≡ bare other
  pub ends : o ≡ outcome_at_end n last
  pub version : last.version ≡ s.version

abbrev pub Goes : NativeData → ℕ → List (List ℕ) → ScriptData → Type 0
Goes n number more d = (s u : ScriptState) (k : ℕ) → eqb s.version 0 ≡ false → bare s ≡ bare u → ComesTo n s number more (Ok d) → Came n s u k (Ok d)

passed : (n : NativeData) (s u t : ScriptState) (number k : ℕ) (line : List ℕ) (more : List (List ℕ)) (d : ScriptData)
    → eqb s.version 0 ≡ false → bare s ≡ bare u → (r : Result Head Cause) → head s line ≡ r → Passes n s number r t
    → ComesTo n t (number + 1) more (Ok d) → Goes n (number + 1) more d → Came n s u k (Ok d)
passed n s u t number k line more d v a (Err c) e p rest on = absurd p
passed n s u t number k line more d v a (Ok Skipped) e p rest on = on s u k v a (subst (λ (x : ScriptState). ComesTo n x (number + 1) more (Ok d)) p rest)
passed n s u t number k line more d v a (Ok (Begins version)) e p rest on = absurd (stands s line (Begins version) v e)
passed n s u t number k line more d v a (Ok (Says kd ws)) e p rest on =
    let l : LineMeaning = p.0 in
    let same : t ≡ after n s number l = p.3 in
    let f : Fits n u l = fits n s u kd ws l a p.1 (stands s line (Says kd ws) v e) p.2 in
    let version : t.version ≡ s.version = ap (λ (x : ScriptState). x.version) same ∙ same_version n s number l in
    let alike : bare t ≡ bare (after n u k l) = ap bare same ∙ after_alike n s u number k l a in
    let c = on t (after n u k l) (k + 1) (ap (λ (x : ℕ). eqb x 0) version ∙ v) alike rest in
    record { said = l ∷ c.said; last = c.last; other = c.other; leads = (f, c.leads); alike = c.alike; ends = c.ends; version = c.version ∙ version }

pub came : (n : NativeData) (number : ℕ) (texts : List (List ℕ)) (d : ScriptData) → Goes n number texts d
came n number [] d = λ s u k v a h. record { said = []; last = s; other = u; leads = refl; alike = a; ends = h; version = refl }
came n number (line ∷ more) d = λ s u k v a h.
    elim h [
      | inl x ↦ passed n s u x.0 number k line more d v a (head s line) refl x.1 x.2 (came n (number + 1) more d)
      | inr x ↦ absurd (let bad : Ok d ≡ Err (number, x.0) = x.2 in cc)
    ]

-- ---- the line that names the version

pub record Opened (n : NativeData) (d : ScriptData) : Type 0 where
  pub version : ℕ
  pub is : is_version version ≡ true
  pub number : ℕ
  pub more : List (List ℕ)
  pub comes : ComesTo n (record start { version = version }) number more (Ok d)

opened : (n : NativeData) (t : ScriptState) (number : ℕ) (line : List ℕ) (more : List (List ℕ)) (d : ScriptData) (r : Result Head Cause) → head start line ≡ r → Passes n start number r t
    → ComesTo n t (number + 1) more (Ok d) → (ComesTo n start (number + 1) more (Ok d) → Opened n d) → Opened n d
opened n t number line more d (Err c) e p rest on = absurd p
opened n t number line more d (Ok Skipped) e p rest on = on (subst (λ (x : ScriptState). ComesTo n x (number + 1) more (Ok d)) p rest)
opened n t number line more d (Ok (Begins version)) e p rest on =
    record { version = version; is = opens line (Begins version) e; number = number + 1; more = more; comes = subst (λ (x : ScriptState). ComesTo n x (number + 1) more (Ok d)) p rest }
opened n t number line more d (Ok (Says kd ws)) e p rest on = absurd (opens line (Says kd ws) e)

pub opening : (n : NativeData) (number : ℕ) (texts : List (List ℕ)) (d : ScriptData) → ComesTo n start number texts (Ok d) → Opened n d
opening n number [] d h = absurd (let bad : Ok d ≡ Err (1, cause.Version) = h in cc)
opening n number (line ∷ more) d h =
    elim h [
      | inl x ↦ opened n x.0 number line more d (head start line) refl x.1 x.2 (λ rest. opening n (number + 1) more d rest)
      | inr x ↦ absurd (let bad : Ok d ≡ Err (number, x.0) = x.2 in cc)
    ]

-- ---- the whole

same_script : (d e : ScriptData) → ◌≡◌ {A = Outcome} (Ok d) (Ok e) → d ≡ e
same_script d e h = cc

pub made : (n : NativeData) (t : ScriptState) (d : ScriptData) → eqb t.version 0 ≡ false → Ok d ≡ outcome_at_end n t → d ≡ script_in n t
made n t d v e = same_script d (script_in n t) (rw v at e)

pub makes : (n : NativeData) (t : ScriptState) → eqb t.version 0 ≡ false → Ok (script_in n t) ≡ outcome_at_end n t
makes n t v = rw v refl

pub small_enough : (n : NativeData) (text : List ℕ) (d : ScriptData) (b : Bool)
    → MatchBool b (◌≡◌ {A = Outcome} (Ok d) (Err (0, cause.TooLarge))) (ComesTo n start 1 (lines text) (Ok d)) → ComesTo n start 1 (lines text) (Ok d)
small_enough n text d true h = absurd cc
small_enough n text d false h = h

pub rewritten : ScriptsCanBeWritten
rewritten n text d h =
    let o = opening n 1 (lines text) d (small_enough n text d (nat_lt most_bytes (length text)) h) in
    let first : ScriptState = record start { version = o.version } in
    let c = came n o.number o.more d first first 2 (some_version o.version o.is) refl o.comes in
    let v : eqb c.last.version 0 ≡ false = ap (λ (x : ℕ). eqb x 0) c.version ∙ some_version o.version o.is in
    let was = made n c.last d v c.ends in
    let version : d.version ≡ o.version = ap (λ (x : ScriptData). x.version) was ∙ c.version in
    let w : eqb c.other.version 0 ≡ false = sym (ap (λ (x : ScriptState). eqb x.version 0) c.alike) ∙ v in
    let same : unnumbered (script_in n c.other) ≡ unnumbered d = sym (scripts_alike n c.last c.other c.alike) ∙ sym (ap unnumbered was) in (
      c.said,
      c.other,
      subst (λ (x : ℕ). LeadTo n (record start { version = x }) 2 c.said c.other) (sym version) c.leads,
      same,
      λ small. (
        script_in n c.other,
        subst (λ (x : ℕ). IsScript n (version_text x ++ text_of_lines c.said) (Ok (script_in n c.other))) (sym version)
            (lines_read n o.version c.said c.other (Ok (script_in n c.other)) o.is c.leads (makes n c.other w)
            (subst (λ (x : ℕ). length (version_text x ++ text_of_lines c.said) ≤ 1048576) version small)),
        same,
      ),
    )
