-- Words that can stand behind the first of a line say such a line.
use Rattle.std.proofs.Common.{◌≡◌, ℕ, zero, suc, ◌≤◌, ◌⊎◌, inl, inr, Bool, true, false, cond, eqb, leb, List, [], ◌∷◌, ◌++◌, length, map, Option, Ok, Err, codes, refl, sym, ap, subst, ◌∙◌, arith}
use Rattle.std.specs.Prelude.{slice_index, drop}
use Rattle.std.specs.Str.{bytes_eq}
use Rattle.spin_values.specs.declared.types.EventType.{EventType}
use Rattle.spin_values.specs.declared.values.Value.{Value}
use Rattle.spin_values.specs.declared.values.Value.TheVariants as value
use Rattle.spin_code.specs.declared.merge.Merge.{Merge}
use Rattle.spin_word.specs.declared.command.Place.{Place}
use Rattle.spin_word.specs.declared.command.Place.TheVariants as place
use Rattle.spin_word.specs.declared.command.Mode.{Mode}
use Rattle.spin_policy.specs.declared.rule.OpMatch.{OpMatch}
use Rattle.spin_policy.specs.declared.rule.Forced.{Forced}
use Rattle.spin_policy.specs.declared.rule.Effect.{Effect}
use Rattle.spin_policy.specs.declared.rule.Effect.TheVariants as effect
use Rattle.spin_policy.specs.declared.rule.Rule.{Rule}
use Rattle.spin_grammar.specs.declared.cause.Cause.TheVariants as cause
use Rattle.spin_grammar.specs.declared.kind.Kind.{Kind}
use Rattle.spin_grammar.specs.declared.kind.Kind.TheVariants as kind
use Rattle.spin_grammar.specs.Spelling.{number, within, greatest, signature, guard_signature, hex_bytes}
use Rattle.spin_grammar.specs.Grammar as want
use Rattle.spin_grammar.specs.Grammar.{Atom, Fixed, Numeral, Called, Typed, Want, accepts, reads, as_number, as_signature, as_blob}
use Rattle.spin_grammar.specs.Forms as forms
use Rattle.spin_grammar.specs.Forms.{test_form, merge_form, counted_form, effect_form, rule_form, op_match_word, own_word, forced_word}
use Rattle.spin_grammar.specs.Forms.{apart_word, place_word, mode_word, handler_or_any, value_atom, spot_form, task_form, Task, Spot}
use Rattle.spin_grammar.specs.Lines as line
use Rattle.spin_grammar.specs.Lines.{LineMeaning, line_kind, form, wanted}
use Rattle.spin_grammar.proofs.CanonicalSpelling.{went, over, ok_same, by_number, by_signature, by_blob}
use Rattle.spin_grammar.proofs.Signatures.{one_of}
use Rattle.spin_script.proofs.SayableWords.{Spelled, Says, First, first, opens, both, renamed, nothing, closed, OneOf, same_bytes, one_choice, behind, none, numeral, name, typed, pair, three}
use Rattle.spin_script.proofs.SayableWords.{tested, counted_numbers, bindings, op_says, own_says, forced_says, apart_says, place_says, mode_says, exact_says, handler_says, steps, merged}

-- ---- rules

effect_says : (version : ℕ) (w : List ℕ) (p : Atom × List Want) → accepts (want.Effect version) w ≡ Ok p → OneOf (want.effects version) p
unfolding accepts
effect_says version w p e = one_choice w (want.effects version) p e

force_form : List ℕ × (Forced × Bool) → List Atom
force_form p = counted_form p.0 ++ Fixed (forced_word p.1.0) ∷ Fixed (apart_word p.1.1) ∷ []

force_says : (k : ℕ) → Says k
    (λ (p : List ℕ × (Forced × Bool)). counted_form p.0 ++ Fixed (forced_word p.1.0) ∷ Fixed (apart_word p.1.1) ∷ []) (want.Counted 0 4 (want.Number 1 1023) ∷ want.ForcedPlace ∷ want.ForcedMode ∷ [])
force_says k =
    both k counted_form
    (λ (p : Forced × Bool). Fixed (forced_word p.0) ∷ Fixed (apart_word p.1) ∷ []) (want.Counted 0 4 (want.Number 1 1023) ∷ []) (want.ForcedPlace ∷ want.ForcedMode ∷ []) (counted_numbers k 0 4 1 1023)
    (both k (λ (f : Forced). Fixed (forced_word f) ∷ []) (λ (b : Bool). Fixed (apart_word b) ∷ []) (want.ForcedPlace ∷ []) (want.ForcedMode ∷ []) (forced_says k) (apart_says k))

forced_of : (version k : ℕ) (b : Bool) (wants : List Want) (ws : List (List ℕ)) (atoms : List Atom) → length ws ≤ suc k → (o : First (want.Effect version) wants ws atoms)
    → OneOf (cond b ((codes "force", want.Counted 0 4 (want.Number 1 1023) ∷ want.ForcedPlace ∷ want.ForcedMode ∷ []) ∷ []) []) o.taken → Spelled effect_form wants (length ws) atoms
forced_of version k true wants ws atoms le o (inl is) =
    behind k effect_form (λ (p : List ℕ × (Forced × Bool)). counted_form p.0 ++ Fixed (forced_word p.1.0) ∷ Fixed (apart_word p.1.1) ∷ [])
    (λ (p : List ℕ × (Forced × Bool)). effect.Force p.0 p.1.0 p.1.1) (codes "force") _ (λ p. refl) (force_says k)
    (want.Effect version) wants ws atoms le o is
forced_of version k true wants ws atoms le o (inr is) = absurd is
forced_of version k false wants ws atoms le o is = absurd is

effect_of : (version k : ℕ) (wants : List Want) (ws : List (List ℕ)) (atoms : List Atom) → length ws ≤ suc k
    → (o : First (want.Effect version) wants ws atoms) → OneOf (want.effects version) o.taken → Spelled effect_form wants (length ws) atoms
effect_of version k wants ws atoms le o (inl is) =
    behind k effect_form (λ (u : Unit {0}). []) (λ (u : Unit {0}). effect.Allow) (codes "allow") [] (λ u. refl) (none k) (want.Effect version) wants ws atoms le o is
effect_of version k wants ws atoms le o (inr (inl is)) =
    behind k effect_form (λ (u : Unit {0}). []) (λ (u : Unit {0}). effect.Deny) (codes "deny") [] (λ u. refl) (none k) (want.Effect version) wants ws atoms le o is
effect_of version k wants ws atoms le o (inr (inr (inl is))) =
    behind k effect_form (λ (n : ℕ). Numeral n ∷ []) (λ (n : ℕ). effect.Quota n) (codes "quota") (want.Number 0 1000 ∷ []) (λ n. refl) (numeral k 0 1000) (want.Effect version) wants ws atoms le o is
effect_of version k wants ws atoms le o (inr (inr (inr (inl is)))) =
    behind k effect_form counted_form (λ (ns : List ℕ). effect.Impose ns) (codes "impose")
    (want.Counted 1 4 (want.Number 1 1023) ∷ []) (λ ns. refl) (counted_numbers k 1 4 1 1023) (want.Effect version) wants ws atoms le o is
effect_of version k wants ws atoms le o (inr (inr (inr (inr is)))) = forced_of version k (leb 2 version) wants ws atoms le o is

effected : (version k : ℕ) → Says k effect_form (want.Effect version ∷ [])
effected version k wants ws atoms le e =
    let o = first (want.Effect version) wants ws atoms refl e in
    effect_of version k wants ws atoms (omega (arith, le)) o (effect_says version o.word o.taken o.takes)

abbrev RuleWords : Type 0
RuleWords = ℕ × (ℕ × (OpMatch × (Option ℕ × (Bool × Effect))))

rule_of : RuleWords → Rule
rule_of p = record { low = p.0; high = p.1.0; op = p.1.1.0; handler = p.1.1.1.0; own_only = p.1.1.1.1.0; effect = p.1.1.1.1.1 }

ruled : (version k : ℕ) → Says k rule_form (want.Number 0 255 ∷ want.Number 0 255 ∷ want.Op ∷ want.HandlerOrAny ∷ want.Own ∷ want.Effect version ∷ [])
unfolding rule_of
ruled version k =
    let one = λ (n : ℕ). Numeral n ∷ [] in
    let five = both k (λ (b : Bool). Fixed (own_word b) ∷ []) effect_form (want.Own ∷ []) (want.Effect version ∷ []) (own_says k) (effected version k) in
    let four = both k (λ (h : Option ℕ). handler_or_any h ∷ []) (λ (p : Bool × Effect). Fixed (own_word p.0) ∷ effect_form p.1)
    (want.HandlerOrAny ∷ []) (want.Own ∷ want.Effect version ∷ []) (handler_says k) five in
    let three_on = both k (λ (o : OpMatch). Fixed (op_match_word o) ∷ []) (λ (p : Option ℕ × (Bool × Effect)). handler_or_any p.0 ∷ Fixed (own_word p.1.0) ∷ effect_form p.1.1)
    (want.Op ∷ []) (want.HandlerOrAny ∷ want.Own ∷ want.Effect version ∷ []) (op_says k) four in
    let two_on = both k (λ (n : ℕ). Numeral n ∷ []) (λ (p : OpMatch × (Option ℕ × (Bool × Effect))). Fixed (op_match_word p.0) ∷ handler_or_any p.1.0 ∷ Fixed (own_word p.1.1.0) ∷ effect_form p.1.1.1)
    (want.Number 0 255 ∷ []) (want.Op ∷ want.HandlerOrAny ∷ want.Own ∷ want.Effect version ∷ []) (numeral k 0 255) three_on in
    let all = both k (λ (n : ℕ). Numeral n ∷ [])
    (λ (p : ℕ × (OpMatch × (Option ℕ × (Bool × Effect)))). Numeral p.0 ∷ Fixed (op_match_word p.1.0) ∷ handler_or_any p.1.1.0 ∷ Fixed (own_word p.1.1.1.0) ∷ effect_form p.1.1.1.1)
    (want.Number 0 255 ∷ []) (want.Number 0 255 ∷ want.Op ∷ want.HandlerOrAny ∷ want.Own ∷ want.Effect version ∷ []) (numeral k 0 255) two_on in
    renamed k (λ (p : RuleWords). Numeral p.0 ∷ Numeral p.1.0 ∷ Fixed (op_match_word p.1.1.0) ∷ handler_or_any p.1.1.1.0 ∷ Fixed (own_word p.1.1.1.1.0) ∷ effect_form p.1.1.1.1.1) rule_form rule_of
    (want.Number 0 255 ∷ want.Number 0 255 ∷ want.Op ∷ want.HandlerOrAny ∷ want.Own ∷ want.Effect version ∷ []) (λ p. refl) all

-- ---- deeds

spot_words : (w : List ℕ) (p : Atom × List Want) → accepts want.Spot w ≡ Ok p → OneOf want.spots p
unfolding accepts
spot_words w p e = one_choice w want.spots p e

spot_of : (k : ℕ) (wants : List Want) (ws : List (List ℕ)) (atoms : List Atom) → length ws ≤ suc k
    → (o : First want.Spot wants ws atoms) → OneOf want.spots o.taken → Spelled spot_form wants (length ws) atoms
spot_of k wants ws atoms le o (inl is) = behind k spot_form (λ (u : Unit {0}). []) (λ (u : Unit {0}). forms.At place.Free) (codes "free") [] (λ u. refl) (none k) want.Spot wants ws atoms le o is
spot_of k wants ws atoms le o (inr (inl is)) =
    behind k spot_form (λ (u : Unit {0}). []) (λ (u : Unit {0}). forms.At place.First) (codes "first") [] (λ u. refl) (none k) want.Spot wants ws atoms le o is
spot_of k wants ws atoms le o (inr (inr (inl is))) =
    behind k spot_form (λ (u : Unit {0}). []) (λ (u : Unit {0}). forms.At place.Last) (codes "last") [] (λ u. refl) (none k) want.Spot wants ws atoms le o is
spot_of k wants ws atoms le o (inr (inr (inr (inl is)))) =
    behind k spot_form (λ (n : ℕ). Numeral n ∷ []) (λ (n : ℕ). forms.Before n) (codes "before") (want.Number 0 1023 ∷ []) (λ n. refl) (numeral k 0 1023) want.Spot wants ws atoms le o is
spot_of k wants ws atoms le o (inr (inr (inr (inr (inl is))))) =
    behind k spot_form (λ (n : ℕ). Numeral n ∷ []) (λ (n : ℕ). forms.After n) (codes "after") (want.Number 0 1023 ∷ []) (λ n. refl) (numeral k 0 1023) want.Spot wants ws atoms le o is
spot_of k wants ws atoms le o (inr (inr (inr (inr (inr is))))) = absurd is

narrow : (k : ℕ) → Says k spot_form (want.Spot ∷ [])
narrow k wants ws atoms le e =
    let o = first want.Spot wants ws atoms refl e in
    spot_of k wants ws atoms (omega (arith, le)) o (spot_words o.word o.taken o.takes)

abbrev WideWords : Type 0
WideWords = Place × (Unit {0} × (List ℕ × (Unit {0} × List ℕ)))

wide : (k : ℕ) → Says k spot_form (want.Place ∷ want.Exactly (codes "before") ∷ want.Bindings ∷ want.Exactly (codes "after") ∷ want.Bindings ∷ [])
wide k =
    let after = both k (λ (u : Unit {0}). Fixed (codes "after") ∷ []) counted_form (want.Exactly (codes "after") ∷ []) (want.Bindings ∷ []) (exact_says k (codes "after")) (bindings k) in
    let named = both k counted_form (λ (p : Unit {0} × List ℕ). Fixed (codes "after") ∷ counted_form p.1) (want.Bindings ∷ []) (want.Exactly (codes "after") ∷ want.Bindings ∷ []) (bindings k) after in
    let before = both k (λ (u : Unit {0}). Fixed (codes "before") ∷ []) (λ (p : List ℕ × (Unit {0} × List ℕ)). counted_form p.0 ++ Fixed (codes "after") ∷ counted_form p.1.1)
    (want.Exactly (codes "before") ∷ []) (want.Bindings ∷ want.Exactly (codes "after") ∷ want.Bindings ∷ []) (exact_says k (codes "before")) named in
    let all = both k (λ (q : Place). Fixed (place_word q) ∷ [])
    (λ (p : Unit {0} × (List ℕ × (Unit {0} × List ℕ))). Fixed (codes "before") ∷ (counted_form p.1.0 ++ Fixed (codes "after") ∷ counted_form p.1.1.1)) (want.Place ∷ [])
    (want.Exactly (codes "before") ∷ want.Bindings ∷ want.Exactly (codes "after") ∷ want.Bindings ∷ []) (place_says k) before in
    renamed k (λ (p : WideWords). Fixed (place_word p.0) ∷ Fixed (codes "before") ∷ (counted_form p.1.1.0 ++ Fixed (codes "after") ∷ counted_form p.1.1.1.1)) spot_form
    (λ (p : WideWords). forms.Among p.0 p.1.1.0 p.1.1.1.1)
    (want.Place ∷ want.Exactly (codes "before") ∷ want.Bindings ∷ want.Exactly (codes "after") ∷ want.Bindings ∷ []) (λ p. refl) all

spotted : (k : ℕ) (b : Bool) → Says k spot_form (cond b (want.Place ∷ want.Exactly (codes "before") ∷ want.Bindings ∷ want.Exactly (codes "after") ∷ want.Bindings ∷ []) (want.Spot ∷ []))
spotted k true = wide k
spotted k false = narrow k

placed : (k version : ℕ) → Says k (λ (p : Spot × Mode). spot_form p.0 ++ Fixed (mode_word p.1) ∷ []) (want.spot_wants version ++ want.Mode ∷ [])
placed k version = both k spot_form (λ (m : Mode). Fixed (mode_word m) ∷ []) (want.spot_wants version) (want.Mode ∷ []) (spotted k (eqb version 3)) (mode_says k)

-- two and three numbers, and more behind them
abbrev numbered : {A : Type 0} → (A → List Atom) → ℕ × A → List Atom
numbered f p = Numeral p.0 ∷ f p.1

then_more : {A : Type 0} (k low high : ℕ) (f : A → List Atom) (next : List Want) → Says k f next → Says k (λ (p : ℕ × A). Numeral p.0 ∷ f p.1) (want.Number low high ∷ next)
then_more k low high f next says = both k (λ (n : ℕ). Numeral n ∷ []) f (want.Number low high ∷ []) next (numeral k low high) says

abbrev Installed : Type 0
Installed = ℕ × (ℕ × (ℕ × (ℕ × (Spot × Mode))))

installed : (k version : ℕ)
    → Says k (λ (p : Installed). Numeral p.0 ∷ Numeral p.1.0 ∷ Numeral p.1.1.0 ∷ Numeral p.1.1.1.0 ∷ (spot_form p.1.1.1.1.0 ++ Fixed (mode_word p.1.1.1.1.1) ∷ []))
    (want.Number 0 63 ∷ want.Number 0 255 ∷ want.Number 0 1023 ∷ want.Number 0 1023 ∷ (want.spot_wants version ++ want.Mode ∷ []))
installed k version =
    let last : List Want = want.spot_wants version ++ want.Mode ∷ [] in
    let guard = then_more k 0 1023 (λ (p : Spot × Mode). spot_form p.0 ++ Fixed (mode_word p.1) ∷ []) last (placed k version) in
    let handler = then_more k 0 1023 (λ (p : ℕ × (Spot × Mode)). Numeral p.0 ∷ (spot_form p.1.0 ++ Fixed (mode_word p.1.1) ∷ [])) (want.Number 0 1023 ∷ last) guard in
    let requester =
    then_more k 0 255 (λ (p : ℕ × (ℕ × (Spot × Mode))). Numeral p.0 ∷ Numeral p.1.0 ∷ (spot_form p.1.1.0 ++ Fixed (mode_word p.1.1.1) ∷ [])) (want.Number 0 1023 ∷ want.Number 0 1023 ∷ last) handler in
    then_more k 0 63 (λ (p : ℕ × (ℕ × (ℕ × (Spot × Mode)))). Numeral p.0 ∷ Numeral p.1.0 ∷ Numeral p.1.1.0 ∷ (spot_form p.1.1.1.0 ++ Fixed (mode_word p.1.1.1.1) ∷ []))
    (want.Number 0 255 ∷ want.Number 0 1023 ∷ want.Number 0 1023 ∷ last) requester

replaced : (k last : ℕ) → Says k (λ (p : ℕ × (ℕ × (ℕ × (ℕ × ℕ)))). Numeral p.0 ∷ Numeral p.1.0 ∷ Numeral p.1.1.0 ∷ Numeral p.1.1.1.0 ∷ Numeral p.1.1.1.1 ∷ [])
    (want.Number 0 63 ∷ want.Number 0 255 ∷ want.Number 0 last ∷ want.Number 0 1023 ∷ want.Number 0 1023 ∷ [])
replaced k last =
    then_more k 0 63
    (λ (p : ℕ × (ℕ × (ℕ × ℕ))). Numeral p.0 ∷ Numeral p.1.0 ∷ Numeral p.1.1.0 ∷ Numeral p.1.1.1 ∷ []) (want.Number 0 255 ∷ want.Number 0 last ∷ want.Number 0 1023 ∷ want.Number 0 1023 ∷ [])
    (then_more k 0 255 (λ (p : ℕ × (ℕ × ℕ)). Numeral p.0 ∷ Numeral p.1.0 ∷ Numeral p.1.1 ∷ []) (want.Number 0 last ∷ want.Number 0 1023 ∷ want.Number 0 1023 ∷ []) (three k 0 last 0 1023 0 1023))

values_say : (j : ℕ) (w : List ℕ) (p : Atom × List Want) → accepts (want.Values (suc j)) w ≡ Ok p → (v : Value) × ((value_atom v, want.Values j ∷ []) ≡ p)
unfolding accepts
values_say j w p e =
    elim (one_of (eqb (slice_index w 0) 120) (as_blob (hex_bytes (drop 1 w)) (want.Values j ∷ [])) (as_number (within 0 greatest (number w)) (want.Values j ∷ [])) (Ok p) e) [
      | inl h ↦ let b = by_blob (hex_bytes (drop 1 w)) (want.Values j ∷ []) p h.1 in (value.Bytes b.0, b.2)
      | inr h ↦ let n = by_number (within 0 greatest (number w)) (want.Values j ∷ []) p h.1 in (value.Word n.0, n.2)
    ]

no_values : (w : List ℕ) (p : Atom × List Want) → accepts (want.Values zero) w ≡ Ok p → ⊥
unfolding accepts
no_values w p e = absurd (let bad : Err cause.End ≡ Ok p = e in cc)

values : (j : ℕ) (ws : List (List ℕ)) (atoms : List Atom) → reads (want.Values j ∷ []) ws ≡ Ok atoms → (vs : List Value) × (atoms ≡ map value_atom vs)
unfolding reads
values j [] atoms e = ([], sym (over true atoms e))
values zero (w ∷ ws) atoms e = let s = went (accepts (want.Values zero) w) [] ws atoms e in absurd (no_values w s.0 s.1)
values (suc j) (w ∷ ws) atoms e =
    let s = went (accepts (want.Values (suc j)) w) [] ws atoms e in
    let v = values_say j w s.0 s.1 in
    let more = values j ws s.2 (subst (λ (q : Atom × List Want). reads (q.1 ++ []) ws ≡ Ok s.2) (sym v.1) s.3) in
    (v.0 ∷ more.0, sym s.4 ∙ ap (λ (q : Atom × List Want). q.0 ∷ s.2) (sym v.1) ∙ ap (λ (x : List Atom). value_atom v.0 ∷ x) more.1)

abbrev IsDeed : List Atom → Type 0
IsDeed atoms = (t : Task) × (atoms ≡ task_form t)

deed_says : (version : ℕ) (w : List ℕ) (p : Atom × List Want) → accepts (want.Deed version) w ≡ Ok p → OneOf (want.deeds version) p
unfolding accepts
deed_says version w p e = one_choice w (want.deeds version) p e

-- a deed whose words are so many
deed_by : {A : Type 0} (version k : ℕ) (f : A → List Atom) (make : A → Task) (word : List ℕ) (next : List Want) → ((a : A) → Fixed word ∷ f a ≡ task_form (make a)) → Says k f next
    → (ws : List (List ℕ)) (atoms : List Atom) → length ws ≤ suc k → (o : First (want.Deed version) [] ws atoms) → (Fixed word, next) ≡ o.taken → IsDeed atoms
deed_by version k f make word next same says ws atoms le o is =
    closed task_form (length ws) atoms (behind k task_form f make word next same says (want.Deed version) [] ws atoms le o is)

-- a deed with values
valued : (version : ℕ) (make : ℕ → List Value → Task) (word : List ℕ) → ((event : ℕ) (vs : List Value) → Fixed word ∷ Numeral event ∷ map value_atom vs ≡ task_form (make event vs))
    → (ws : List (List ℕ)) (atoms : List Atom) (o : First (want.Deed version) [] ws atoms) → (Fixed word, want.Number 0 63 ∷ want.Values 8 ∷ []) ≡ o.taken → IsDeed atoms
valued version make word same ws atoms o is =
    let n = opens (want.Deed version) [] ws atoms o (Fixed word, want.Number 0 63 ∷ want.Values 8 ∷ []) is in
    let event = numeral (length n.words) 0 63 (want.Values 8 ∷ []) n.words n.rest (omega arith) n.read in
    let vs = values 8 event.words event.rest event.read in
    (make event.value vs.0, n.whole ∙ ap (λ (x : List Atom). Fixed word ∷ x) (event.whole ∙ ap (λ (x : List Atom). Numeral event.value ∷ x) vs.1) ∙ same event.value vs.0)

deed_of : (version k : ℕ) (ws : List (List ℕ)) (atoms : List Atom) → length ws ≤ suc k → (o : First (want.Deed version) [] ws atoms) → OneOf (want.deeds version) o.taken → IsDeed atoms
deed_of version k ws atoms le o (inl is) = valued version forms.Raise (codes "raise") (λ event vs. refl) ws atoms o is
deed_of version k ws atoms le o (inr (inl is)) =
    deed_by version k (λ (p : Installed). Numeral p.0 ∷ Numeral p.1.0 ∷ Numeral p.1.1.0 ∷ Numeral p.1.1.1.0 ∷ (spot_form p.1.1.1.1.0 ++ Fixed (mode_word p.1.1.1.1.1) ∷ []))
    (λ (p : Installed). forms.Install p.0 p.1.0 p.1.1.0 p.1.1.1.0 p.1.1.1.1.0 p.1.1.1.1.1) (codes "install") _ (λ p. refl) (installed k version) ws atoms le o is
deed_of version k ws atoms le o (inr (inr (inl is))) =
    deed_by version k (λ (p : ℕ × (ℕ × ℕ)). Numeral p.0 ∷ Numeral p.1.0 ∷ Numeral p.1.1 ∷ []) (λ (p : ℕ × (ℕ × ℕ)). forms.Remove p.0 p.1.0 p.1.1)
    (codes "remove") _ (λ p. refl) (three k 0 63 0 255 0 (want.last_target version)) ws atoms le o is
deed_of version k ws atoms le o (inr (inr (inr (inl is)))) =
    deed_by version k (λ (p : ℕ × (ℕ × (ℕ × (ℕ × ℕ)))). Numeral p.0 ∷ Numeral p.1.0 ∷ Numeral p.1.1.0 ∷ Numeral p.1.1.1.0 ∷ Numeral p.1.1.1.1 ∷ [])
    (λ (p : ℕ × (ℕ × (ℕ × (ℕ × ℕ)))). forms.Replace p.0 p.1.0 p.1.1.0 p.1.1.1.0 p.1.1.1.1) (codes "replace") _ (λ p. refl) (replaced k (want.last_target version)) ws atoms le o is
deed_of version k ws atoms le o (inr (inr (inr (inr (inl is))))) =
    deed_by version k (λ (p : ℕ × (ℕ × ℕ)). Numeral p.0 ∷ Numeral p.1.0 ∷ Numeral p.1.1 ∷ []) (λ (p : ℕ × (ℕ × ℕ)). forms.Default p.0 p.1.0 p.1.1)
    (codes "default") _ (λ p. refl) (three k 0 63 0 255 0 1023) ws atoms le o is
deed_of version k ws atoms le o (inr (inr (inr (inr (inr (inl is)))))) =
    deed_by version k (λ (p : ℕ × ℕ). Numeral p.0 ∷ Numeral p.1 ∷ []) (λ (p : ℕ × ℕ). forms.NoDefault p.0 p.1) (codes "nodefault") _ (λ p. refl) (pair k 0 63 0 255) ws atoms le o is
deed_of version k ws atoms le o (inr (inr (inr (inr (inr (inr (inl is))))))) = valued version forms.Later (codes "later") (λ event vs. refl) ws atoms o is
deed_of version k ws atoms le o (inr (inr (inr (inr (inr (inr (inr (inl is)))))))) =
    deed_by version k (λ (p : ℕ × ℕ). Numeral p.0 ∷ Numeral p.1 ∷ []) (λ (p : ℕ × ℕ). forms.Packet p.0 p.1) (codes "packet") _ (λ p. refl) (pair k 0 63 1 65536) ws atoms le o is
deed_of version k ws atoms le o (inr (inr (inr (inr (inr (inr (inr (inr is)))))))) = absurd is

deed : (version : ℕ) (ws : List (List ℕ)) (atoms : List Atom) → reads (want.Deed version ∷ []) ws ≡ Ok atoms → IsDeed atoms
deed version ws atoms e =
    let o = first (want.Deed version) [] ws atoms refl e in
    deed_of version (length ws) ws atoms (omega arith) o (deed_says version o.word o.taken o.takes)

-- ---- lines

-- the words say a line of that kind
abbrev IsLine : Kind → List Atom → Type 0
IsLine k atoms = (l : LineMeaning) × (line_kind l ≡ k) × (atoms ≡ form l)

line_by : {A : Type 0} (k : Kind) (f : A → List Atom) (make : A → LineMeaning) (front : List Want) (ws : List (List ℕ)) (atoms : List Atom)
    → ((a : A) → line_kind (make a) ≡ k) → ((a : A) → f a ≡ form (make a)) → Says (length ws) f front → reads front ws ≡ Ok atoms → IsLine k atoms
line_by k f make front ws atoms right same says e =
    let all : reads (front ++ []) ws ≡ Ok atoms = subst (λ (x : List Want). reads x ws ≡ Ok atoms) (sym (none_more front)) e in
    let s = closed f (length ws) atoms (says [] ws atoms (omega arith) all) in
    (make s.0, right s.0, s.1 ∙ same s.0)
  where
    none_more : (xs : List Want) → xs ++ [] ≡ xs
    none_more [] = refl
    none_more (x ∷ xs) = ap (λ (ys : List Want). x ∷ ys) (none_more xs)

-- a number, and behind it whatever these wants say
behind_number : {k : Kind} (low high : ℕ) (front : List Want) (ws : List (List ℕ)) (atoms : List Atom)
    → ((n : ℕ) (words : List (List ℕ)) (rest : List Atom) → reads front words ≡ Ok rest → IsLine k (Numeral n ∷ rest)) → reads (want.Number low high ∷ front) ws ≡ Ok atoms → IsLine k atoms
behind_number {k} low high front ws atoms next e =
    let n = numeral (length ws) low high front ws atoms (omega arith) e in
    subst (IsLine k) (sym n.whole) (next n.value n.words n.rest n.read)

-- `native` and a name, or a signature and more
abbrev IsBody : (List ℕ → Option EventType) → Want → Atom × List Want → Type 0
IsBody typing more p = ((Fixed (codes "native"), want.Name ∷ []) ≡ p) ⊎ ((sig : EventType) × ((Typed sig, more ∷ []) ≡ p))

body_of : (typing : List ℕ → Option EventType) (more : Want) (w : List ℕ) (p : Atom × List Want)
    → cond (bytes_eq w (codes "native")) (Ok (Fixed w, want.Name ∷ [])) (as_signature (typing w) (more ∷ [])) ≡ Ok p → IsBody typing more p
body_of typing more w p e =
    elim (one_of (bytes_eq w (codes "native")) (Ok (Fixed w, want.Name ∷ [])) (as_signature (typing w) (more ∷ [])) (Ok p) e) [
      | inl h ↦ inl (ap (λ (x : List ℕ). (Fixed x, want.Name ∷ [])) (sym (same_bytes w (codes "native") h.0)) ∙ ok_same (Fixed w, want.Name ∷ []) p h.1)
      | inr h ↦ let s = by_signature (typing w) (more ∷ []) p h.1 in inr (s.0, s.2)
    ]

handler_body : (w : List ℕ) (p : Atom × List Want) → accepts want.HandlerBody w ≡ Ok p → IsBody signature want.Steps p
unfolding accepts
handler_body w p e = body_of signature want.Steps w p e

guard_body : (w : List ℕ) (p : Atom × List Want) → accepts want.GuardBody w ≡ Ok p → IsBody guard_signature want.Test p
unfolding accepts
guard_body w p e = body_of guard_signature want.Test w p e

named : (words : List (List ℕ)) (rest : List Atom) → reads (want.Name ∷ []) words ≡ Ok rest → (n : List ℕ) × (rest ≡ Called n ∷ [])
named words rest e = closed (λ (n : List ℕ). Called n ∷ []) (length words) rest (name (length words) [] words rest (omega arith) e)

handler_line : (h : ℕ) (words : List (List ℕ)) (rest : List Atom) (o : First want.HandlerBody [] words rest) → IsBody signature want.Steps o.taken → IsLine kind.Handler (Numeral h ∷ rest)
handler_line h words rest o (inl is) =
    let f = opens want.HandlerBody [] words rest o (Fixed (codes "native"), want.Name ∷ []) is in
    let n = named f.words f.rest f.read in
    (line.NativeHandler h n.0, refl, ap (λ (x : List Atom). Numeral h ∷ x) (f.whole ∙ ap (λ (x : List Atom). Fixed (codes "native") ∷ x) n.1))
handler_line h words rest o (inr s) =
    let f = opens want.HandlerBody [] words rest o (Typed s.0, want.Steps ∷ []) s.1 in
    let ss = steps (length f.words) f.words f.rest (omega arith) f.read in
    (line.Handler h s.0 ss.0, refl, ap (λ (x : List Atom). Numeral h ∷ x) (f.whole ∙ ap (λ (x : List Atom). Typed s.0 ∷ x) ss.1))

guard_line : (g : ℕ) (words : List (List ℕ)) (rest : List Atom) (o : First want.GuardBody [] words rest) → IsBody guard_signature want.Test o.taken → IsLine kind.Guard (Numeral g ∷ rest)
guard_line g words rest o (inl is) =
    let f = opens want.GuardBody [] words rest o (Fixed (codes "native"), want.Name ∷ []) is in
    let n = named f.words f.rest f.read in
    (line.NativeGuard g n.0, refl, ap (λ (x : List Atom). Numeral g ∷ x) (f.whole ∙ ap (λ (x : List Atom). Fixed (codes "native") ∷ x) n.1))
guard_line g words rest o (inr s) =
    let f = opens want.GuardBody [] words rest o (Typed s.0, want.Test ∷ []) s.1 in
    let t = closed test_form (length f.words) f.rest (tested (length f.words) [] f.words f.rest (omega arith) f.read) in
    (line.Guard g s.0 t.0, refl, ap (λ (x : List Atom). Numeral g ∷ x) (f.whole ∙ ap (λ (x : List Atom). Typed s.0 ∷ x) t.1))

abbrev EventWords : Type 0
EventWords = ℕ × (ℕ × (EventType × Merge))

-- words that can stand behind the first of a line of that kind say such a line
pub says_line : (version : ℕ) (k : Kind) (ws : List (List ℕ)) (atoms : List Atom) → reads (wanted version k) ws ≡ Ok atoms → IsLine k atoms
says_line version kind.Modules ws atoms e = line_by kind.Modules (λ (n : ℕ). Numeral n ∷ []) (λ (n : ℕ). line.Modules n) _ ws atoms (λ n. refl) (λ n. refl) (numeral (length ws) 1 256) e
says_line version kind.Event ws atoms e =
    let k : ℕ = length ws in
    let last = both k (λ (sig : EventType). Typed sig ∷ []) merge_form (want.Signature ∷ []) (want.Merge ∷ []) (typed k) (merged k) in
    let owned = then_more k 0 255 (λ (p : EventType × Merge). Typed p.0 ∷ merge_form p.1) (want.Signature ∷ want.Merge ∷ []) last in
    line_by kind.Event (λ (p : EventWords). Numeral p.0 ∷ Numeral p.1.0 ∷ Typed p.1.1.0 ∷ merge_form p.1.1.1)
    (λ (p : EventWords). line.Event p.0 p.1.0 p.1.1.0 p.1.1.1) _ ws atoms (λ p. refl) (λ p. refl)
    (then_more k 0 63 (λ (p : ℕ × (EventType × Merge)). Numeral p.0 ∷ Typed p.1.0 ∷ merge_form p.1.1) (want.Number 0 255 ∷ want.Signature ∷ want.Merge ∷ []) owned) e
says_line version kind.Endpoint ws atoms e =
    line_by kind.Endpoint (λ (p : ℕ × List ℕ). Numeral p.0 ∷ Called p.1 ∷ []) (λ (p : ℕ × List ℕ). line.Endpoint p.0 p.1) _ ws atoms
    (λ p. refl) (λ p. refl) (then_more (length ws) 0 63 (λ (n : List ℕ). Called n ∷ []) (want.Name ∷ []) (name (length ws))) e
says_line version kind.Handler ws atoms e =
    behind_number 1 1023 (want.HandlerBody ∷ []) ws atoms (λ h words rest r. let o = first want.HandlerBody [] words rest refl r in handler_line h words rest o (handler_body o.word o.taken o.takes)) e
says_line version kind.Guard ws atoms e =
    behind_number 1 1023 (want.GuardBody ∷ []) ws atoms (λ g words rest r. let o = first want.GuardBody [] words rest refl r in guard_line g words rest o (guard_body o.word o.taken o.takes)) e
says_line version kind.Rule ws atoms e =
    line_by kind.Rule (λ (p : ℕ × Rule). Numeral p.0 ∷ rule_form p.1) (λ (p : ℕ × Rule). line.Rules p.0 p.1) _ ws atoms (λ p. refl) (λ p. refl)
    (then_more (length ws) 0 63 rule_form (want.Number 0 255 ∷ want.Number 0 255 ∷ want.Op ∷ want.HandlerOrAny ∷ want.Own ∷ want.Effect version ∷ []) (ruled version (length ws))) e
says_line version kind.Authoriser ws atoms e =
    line_by kind.Authoriser (λ (p : ℕ × List ℕ). Numeral p.0 ∷ Called p.1 ∷ []) (λ (p : ℕ × List ℕ). line.Authoriser p.0 p.1) _ ws atoms
    (λ p. refl) (λ p. refl) (then_more (length ws) 0 63 (λ (n : List ℕ). Called n ∷ []) (want.Name ∷ []) (name (length ws))) e
says_line version kind.Default ws atoms e =
    line_by kind.Default (λ (p : ℕ × ℕ). Numeral p.0 ∷ Numeral p.1 ∷ []) (λ (p : ℕ × ℕ). line.Default p.0 p.1) _ ws atoms (λ p. refl) (λ p. refl) (pair (length ws) 0 63 1 1023) e
says_line version kind.Lane ws atoms e =
    behind_number 0 255 (want.Deed version ∷ []) ws atoms (λ lane words rest r. let t = deed version words rest r in (line.Lane lane t.0, refl, ap (λ (x : List Atom). Numeral lane ∷ x) t.1)) e
says_line version kind.Barrier ws atoms e = (line.Barrier, refl, nothing ws atoms e)
says_line version kind.Retire ws atoms e = line_by kind.Retire (λ (n : ℕ). Numeral n ∷ []) (λ (n : ℕ). line.Retire n) _ ws atoms (λ n. refl) (λ n. refl) (numeral (length ws) 0 63) e
