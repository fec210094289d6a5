-- Canonical words are words: they aren't empty, and all their bytes are printable and no blanks.
use Rattle.std.proofs.Common.{◌≡◌, ℕ, zero, suc, ◌-◌, ◌/◌, ◌%◌, ◌<◌, ◌≤◌, ◌&&◌, inl, inr, Bool, true, false, cond, eqb, leb, List}
use Rattle.std.proofs.Common.{[], ◌∷◌, ◌++◌, length, drop, map, decimal, Option, Ok, Err, codes, bytes_eq, refl, ap, ◌∙◌, arith}
use Rattle.std.specs.Prelude.{slice_index}
use Rattle.std.specs.List.{list_all, slice_split, flat_map, AllByRecursion}
use Rattle.std.specs.Char.{digit_char}
use Rattle.std.specs.Str.Parse.{AllDigits}
use Rattle.std.proofs.lemmas.Bool.Decides.{nat_tests}
use Rattle.std.proofs.lemmas.Fmt.{digits_decimal, decimal_nonempty}
use Rattle.std.proofs.lemmas.List.{append-nil}
use Rattle.std.proofs.lemmas.List.Elements.{All-from_recursion}
use Rattle.std.proofs.lemmas.List.Folds.{list_all-append}
use Rattle.std.proofs.lemmas.List.Splits.{slice_split_at, slice_split_none}
use Rattle.std.proofs.lemmas.Slice.Eq.{bytes_eq-Decides}
use Rattle.std.proofs.lemmas.Str.Parse.{digit_from_value}
use Rattle.spin_values.specs.declared.types.Kind.{Kind}
use Rattle.spin_values.specs.declared.types.Kind.TheVariants as kind
use Rattle.spin_values.specs.declared.types.Param.{Param}
use Rattle.spin_values.specs.declared.types.EventType.{EventType}
use Rattle.spin_grammar.specs.declared.cause.Cause.TheVariants as cause
use Rattle.spin_grammar.specs.declared.kind.Kind as lines
use Rattle.spin_grammar.specs.Spelling.{number, within, greatest, is_name_byte, is_name, signature, guard_signature, hex_bytes}
use Rattle.spin_grammar.specs.Words.{is_blank, words}
use Rattle.spin_grammar.specs.Grammar.{Atom, Fixed, Argument, Called, Want, Number, Name, Signature, HandlerBody, GuardBody, Expression, Test, Part, Steps, LayerKind, Merge, Op, HandlerOrAny, Own}
use Rattle.spin_grammar.specs.Grammar.{Effect, ForcedPlace, ForcedMode, Deed, Spot, Place, Mode, Values, Counted, Bindings, Rising, Exactly, Choices, expressions, tests, parts, steps, layers, merges}
use Rattle.spin_grammar.specs.Grammar.{ops, owns, effects, forced_places, forced_modes, spots, places, modes, deeds, as_number, chosen, is_argument, as_signature, as_blob, accepts, may_end, reads}
use Rattle.spin_grammar.specs.Lines.{LineMeaning, form, wanted, Spells}
use Rattle.spin_text.specs.Digits.{hex_digits, begins_with_digit}
use Rattle.spin_text.specs.Words.{line_of}
use Rattle.spin_grammar.specs.Canonical.{letter, letters, signature_word, spell}
use Rattle.spin_grammar.proofs.WordLemmas.{some_word}
use Rattle.spin_grammar.proofs.Signatures.{one_of, AreBytes, are_bytes}
use Rattle.spin_grammar.proofs.CanonicalSpelling.{own, is_printed, is_word, both, second, is_bounded, is_one, ok_same, by_number, by_count, by_rising}
use Rattle.spin_grammar.proofs.CanonicalSpelling.{by_rise, by_signature, by_blob, is_small, small_argument, next_bounded, went, over, wanted_bounded}

-- ---- bytes of words

digits_printed : (ds : List ℕ) → AllDigits 10 ds → list_all is_printed ds ≡ true
digits_printed [] h = refl
digits_printed (c ∷ cs) h =
    let r = digit_from_value c h.0 in
    let this : is_printed c ≡ true = grind (arith, nat_tests, r.0, r.1) in
    rw this (digits_printed cs h.1)

decimal_printed : (n : ℕ) → n ≤ greatest → list_all is_printed (decimal n) ≡ true
decimal_printed n h = digits_printed (decimal n) (digits_decimal own n (omega (arith, h)))

pub decimal_word : (n : ℕ) → n ≤ greatest → is_word (decimal n) ≡ true
decimal_word n h =
    let some : leb 1 (length (decimal n)) ≡ true = grind (arith, nat_tests, decimal_nonempty n (omega (arith, h))) in
    rw some (decimal_printed n h)

name_byte : (c : ℕ) → is_name_byte c ≡ true → is_printed c ≡ true
name_byte c h = grind (arith, nat_tests, h)

name_bytes : (w : List ℕ) → list_all is_name_byte w ≡ true → list_all is_printed w ≡ true
name_bytes [] h = refl
name_bytes (c ∷ cs) h = rw (name_byte c (both (is_name_byte c) (list_all is_name_byte cs) h)) (name_bytes cs (second (is_name_byte c) (list_all is_name_byte cs) h))

name_word : (w : List ℕ) → is_name w ≡ true → is_word w ≡ true
name_word w h =
    let sized : (leb 1 (length w) && leb (length w) 16) ≡ true = both (leb 1 (length w) && leb (length w) 16) (list_all is_name_byte w) h in
    rw (both (leb 1 (length w)) (leb (length w) 16) sized) (name_bytes w (second (leb 1 (length w) && leb (length w) 16) (list_all is_name_byte w) h))

letter_printed : (k : Kind) (v : Bool) → is_printed (letter k v) ≡ true
letter_printed kind.Word false = refl
letter_printed kind.Word true = refl
letter_printed kind.Bytes false = refl
letter_printed kind.Bytes true = refl

letters_printed : (ps : List Param) → list_all is_printed (letters ps) ≡ true
letters_printed [] = refl
letters_printed (p ∷ ps) = rw (letter_printed p.kind p.var) (letters_printed ps)

word_of : (c : ℕ) (cs : List ℕ) → list_all is_printed (c ∷ cs) ≡ true → is_word (c ∷ cs) ≡ true
word_of c cs h =
    let some : leb 1 (length (c ∷ cs)) ≡ true = grind (arith, nat_tests) in
    rw some h

typed_word : (ps : List Param) (gives : Bool) → is_word (signature_word (record { params = ps; gives = gives })) ≡ true
typed_word [] true = refl
typed_word [] false = refl
typed_word (p ∷ ps) false = word_of (letter p.kind p.var) (letters ps) (letters_printed (p ∷ ps))
typed_word (p ∷ ps) true = word_of (letter p.kind p.var) (letters ps ++ codes ":w") (list_all-append is_printed (letters (p ∷ ps)) (codes ":w") ∙ rw (letters_printed (p ∷ ps)) refl)

digit_printed : (d : ℕ) → d < 16 → is_printed (digit_char d) ≡ true
digit_printed d h = grind (arith, nat_tests, h)

hex_printed : (bs : List ℕ) → AreBytes bs → list_all is_printed (hex_digits bs) ≡ true
hex_printed [] h = refl
hex_printed (b ∷ bs) h =
    let this : b < 256 = h.0 in
    rw (digit_printed (b / 16) (omega (arith, this)), digit_printed (b % 16) (omega (arith, this))) (hex_printed bs h.1)

-- ---- the word at each place

abbrev table_words : Choices → Bool
table_words cs = list_all (λ (c : List ℕ × List Want). is_word c.0) cs

same_bytes : (w v : List ℕ) → bytes_eq w v ≡ true → w ≡ v
same_bytes w v h = (bytes_eq-Decides w v).0 h

chosen_word : (w : List ℕ) (cs : Choices) (p : Atom × List Want) → table_words cs ≡ true → chosen w cs ≡ Ok p → is_word (spell p.0) ≡ true
chosen_word w [] p b e = absurd cc
chosen_word w (c ∷ cs) p b e =
    elim (one_of (bytes_eq w c.0) (Ok (Fixed w, c.1)) (chosen w cs) (Ok p) e) [
      | inl h ↦ let same = ok_same (Fixed w, c.1) p h.1 in rw (← same) (rw (same_bytes w c.0 h.0) (both (is_word c.0) (table_words cs) b))
      | inr h ↦ chosen_word w cs p (second (is_word c.0) (table_words cs) b) h.1
    ]

effect_words : (v : ℕ) → table_words (effects v) ≡ true
effect_words v = by_flag (leb 2 v)
  where
    by_flag : (b : Bool) → list_all (λ (c : List ℕ × List Want). is_word c.0) (cond b ((codes "force", Counted 0 4 (Number 1 1023) ∷ ForcedPlace ∷ ForcedMode ∷ []) ∷ []) []) ≡ true
    by_flag true = refl
    by_flag false = refl

native_word : (w : List ℕ) (next : List Want) (p : Atom × List Want) → bytes_eq w (codes "native") ≡ true → (Fixed w, next) ≡ p → is_word (spell p.0) ≡ true
native_word w next p h same = rw (← same) (rw (same_bytes w (codes "native") h) refl)

number_word : (low high : ℕ) (w : List ℕ) (next : List Want) (p : Atom × List Want) → high ≤ greatest → as_number (within low high (number w)) next ≡ Ok p → is_word (spell p.0) ≡ true
number_word low high w next p h e =
    let n = by_number (within low high (number w)) next p e in
    rw (← n.2) (decimal_word n.0 (is_small low high n.0 w h n.1))

signature_place : (o : Option EventType) (next : List Want) (p : Atom × List Want) → as_signature o next ≡ Ok p → is_word (spell p.0) ≡ true
signature_place o next p e =
    let s = by_signature o next p e in
    rw (← s.2) (typed_word s.0.params s.0.gives)

argument_word : (w : List ℕ) (p : Atom × List Want) → is_argument w ≡ true → (Argument (slice_index w 1 - 48), []) ≡ p → is_word (spell p.0) ≡ true
argument_word w p h same = rw (← same) (word_of 97 (decimal (slice_index w 1 - 48)) (decimal_printed (slice_index w 1 - 48) (omega (arith, small_argument w h))))

pub word_spelled : (want : Want) (w : List ℕ) (p : Atom × List Want) → is_bounded want ≡ true → accepts want w ≡ Ok p → is_word (spell p.0) ≡ true
unfolding accepts
word_spelled (Number low high) w p b e = number_word low high w [] p (is_one high b) e
word_spelled Name w p b e =
    elim (one_of (is_name w) (Ok (Called w, [])) (Err cause.Name) (Ok p) e) [
      | inl h ↦ let same = ok_same (Called w, []) p h.1 in rw (← same) (name_word w h.0)
      | inr h ↦ absurd (let bad : Err cause.Name ≡ Ok p = h.1 in cc)
    ]
word_spelled Signature w p b e = signature_place (signature w) [] p e
word_spelled HandlerBody w p b e =
    elim (one_of (bytes_eq w (codes "native")) (Ok (Fixed w, Name ∷ [])) (as_signature (signature w) (Steps ∷ [])) (Ok p) e) [
      | inl h ↦ native_word w (Name ∷ []) p h.0 (ok_same (Fixed w, Name ∷ []) p h.1)
      | inr h ↦ signature_place (signature w) (Steps ∷ []) p h.1
    ]
word_spelled GuardBody w p b e =
    elim (one_of (bytes_eq w (codes "native")) (Ok (Fixed w, Name ∷ [])) (as_signature (guard_signature w) (Test ∷ [])) (Ok p) e) [
      | inl h ↦ native_word w (Name ∷ []) p h.0 (ok_same (Fixed w, Name ∷ []) p h.1)
      | inr h ↦ signature_place (guard_signature w) (Test ∷ []) p h.1
    ]
word_spelled Expression w p b e =
    elim (one_of (begins_with_digit w) (as_number (within 0 greatest (number w)) []) (cond (is_argument w) (Ok (Argument (slice_index w 1 - 48), [])) (chosen w expressions)) (Ok p) e) [
      | inl h ↦ number_word 0 greatest w [] p (omega arith) h.1
      | inr h ↦ elim (one_of (is_argument w) (Ok (Argument (slice_index w 1 - 48), [])) (chosen w expressions) (Ok p) h.1) [
        | inl k ↦ argument_word w p k.0 (ok_same (Argument (slice_index w 1 - 48), []) p k.1)
        | inr k ↦ chosen_word w expressions p refl k.1
      ]
    ]
word_spelled Test w p b e = chosen_word w tests p refl e
word_spelled Part w p b e = chosen_word w parts p refl e
word_spelled Steps w p b e = chosen_word w steps p refl e
word_spelled LayerKind w p b e = chosen_word w layers p refl e
word_spelled Merge w p b e = chosen_word w merges p refl e
word_spelled Op w p b e = chosen_word w ops p refl e
word_spelled HandlerOrAny w p b e =
    elim (one_of (begins_with_digit w) (as_number (within 1 1023 (number w)) []) (chosen w ((codes "any", []) ∷ [])) (Ok p) e) [
      | inl h ↦ number_word 1 1023 w [] p (omega arith) h.1
      | inr h ↦ chosen_word w ((codes "any", []) ∷ []) p refl h.1
    ]
word_spelled Own w p b e = chosen_word w owns p refl e
word_spelled (Effect v) w p b e = chosen_word w (effects v) p (effect_words v) e
word_spelled ForcedPlace w p b e = chosen_word w forced_places p refl e
word_spelled ForcedMode w p b e = chosen_word w forced_modes p refl e
word_spelled (Deed v) w p b e = chosen_word w (deeds v) p refl e
word_spelled Spot w p b e = chosen_word w spots p refl e
word_spelled Place w p b e = chosen_word w places p refl e
word_spelled Mode w p b e = chosen_word w modes p refl e
word_spelled (Values zero) w p b e = absurd cc
word_spelled (Values (suc k)) w p b e =
    elim (one_of (eqb (slice_index w 0) 120) (as_blob (hex_bytes (drop 1 w)) (Values k ∷ [])) (as_number (within 0 greatest (number w)) (Values k ∷ [])) (Ok p) e) [
      | inl h ↦ let s = by_blob (hex_bytes (drop 1 w)) (Values k ∷ []) p h.1 in rw (← s.2) (word_of 120 (hex_digits s.0) (hex_printed s.0 (are_bytes (drop 1 w) s.0 s.1)))
      | inr h ↦ number_word 0 greatest w (Values k ∷ []) p (omega arith) h.1
    ]
word_spelled (Counted low high want) w p b e =
    let n = by_count (within low high (number w)) want p e in
    rw (← n.2) (decimal_word n.0 (is_small low high n.0 w (is_one high (both (leb high greatest) (is_bounded want) b)) n.1))
word_spelled Bindings w p b e =
    let n = by_rising (within 0 4 (number w)) p e in
    rw (← n.2) (decimal_word n.0 (is_small 0 4 n.0 w (omega arith) n.1))
word_spelled (Rising low more) w p b e =
    let n = by_rise (within low 4096 (number w)) more p e in
    rw (← n.2) (decimal_word n.0 (is_small low 4096 n.0 w (omega arith) n.1))
word_spelled (Exactly word) w p b e = chosen_word w ((word, []) ∷ []) p (rw b refl) e

-- ---- a whole line

abbrev pub IsWord : List ℕ → Type 0
IsWord w = is_word w ≡ true

reads_words : (wants : List Want) (ws : List (List ℕ)) (atoms : List Atom) → list_all is_bounded wants ≡ true → reads wants ws ≡ Ok atoms → AllByRecursion IsWord (map spell atoms)
unfolding reads
reads_words [] [] atoms b e = let none = over true atoms e in rw (← none) tt
reads_words (want ∷ wants) [] atoms b e = let none = over (list_all may_end (want ∷ wants)) atoms e in rw (← none) tt
reads_words [] (w ∷ ws) atoms b e = absurd cc
reads_words (want ∷ wants) (w ∷ ws) atoms b e =
    let s = went (accepts want w) wants ws atoms e in
    let this = both (is_bounded want) (list_all is_bounded wants) b in
    let others = second (is_bounded want) (list_all is_bounded wants) b in
    let more : list_all is_bounded (s.0.1 ++ wants) ≡ true = list_all-append is_bounded s.0.1 wants ∙ rw (next_bounded want w s.0 this s.1, others) refl in
    rw (← s.4) (word_spelled want w s.0 this s.1, reads_words (s.0.1 ++ wants) ws s.2 more s.3)

-- what words say has canonical words
pub line_words : (version : ℕ) (k : lines.Kind) (ws : List (List ℕ)) (l : LineMeaning) → Spells version k ws l → AllByRecursion IsWord (map spell (form l))
line_words version k ws l s = reads_words (wanted version k) ws (form l) (wanted_bounded version k) s.words

-- ---- the words of a line that was made of words

no_blank : (w : List ℕ) → list_all is_printed w ≡ true → AllByRecursion (λ b. is_blank b ≡ false) w
no_blank [] h = tt
no_blank (b ∷ bs) h =
    let this : is_printed b ≡ true = both (is_printed b) (list_all is_printed bs) h in
    let other : is_blank b ≡ false = grind (arith, nat_tests, this) in
    (other, no_blank bs (second (is_printed b) (list_all is_printed bs) h))

some_bytes : (w : List ℕ) → IsWord w → 0 < length w
some_bytes w h =
    let some : leb 1 (length w) ≡ true = both (leb 1 (length w)) (list_all is_printed w) h in
    grind (arith, nat_tests, some)

pub printed_bytes : (w : List ℕ) → IsWord w → list_all is_printed w ≡ true
printed_bytes w h = second (leb 1 (length w)) (list_all is_printed w) h

pub words_back : (w : List ℕ) (ws : List (List ℕ)) → AllByRecursion IsWord (w ∷ ws) → words (line_of (w ∷ ws)) ≡ w ∷ ws
unfolding words
words_back w [] h =
    rw (append-nil, slice_split_none is_blank w (All-from_recursion (λ b. is_blank b ≡ false) w (no_blank w (printed_bytes w h.0)))) (some_word w [] (some_bytes w h.0))
words_back w (v ∷ vs) h =
    let rest : List ℕ = v ++ flat_map (λ (x : List ℕ). 32 ∷ x) vs in
    rw (slice_split_at is_blank w 32 rest (All-from_recursion (λ b. is_blank b ≡ false) w (no_blank w (printed_bytes w h.0))) refl)
    (some_word w (slice_split is_blank rest) (some_bytes w h.0) ∙ ap (λ (x : List (List ℕ)). w ∷ x) (words_back v vs h.1))
