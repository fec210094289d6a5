-- Words that are spelled canonically say what they said.
use Rattle.std.proofs.Common.{◌≡◌, ℕ, zero, suc, ◌+◌, ◌-◌, ◌<◌, ◌≤◌, ◌^◌, ◌&&◌, inl, inr, Bool, true, false, cond, eqb, leb, List, [], ◌∷◌, ◌++◌}
use Rattle.std.proofs.Common.{length, take, drop, map, replicate, decimal, Option, Some, None, Ok, Err, codes, bytes_eq, refl, sym, ap, ◌∙◌, arith}
use Rattle.std.specs.Prelude.{slice_index}
use Rattle.std.specs.List.{list_all}
use Rattle.std.specs.Char.{digit_value}
use Rattle.std.specs.Str.Parse.{digits_value, AllDigits}
use Rattle.std.proofs.lemmas.Bool.Decides.{nat_tests}
use Rattle.std.proofs.lemmas.Bool.{lt-ltb}
use Rattle.std.proofs.lemmas.Fmt.{digits_decimal, digits_value-decimal, decimal_nonempty, decimal_digit}
use Rattle.std.proofs.lemmas.Str.Parse.{IsNumeralModel, numerals_by_value, tells_digits, digit_at, digit_from_value}
use Rattle.spin_grammar.specs.declared.cause.Cause.TheVariants as cause
use Rattle.std.proofs.lemmas.List.Folds.{list_all-append}
use Rattle.spin_values.specs.declared.types.EventType.{EventType}
use Rattle.spin_grammar.specs.declared.kind.Kind.{Kind}
use Rattle.spin_grammar.specs.declared.kind.Kind.TheVariants as kind
use Rattle.spin_grammar.specs.Spelling.{is_digit, numeral, number, within, greatest, is_name, signature, guard_signature, hex_bytes}
use Rattle.spin_grammar.specs.Grammar.{Atom, Fixed, Numeral, Argument, Called, Typed, Blob, Want, Number, Name, Signature, HandlerBody, GuardBody, Expression, Test, Part, Steps}
use Rattle.spin_grammar.specs.Grammar.{LayerKind, Merge, Op, HandlerOrAny, Own, Effect, ForcedPlace, ForcedMode, Deed, Spot, Place, Mode, Values, Counted, Bindings, Rising, Exactly}
use Rattle.spin_grammar.specs.Grammar.{Choices, expressions, tests, parts, steps, layers, merges, ops, owns, effects, forced_places, forced_modes, spots, places, modes, deeds, WordStep}
use Rattle.spin_grammar.specs.Grammar.{as_number, chosen, is_argument, as_signature, as_blob, as_count, rising, as_rising, as_rise, accepts, may_end, Reading, then_read, reads}
use Rattle.spin_grammar.specs.Lines.{LineMeaning, form, wanted, Spells}
use Rattle.spin_text.specs.Digits.{begins_with_digit}
use Rattle.spin_grammar.specs.Canonical.{spell}
use Rattle.spin_grammar.proofs.Signatures.{one_of, signature_again, guard_signature_again, not_native, bytes_again}

-- ---- numbers

pub own : IsNumeralModel (AllDigits 10) (digits_value 10)
own = numerals_by_value _ tells_digits

all_digits : (ds : List ℕ) → AllDigits 10 ds → list_all (is_digit 10) ds ≡ true
all_digits [] h = refl
all_digits (c ∷ cs) h = rw (lt-ltb (digit_value c) 10 h.0) (all_digits cs h.1)

decimal_numeral : (n : ℕ) → n < 2 ^ 64 → numeral 10 (decimal n) ≡ Some n
decimal_numeral n h =
    rw (lt-ltb 0 (length (decimal n)) (decimal_nonempty n h), all_digits (decimal n) (digits_decimal own n h), digits_value-decimal own n h) refl

and_false : (b : Bool) → (b && false) ≡ false
and_false true = refl
and_false false = refl

no_prefix : (ds : List ℕ) → AllDigits 10 ds → bytes_eq (take 2 ds) (codes "0x") ≡ false
no_prefix [] h = refl
no_prefix (c ∷ []) h = and_false (eqb c 48)
no_prefix (c ∷ d ∷ ds) h =
    let r = digit_from_value d h.1.0 in
    let other : eqb d 120 ≡ false = grind (arith, nat_tests, r.0, r.1) in
    rw other (and_false (eqb c 48))

pub number_back : (n : ℕ) → n ≤ greatest → number (decimal n) ≡ Some n
unfolding number
number_back n h =
    let small : n < 2 ^ 64 = omega (arith, h) in
    rw (no_prefix (decimal n) (digits_decimal own n small)) (decimal_numeral n small)

digit_first : (w : List ℕ) → begins_with_digit w ≡ (leb 48 (slice_index w 0) && leb (slice_index w 0) 57)
digit_first [] = refl
digit_first (b ∷ bs) = refl

pub first_digit : (n : ℕ) → n ≤ greatest → begins_with_digit (decimal n) ≡ true
first_digit n h =
    let small : n < 2 ^ 64 = omega (arith, h) in
    let r = digit_at (decimal n) 0 (digits_decimal own n small) (decimal_nonempty n small) in
    rw (digit_first (decimal n)) (grind (arith, nat_tests, r.0, r.1))

pub no_bytes : (n : ℕ) → n ≤ greatest → eqb (slice_index (decimal n) 0) 120 ≡ false
no_bytes n h =
    let small : n < 2 ^ 64 = omega (arith, h) in
    let r = digit_at (decimal n) 0 (digits_decimal own n small) (decimal_nonempty n small) in
    grind (arith, nat_tests, r.0, r.1)

-- a test that gave something
picked : (b : Bool) (m n : ℕ) → cond b (Some m) None ≡ Some n → (b ≡ true) × (m ≡ n)
picked true m n e = (refl, cc)
picked false m n e = absurd cc

-- a number in its range is that again
within_again : (low high n : ℕ) (o : Option ℕ) → high ≤ greatest → within low high o ≡ Some n → (n ≤ greatest) × (within low high (Some n) ≡ Some n)
within_again low high n None h e = absurd cc
within_again low high n (Some m) h e =
    let p = picked (leb low m && leb m high) m n e in
    let same : within low high (Some n) ≡ Some n = rw p.1 at e in
    let small : n ≤ high = grind (arith, nat_tests, p.0, p.1) in
    (omega (arith, small, h), same)

pub number_again : (low high n : ℕ) (w : List ℕ) → high ≤ greatest → within low high (number w) ≡ Some n → within low high (number (decimal n)) ≡ Some n
number_again low high n w h e =
    let a = within_again low high n (number w) h e in
    rw (number_back n a.0) a.1

pub is_small : (low high n : ℕ) (w : List ℕ) → high ≤ greatest → within low high (number w) ≡ Some n → n ≤ greatest
is_small low high n w h e = (within_again low high n (number w) h e).0

-- ---- one word at its place

pub both : (a b : Bool) → (a && b) ≡ true → a ≡ true
both true b e = refl
both false b e = absurd cc

pub second : (a b : Bool) → (a && b) ≡ true → b ≡ true
second true b e = e
second false b e = absurd cc

-- neither a blank nor the end of a line
abbrev pub is_printed : ℕ → Bool
is_printed b = leb 33 b && leb b 126

-- a word has some of these
abbrev pub is_word : List ℕ → Bool
is_word w = leb 1 (length w) && list_all is_printed w

-- numbers that are wanted have 64 bits, and the one word that is wanted is a word
abbrev pub is_bounded : Want → Bool
is_bounded (Number low high) = leb high greatest
is_bounded (Counted low high want) = leb high greatest && is_bounded want
is_bounded (Exactly word) = is_word word
is_bounded want = true

pub ok_same : (p q : Atom × List Want) → ◌≡◌ {A = WordStep} (Ok p) (Ok q) → p ≡ q
ok_same p q e = cc

-- one of several fixed words
pub chosen_word : (w : List ℕ) (cs : Choices) (p : Atom × List Want) → chosen w cs ≡ Ok p → p.0 ≡ Fixed w
chosen_word w [] p e = absurd cc
chosen_word w (c ∷ cs) p e =
    elim (one_of (bytes_eq w c.0) (Ok (Fixed w, c.1)) (chosen w cs) (Ok p) e) [
      | inl h ↦ sym (ap (λ (q : Atom × List Want). q.0) (ok_same (Fixed w, c.1) p h.1))
      | inr h ↦ chosen_word w cs p h.1
    ]

-- a word that says itself
itself : (want : Want) (w : List ℕ) (p : Atom × List Want) → spell p.0 ≡ w → accepts want w ≡ Ok p → accepts want (spell p.0) ≡ Ok p
itself want w p same e = rw same e

fixed : (want : Want) (w : List ℕ) (cs : Choices) (p : Atom × List Want) → accepts want w ≡ Ok p → chosen w cs ≡ Ok p → accepts want (spell p.0) ≡ Ok p
fixed want w cs p e c = itself want w p (ap spell (chosen_word w cs p c)) e

pub by_number : (o : Option ℕ) (next : List Want) (p : Atom × List Want) → as_number o next ≡ Ok p → (n : ℕ) × (o ≡ Some n) × ((Numeral n, next) ≡ p)
by_number None next p e = absurd cc
by_number (Some n) next p e = (n, refl, ok_same (Numeral n, next) p e)

pub by_count : (o : Option ℕ) (want : Want) (p : Atom × List Want) → as_count o want ≡ Ok p → (n : ℕ) × (o ≡ Some n) × ((Numeral n, replicate n want) ≡ p)
by_count None want p e = absurd cc
by_count (Some n) want p e = (n, refl, ok_same (Numeral n, replicate n want) p e)

pub by_rising : (o : Option ℕ) (p : Atom × List Want) → as_rising o ≡ Ok p → (n : ℕ) × (o ≡ Some n) × ((Numeral n, rising 0 n) ≡ p)
by_rising None p e = absurd cc
by_rising (Some n) p e = (n, refl, ok_same (Numeral n, rising 0 n) p e)

pub by_rise : (o : Option ℕ) (more : ℕ) (p : Atom × List Want) → as_rise o more ≡ Ok p → (n : ℕ) × (o ≡ Some n) × ((Numeral n, rising (n + 1) more) ≡ p)
by_rise None more p e = absurd cc
by_rise (Some n) more p e = (n, refl, ok_same (Numeral n, rising (n + 1) more) p e)

pub by_signature : (o : Option EventType) (next : List Want) (p : Atom × List Want) → as_signature o next ≡ Ok p → (sig : EventType) × (o ≡ Some sig) × ((Typed sig, next) ≡ p)
by_signature None next p e = absurd cc
by_signature (Some sig) next p e = (sig, refl, ok_same (Typed sig, next) p e)

pub by_blob : (o : Option (List ℕ)) (next : List Want) (p : Atom × List Want) → as_blob o next ≡ Ok p → (bs : List ℕ) × (o ≡ Some bs) × ((Blob bs, next) ≡ p)
by_blob None next p e = absurd cc
by_blob (Some bs) next p e = (bs, refl, ok_same (Blob bs, next) p e)

pub is_one : (high : ℕ) → leb high greatest ≡ true → high ≤ greatest
is_one high h = grind (arith, nat_tests, h)

number_word : (low high : ℕ) (w : List ℕ) (p : Atom × List Want) → high ≤ greatest → accepts (Number low high) w ≡ Ok p → accepts (Number low high) (spell p.0) ≡ Ok p
unfolding accepts
number_word low high w p h e =
    let n = by_number (within low high (number w)) [] p e in
    rw (← n.2) (rw (number_again low high n.0 w h n.1) refl)

count_word : (low high : ℕ) (want : Want) (w : List ℕ) (p : Atom × List Want) → high ≤ greatest → accepts (Counted low high want) w ≡ Ok p → accepts (Counted low high want) (spell p.0) ≡ Ok p
unfolding accepts
count_word low high want w p h e =
    let n = by_count (within low high (number w)) want p e in
    rw (← n.2) (rw (number_again low high n.0 w h n.1) refl)

bindings_word : (w : List ℕ) (p : Atom × List Want) → accepts Bindings w ≡ Ok p → accepts Bindings (spell p.0) ≡ Ok p
unfolding accepts
bindings_word w p e =
    let n = by_rising (within 0 4 (number w)) p e in
    rw (← n.2) (rw (number_again 0 4 n.0 w (omega arith) n.1) refl)

rising_word : (low more : ℕ) (w : List ℕ) (p : Atom × List Want) → accepts (Rising low more) w ≡ Ok p → accepts (Rising low more) (spell p.0) ≡ Ok p
unfolding accepts
rising_word low more w p e =
    let n = by_rise (within low 4096 (number w)) more p e in
    rw (← n.2) (rw (number_again low 4096 n.0 w (omega arith) n.1) refl)

argument_back : (k : ℕ) → k ≤ 7 → accepts Expression (97 ∷ decimal k) ≡ Ok (Argument k, [])
unfolding accepts
argument_back k h =
    let low : leb 48 (48 + k) ≡ true = grind (arith, nat_tests) in
    let high : leb (48 + k) 55 ≡ true = grind (arith, nat_tests) in
    let same : 48 + k - 48 ≡ k = omega arith in
    rw (decimal_digit k (omega (arith, h)), low, high, same) refl

pub small_argument : (w : List ℕ) → is_argument w ≡ true → slice_index w 1 - 48 ≤ 7
small_argument w h = grind (arith, nat_tests, h)

expression_digit : (w : List ℕ) (p : Atom × List Want) → as_number (within 0 greatest (number w)) [] ≡ Ok p → accepts Expression (spell p.0) ≡ Ok p
unfolding accepts
expression_digit w p e =
    let n = by_number (within 0 greatest (number w)) [] p e in
    rw (← n.2) (rw (first_digit n.0 (is_small 0 greatest n.0 w (omega arith) n.1), number_again 0 greatest n.0 w (omega arith) n.1) refl)

expression_word : (w : List ℕ) (p : Atom × List Want) → accepts Expression w ≡ Ok p → accepts Expression (spell p.0) ≡ Ok p
unfolding accepts
expression_word w p e =
    elim (one_of (begins_with_digit w) (as_number (within 0 greatest (number w)) []) (cond (is_argument w) (Ok (Argument (slice_index w 1 - 48), [])) (chosen w expressions)) (Ok p) e) [
      | inl h ↦ expression_digit w p h.1
      | inr h ↦ elim (one_of (is_argument w) (Ok (Argument (slice_index w 1 - 48), [])) (chosen w expressions) (Ok p) h.1) [
        | inl k ↦ let same = ok_same (Argument (slice_index w 1 - 48), []) p k.1 in rw (← same) (argument_back (slice_index w 1 - 48) (small_argument w k.0))
        | inr k ↦ fixed Expression w expressions p e k.1
      ]
    ]

handler_digit : (w : List ℕ) (p : Atom × List Want) → as_number (within 1 1023 (number w)) [] ≡ Ok p → accepts HandlerOrAny (spell p.0) ≡ Ok p
unfolding accepts
handler_digit w p e =
    let n = by_number (within 1 1023 (number w)) [] p e in
    rw (← n.2) (rw (first_digit n.0 (is_small 1 1023 n.0 w (omega arith) n.1), number_again 1 1023 n.0 w (omega arith) n.1) refl)

handler_word : (w : List ℕ) (p : Atom × List Want) → accepts HandlerOrAny w ≡ Ok p → accepts HandlerOrAny (spell p.0) ≡ Ok p
unfolding accepts
handler_word w p e =
    elim (one_of (begins_with_digit w) (as_number (within 1 1023 (number w)) []) (chosen w ((codes "any", []) ∷ [])) (Ok p) e) [
      | inl h ↦ handler_digit w p h.1
      | inr h ↦ fixed HandlerOrAny w ((codes "any", []) ∷ []) p e h.1
    ]

value_bytes : (k : ℕ) (w : List ℕ) (p : Atom × List Want) → as_blob (hex_bytes (drop 1 w)) (Values k ∷ []) ≡ Ok p → accepts (Values (suc k)) (spell p.0) ≡ Ok p
unfolding accepts
value_bytes k w p e =
    let b = by_blob (hex_bytes (drop 1 w)) (Values k ∷ []) p e in
    rw (← b.2) (rw (bytes_again (drop 1 w) b.0 b.1) refl)

value_number : (k : ℕ) (w : List ℕ) (p : Atom × List Want) → as_number (within 0 greatest (number w)) (Values k ∷ []) ≡ Ok p → accepts (Values (suc k)) (spell p.0) ≡ Ok p
unfolding accepts
value_number k w p e =
    let n = by_number (within 0 greatest (number w)) (Values k ∷ []) p e in
    rw (← n.2) (rw (no_bytes n.0 (is_small 0 greatest n.0 w (omega arith) n.1), number_again 0 greatest n.0 w (omega arith) n.1) refl)

value_word : (k : ℕ) (w : List ℕ) (p : Atom × List Want) → accepts (Values k) w ≡ Ok p → accepts (Values k) (spell p.0) ≡ Ok p
unfolding accepts
value_word zero w p e = absurd cc
value_word (suc k) w p e =
    elim (one_of (eqb (slice_index w 0) 120) (as_blob (hex_bytes (drop 1 w)) (Values k ∷ [])) (as_number (within 0 greatest (number w)) (Values k ∷ [])) (Ok p) e) [
      | inl h ↦ value_bytes k w p h.1
      | inr h ↦ value_number k w p h.1
    ]

signature_place : (w : List ℕ) (p : Atom × List Want) → accepts Signature w ≡ Ok p → accepts Signature (spell p.0) ≡ Ok p
unfolding accepts
signature_place w p e =
    let s = by_signature (signature w) [] p e in
    rw (← s.2) (rw (signature_again w s.0 s.1) refl)

handler_sig : (w : List ℕ) (p : Atom × List Want) → as_signature (signature w) (Steps ∷ []) ≡ Ok p → accepts HandlerBody (spell p.0) ≡ Ok p
unfolding accepts
handler_sig w p e =
    let s = by_signature (signature w) (Steps ∷ []) p e in
    rw (← s.2) (rw (not_native s.0, signature_again w s.0 s.1) refl)

handler_place : (w : List ℕ) (p : Atom × List Want) → accepts HandlerBody w ≡ Ok p → accepts HandlerBody (spell p.0) ≡ Ok p
unfolding accepts
handler_place w p e =
    elim (one_of (bytes_eq w (codes "native")) (Ok (Fixed w, Name ∷ [])) (as_signature (signature w) (Steps ∷ [])) (Ok p) e) [
      | inl h ↦ itself HandlerBody w p (ap (λ (q : Atom × List Want). spell q.0) (sym (ok_same (Fixed w, Name ∷ []) p h.1))) e
      | inr h ↦ handler_sig w p h.1
    ]

guard_sig : (w : List ℕ) (p : Atom × List Want) → as_signature (guard_signature w) (Test ∷ []) ≡ Ok p → accepts GuardBody (spell p.0) ≡ Ok p
unfolding accepts
guard_sig w p e =
    let s = by_signature (guard_signature w) (Test ∷ []) p e in
    rw (← s.2) (rw (not_native s.0, guard_signature_again w s.0 s.1) refl)

guard_place : (w : List ℕ) (p : Atom × List Want) → accepts GuardBody w ≡ Ok p → accepts GuardBody (spell p.0) ≡ Ok p
unfolding accepts
guard_place w p e =
    elim (one_of (bytes_eq w (codes "native")) (Ok (Fixed w, Name ∷ [])) (as_signature (guard_signature w) (Test ∷ [])) (Ok p) e) [
      | inl h ↦ itself GuardBody w p (ap (λ (q : Atom × List Want). spell q.0) (sym (ok_same (Fixed w, Name ∷ []) p h.1))) e
      | inr h ↦ guard_sig w p h.1
    ]

name_place : (w : List ℕ) (p : Atom × List Want) → accepts Name w ≡ Ok p → accepts Name (spell p.0) ≡ Ok p
unfolding accepts
name_place w p e =
    elim (one_of (is_name w) (Ok (Called w, [])) (Err cause.Name) (Ok p) e) [
      | inl h ↦ itself Name w p (ap (λ (q : Atom × List Want). spell q.0) (sym (ok_same (Called w, []) p h.1))) e
      | inr h ↦ absurd (let bad : Err cause.Name ≡ Ok p = h.1 in cc)
    ]

pub accepts_again : (want : Want) (w : List ℕ) (p : Atom × List Want) → is_bounded want ≡ true → accepts want w ≡ Ok p → accepts want (spell p.0) ≡ Ok p
unfolding accepts
accepts_again (Number low high) w p b e = number_word low high w p (is_one high b) e
accepts_again Name w p b e = name_place w p e
accepts_again Signature w p b e = signature_place w p e
accepts_again HandlerBody w p b e = handler_place w p e
accepts_again GuardBody w p b e = guard_place w p e
accepts_again Expression w p b e = expression_word w p e
accepts_again Test w p b e = fixed Test w tests p e e
accepts_again Part w p b e = fixed Part w parts p e e
accepts_again Steps w p b e = fixed Steps w steps p e e
accepts_again LayerKind w p b e = fixed LayerKind w layers p e e
accepts_again Merge w p b e = fixed Merge w merges p e e
accepts_again Op w p b e = fixed Op w ops p e e
accepts_again HandlerOrAny w p b e = handler_word w p e
accepts_again Own w p b e = fixed Own w owns p e e
accepts_again (Effect v) w p b e = fixed (Effect v) w (effects v) p e e
accepts_again ForcedPlace w p b e = fixed ForcedPlace w forced_places p e e
accepts_again ForcedMode w p b e = fixed ForcedMode w forced_modes p e e
accepts_again (Deed v) w p b e = fixed (Deed v) w (deeds v) p e e
accepts_again Spot w p b e = fixed Spot w spots p e e
accepts_again Place w p b e = fixed Place w places p e e
accepts_again Mode w p b e = fixed Mode w modes p e e
accepts_again (Values k) w p b e = value_word k w p e
accepts_again (Counted low high want) w p b e = count_word low high want w p (is_one high (both (leb high greatest) (is_bounded want) b)) e
accepts_again Bindings w p b e = bindings_word w p e
accepts_again (Rising low more) w p b e = rising_word low more w p e
accepts_again (Exactly word) w p b e = fixed (Exactly word) w ((word, []) ∷ []) p e e

-- ---- what is wanted behind a word has ranges that numbers of 64 bits have

abbrev table_bounded : Choices → Bool
table_bounded cs = list_all (λ (c : List ℕ × List Want). list_all is_bounded c.1) cs

chosen_bounded : (w : List ℕ) (cs : Choices) (p : Atom × List Want) → table_bounded cs ≡ true → chosen w cs ≡ Ok p → list_all is_bounded p.1 ≡ true
chosen_bounded w [] p b e = absurd cc
chosen_bounded w (c ∷ cs) p b e =
    elim (one_of (bytes_eq w c.0) (Ok (Fixed w, c.1)) (chosen w cs) (Ok p) e) [
      | inl h ↦ let same = ok_same (Fixed w, c.1) p h.1 in rw (← same) (both (list_all is_bounded c.1) (table_bounded cs) b)
      | inr h ↦ chosen_bounded w cs p (second (list_all is_bounded c.1) (table_bounded cs) b) h.1
    ]

replicated : (n : ℕ) (want : Want) → is_bounded want ≡ true → list_all is_bounded (replicate n want) ≡ true
replicated zero want b = refl
replicated (suc n) want b = rw b (replicated n want b)

rising_bounded : (low k : ℕ) → list_all is_bounded (rising low k) ≡ true
rising_bounded low zero = refl
rising_bounded low (suc k) = refl

effect_table : (v : ℕ) → table_bounded (effects v) ≡ true
effect_table v = by_flag (leb 2 v)
  where
    by_flag : (b : Bool) → list_all (λ (c : List ℕ × List Want). list_all is_bounded c.1) (cond b ((codes "force", Counted 0 4 (Number 1 1023) ∷ ForcedPlace ∷ ForcedMode ∷ []) ∷ []) []) ≡ true
    by_flag true = refl
    by_flag false = refl

deed_table : (v : ℕ) → table_bounded (deeds v) ≡ true
deed_table v = rw (target (eqb v 3), spot (eqb v 3)) refl
  where
    target : (b : Bool) → leb (cond b 4096 1023) greatest ≡ true
    target true = refl
    target false = refl

    spot : (b : Bool) → list_all is_bounded (cond b (Place ∷ Exactly (codes "before") ∷ Bindings ∷ Exactly (codes "after") ∷ Bindings ∷ []) (Spot ∷ []) ++ Mode ∷ []) ≡ true
    spot true = refl
    spot false = refl

plain_next : (want : Want) (w : List ℕ) (n : ℕ) (o : Option ℕ) (next : List Want) (p : Atom × List Want) → list_all is_bounded next ≡ true → as_number o next ≡ Ok p → list_all is_bounded p.1 ≡ true
plain_next want w n o next p b e = let k = by_number o next p e in rw (← k.2) b

signature_next : (o : Option EventType) (next : List Want) (p : Atom × List Want) → list_all is_bounded next ≡ true → as_signature o next ≡ Ok p → list_all is_bounded p.1 ≡ true
signature_next o next p b e = let k = by_signature o next p e in rw (← k.2) b

word_next : (a : Atom) (next : List Want) (p : Atom × List Want) → list_all is_bounded next ≡ true → ◌≡◌ {A = WordStep} (Ok (a, next)) (Ok p) → list_all is_bounded p.1 ≡ true
word_next a next p b e = let same = ok_same (a, next) p e in rw (← same) b

pub next_bounded : (want : Want) (w : List ℕ) (p : Atom × List Want) → is_bounded want ≡ true → accepts want w ≡ Ok p → list_all is_bounded p.1 ≡ true
unfolding accepts
next_bounded (Number low high) w p b e = plain_next (Number low high) w 0 (within low high (number w)) [] p refl e
next_bounded Name w p b e =
    elim (one_of (is_name w) (Ok (Called w, [])) (Err cause.Name) (Ok p) e) [ inl h ↦ word_next (Called w) [] p refl h.1 | inr h ↦ absurd (let bad : Err cause.Name ≡ Ok p = h.1 in cc) ]
next_bounded Signature w p b e = signature_next (signature w) [] p refl e
next_bounded HandlerBody w p b e =
    elim (one_of (bytes_eq w (codes "native")) (Ok (Fixed w, Name ∷ [])) (as_signature (signature w) (Steps ∷ [])) (Ok p) e)
    [ inl h ↦ word_next (Fixed w) (Name ∷ []) p refl h.1 | inr h ↦ signature_next (signature w) (Steps ∷ []) p refl h.1 ]
next_bounded GuardBody w p b e =
    elim (one_of (bytes_eq w (codes "native")) (Ok (Fixed w, Name ∷ [])) (as_signature (guard_signature w) (Test ∷ [])) (Ok p) e)
    [ inl h ↦ word_next (Fixed w) (Name ∷ []) p refl h.1 | inr h ↦ signature_next (guard_signature w) (Test ∷ []) p refl h.1 ]
next_bounded Expression w p b e =
    elim (one_of (begins_with_digit w) (as_number (within 0 greatest (number w)) []) (cond (is_argument w) (Ok (Argument (slice_index w 1 - 48), [])) (chosen w expressions)) (Ok p) e) [
      | inl h ↦ plain_next Expression w 0 (within 0 greatest (number w)) [] p refl h.1
      | inr h ↦ elim (one_of (is_argument w) (Ok (Argument (slice_index w 1 - 48), [])) (chosen w expressions) (Ok p) h.1) [
        | inl k ↦ word_next (Argument (slice_index w 1 - 48)) [] p refl k.1
        | inr k ↦ chosen_bounded w expressions p refl k.1
      ]
    ]
next_bounded Test w p b e = chosen_bounded w tests p refl e
next_bounded Part w p b e = chosen_bounded w parts p refl e
next_bounded Steps w p b e = chosen_bounded w steps p refl e
next_bounded LayerKind w p b e = chosen_bounded w layers p refl e
next_bounded Merge w p b e = chosen_bounded w merges p refl e
next_bounded Op w p b e = chosen_bounded w ops p refl e
next_bounded HandlerOrAny w p b e =
    elim (one_of (begins_with_digit w) (as_number (within 1 1023 (number w)) []) (chosen w ((codes "any", []) ∷ [])) (Ok p) e) [
      | inl h ↦ plain_next HandlerOrAny w 0 (within 1 1023 (number w)) [] p refl h.1
      | inr h ↦ chosen_bounded w ((codes "any", []) ∷ []) p refl h.1
    ]
next_bounded Own w p b e = chosen_bounded w owns p refl e
next_bounded (Effect v) w p b e = chosen_bounded w (effects v) p (effect_table v) e
next_bounded ForcedPlace w p b e = chosen_bounded w forced_places p refl e
next_bounded ForcedMode w p b e = chosen_bounded w forced_modes p refl e
next_bounded (Deed v) w p b e = chosen_bounded w (deeds v) p (deed_table v) e
next_bounded Spot w p b e = chosen_bounded w spots p refl e
next_bounded Place w p b e = chosen_bounded w places p refl e
next_bounded Mode w p b e = chosen_bounded w modes p refl e
next_bounded (Values zero) w p b e = absurd cc
next_bounded (Values (suc k)) w p b e =
    elim (one_of (eqb (slice_index w 0) 120) (as_blob (hex_bytes (drop 1 w)) (Values k ∷ [])) (as_number (within 0 greatest (number w)) (Values k ∷ [])) (Ok p) e) [
      | inl h ↦ let s = by_blob (hex_bytes (drop 1 w)) (Values k ∷ []) p h.1 in rw (← s.2) refl
      | inr h ↦ plain_next (Values k) w 0 (within 0 greatest (number w)) (Values k ∷ []) p refl h.1
    ]
next_bounded (Counted low high want) w p b e =
    let n = by_count (within low high (number w)) want p e in
    rw (← n.2) (replicated n.0 want (second (leb high greatest) (is_bounded want) b))
next_bounded Bindings w p b e =
    let n = by_rising (within 0 4 (number w)) p e in
    rw (← n.2) (rising_bounded 0 n.0)
next_bounded (Rising low more) w p b e =
    let n = by_rise (within low 4096 (number w)) more p e in
    rw (← n.2) (rising_bounded (n.0 + 1) more)
next_bounded (Exactly word) w p b e = chosen_bounded w ((word, []) ∷ []) p refl e

-- ---- a whole line

abbrev pub stepped : WordStep → List Want → List (List ℕ) → Reading
stepped s wants ws = elim s [ Err c ↦ Err c | Ok p ↦ then_read (p.0 ∷ []) (reads (p.1 ++ wants) ws) ]

after_word : (r : Reading) (a : Atom) (atoms : List Atom) → then_read (a ∷ []) r ≡ Ok atoms → (rest : List Atom) × (r ≡ Ok rest) × (a ∷ rest ≡ atoms)
after_word (Ok rest) a atoms e = (rest, refl, cc)
after_word (Err c) a atoms e = absurd cc

-- what the step gave, and the rest
pub went : (s : WordStep) (wants : List Want) (ws : List (List ℕ)) (atoms : List Atom) → stepped s wants ws ≡ Ok atoms
    → (p : Atom × List Want) × (s ≡ Ok p) × (rest : List Atom) × (reads (p.1 ++ wants) ws ≡ Ok rest) × (p.0 ∷ rest ≡ atoms)
went (Err c) wants ws atoms e = absurd cc
went (Ok p) wants ws atoms e = let a = after_word (reads (p.1 ++ wants) ws) p.0 atoms e in (p, refl, a.0, a.1, a.2)

pub over : (b : Bool) (atoms : List Atom) → cond b (Ok []) (Err cause.End) ≡ Ok atoms → [] ≡ atoms
over true atoms e = cc
over false atoms e = absurd cc

pub respelled : (wants : List Want) (ws : List (List ℕ)) (atoms : List Atom) → list_all is_bounded wants ≡ true → reads wants ws ≡ Ok atoms → reads wants (map spell atoms) ≡ Ok atoms
unfolding reads
respelled [] [] atoms b e = let none = over true atoms e in rw (← none) refl
respelled (want ∷ wants) [] atoms b e = let none = over (list_all may_end (want ∷ wants)) atoms e in rw (← none) (rw (← none) at e)
respelled [] (w ∷ ws) atoms b e = absurd cc
respelled (want ∷ wants) (w ∷ ws) atoms b e =
    let s = went (accepts want w) wants ws atoms e in
    let this = both (is_bounded want) (list_all is_bounded wants) b in
    let others = second (is_bounded want) (list_all is_bounded wants) b in
    let more : list_all is_bounded (s.0.1 ++ wants) ≡ true = list_all-append is_bounded s.0.1 wants ∙ rw (next_bounded want w s.0 this s.1, others) refl in
    let ih = respelled (s.0.1 ++ wants) ws s.2 more s.3 in
    rw (← s.4) (rw (accepts_again want w s.0 this s.1, reads) (ap (λ (r : Reading). then_read (s.0.0 ∷ []) r) ih))

pub wanted_bounded : (version : ℕ) (k : Kind) → list_all is_bounded (wanted version k) ≡ true
wanted_bounded version kind.Modules = refl
wanted_bounded version kind.Event = refl
wanted_bounded version kind.Endpoint = refl
wanted_bounded version kind.Handler = refl
wanted_bounded version kind.Guard = refl
wanted_bounded version kind.Rule = refl
wanted_bounded version kind.Authoriser = refl
wanted_bounded version kind.Default = refl
wanted_bounded version kind.Lane = refl
wanted_bounded version kind.Barrier = refl
wanted_bounded version kind.Retire = refl

pub line_respelled : (version : ℕ) (k : Kind) (ws : List (List ℕ)) (l : LineMeaning) → Spells version k ws l → Spells version k (map spell (form l)) l
line_respelled version k ws l s = record { kind = s.kind; words = respelled (wanted version k) ws (form l) (wanted_bounded version k) s.words }
