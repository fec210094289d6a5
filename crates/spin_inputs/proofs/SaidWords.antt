-- Words that can stand where they do say what they are read as.
use Rattle.std.proofs.Common.{◌≡◌, ℕ, zero, suc, ◌+◌, ◌-◌, ◌&&◌, inl, inr, Bool, true, false, not, cond, eqb, leb, List, [], ◌∷◌, ◌++◌, length, drop, replicate}
use Rattle.std.proofs.Common.{Option, Some, None, Ok, Err, codes, bytes_eq, refl, sym, ap, subst, ◌∙◌, arith}
use Rattle.std.specs.Prelude.{slice_index}
use Rattle.std.specs.List.{AllZip, list_all}
use Rattle.std.proofs.lemmas.Bool.Decides.{nat_tests}
use Rattle.std.proofs.lemmas.List.Folds.{list_all-append}
use Rattle.spin_values.specs.declared.types.EventType.{EventType}
use Rattle.spin_grammar.specs.declared.cause.Cause.TheVariants as cause
use Rattle.spin_text.specs.Digits.{begins_with_digit}
use Rattle.spin_grammar.specs.Spelling.{number, within, greatest, is_name, signature, guard_signature, hex_bytes}
use Rattle.spin_grammar.specs.Grammar.{Atom, Fixed, Numeral, Argument, Called, Typed, Blob, Want, Number, Name, Signature, HandlerBody, GuardBody, Expression, Test, Part, Steps}
use Rattle.spin_grammar.specs.Grammar.{LayerKind, Merge, Op, HandlerOrAny, Own, Effect, ForcedPlace, ForcedMode, Deed, Spot, Place, Mode, Values, Counted, Bindings, Rising, Exactly}
use Rattle.spin_grammar.specs.Grammar.{Choices, expressions, tests, parts, steps, layers, merges, ops, owns, effects, forced_places, forced_modes, spots, places, modes, deeds, WordStep}
use Rattle.spin_grammar.specs.Grammar.{as_number, chosen, is_argument, as_signature, as_blob, rising, accepts, may_end, reads}
use Rattle.spin_grammar.proofs.CanonicalSpelling.{ok_same, chosen_word, by_number, by_count, by_rising, by_rise, by_signature, by_blob, both, second, went, over}
use Rattle.spin_grammar.proofs.Signatures.{one_of}
use Rattle.spin_inputs.specs.Texts.{SaysAtom}
use Rattle.spin_inputs.proofs.SaidSignatures.{signature_spelled, guard_spelled}

-- each of the words says what stands at its place, and there are no others
abbrev pub AreSaid : (of_guard : Bool) → List Atom → List (List ℕ) → Type 0
AreSaid of_guard atoms ws = AllZip (SaysAtom of_guard) atoms ws

-- ---- one word

inside : (low high n : ℕ) (o : Option ℕ) → within low high o ≡ Some n → o ≡ Some n
inside low high n None e = absurd cc
inside low high n (Some m) e =
    elim (one_of (leb low m && leb m high) (Some m) None (Some n) e) [
      | inl h ↦ h.1
      | inr h ↦ absurd (let bad : None ≡ Some n = h.1 in cc)
    ]

fixed_said : (g : Bool) (w : List ℕ) (cs : Choices) (p : Atom × List Want) → chosen w cs ≡ Ok p → SaysAtom g p.0 w
fixed_said g w cs p e = subst (λ (a : Atom). SaysAtom g a w) (sym (chosen_word w cs p e)) refl

atom_said : (g : Bool) (w : List ℕ) (a : Atom) (next : List Want) (p : Atom × List Want) → (a, next) ≡ p → SaysAtom g a w → SaysAtom g p.0 w
atom_said g w a next p e said = subst (λ (q : Atom × List Want). SaysAtom g q.0 w) e said

number_said : (g : Bool) (low high : ℕ) (w : List ℕ) (next : List Want) (p : Atom × List Want) → as_number (within low high (number w)) next ≡ Ok p → SaysAtom g p.0 w
number_said g low high w next p e =
    let n = by_number (within low high (number w)) next p e in
    atom_said g w (Numeral n.0) next p n.2 (inside low high n.0 (number w) n.1)

argument_is : (w : List ℕ) → is_argument w ≡ true → w ≡ 97 ∷ (48 + (slice_index w 1 - 48)) ∷ []
argument_is [] e = absurd cc
argument_is (a ∷ []) e = absurd cc
argument_is (a ∷ b ∷ []) e =
    let first : a ≡ 97 = grind (arith, nat_tests, e) in
    let digit : b ≡ 48 + (b - 48) = grind (arith, nat_tests, e) in
    ap (λ (x : ℕ). x ∷ b ∷ []) first ∙ ap (λ (x : ℕ). 97 ∷ x ∷ []) digit
argument_is (a ∷ b ∷ c ∷ ws) e =
    let long : length (a ∷ b ∷ c ∷ ws) ≡ 2 = grind (arith, nat_tests, both (eqb (length (a ∷ b ∷ c ∷ ws)) 2) _ e) in
    absurd (omega (arith, long))

expression_said : (g : Bool) (w : List ℕ) (p : Atom × List Want) → accepts Expression w ≡ Ok p → SaysAtom g p.0 w
unfolding accepts
expression_said g w p e =
    elim (one_of (begins_with_digit w) (as_number (within 0 greatest (number w)) []) (cond (is_argument w) (Ok (Argument (slice_index w 1 - 48), [])) (chosen w expressions)) (Ok p) e) [
      | inl h ↦ number_said g 0 greatest w [] p h.1
      | inr h ↦ elim (one_of (is_argument w) (Ok (Argument (slice_index w 1 - 48), [])) (chosen w expressions) (Ok p) h.1) [
        | inl k ↦ atom_said g w (Argument (slice_index w 1 - 48)) [] p (ok_same (Argument (slice_index w 1 - 48), []) p k.1) (argument_is w k.0)
        | inr k ↦ fixed_said g w expressions p k.1
      ]
    ]

handler_said : (g : Bool) (w : List ℕ) (p : Atom × List Want) → accepts HandlerOrAny w ≡ Ok p → SaysAtom g p.0 w
unfolding accepts
handler_said g w p e =
    elim (one_of (begins_with_digit w) (as_number (within 1 1023 (number w)) []) (chosen w ((codes "any", []) ∷ [])) (Ok p) e) [
      | inl h ↦ number_said g 1 1023 w [] p h.1
      | inr h ↦ fixed_said g w ((codes "any", []) ∷ []) p h.1
    ]

bytes_said : (g : Bool) (w : List ℕ) (next : List Want) (p : Atom × List Want) → eqb (slice_index w 0) 120 ≡ true → as_blob (hex_bytes (drop 1 w)) next ≡ Ok p → SaysAtom g p.0 w
bytes_said g w next p x e =
    let first : slice_index w 0 ≡ 120 = grind (arith, nat_tests, x) in
    let b = by_blob (hex_bytes (drop 1 w)) next p e in
    atom_said g w (Blob b.0) next p b.2 (first, b.1)

value_said : (g : Bool) (k : ℕ) (w : List ℕ) (p : Atom × List Want) → accepts (Values k) w ≡ Ok p → SaysAtom g p.0 w
unfolding accepts
value_said g zero w p e = absurd cc
value_said g (suc k) w p e =
    elim (one_of (eqb (slice_index w 0) 120) (as_blob (hex_bytes (drop 1 w)) (Values k ∷ [])) (as_number (within 0 greatest (number w)) (Values k ∷ [])) (Ok p) e) [
      | inl h ↦ bytes_said g w (Values k ∷ []) p h.0 h.1
      | inr h ↦ number_said g 0 greatest w (Values k ∷ []) p h.1
    ]

name_said : (g : Bool) (w : List ℕ) (p : Atom × List Want) → accepts Name w ≡ Ok p → SaysAtom g p.0 w
unfolding accepts
name_said g w p e =
    elim (one_of (is_name w) (Ok (Called w, [])) (Err cause.Name) (Ok p) e) [
      | inl h ↦ atom_said g w (Called w) [] p (ok_same (Called w, []) p h.1) refl
      | inr h ↦ absurd (let bad : Err cause.Name ≡ Ok p = h.1 in cc)
    ]

count_said : (g : Bool) (low high : ℕ) (want : Want) (w : List ℕ) (p : Atom × List Want) → accepts (Counted low high want) w ≡ Ok p → SaysAtom g p.0 w
unfolding accepts
count_said g low high want w p e =
    let n = by_count (within low high (number w)) want p e in
    atom_said g w (Numeral n.0) (replicate n.0 want) p n.2 (inside low high n.0 (number w) n.1)

bindings_said : (g : Bool) (w : List ℕ) (p : Atom × List Want) → accepts Bindings w ≡ Ok p → SaysAtom g p.0 w
unfolding accepts
bindings_said g w p e =
    let n = by_rising (within 0 4 (number w)) p e in
    atom_said g w (Numeral n.0) (rising 0 n.0) p n.2 (inside 0 4 n.0 (number w) n.1)

rising_said : (g : Bool) (low more : ℕ) (w : List ℕ) (p : Atom × List Want) → accepts (Rising low more) w ≡ Ok p → SaysAtom g p.0 w
unfolding accepts
rising_said g low more w p e =
    let n = by_rise (within low 4096 (number w)) more p e in
    atom_said g w (Numeral n.0) (rising (n.0 + 1) more) p n.2 (inside low 4096 n.0 (number w) n.1)

-- signatures of the one kind are wanted there alone
abbrev pub is_fit : Bool → Want → Bool
is_fit g Signature = not g
is_fit g HandlerBody = not g
is_fit g GuardBody = g
is_fit g (Counted low high want) = is_fit g want
is_fit g want = true

handlers_said : (g : Bool) (w : List ℕ) (next : List Want) (p : Atom × List Want) → not g ≡ true → as_signature (signature w) next ≡ Ok p → SaysAtom g p.0 w
handlers_said true w next p b e = absurd cc
handlers_said false w next p b e =
    let s = by_signature (signature w) next p e in
    atom_said false w (Typed s.0) next p s.2 (signature_spelled w s.0 s.1)

guards_said : (g : Bool) (w : List ℕ) (next : List Want) (p : Atom × List Want) → g ≡ true → as_signature (guard_signature w) next ≡ Ok p → SaysAtom g p.0 w
guards_said false w next p b e = absurd cc
guards_said true w next p b e =
    let s = by_signature (guard_signature w) next p e in
    atom_said true w (Typed s.0) next p s.2 (guard_spelled w s.0 s.1)

handler_body : (g : Bool) (w : List ℕ) (p : Atom × List Want) → not g ≡ true → accepts HandlerBody w ≡ Ok p → SaysAtom g p.0 w
unfolding accepts
handler_body g w p b e =
    elim (one_of (bytes_eq w (codes "native")) (Ok (Fixed w, Name ∷ [])) (as_signature (signature w) (Steps ∷ [])) (Ok p) e) [
      | inl h ↦ atom_said g w (Fixed w) (Name ∷ []) p (ok_same (Fixed w, Name ∷ []) p h.1) refl
      | inr h ↦ handlers_said g w (Steps ∷ []) p b h.1
    ]

guard_body : (g : Bool) (w : List ℕ) (p : Atom × List Want) → g ≡ true → accepts GuardBody w ≡ Ok p → SaysAtom g p.0 w
unfolding accepts
guard_body g w p b e =
    elim (one_of (bytes_eq w (codes "native")) (Ok (Fixed w, Name ∷ [])) (as_signature (guard_signature w) (Test ∷ [])) (Ok p) e) [
      | inl h ↦ atom_said g w (Fixed w) (Name ∷ []) p (ok_same (Fixed w, Name ∷ []) p h.1) refl
      | inr h ↦ guards_said g w (Test ∷ []) p b h.1
    ]

word_said : (g : Bool) (want : Want) (w : List ℕ) (p : Atom × List Want) → is_fit g want ≡ true → accepts want w ≡ Ok p → SaysAtom g p.0 w
unfolding accepts
word_said g (Number low high) w p b e = number_said g low high w [] p e
word_said g Name w p b e = name_said g w p e
word_said g Signature w p b e = handlers_said g w [] p b e
word_said g HandlerBody w p b e = handler_body g w p b e
word_said g GuardBody w p b e = guard_body g w p b e
word_said g Expression w p b e = expression_said g w p e
word_said g Test w p b e = fixed_said g w tests p e
word_said g Part w p b e = fixed_said g w parts p e
word_said g Steps w p b e = fixed_said g w steps p e
word_said g LayerKind w p b e = fixed_said g w layers p e
word_said g Merge w p b e = fixed_said g w merges p e
word_said g Op w p b e = fixed_said g w ops p e
word_said g HandlerOrAny w p b e = handler_said g w p e
word_said g Own w p b e = fixed_said g w owns p e
word_said g (Effect v) w p b e = fixed_said g w (effects v) p e
word_said g ForcedPlace w p b e = fixed_said g w forced_places p e
word_said g ForcedMode w p b e = fixed_said g w forced_modes p e
word_said g (Deed v) w p b e = fixed_said g w (deeds v) p e
word_said g Spot w p b e = fixed_said g w spots p e
word_said g Place w p b e = fixed_said g w places p e
word_said g Mode w p b e = fixed_said g w modes p e
word_said g (Values k) w p b e = value_said g k w p e
word_said g (Counted low high want) w p b e = count_said g low high want w p e
word_said g Bindings w p b e = bindings_said g w p e
word_said g (Rising low more) w p b e = rising_said g low more w p e
word_said g (Exactly word) w p b e = fixed_said g w ((word, []) ∷ []) p e

-- ---- what is wanted behind it

abbrev table_fit : Bool → Choices → Bool
table_fit g cs = list_all (λ (c : List ℕ × List Want). list_all (is_fit g) c.1) cs

chosen_fit : (g : Bool) (w : List ℕ) (cs : Choices) (p : Atom × List Want) → table_fit g cs ≡ true → chosen w cs ≡ Ok p → list_all (is_fit g) p.1 ≡ true
chosen_fit g w [] p b e = absurd cc
chosen_fit g w (c ∷ cs) p b e =
    elim (one_of (bytes_eq w c.0) (Ok (Fixed w, c.1)) (chosen w cs) (Ok p) e) [
      | inl h ↦ let same = ok_same (Fixed w, c.1) p h.1 in rw (← same) (both (list_all (is_fit g) c.1) (table_fit g cs) b)
      | inr h ↦ chosen_fit g w cs p (second (list_all (is_fit g) c.1) (table_fit g cs) b) h.1
    ]

replicated_fit : (g : Bool) (n : ℕ) (want : Want) → is_fit g want ≡ true → list_all (is_fit g) (replicate n want) ≡ true
replicated_fit g zero want b = refl
replicated_fit g (suc n) want b = rw b (replicated_fit g n want b)

rising_fit : (g : Bool) (low k : ℕ) → list_all (is_fit g) (rising low k) ≡ true
rising_fit g low zero = refl
rising_fit g low (suc k) = refl

effect_fit : (g : Bool) (v : ℕ) → table_fit g (effects v) ≡ true
effect_fit g v = by_flag (leb 2 v)
  where
    by_flag : (b : Bool) → list_all (λ (c : List ℕ × List Want). list_all (is_fit g) c.1) (cond b ((codes "force", Counted 0 4 (Number 1 1023) ∷ ForcedPlace ∷ ForcedMode ∷ []) ∷ []) []) ≡ true
    by_flag true = refl
    by_flag false = refl

deed_fit : (g : Bool) (v : ℕ) → table_fit g (deeds v) ≡ true
deed_fit g v = rw (spot (eqb v 3)) refl
  where
    spot : (b : Bool) → list_all (is_fit g) (cond b (Place ∷ Exactly (codes "before") ∷ Bindings ∷ Exactly (codes "after") ∷ Bindings ∷ []) (Spot ∷ []) ++ Mode ∷ []) ≡ true
    spot true = refl
    spot false = refl

number_fit : (g : Bool) (o : Option ℕ) (next : List Want) (p : Atom × List Want) → list_all (is_fit g) next ≡ true → as_number o next ≡ Ok p → list_all (is_fit g) p.1 ≡ true
number_fit g o next p b e = let k = by_number o next p e in rw (← k.2) b

signature_fit : (g : Bool) (o : Option EventType) (next : List Want) (p : Atom × List Want) → list_all (is_fit g) next ≡ true → as_signature o next ≡ Ok p → list_all (is_fit g) p.1 ≡ true
signature_fit g o next p b e = let k = by_signature o next p e in rw (← k.2) b

atom_fit : (g : Bool) (a : Atom) (next : List Want) (p : Atom × List Want) → list_all (is_fit g) next ≡ true → ◌≡◌ {A = WordStep} (Ok (a, next)) (Ok p) → list_all (is_fit g) p.1 ≡ true
atom_fit g a next p b e = let same = ok_same (a, next) p e in rw (← same) b

next_fit : (g : Bool) (want : Want) (w : List ℕ) (p : Atom × List Want) → is_fit g want ≡ true → accepts want w ≡ Ok p → list_all (is_fit g) p.1 ≡ true
unfolding accepts
next_fit g (Number low high) w p b e = number_fit g (within low high (number w)) [] p refl e
next_fit g Name w p b e =
    elim (one_of (is_name w) (Ok (Called w, [])) (Err cause.Name) (Ok p) e) [ inl h ↦ atom_fit g (Called w) [] p refl h.1 | inr h ↦ absurd (let bad : Err cause.Name ≡ Ok p = h.1 in cc) ]
next_fit g Signature w p b e = signature_fit g (signature w) [] p refl e
next_fit g HandlerBody w p b e =
    elim (one_of (bytes_eq w (codes "native")) (Ok (Fixed w, Name ∷ [])) (as_signature (signature w) (Steps ∷ [])) (Ok p) e)
    [ inl h ↦ atom_fit g (Fixed w) (Name ∷ []) p refl h.1 | inr h ↦ signature_fit g (signature w) (Steps ∷ []) p refl h.1 ]
next_fit g GuardBody w p b e =
    elim (one_of (bytes_eq w (codes "native")) (Ok (Fixed w, Name ∷ [])) (as_signature (guard_signature w) (Test ∷ [])) (Ok p) e)
    [ inl h ↦ atom_fit g (Fixed w) (Name ∷ []) p refl h.1 | inr h ↦ signature_fit g (guard_signature w) (Test ∷ []) p refl h.1 ]
next_fit g Expression w p b e =
    elim (one_of (begins_with_digit w) (as_number (within 0 greatest (number w)) []) (cond (is_argument w) (Ok (Argument (slice_index w 1 - 48), [])) (chosen w expressions)) (Ok p) e) [
      | inl h ↦ number_fit g (within 0 greatest (number w)) [] p refl h.1
      | inr h ↦ elim (one_of (is_argument w) (Ok (Argument (slice_index w 1 - 48), [])) (chosen w expressions) (Ok p) h.1) [
        | inl k ↦ atom_fit g (Argument (slice_index w 1 - 48)) [] p refl k.1
        | inr k ↦ chosen_fit g w expressions p refl k.1
      ]
    ]
next_fit g Test w p b e = chosen_fit g w tests p refl e
next_fit g Part w p b e = chosen_fit g w parts p refl e
next_fit g Steps w p b e = chosen_fit g w steps p refl e
next_fit g LayerKind w p b e = chosen_fit g w layers p refl e
next_fit g Merge w p b e = chosen_fit g w merges p refl e
next_fit g Op w p b e = chosen_fit g w ops p refl e
next_fit g HandlerOrAny w p b e =
    elim (one_of (begins_with_digit w) (as_number (within 1 1023 (number w)) []) (chosen w ((codes "any", []) ∷ [])) (Ok p) e) [
      | inl h ↦ number_fit g (within 1 1023 (number w)) [] p refl h.1
      | inr h ↦ chosen_fit g w ((codes "any", []) ∷ []) p refl h.1
    ]
next_fit g Own w p b e = chosen_fit g w owns p refl e
next_fit g (Effect v) w p b e = chosen_fit g w (effects v) p (effect_fit g v) e
next_fit g ForcedPlace w p b e = chosen_fit g w forced_places p refl e
next_fit g ForcedMode w p b e = chosen_fit g w forced_modes p refl e
next_fit g (Deed v) w p b e = chosen_fit g w (deeds v) p (deed_fit g v) e
next_fit g Spot w p b e = chosen_fit g w spots p refl e
next_fit g Place w p b e = chosen_fit g w places p refl e
next_fit g Mode w p b e = chosen_fit g w modes p refl e
next_fit g (Values zero) w p b e = absurd cc
next_fit g (Values (suc k)) w p b e =
    elim (one_of (eqb (slice_index w 0) 120) (as_blob (hex_bytes (drop 1 w)) (Values k ∷ [])) (as_number (within 0 greatest (number w)) (Values k ∷ [])) (Ok p) e) [
      | inl h ↦ let s = by_blob (hex_bytes (drop 1 w)) (Values k ∷ []) p h.1 in rw (← s.2) refl
      | inr h ↦ number_fit g (within 0 greatest (number w)) (Values k ∷ []) p refl h.1
    ]
next_fit g (Counted low high want) w p b e =
    let n = by_count (within low high (number w)) want p e in
    rw (← n.2) (replicated_fit g n.0 want b)
next_fit g Bindings w p b e =
    let n = by_rising (within 0 4 (number w)) p e in
    rw (← n.2) (rising_fit g 0 n.0)
next_fit g (Rising low more) w p b e =
    let n = by_rise (within low 4096 (number w)) more p e in
    rw (← n.2) (rising_fit g (n.0 + 1) more)
next_fit g (Exactly word) w p b e = chosen_fit g w ((word, []) ∷ []) p refl e

-- ---- all words of a line

none_said : (g : Bool) (atoms : List Atom) → [] ≡ atoms → AreSaid g atoms []
none_said g atoms e = subst (λ (a : List Atom). AreSaid g a []) e tt

pub words_said : (g : Bool) (wants : List Want) (ws : List (List ℕ)) (atoms : List Atom) → list_all (is_fit g) wants ≡ true → reads wants ws ≡ Ok atoms → AreSaid g atoms ws
unfolding reads
words_said g [] [] atoms b e = none_said g atoms (over true atoms e)
words_said g (want ∷ wants) [] atoms b e = none_said g atoms (over (list_all may_end (want ∷ wants)) atoms e)
words_said g [] (w ∷ ws) atoms b e = absurd cc
words_said g (want ∷ wants) (w ∷ ws) atoms b e =
    let s = went (accepts want w) wants ws atoms e in
    let this = both (is_fit g want) (list_all (is_fit g) wants) b in
    let others = second (is_fit g want) (list_all (is_fit g) wants) b in
    let more : list_all (is_fit g) (s.0.1 ++ wants) ≡ true = list_all-append (is_fit g) s.0.1 wants ∙ rw (next_fit g want w s.0 this s.1, others) refl in
    subst (λ (a : List Atom). AreSaid g a (w ∷ ws)) s.4 (word_said g want w s.0 this s.1, words_said g (s.0.1 ++ wants) ws s.2 more s.3)
