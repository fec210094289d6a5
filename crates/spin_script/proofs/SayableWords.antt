-- Words that can stand where they do say a line.
use Rattle.std.proofs.Common.{◌≡◌, ℕ, zero, suc, ◌+◌, ◌-◌, ◌≤◌, ◌⊎◌, inl, inr, Bool, true, false, cond, List, [], ◌∷◌, ◌++◌, length, map}
use Rattle.std.proofs.Common.{replicate, Option, Some, None, Ok, Err, Box, Global, codes, refl, sym, ap, subst, ◌∙◌, append_assoc, arith}
use denote.RawPtr.{null_ptr}
use Rattle.std.specs.Prelude.{slice_index}
use Rattle.std.specs.Str.{bytes_eq}
use Rattle.std.specs.List.{flat_map}
use Rattle.std.proofs.lemmas.Slice.Eq.{bytes_eq-Decides}
use Rattle.spin_values.specs.declared.types.EventType.{EventType}
use Rattle.spin_code.specs.declared.expr.Expr.{Expr}
use Rattle.spin_code.specs.declared.expr.Expr.TheVariants as expr
use Rattle.spin_code.specs.declared.test.Cmp.{Cmp}
use Rattle.spin_code.specs.declared.test.Cmp.TheVariants as cmp
use Rattle.spin_code.specs.declared.test.Test.{Test}
use Rattle.spin_code.specs.declared.test.Test.TheVariants as test
use Rattle.spin_code.specs.declared.act.Part.{Part}
use Rattle.spin_code.specs.declared.act.Part.TheVariants as part
use Rattle.spin_code.specs.declared.act.Layer.{Layer}
use Rattle.spin_code.specs.declared.act.Layer.TheVariants as layer
use Rattle.spin_code.specs.declared.act.ActStep.{ActStep}
use Rattle.spin_code.specs.declared.act.ActStep.TheVariants as step
use Rattle.spin_code.specs.declared.merge.Merge.TheVariants as merge
use Rattle.spin_word.specs.declared.command.Op.TheVariants as op
use Rattle.spin_word.specs.declared.command.Place.{Place}
use Rattle.spin_word.specs.declared.command.Place.TheVariants as place
use Rattle.spin_word.specs.declared.command.Mode.{Mode}
use Rattle.spin_word.specs.declared.command.Mode.TheVariants as mode
use Rattle.spin_policy.specs.declared.rule.OpMatch.{OpMatch}
use Rattle.spin_policy.specs.declared.rule.OpMatch.TheVariants as op_match
use Rattle.spin_policy.specs.declared.rule.Forced.{Forced}
use Rattle.spin_policy.specs.declared.rule.Forced.TheVariants as forced
use Rattle.spin_grammar.specs.declared.cause.Cause.TheVariants as cause
use Rattle.spin_text.specs.Digits.{begins_with_digit}
use Rattle.spin_grammar.specs.Spelling.{number, within, greatest, is_name, signature}
use Rattle.spin_grammar.specs.Grammar as want
use Rattle.spin_grammar.specs.Grammar.{Atom, Fixed, Numeral, Argument, Called, Typed, Want, Choices, may_end, accepts, reads, chosen, is_argument, as_number, rising}
use Rattle.spin_grammar.specs.Forms.{expr_form, test_form, part_form, step_form, steps_form, merge_form, counted_form, cmp_word}
use Rattle.spin_grammar.specs.Forms.{layer_word, op_match_word, own_word, forced_word, apart_word, place_word, mode_word, handler_or_any}
use Rattle.spin_grammar.proofs.CanonicalSpelling.{went, over, ok_same, by_number, by_count, by_rising, by_rise, by_signature}
use Rattle.spin_grammar.proofs.Signatures.{one_of}

-- ---- what is said first of what is wanted

-- a value was said, and the others are wanted in the words that are left
pub record Spelled {A : Type 0} (spell : A → List Atom) (wants : List Want) (room : ℕ) (atoms : List Atom) : Type 0 where
  pub value : A
  pub words : List (List ℕ)
  pub rest : List Atom
  pub read : reads wants words ≡ Ok rest
  pub whole : atoms ≡ spell value ++ rest
  pub fewer : length words ≤ room

-- in up to so many words, what is wanted there says a value, whatever is wanted behind it
abbrev pub Says : {A : Type 0} → ℕ → (A → List Atom) → List Want → Type 0
Says k spell front =
    (wants : List Want) (ws : List (List ℕ)) (atoms : List Atom) → length ws ≤ k → reads (front ++ wants) ws ≡ Ok atoms → Spelled spell wants (length ws) atoms

-- the first word, and what it leads to
pub record First (w : Want) (wants : List Want) (ws : List (List ℕ)) (atoms : List Atom) : Type 0 where
  pub word : List ℕ
  pub words : List (List ℕ)
  pub taken : Atom × List Want
  pub rest : List Atom
  pub takes : accepts w word ≡ Ok taken
  pub read : reads (taken.1 ++ wants) words ≡ Ok rest
  pub whole : atoms ≡ taken.0 ∷ rest
  pub count : suc (length words) ≡ length ws

pub first : (w : Want) (wants : List Want) (ws : List (List ℕ)) (atoms : List Atom) → may_end w ≡ false → reads (w ∷ wants) ws ≡ Ok atoms → First w wants ws atoms
unfolding reads
first w wants [] atoms stays e = absurd (let bad : Err cause.End ≡ Ok atoms = rw stays at e in cc)
first w wants (x ∷ ws) atoms stays e =
    let s = went (accepts w x) wants ws atoms e in
    record { word = x; words = ws; taken = s.0; rest = s.2; takes = s.1; read = s.3; whole = sym s.4; count = refl }

-- the first word says this, and then this is wanted
pub record Opens (a : Atom) (next wants : List Want) (room : ℕ) (atoms : List Atom) : Type 0 where
  pub words : List (List ℕ)
  pub rest : List Atom
  pub read : reads (next ++ wants) words ≡ Ok rest
  pub whole : atoms ≡ a ∷ rest
  pub count : suc (length words) ≡ room

pub opens : (w : Want) (wants : List Want) (ws : List (List ℕ)) (atoms : List Atom) (f : First w wants ws atoms) (p : Atom × List Want) → p ≡ f.taken → Opens p.0 p.1 wants (length ws) atoms
opens w wants ws atoms f p e = record {
  words = f.words;
  rest = f.rest;
  read = subst (λ (q : Atom × List Want). reads (q.1 ++ wants) f.words ≡ Ok f.rest) (sym e) f.read;
  whole = f.whole ∙ ap (λ (q : Atom × List Want). q.0 ∷ f.rest) (sym e);
  count = f.count;
}

-- a word that says a value by itself
pub leaf : {A : Type 0} (k : ℕ) (spell : A → Atom) (w : Want) → may_end w ≡ false
    → ((x : List ℕ) (p : Atom × List Want) → accepts w x ≡ Ok p → (a : A) × ((spell a, []) ≡ p)) → Says k (λ (a : A). spell a ∷ []) (w ∷ [])
leaf k spell w stays says wants ws atoms le e =
    let f = first w wants ws atoms stays e in
    let s = says f.word f.taken f.takes in
    let o = opens w wants ws atoms f (spell s.0, []) s.1 in
    record { value = s.0; words = o.words; rest = o.rest; read = o.read; whole = o.whole; fewer = let c = o.count in omega (arith, c) }

-- one behind the other
pub both : {A B : Type 0} (k : ℕ) (f : A → List Atom) (g : B → List Atom) (one two : List Want) → Says k f one → Says k g two → Says k (λ (p : A × B). f p.0 ++ g p.1) (one ++ two)
both k f g one two says then wants ws atoms le e =
    let a = says (two ++ wants) ws atoms le (subst (λ (x : List Want). reads x ws ≡ Ok atoms) (append_assoc one two wants) e) in
    let shorter = a.fewer in
    let b = then wants a.words a.rest (omega (arith, shorter, le)) a.read in
    record {
      value = (a.value, b.value);
      words = b.words;
      rest = b.rest;
      read = b.read;
      whole = a.whole ∙ ap (λ (x : List Atom). f a.value ++ x) b.whole ∙ sym (append_assoc (f a.value) (g b.value) b.rest);
      fewer = let c = b.fewer in omega (arith, shorter, c);
    }

-- the value as another
pub renamed : {A B : Type 0} (k : ℕ) (f : A → List Atom) (g : B → List Atom) (to : A → B) (front : List Want) → ((a : A) → f a ≡ g (to a)) → Says k f front → Says k g front
renamed k f g to front same says wants ws atoms le e =
    let s = says wants ws atoms le e in
    record { value = to s.value; words = s.words; rest = s.rest; read = s.read; whole = s.whole ∙ ap (λ (x : List Atom). x ++ s.rest) (same s.value); fewer = s.fewer }

-- nothing is left where nothing more is wanted
pub nothing : (ws : List (List ℕ)) (rest : List Atom) → reads [] ws ≡ Ok rest → rest ≡ []
unfolding reads
nothing [] rest e = sym (over true rest e)
nothing (w ∷ ws) rest e = absurd cc

pub append_none : (xs : List Atom) → xs ++ [] ≡ xs
append_none [] = refl
append_none (x ∷ xs) = ap (λ (ys : List Atom). x ∷ ys) (append_none xs)

pub closed : {A : Type 0} (spell : A → List Atom) (room : ℕ) (atoms : List Atom) → Spelled spell [] room atoms → (a : A) × (atoms ≡ spell a)
closed spell room atoms s = (s.value, s.whole ∙ ap (λ (x : List Atom). spell s.value ++ x) (nothing s.words s.rest s.read) ∙ append_none (spell s.value))

-- ---- one of the format's own words

-- it is one of these words, and leads to what is wanted behind it
abbrev pub OneOf : Choices → Atom × List Want → Type 0
OneOf [] p = ⊥
OneOf (c ∷ cs) p = ((Fixed c.0, c.1) ≡ p) ⊎ OneOf cs p

pub same_bytes : (w v : List ℕ) → bytes_eq w v ≡ true → w ≡ v
same_bytes w v h = (bytes_eq-Decides w v).0 h

pub one_choice : (w : List ℕ) (cs : Choices) (p : Atom × List Want) → chosen w cs ≡ Ok p → OneOf cs p
one_choice w [] p e = absurd cc
one_choice w (c ∷ cs) p e =
    elim (one_of (bytes_eq w c.0) (Ok (Fixed w, c.1)) (chosen w cs) (Ok p) e) [
      | inl h ↦ inl (ap (λ (x : List ℕ). (Fixed x, c.1)) (sym (same_bytes w c.0 h.0)) ∙ ok_same (Fixed w, c.1) p h.1)
      | inr h ↦ inr (one_choice w cs p h.1)
    ]

-- what such a word and what is wanted behind it say
pub behind : {A B : Type 0} (k : ℕ) (spell : B → List Atom) (f : A → List Atom) (make : A → B) (word : List ℕ) (next : List Want) → ((a : A) → Fixed word ∷ f a ≡ spell (make a)) → Says k f next
    → (w : Want) (wants : List Want) (ws : List (List ℕ)) (atoms : List Atom) → length ws ≤ suc k → (o : First w wants ws atoms) → (Fixed word, next) ≡ o.taken → Spelled spell wants (length ws) atoms
behind k spell f make word next same says w wants ws atoms le o is =
    let n = opens w wants ws atoms o (Fixed word, next) is in
    let c = n.count in
    let s = says wants n.words n.rest (omega (arith, c, le)) n.read in
    record {
      value = make s.value;
      words = s.words;
      rest = s.rest;
      read = s.read;
      whole = n.whole ∙ ap (λ (x : List Atom). Fixed word ∷ x) s.whole ∙ ap (λ (x : List Atom). x ++ s.rest) (same s.value);
      fewer = let d = s.fewer in omega (arith, c, d);
    }

-- nothing more is wanted
pub none : (k : ℕ) → Says k (λ (u : Unit {0}). []) []
none k wants ws atoms le e = record { value = tt; words = ws; rest = atoms; read = e; whole = refl; fewer = omega arith }

-- ---- numbers, names and signatures

pub number_says : (low high : ℕ) (w : List ℕ) (p : Atom × List Want) → accepts (want.Number low high) w ≡ Ok p → (n : ℕ) × ((Numeral n, []) ≡ p)
unfolding accepts
number_says low high w p e = let n = by_number (within low high (number w)) [] p e in (n.0, n.2)

pub numeral : (k low high : ℕ) → Says k (λ (n : ℕ). Numeral n ∷ []) (want.Number low high ∷ [])
numeral k low high = leaf k (λ (n : ℕ). Numeral n) (want.Number low high) refl (number_says low high)

pub name_says : (w : List ℕ) (p : Atom × List Want) → accepts want.Name w ≡ Ok p → (n : List ℕ) × ((Called n, []) ≡ p)
unfolding accepts
name_says w p e =
    elim (one_of (is_name w) (Ok (Called w, [])) (Err cause.Name) (Ok p) e) [
      | inl h ↦ (w, ok_same (Called w, []) p h.1)
      | inr h ↦ absurd (let bad : Err cause.Name ≡ Ok p = h.1 in cc)
    ]

pub name : (k : ℕ) → Says k (λ (n : List ℕ). Called n ∷ []) (want.Name ∷ [])
name k = leaf k (λ (n : List ℕ). Called n) want.Name refl name_says

pub signature_says : (w : List ℕ) (p : Atom × List Want) → accepts want.Signature w ≡ Ok p → (sig : EventType) × ((Typed sig, []) ≡ p)
unfolding accepts
signature_says w p e = let s = by_signature (signature w) [] p e in (s.0, s.2)

pub typed : (k : ℕ) → Says k (λ (sig : EventType). Typed sig ∷ []) (want.Signature ∷ [])
typed k = leaf k (λ (sig : EventType). Typed sig) want.Signature refl signature_says

-- two and three numbers
pub pair : (k a b c d : ℕ) → Says k (λ (p : ℕ × ℕ). Numeral p.0 ∷ Numeral p.1 ∷ []) (want.Number a b ∷ want.Number c d ∷ [])
pair k a b c d = both k (λ (n : ℕ). Numeral n ∷ []) (λ (n : ℕ). Numeral n ∷ []) (want.Number a b ∷ []) (want.Number c d ∷ []) (numeral k a b) (numeral k c d)

pub three : (k a b c d e f : ℕ) → Says k (λ (p : ℕ × (ℕ × ℕ)). Numeral p.0 ∷ Numeral p.1.0 ∷ Numeral p.1.1 ∷ []) (want.Number a b ∷ want.Number c d ∷ want.Number e f ∷ [])
three k a b c d e f =
    both k (λ (n : ℕ). Numeral n ∷ []) (λ (p : ℕ × ℕ). Numeral p.0 ∷ Numeral p.1 ∷ []) (want.Number a b ∷ []) (want.Number c d ∷ want.Number e f ∷ []) (numeral k a b) (pair k c d e f)

-- ---- expressions and tests

pub nowhere : Box (Unit {0}) Global
nowhere = record { ptr = null_ptr; alloc = record { memory = record { seal = tt } }; value = tt }

abbrev pub Two : Type 0
Two = Expr × Expr

pub two_form : Two → List Atom
two_form p = expr_form p.0 ++ expr_form p.1

pub expression_says : (w : List ℕ) (p : Atom × List Want) → accepts want.Expression w ≡ Ok p → ((n : ℕ) × ((Numeral n, []) ≡ p)) ⊎ (((a : ℕ) × ((Argument a, []) ≡ p)) ⊎ OneOf want.expressions p)
unfolding accepts
expression_says w p e =
    elim (one_of (begins_with_digit w) (as_number (within 0 greatest (number w)) []) (cond (is_argument w) (Ok (Argument (slice_index w 1 - 48), [])) (chosen w want.expressions)) (Ok p) e) [
      | inl h ↦ let n = by_number (within 0 greatest (number w)) [] p h.1 in inl (n.0, n.2)
      | inr h ↦ elim (one_of (is_argument w) (Ok (Argument (slice_index w 1 - 48), [])) (chosen w want.expressions) (Ok p) h.1) [
        | inl i ↦ inr (inl (slice_index w 1 - 48, ok_same (Argument (slice_index w 1 - 48), []) p i.1))
        | inr i ↦ inr (inr (one_choice w want.expressions p i.1))
      ]
    ]

pub expression_of : (k : ℕ) → Says k expr_form (want.Expression ∷ []) → (wants : List Want) (ws : List (List ℕ)) (atoms : List Atom) → length ws ≤ suc k → (o : First want.Expression wants ws atoms)
    → ((n : ℕ) × ((Numeral n, []) ≡ o.taken)) ⊎ (((a : ℕ) × ((Argument a, []) ≡ o.taken)) ⊎ OneOf want.expressions o.taken) → Spelled expr_form wants (length ws) atoms
expression_of k says wants ws atoms le o (inl n) =
    let f = opens want.Expression wants ws atoms o (Numeral n.0, []) n.1 in
    record { value = expr.Const n.0; words = f.words; rest = f.rest; read = f.read; whole = f.whole; fewer = let c = f.count in omega (arith, c) }
expression_of k says wants ws atoms le o (inr (inl a)) =
    let f = opens want.Expression wants ws atoms o (Argument a.0, []) a.1 in
    record { value = expr.Arg a.0; words = f.words; rest = f.rest; read = f.read; whole = f.whole; fewer = let c = f.count in omega (arith, c) }
expression_of k says wants ws atoms le o (inr (inr (inl is))) =
    behind k expr_form (λ (p : ℕ × (ℕ × ℕ)). Numeral p.0 ∷ Numeral p.1.0 ∷ Numeral p.1.1 ∷ []) (λ (p : ℕ × (ℕ × ℕ)). expr.Field p.0 p.1.0 p.1.1)
    (codes "f") _ (λ p. refl) (three k 0 7 0 65535 0 255) want.Expression wants ws atoms le o is
expression_of k says wants ws atoms le o (inr (inr (inr (inl is)))) =
    behind k expr_form (λ (p : Two). expr_form p.0 ++ expr_form p.1) (λ (p : Two). expr.Plus' nowhere p.0 nowhere p.1) (codes "+") _ (λ p. refl)
    (both k expr_form expr_form (want.Expression ∷ []) (want.Expression ∷ []) says says) want.Expression wants ws atoms le o is
expression_of k says wants ws atoms le o (inr (inr (inr (inr (inl is))))) =
    behind k expr_form (λ (p : Two). expr_form p.0 ++ expr_form p.1) (λ (p : Two). expr.And' nowhere p.0 nowhere p.1) (codes "&") _ (λ p. refl)
    (both k expr_form expr_form (want.Expression ∷ []) (want.Expression ∷ []) says says) want.Expression wants ws atoms le o is
expression_of k says wants ws atoms le o (inr (inr (inr (inr (inr (inl is)))))) =
    behind k expr_form (λ (p : Two). expr_form p.0 ++ expr_form p.1) (λ (p : Two). expr.Or' nowhere p.0 nowhere p.1) (codes "|") _ (λ p. refl)
    (both k expr_form expr_form (want.Expression ∷ []) (want.Expression ∷ []) says says) want.Expression wants ws atoms le o is
expression_of k says wants ws atoms le o (inr (inr (inr (inr (inr (inr is)))))) = absurd is

pub expression : (k : ℕ) → Says k expr_form (want.Expression ∷ [])
expression zero wants ws atoms le e = absurd (let c = (first want.Expression wants ws atoms refl e).count in omega (arith, c, le))
expression (suc k) wants ws atoms le e =
    let o = first want.Expression wants ws atoms refl e in
    expression_of k (expression k) wants ws atoms le o (expression_says o.word o.taken o.takes)

pub two : (k : ℕ) → Says k (λ (p : Two). expr_form p.0 ++ expr_form p.1) (want.Expression ∷ want.Expression ∷ [])
two k = both k expr_form expr_form (want.Expression ∷ []) (want.Expression ∷ []) (expression k) (expression k)

pub test_says : (w : List ℕ) (p : Atom × List Want) → accepts want.Test w ≡ Ok p → OneOf want.tests p
unfolding accepts
test_says w p e = one_choice w want.tests p e

pub compared : (k : ℕ) (c : Cmp) (wants : List Want) (ws : List (List ℕ)) (atoms : List Atom) → length ws ≤ suc k → (o : First want.Test wants ws atoms)
    → (Fixed (cmp_word c), want.Expression ∷ want.Expression ∷ []) ≡ o.taken → Spelled test_form wants (length ws) atoms
compared k c wants ws atoms le o is =
    behind k test_form (λ (p : Two). expr_form p.0 ++ expr_form p.1) (λ (p : Two). test.Compare c p.0 p.1)
    (cmp_word c) (want.Expression ∷ want.Expression ∷ []) (λ p. refl) (two k) want.Test wants ws atoms le o is

pub test_of : (k : ℕ) → Says k test_form (want.Test ∷ []) → (wants : List Want) (ws : List (List ℕ)) (atoms : List Atom) → length ws ≤ suc k → (o : First want.Test wants ws atoms)
    → OneOf want.tests o.taken → Spelled test_form wants (length ws) atoms
test_of k says wants ws atoms le o (inl is) = behind k test_form (λ (u : Unit {0}). []) (λ (u : Unit {0}). test.True) (codes "true") [] (λ u. refl) (none k) want.Test wants ws atoms le o is
test_of k says wants ws atoms le o (inr (inl is)) = compared k cmp.Eq wants ws atoms le o is
test_of k says wants ws atoms le o (inr (inr (inl is))) = compared k cmp.Ne wants ws atoms le o is
test_of k says wants ws atoms le o (inr (inr (inr (inl is)))) = compared k cmp.Lt wants ws atoms le o is
test_of k says wants ws atoms le o (inr (inr (inr (inr (inl is))))) = compared k cmp.Le wants ws atoms le o is
test_of k says wants ws atoms le o (inr (inr (inr (inr (inr (inl is)))))) =
    behind k test_form (λ (p : ℕ × ℕ). Numeral p.0 ∷ Numeral p.1 ∷ []) (λ (p : ℕ × ℕ). test.HasBytes p.0 p.1) (codes "has") _ (λ p. refl) (pair k 0 7 0 65535) want.Test wants ws atoms le o is
test_of k says wants ws atoms le o (inr (inr (inr (inr (inr (inr (inl is))))))) =
    behind k test_form test_form (λ (t : Test). test.Not' nowhere t) (codes "not") (want.Test ∷ []) (λ t. refl) says want.Test wants ws atoms le o is
test_of k says wants ws atoms le o (inr (inr (inr (inr (inr (inr (inr (inl is)))))))) =
    behind k test_form (λ (p : Test × Test). test_form p.0 ++ test_form p.1) (λ (p : Test × Test). test.All' nowhere p.0 nowhere p.1)
    (codes "all") _ (λ p. refl) (both k test_form test_form (want.Test ∷ []) (want.Test ∷ []) says says) want.Test wants ws atoms le o is
test_of k says wants ws atoms le o (inr (inr (inr (inr (inr (inr (inr (inr (inl is))))))))) =
    behind k test_form (λ (p : Test × Test). test_form p.0 ++ test_form p.1) (λ (p : Test × Test). test.Any' nowhere p.0 nowhere p.1)
    (codes "any") _ (λ p. refl) (both k test_form test_form (want.Test ∷ []) (want.Test ∷ []) says says) want.Test wants ws atoms le o is
test_of k says wants ws atoms le o (inr (inr (inr (inr (inr (inr (inr (inr (inr is))))))))) = absurd is

pub tested : (k : ℕ) → Says k test_form (want.Test ∷ [])
tested zero wants ws atoms le e = absurd (let c = (first want.Test wants ws atoms refl e).count in omega (arith, c, le))
tested (suc k) wants ws atoms le e =
    let o = first want.Test wants ws atoms refl e in
    test_of k (tested k) wants ws atoms le o (test_says o.word o.taken o.takes)

-- ---- so many of one kind

pub many : {A : Type 0} (k : ℕ) (spell : A → List Atom) (w : Want) → Says k spell (w ∷ []) → (n : ℕ) → Says k (λ (v : (xs : List A) × (length xs ≡ n)). flat_map spell v.0) (replicate n w)
many k spell w says zero wants ws atoms le e = record { value = ([], refl); words = ws; rest = atoms; read = e; whole = refl; fewer = omega arith }
many k spell w says (suc n) wants ws atoms le e =
    let a = says (replicate n w ++ wants) ws atoms le e in
    let shorter = a.fewer in
    let b = many k spell w says n wants a.words a.rest (omega (arith, shorter, le)) a.read in
    record {
      value = (a.value ∷ b.value.0, ap suc b.value.1);
      words = b.words;
      rest = b.rest;
      read = b.read;
      whole = a.whole ∙ ap (λ (x : List Atom). spell a.value ++ x) b.whole ∙ sym (append_assoc (spell a.value) (flat_map spell b.value.0) b.rest);
      fewer = let c = b.fewer in omega (arith, shorter, c);
    }

pub count_says : (low high : ℕ) (w : Want) (x : List ℕ) (p : Atom × List Want) → accepts (want.Counted low high w) x ≡ Ok p → (n : ℕ) × ((Numeral n, replicate n w) ≡ p)
unfolding accepts
count_says low high w x p e = let n = by_count (within low high (number x)) w p e in (n.0, n.2)

-- behind their count
pub counted : {A : Type 0} (k low high : ℕ) (spell : A → List Atom) (w : Want) → Says k spell (w ∷ [])
    → Says k (λ (xs : List A). Numeral (length xs) ∷ flat_map spell xs) (want.Counted low high w ∷ [])
counted k low high spell w says wants ws atoms le e =
    let f = first (want.Counted low high w) wants ws atoms refl e in
    let n = count_says low high w f.word f.taken f.takes in
    let o = opens (want.Counted low high w) wants ws atoms f (Numeral n.0, replicate n.0 w) n.1 in
    let c = o.count in
    let s = many k spell w says n.0 wants o.words o.rest (omega (arith, c, le)) o.read in
    record {
      value = s.value.0;
      words = s.words;
      rest = s.rest;
      read = s.read;
      whole = o.whole ∙ ap (λ (x : List Atom). Numeral n.0 ∷ x) s.whole ∙ ap (λ (m : ℕ). Numeral m ∷ (flat_map spell s.value.0 ++ s.rest)) (sym s.value.1);
      fewer = let d = s.fewer in omega (arith, c, d);
    }

pub numerals_flat : (ns : List ℕ) → flat_map (λ (n : ℕ). Numeral n ∷ []) ns ≡ map Numeral ns
numerals_flat [] = refl
numerals_flat (n ∷ ns) = ap (λ (x : List Atom). Numeral n ∷ x) (numerals_flat ns)

pub counted_numbers : (k low high a b : ℕ) → Says k counted_form (want.Counted low high (want.Number a b) ∷ [])
counted_numbers k low high a b =
    renamed k (λ (ns : List ℕ). Numeral (length ns) ∷ flat_map (λ (n : ℕ). Numeral n ∷ []) ns) counted_form (λ (ns : List ℕ). ns) (want.Counted low high (want.Number a b) ∷ [])
    (λ ns. ap (λ (x : List Atom). Numeral (length ns) ∷ x) (numerals_flat ns)) (counted k low high (λ (n : ℕ). Numeral n ∷ []) (want.Number a b) (numeral k a b))

pub rise_says : (low more : ℕ) (x : List ℕ) (p : Atom × List Want) → accepts (want.Rising low more) x ≡ Ok p → (n : ℕ) × ((Numeral n, rising (n + 1) more) ≡ p)
unfolding accepts
rise_says low more x p e = let n = by_rise (within low 4096 (number x)) more p e in (n.0, n.2)

pub rises : (k low more : ℕ) → Says k (λ (v : (ns : List ℕ) × (length ns ≡ more)). map Numeral v.0) (rising low more)
rises k low zero wants ws atoms le e = record { value = ([], refl); words = ws; rest = atoms; read = e; whole = refl; fewer = omega arith }
rises k low (suc more) wants ws atoms le e =
    let f = first (want.Rising low more) wants ws atoms refl e in
    let n = rise_says low more f.word f.taken f.takes in
    let o = opens (want.Rising low more) wants ws atoms f (Numeral n.0, rising (n.0 + 1) more) n.1 in
    let c = o.count in
    let s = rises k (n.0 + 1) more wants o.words o.rest (omega (arith, c, le)) o.read in
    record {
      value = (n.0 ∷ s.value.0, ap suc s.value.1);
      words = s.words;
      rest = s.rest;
      read = s.read;
      whole = o.whole ∙ ap (λ (x : List Atom). Numeral n.0 ∷ x) s.whole;
      fewer = let d = s.fewer in omega (arith, c, d);
    }

pub bindings_say : (x : List ℕ) (p : Atom × List Want) → accepts want.Bindings x ≡ Ok p → (n : ℕ) × ((Numeral n, rising 0 n) ≡ p)
unfolding accepts
bindings_say x p e = let n = by_rising (within 0 4 (number x)) p e in (n.0, n.2)

pub bindings : (k : ℕ) → Says k counted_form (want.Bindings ∷ [])
bindings k wants ws atoms le e =
    let f = first want.Bindings wants ws atoms refl e in
    let n = bindings_say f.word f.taken f.takes in
    let o = opens want.Bindings wants ws atoms f (Numeral n.0, rising 0 n.0) n.1 in
    let c = o.count in
    let s = rises k 0 n.0 wants o.words o.rest (omega (arith, c, le)) o.read in
    record {
      value = s.value.0;
      words = s.words;
      rest = s.rest;
      read = s.read;
      whole = o.whole ∙ ap (λ (x : List Atom). Numeral n.0 ∷ x) s.whole ∙ ap (λ (m : ℕ). Numeral m ∷ (map Numeral s.value.0 ++ s.rest)) (sym s.value.1);
      fewer = let d = s.fewer in omega (arith, c, d);
    }

-- ---- a word of a table by itself

-- where each word of the table stands for a value
abbrev pub AreWords : {A : Type 0} → (A → Atom) → Choices → Type 0
AreWords {A} spell cs = (p : Atom × List Want) → OneOf cs p → (a : A) × ((spell a, []) ≡ p)

pub from_table : {A : Type 0} (k : ℕ) (spell : A → Atom) (w : Want) (cs : Choices) → may_end w ≡ false
    → ((x : List ℕ) → accepts w x ≡ chosen x cs) → AreWords spell cs → Says k (λ (a : A). spell a ∷ []) (w ∷ [])
from_table k spell w cs stays by says = leaf k spell w stays (λ x p e. says p (one_choice x cs p (sym (by x) ∙ e)))

pub layer_words : AreWords (λ (l : Layer). Fixed (layer_word l)) want.layers
layer_words p (inl is) = (layer.Ipv4, is)
layer_words p (inr (inl is)) = (layer.Udp, is)
layer_words p (inr (inr is)) = absurd is

pub layer_says : (k : ℕ) → Says k (λ (l : Layer). Fixed (layer_word l) ∷ []) (want.LayerKind ∷ [])
unfolding accepts
layer_says k = from_table k (λ (l : Layer). Fixed (layer_word l)) want.LayerKind want.layers refl (λ x. refl) layer_words

pub op_words : AreWords (λ (o : OpMatch). Fixed (op_match_word o)) want.ops
op_words p (inl is) = (op_match.One op.Install, is)
op_words p (inr (inl is)) = (op_match.One op.Remove, is)
op_words p (inr (inr (inl is))) = (op_match.One op.Replace, is)
op_words p (inr (inr (inr (inl is)))) = (op_match.One op.Default, is)
op_words p (inr (inr (inr (inr (inl is))))) = (op_match.One op.NoDefault, is)
op_words p (inr (inr (inr (inr (inr (inl is)))))) = (op_match.Any, is)
op_words p (inr (inr (inr (inr (inr (inr is)))))) = absurd is

pub op_says : (k : ℕ) → Says k (λ (o : OpMatch). Fixed (op_match_word o) ∷ []) (want.Op ∷ [])
unfolding accepts
op_says k = from_table k (λ (o : OpMatch). Fixed (op_match_word o)) want.Op want.ops refl (λ x. refl) op_words

pub own_words : AreWords (λ (b : Bool). Fixed (own_word b)) want.owns
own_words p (inl is) = (true, is)
own_words p (inr (inl is)) = (false, is)
own_words p (inr (inr is)) = absurd is

pub own_says : (k : ℕ) → Says k (λ (b : Bool). Fixed (own_word b) ∷ []) (want.Own ∷ [])
unfolding accepts
own_says k = from_table k (λ (b : Bool). Fixed (own_word b)) want.Own want.owns refl (λ x. refl) own_words

pub forced_words : AreWords (λ (f : Forced). Fixed (forced_word f)) want.forced_places
forced_words p (inl is) = (forced.Keep, is)
forced_words p (inr (inl is)) = (forced.First, is)
forced_words p (inr (inr (inl is))) = (forced.Last, is)
forced_words p (inr (inr (inr is))) = absurd is

pub forced_says : (k : ℕ) → Says k (λ (f : Forced). Fixed (forced_word f) ∷ []) (want.ForcedPlace ∷ [])
unfolding accepts
forced_says k = from_table k (λ (f : Forced). Fixed (forced_word f)) want.ForcedPlace want.forced_places refl (λ x. refl) forced_words

pub apart_words : AreWords (λ (b : Bool). Fixed (apart_word b)) want.forced_modes
apart_words p (inl is) = (false, is)
apart_words p (inr (inl is)) = (true, is)
apart_words p (inr (inr is)) = absurd is

pub apart_says : (k : ℕ) → Says k (λ (b : Bool). Fixed (apart_word b) ∷ []) (want.ForcedMode ∷ [])
unfolding accepts
apart_says k = from_table k (λ (b : Bool). Fixed (apart_word b)) want.ForcedMode want.forced_modes refl (λ x. refl) apart_words

pub place_words : AreWords (λ (q : Place). Fixed (place_word q)) want.places
place_words p (inl is) = (place.Free, is)
place_words p (inr (inl is)) = (place.First, is)
place_words p (inr (inr (inl is))) = (place.Last, is)
place_words p (inr (inr (inr is))) = absurd is

pub place_says : (k : ℕ) → Says k (λ (q : Place). Fixed (place_word q) ∷ []) (want.Place ∷ [])
unfolding accepts
place_says k = from_table k (λ (q : Place). Fixed (place_word q)) want.Place want.places refl (λ x. refl) place_words

pub mode_words : AreWords (λ (m : Mode). Fixed (mode_word m)) want.modes
mode_words p (inl is) = (mode.Plain, is)
mode_words p (inr (inl is)) = (mode.Filter, is)
mode_words p (inr (inr (inl is))) = (mode.Async, is)
mode_words p (inr (inr (inr is))) = absurd is

pub mode_says : (k : ℕ) → Says k (λ (m : Mode). Fixed (mode_word m) ∷ []) (want.Mode ∷ [])
unfolding accepts
mode_says k = from_table k (λ (m : Mode). Fixed (mode_word m)) want.Mode want.modes refl (λ x. refl) mode_words

pub exact_says : (k : ℕ) (word : List ℕ) → Says k (λ (u : Unit {0}). Fixed word ∷ []) (want.Exactly word ∷ [])
unfolding accepts
exact_says k word = from_table k (λ (u : Unit {0}). Fixed word) (want.Exactly word) ((word, []) ∷ []) refl (λ x. refl) (λ p o. elim o [ inl is ↦ (tt, is) | inr is ↦ absurd is ])

pub handler_of : (w : List ℕ) (p : Atom × List Want) → accepts want.HandlerOrAny w ≡ Ok p → (o : Option ℕ) × ((handler_or_any o, []) ≡ p)
unfolding accepts
handler_of w p e =
    elim (one_of (begins_with_digit w) (as_number (within 1 1023 (number w)) []) (chosen w ((codes "any", []) ∷ [])) (Ok p) e) [
      | inl h ↦ let n = by_number (within 1 1023 (number w)) [] p h.1 in (Some n.0, n.2)
      | inr h ↦ elim (one_choice w ((codes "any", []) ∷ []) p h.1) [ inl is ↦ (None, is) | inr is ↦ absurd is ]
    ]

pub handler_says : (k : ℕ) → Says k (λ (o : Option ℕ). handler_or_any o ∷ []) (want.HandlerOrAny ∷ [])
handler_says k = leaf k handler_or_any want.HandlerOrAny refl handler_of

-- ---- acts

pub part_says : (w : List ℕ) (p : Atom × List Want) → accepts want.Part w ≡ Ok p → OneOf want.parts p
unfolding accepts
part_says w p e = one_choice w want.parts p e

pub part_of : (k : ℕ) (wants : List Want) (ws : List (List ℕ)) (atoms : List Atom) → length ws ≤ suc k
    → (o : First want.Part wants ws atoms) → OneOf want.parts o.taken → Spelled part_form wants (length ws) atoms
part_of k wants ws atoms le o (inl is) = behind k part_form expr_form (λ (e : Expr). part.Word e) (codes "w") (want.Expression ∷ []) (λ e. refl) (expression k) want.Part wants ws atoms le o is
part_of k wants ws atoms le o (inr (inl is)) =
    behind k part_form (λ (p : ℕ × ℕ). Numeral p.0 ∷ Numeral p.1 ∷ []) (λ (p : ℕ × ℕ). part.Bytes p.0 p.1) (codes "b") _ (λ p. refl) (pair k 0 7 0 65535) want.Part wants ws atoms le o is
part_of k wants ws atoms le o (inr (inr is)) = absurd is

pub parted : (k : ℕ) → Says k part_form (want.Part ∷ [])
parted k wants ws atoms le e =
    let o = first want.Part wants ws atoms refl e in
    part_of k wants ws atoms (omega (arith, le)) o (part_says o.word o.taken o.takes)

-- one step, and then other steps
pub record Stepped (k : ℕ) (atoms : List Atom) : Type 0 where
  pub one : ActStep
  pub words : List (List ℕ)
  pub rest : List Atom
  pub read : reads (want.Steps ∷ []) words ≡ Ok rest
  pub whole : atoms ≡ step_form one ++ rest
  pub fewer : length words ≤ k

pub stepped : {A : Type 0} (k : ℕ) (f : A → List Atom) (make : A → ActStep) (word : List ℕ) (next : List Want) → ((a : A) → Fixed word ∷ f a ≡ step_form (make a)) → Says k f next
    → (ws : List (List ℕ)) (rest : List Atom) (taken : Atom × List Want) → length ws ≤ k
    → reads (taken.1 ++ []) ws ≡ Ok rest → (Fixed word, next ++ want.Steps ∷ []) ≡ taken → Stepped k (taken.0 ∷ rest)
stepped k f make word next same says ws rest taken le e is =
    let read : reads ((next ++ want.Steps ∷ []) ++ []) ws ≡ Ok rest = subst (λ (q : Atom × List Want). reads (q.1 ++ []) ws ≡ Ok rest) (sym is) e in
    let s = says (want.Steps ∷ []) ws rest le (subst (λ (x : List Want). reads x ws ≡ Ok rest) (append_assoc next (want.Steps ∷ []) []) read) in
    record {
      one = make s.value;
      words = s.words;
      rest = s.rest;
      read = s.read;
      whole = ap (λ (q : Atom × List Want). q.0 ∷ rest) (sym is) ∙ ap (λ (x : List Atom). Fixed word ∷ x) s.whole ∙ ap (λ (x : List Atom). x ++ s.rest) (same s.value);
      fewer = let d = s.fewer in omega (arith, d, le);
    }

abbrev pub Up : Type 0
Up = ℕ × List Part

pub up_says : (k : ℕ) → Says k (λ (p : Up). Numeral p.0 ∷ Numeral (length p.1) ∷ flat_map part_form p.1) (want.Number 0 63 ∷ want.Counted 0 8 want.Part ∷ [])
up_says k =
    both k (λ (n : ℕ). Numeral n ∷ []) (λ (ps : List Part). Numeral (length ps) ∷ flat_map part_form ps)
    (want.Number 0 63 ∷ []) (want.Counted 0 8 want.Part ∷ []) (numeral k 0 63) (counted k 0 8 part_form want.Part (parted k))

pub step_of : (k : ℕ) (ws : List (List ℕ)) (rest : List Atom) (taken : Atom × List Want) → length ws ≤ k → reads (taken.1 ++ []) ws ≡ Ok rest → OneOf want.steps taken → Stepped k (taken.0 ∷ rest)
step_of k ws rest taken le e (inl is) =
    stepped k (λ (p : ℕ × Expr). Numeral p.0 ∷ expr_form p.1) (λ (p : ℕ × Expr). step.Set p.0 p.1) (codes "set") (want.Number 0 7 ∷ want.Expression ∷ []) (λ p. refl)
    (both k (λ (n : ℕ). Numeral n ∷ []) expr_form (want.Number 0 7 ∷ []) (want.Expression ∷ []) (numeral k 0 7) (expression k)) ws rest taken le e is
step_of k ws rest taken le e (inr (inl is)) =
    stepped k (λ (p : ℕ × (ℕ × ℕ)). Numeral p.0 ∷ Numeral p.1.0 ∷ Numeral p.1.1 ∷ []) (λ (p : ℕ × (ℕ × ℕ)). step.Send p.0 p.1.0 p.1.1) (codes "send")
    (want.Number 0 63 ∷ want.Number 0 7 ∷ want.Number 0 65535 ∷ []) (λ p. refl) (three k 0 63 0 7 0 65535) ws rest taken le e is
step_of k ws rest taken le e (inr (inr (inl is))) =
    stepped k expr_form (λ (x : Expr). step.Result x) (codes "result") (want.Expression ∷ []) (λ x. refl) (expression k) ws rest taken le e is
step_of k ws rest taken le e (inr (inr (inr (inl is)))) =
    stepped k (λ (p : Up). Numeral p.0 ∷ Numeral (length p.1) ∷ flat_map part_form p.1) (λ (p : Up). step.Up p.0 p.1)
    (codes "up") (want.Number 0 63 ∷ want.Counted 0 8 want.Part ∷ []) (λ p. refl) (up_says k) ws rest taken le e is
step_of k ws rest taken le e (inr (inr (inr (inr (inl is))))) =
    stepped k (λ (p : Layer × ℕ). Fixed (layer_word p.0) ∷ Numeral p.1 ∷ []) (λ (p : Layer × ℕ). step.Layer p.0 p.1) (codes "layer") (want.LayerKind ∷ want.Number 0 63 ∷ []) (λ p. refl)
    (both k (λ (l : Layer). Fixed (layer_word l) ∷ []) (λ (n : ℕ). Numeral n ∷ []) (want.LayerKind ∷ []) (want.Number 0 63 ∷ []) (layer_says k) (numeral k 0 63)) ws rest taken le e is
step_of k ws rest taken le e (inr (inr (inr (inr (inr is))))) = absurd is

pub steps_say : (w : List ℕ) (p : Atom × List Want) → accepts want.Steps w ≡ Ok p → OneOf want.steps p
unfolding accepts
steps_say w p e = one_choice w want.steps p e

pub steps : (k : ℕ) (ws : List (List ℕ)) (atoms : List Atom) → length ws ≤ k → reads (want.Steps ∷ []) ws ≡ Ok atoms → (ss : List ActStep) × (atoms ≡ steps_form ss)
unfolding reads
steps k [] atoms le e = ([], sym (over true atoms e))
steps zero (w ∷ ws) atoms le e = absurd (omega (arith, le))
steps (suc k) (w ∷ ws) atoms le e =
    let s = went (accepts want.Steps w) [] ws atoms e in
    let o = step_of k ws s.2 s.0 (omega (arith, le)) s.3 (steps_say w s.0 s.1) in
    let more = steps k o.words o.rest o.fewer o.read in (o.one ∷ more.0, sym s.4 ∙ o.whole ∙ ap (λ (x : List Atom). step_form o.one ++ x) more.1)

pub merge_says : (w : List ℕ) (p : Atom × List Want) → accepts want.Merge w ≡ Ok p → OneOf want.merges p
unfolding accepts
merge_says w p e = one_choice w want.merges p e

pub merge_of : (k : ℕ) (wants : List Want) (ws : List (List ℕ)) (atoms : List Atom) → length ws ≤ suc k
    → (o : First want.Merge wants ws atoms) → OneOf want.merges o.taken → Spelled merge_form wants (length ws) atoms
merge_of k wants ws atoms le o (inl is) = behind k merge_form (λ (u : Unit {0}). []) (λ (u : Unit {0}). merge.Last) (codes "last") [] (λ u. refl) (none k) want.Merge wants ws atoms le o is
merge_of k wants ws atoms le o (inr (inl is)) =
    behind k merge_form expr_form (λ (x : Expr). merge.Fold x) (codes "fold") (want.Expression ∷ []) (λ x. refl) (expression k) want.Merge wants ws atoms le o is
merge_of k wants ws atoms le o (inr (inr is)) = absurd is

pub merged : (k : ℕ) → Says k merge_form (want.Merge ∷ [])
merged k wants ws atoms le e =
    let o = first want.Merge wants ws atoms refl e in
    merge_of k wants ws atoms (omega (arith, le)) o (merge_says o.word o.taken o.takes)
