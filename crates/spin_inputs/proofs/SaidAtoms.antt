-- A word says one thing of its kind: a number, an argument, bytes, or one of the format's own words.
use Rattle.std.proofs.Common.{◌≡◌, ℕ, ◌+◌, ◌&&◌, inl, inr, Bool, true, false, cond, eqb, leb, ltb, List, [], ◌∷◌, ◌++◌, length, map, take, drop, get_or}
use Rattle.std.proofs.Common.{Option, Some, None, codes, bytes_eq, refl, sym, ap, ◌∙◌, arith}
use Rattle.std.specs.Prelude.{slice_index}
use Rattle.std.specs.Char.{digit_value}
use Rattle.std.specs.List.{flat_map, list_all}
use Rattle.std.specs.Str.Parse.{digits_value}
use Rattle.std.proofs.lemmas.Bool.Decides.{nat_tests}
use Rattle.spin_values.specs.declared.values.Value.{Value}
use Rattle.spin_values.specs.declared.values.Value.TheVariants as value
use Rattle.spin_code.specs.declared.expr.Expr.{Expr}
use Rattle.spin_code.specs.declared.expr.Expr.TheVariants as expr
use Rattle.spin_code.specs.declared.test.Cmp.{Cmp}
use Rattle.spin_code.specs.declared.test.Cmp.TheVariants as cmp
use Rattle.spin_code.specs.declared.test.Test.{Test}
use Rattle.spin_code.specs.declared.test.Test.TheVariants as test
use Rattle.spin_code.specs.declared.act.Part.{Part}
use Rattle.spin_code.specs.declared.act.Part.TheVariants as part
use Rattle.spin_code.specs.declared.act.Layer.{Layer}
use Rattle.spin_code.specs.declared.act.Layer.TheVariants as layer
use Rattle.spin_code.specs.declared.act.ActStep.{ActStep}
use Rattle.spin_code.specs.declared.act.ActStep.TheVariants as step
use Rattle.spin_code.specs.declared.merge.Merge.{Merge}
use Rattle.spin_code.specs.declared.merge.Merge.TheVariants as merge
use Rattle.spin_word.specs.declared.command.Op.TheVariants as op
use Rattle.spin_word.specs.declared.command.Place.{Place}
use Rattle.spin_word.specs.declared.command.Place.TheVariants as place
use Rattle.spin_word.specs.declared.command.Mode.{Mode}
use Rattle.spin_word.specs.declared.command.Mode.TheVariants as mode
use Rattle.spin_policy.specs.declared.rule.OpMatch.{OpMatch}
use Rattle.spin_policy.specs.declared.rule.OpMatch.TheVariants as op_match
use Rattle.spin_policy.specs.declared.rule.Forced.{Forced}
use Rattle.spin_policy.specs.declared.rule.Forced.TheVariants as forced
use Rattle.spin_policy.specs.declared.rule.Effect.{Effect}
use Rattle.spin_policy.specs.declared.rule.Effect.TheVariants as effect
use Rattle.spin_policy.specs.declared.rule.Rule.{Rule}
use Rattle.spin_text.specs.Digits.{begins_with_digit}
use Rattle.spin_grammar.specs.Spelling.{is_digit, numeral, number, hex_bytes}
use Rattle.spin_grammar.specs.Grammar.{Atom, Fixed, Numeral, Argument, Called, Typed, Blob}
use Rattle.spin_grammar.specs.Forms.{expr_form, test_form, part_form, step_form, merge_form, cmp_word, layer_word, op_match_word, own_word, forced_word, apart_word, place_word, mode_word}
use Rattle.spin_grammar.specs.Forms.{counted_form, handler_or_any, effect_form, rule_form, value_atom, Spot, At, Before, After, Among, spot_form}
use Rattle.spin_grammar.specs.Forms.{Task, Install, Remove, Replace, Default, NoDefault, Raise, Later, Packet, task_form}
use Rattle.spin_grammar.proofs.CanonicalSpelling.{both, second}
use Rattle.spin_grammar.proofs.FormUniqueness.{differ}
use Rattle.spin_grammar.proofs.Signatures.{one_of}
use Rattle.spin_inputs.specs.Texts.{SaysAtom}
use Rattle.spin_inputs.proofs.SaidSignatures.{same_bytes}
use Rattle.spin_inputs.proofs.SaidWords.{AreSaid}

-- ---- the class of a word

-- what a word may be by its first byte and its length: 1 a number, 2 bytes, 3 an argument, 0 none of these
abbrev class : List ℕ → ℕ
class w = cond (begins_with_digit w) 1 (cond (eqb (slice_index w 0) 120) 2 (cond (eqb (slice_index w 0) 97 && eqb (length w) 2) 3 0))

-- a word of a form that isn't a name or a signature; if it is one of the format's own it looks like nothing else
abbrev pub IsOwn : Atom → Type 0
IsOwn (Fixed w) = class w ≡ 0
IsOwn (Numeral n) = Unit {0}
IsOwn (Argument k) = Unit {0}
IsOwn (Called name) = ⊥
IsOwn (Typed sig) = ⊥
IsOwn (Blob bytes) = Unit {0}

abbrev class_of : Atom → ℕ
class_of (Numeral n) = 1
class_of (Blob bytes) = 2
class_of (Argument k) = 3
class_of other = 0

small_digit : (c : ℕ) → ltb (digit_value c) 10 ≡ true → (leb 48 c && leb c 57) ≡ true
small_digit c e = grind (arith, nat_tests, e)

number_digit : (w : List ℕ) (n : ℕ) → number w ≡ Some n → begins_with_digit w ≡ true
unfolding number
number_digit [] n e = absurd cc
number_digit (c ∷ cs) n e =
    elim (one_of (bytes_eq (take 2 (c ∷ cs)) (codes "0x")) (cond (leb (length (c ∷ cs)) 18) (numeral 16 (drop 2 (c ∷ cs))) None) (numeral 10 (c ∷ cs)) (Some n) e) [
      | inl h ↦
          let zero : c ≡ 48 = ap (λ (w : List ℕ). get_or w 0 0) (same_bytes (take 2 (c ∷ cs)) (codes "0x") h.0) in
          rw zero refl
      | inr h ↦ elim (one_of (ltb 0 (length (c ∷ cs)) && list_all (is_digit 10) (c ∷ cs)) (Some (digits_value 10 (c ∷ cs))) None (Some n) h.1) [
        | inl k ↦ small_digit c (both (is_digit 10 c) (list_all (is_digit 10) cs) (second (ltb 0 (length (c ∷ cs))) (list_all (is_digit 10) (c ∷ cs)) k.0))
        | inr k ↦ absurd (let bad : None ≡ Some n = k.1 in cc)
      ]
    ]

of_digit : (w : List ℕ) → begins_with_digit w ≡ true → class w ≡ 1
of_digit w e = rw e refl

of_bytes : (w : List ℕ) → slice_index w 0 ≡ 120 → class w ≡ 2
of_bytes [] e = absurd (omega (arith, e))
of_bytes (c ∷ cs) e = let first : c ≡ 120 = e in rw first refl

said_class : (g : Bool) (a : Atom) (w : List ℕ) → IsOwn a → SaysAtom g a w → class w ≡ class_of a
said_class g (Fixed word) w own said = ap class said ∙ own
said_class g (Numeral n) w own said = of_digit w (number_digit w n said)
said_class g (Argument k) w own said = ap class said
said_class g (Called name) w own said = absurd own
said_class g (Typed sig) w own said = absurd own
said_class g (Blob bytes) w own said = of_bytes w said.0

some_same : {A : Type 0} (o : Option A) (x y : A) → o ≡ Some x → o ≡ Some y → x ≡ y
some_same o x y e f = cc

-- two of them that one word says are one
pub one_atom : (g : Bool) (a b : Atom) (w : List ℕ) → IsOwn a → IsOwn b → SaysAtom g a w → SaysAtom g b w → a ≡ b
one_atom g (Called name) b w own other x y = absurd own
one_atom g (Typed sig) b w own other x y = absurd own
one_atom g a (Called name) w own other x y = absurd other
one_atom g a (Typed sig) w own other x y = absurd other
one_atom g (Fixed v) (Fixed u) w own other x y = ap (λ (word : List ℕ). Fixed word) (sym x ∙ y)
one_atom g (Numeral n) (Numeral m) w own other x y = ap (λ (k : ℕ). Numeral k) (some_same (number w) n m x y)
one_atom g (Argument j) (Argument k) w own other x y =
    let same : 48 + j ≡ 48 + k = ap (λ (v : List ℕ). get_or v 1 0) (sym x ∙ y) in
    let one : j ≡ k = omega (arith, same) in
    ap (λ (i : ℕ). Argument i) one
one_atom g (Blob bs) (Blob cs) w own other x y = ap (λ (bytes : List ℕ). Blob bytes) (some_same (hex_bytes (drop 1 w)) bs cs x.1 y.1)
one_atom g a b w own other x y = absurd (differ (class_of a) (class_of b) refl (sym (said_class g a w own x) ∙ said_class g b w other y))

-- ---- lists of them

abbrev pub AreOwn : List Atom → Type 0
AreOwn [] = Unit {0}
AreOwn (a ∷ xs) = IsOwn a × AreOwn xs

pub one_list : (g : Bool) (xs bs : List Atom) (ws : List (List ℕ)) → AreOwn xs → AreOwn bs → AreSaid g xs ws → AreSaid g bs ws → xs ≡ bs
one_list g [] [] ws own other x y = refl
one_list g [] (b ∷ bs) [] own other x y = absurd y
one_list g [] (b ∷ bs) (w ∷ ws) own other x y = absurd x
one_list g (a ∷ xs) [] [] own other x y = absurd x
one_list g (a ∷ xs) [] (w ∷ ws) own other x y = absurd y
one_list g (a ∷ xs) (b ∷ bs) [] own other x y = absurd x
one_list g (a ∷ xs) (b ∷ bs) (w ∷ ws) own other x y =
    let first = one_atom g a b w own.0 other.0 x.0 y.0 in
    let rest = one_list g xs bs ws own.1 other.1 x.1 y.1 in
    λ i. first i ∷ rest i

own_both : (xs bs : List Atom) → AreOwn xs → AreOwn bs → AreOwn (xs ++ bs)
own_both [] bs x y = y
own_both (a ∷ xs) bs x y = (x.0, own_both xs bs x.1 y)

own_each : {A : Type 0} (f : A → List Atom) → ((a : A) → AreOwn (f a)) → (xs : List A) → AreOwn (flat_map f xs)
own_each f own [] = tt
own_each f own (x ∷ xs) = own_both (f x) (flat_map f xs) (own x) (own_each f own xs)

-- ---- forms

own_expr : (e : Expr) → AreOwn (expr_form e)
own_expr (expr.Const n) = (tt, tt)
own_expr (expr.Arg k) = (tt, tt)
own_expr (expr.Field a offset width) = (refl, (tt, (tt, (tt, tt))))
own_expr (expr.Plus' p x q y) = (refl, own_both (expr_form x) (expr_form y) (own_expr x) (own_expr y))
own_expr (expr.And' p x q y) = (refl, own_both (expr_form x) (expr_form y) (own_expr x) (own_expr y))
own_expr (expr.Or' p x q y) = (refl, own_both (expr_form x) (expr_form y) (own_expr x) (own_expr y))

own_cmp : (c : Cmp) → class (cmp_word c) ≡ 0
own_cmp cmp.Eq = refl
own_cmp cmp.Ne = refl
own_cmp cmp.Lt = refl
own_cmp cmp.Le = refl

pub own_test : (t : Test) → AreOwn (test_form t)
own_test test.True = (refl, tt)
own_test (test.Compare c x y) = (own_cmp c, own_both (expr_form x) (expr_form y) (own_expr x) (own_expr y))
own_test (test.HasBytes a n) = (refl, (tt, (tt, tt)))
own_test (test.Not' p t) = (refl, own_test t)
own_test (test.All' p t q u) = (refl, own_both (test_form t) (test_form u) (own_test t) (own_test u))
own_test (test.Any' p t q u) = (refl, own_both (test_form t) (test_form u) (own_test t) (own_test u))

own_part : (p : Part) → AreOwn (part_form p)
own_part (part.Word e) = (refl, own_expr e)
own_part (part.Bytes a from) = (refl, (tt, (tt, tt)))

own_layer : (k : Layer) → class (layer_word k) ≡ 0
own_layer layer.Ipv4 = refl
own_layer layer.Udp = refl

own_step : (s : ActStep) → AreOwn (step_form s)
own_step (step.Set a e) = (refl, (tt, own_expr e))
own_step (step.Send endpoint a from) = (refl, (tt, (tt, (tt, tt))))
own_step (step.Result e) = (refl, own_expr e)
own_step (step.Up event parts) = (refl, (tt, (tt, own_each part_form own_part parts)))
own_step (step.Layer k event) = (refl, (own_layer k, (tt, tt)))

pub own_steps : (steps : List ActStep) → AreOwn (flat_map step_form steps)
own_steps steps = own_each step_form own_step steps

pub own_merge : (m : Merge) → AreOwn (merge_form m)
own_merge merge.Last = (refl, tt)
own_merge (merge.Fold e) = (refl, own_expr e)

own_numbers : (ns : List ℕ) → AreOwn (map Numeral ns)
own_numbers [] = tt
own_numbers (n ∷ ns) = (tt, own_numbers ns)

own_counted : (ns : List ℕ) → AreOwn (counted_form ns)
own_counted ns = (tt, own_numbers ns)

own_op : (o : OpMatch) → class (op_match_word o) ≡ 0
own_op op_match.Any = refl
own_op (op_match.One op.Install) = refl
own_op (op_match.One op.Remove) = refl
own_op (op_match.One op.Replace) = refl
own_op (op_match.One op.Default) = refl
own_op (op_match.One op.NoDefault) = refl

own_own : (b : Bool) → class (own_word b) ≡ 0
own_own true = refl
own_own false = refl

own_handler : (h : Option ℕ) → IsOwn (handler_or_any h)
own_handler None = refl
own_handler (Some n) = tt

own_forced : (f : Forced) → class (forced_word f) ≡ 0
own_forced forced.Keep = refl
own_forced forced.First = refl
own_forced forced.Last = refl

own_apart : (b : Bool) → class (apart_word b) ≡ 0
own_apart true = refl
own_apart false = refl

own_effect : (e : Effect) → AreOwn (effect_form e)
own_effect effect.Allow = (refl, tt)
own_effect effect.Deny = (refl, tt)
own_effect (effect.Quota most) = (refl, (tt, tt))
own_effect (effect.Impose guards) = (refl, own_counted guards)
own_effect (effect.Force guards place apart) =
    (refl, own_both (counted_form guards) (Fixed (forced_word place) ∷ Fixed (apart_word apart) ∷ []) (own_counted guards) (own_forced place, (own_apart apart, tt)))

pub own_rule : (r : Rule) → AreOwn (rule_form r)
own_rule r = (tt, (tt, (own_op r.op, (own_handler r.handler, (own_own r.own_only, own_effect r.effect)))))

own_place : (p : Place) → class (place_word p) ≡ 0
own_place place.Free = refl
own_place place.First = refl
own_place place.Last = refl

own_mode : (m : Mode) → class (mode_word m) ≡ 0
own_mode mode.Plain = refl
own_mode mode.Filter = refl
own_mode mode.Async = refl

own_spot : (s : Spot) → AreOwn (spot_form s)
own_spot (At p) = (own_place p, tt)
own_spot (Before n) = (refl, (tt, tt))
own_spot (After n) = (refl, (tt, tt))
own_spot (Among p before after) =
    (own_place p, (refl, own_both (counted_form before) (Fixed (codes "after") ∷ counted_form after) (own_counted before) (refl, own_counted after)))

own_values : (vs : List Value) → AreOwn (map value_atom vs)
own_values [] = tt
own_values (value.Word n ∷ vs) = (tt, own_values vs)
own_values (value.Bytes bytes ∷ vs) = (tt, own_values vs)

pub own_task : (t : Task) → AreOwn (task_form t)
own_task (Install e m h g spot mode) =
    (refl, (tt, (tt, (tt, (tt, own_both (spot_form spot) (Fixed (mode_word mode) ∷ []) (own_spot spot) (own_mode mode, tt))))))
own_task (Remove e m n) = (refl, (tt, (tt, (tt, tt))))
own_task (Replace e m n h g) = (refl, (tt, (tt, (tt, (tt, (tt, tt))))))
own_task (Default e m h) = (refl, (tt, (tt, (tt, tt))))
own_task (NoDefault e m) = (refl, (tt, (tt, tt)))
own_task (Raise e vs) = (refl, (tt, own_values vs))
own_task (Later e vs) = (refl, (tt, own_values vs))
own_task (Packet e n) = (refl, (tt, (tt, tt)))
