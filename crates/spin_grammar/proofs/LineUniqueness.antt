-- Rules, deeds and lines say one thing.
use Rattle.std.proofs.Common.{◌≡◌, ℕ, Bool, true, false, List, [], ◌∷◌, ◌++◌, length, map, Option, Some, None, codes, refl, sym, ap, ◌∙◌, append_assoc, arith}
use Rattle.spin_values.specs.declared.types.EventType.{EventType}
use Rattle.spin_values.specs.declared.values.Value.{Value}
use Rattle.spin_values.specs.declared.values.Value.TheVariants as value
use Rattle.spin_code.specs.declared.test.Test.{Test}
use Rattle.spin_code.specs.declared.act.ActStep.{ActStep}
use Rattle.spin_code.specs.declared.merge.Merge.{Merge}
use Rattle.spin_word.specs.declared.command.Op.{Op}
use Rattle.spin_word.specs.declared.command.Op.TheVariants as op
use Rattle.spin_word.specs.declared.command.Place.{Place}
use Rattle.spin_word.specs.declared.command.Place.TheVariants as place
use Rattle.spin_word.specs.declared.command.Mode.{Mode}
use Rattle.spin_word.specs.declared.command.Mode.TheVariants as mode
use Rattle.spin_policy.specs.declared.rule.OpMatch.{OpMatch}
use Rattle.spin_policy.specs.declared.rule.OpMatch.TheVariants as op_match
use Rattle.spin_policy.specs.declared.rule.Forced.{Forced}
use Rattle.spin_policy.specs.declared.rule.Forced.TheVariants as forced
use Rattle.spin_policy.specs.declared.rule.Effect.{Effect}
use Rattle.spin_policy.specs.declared.rule.Effect.TheVariants as effect
use Rattle.spin_policy.specs.declared.rule.Rule.{Rule}
use Rattle.spin_grammar.specs.declared.kind.Kind.{Kind}
use Rattle.spin_grammar.specs.declared.kind.Kind.TheVariants as kind
use Rattle.spin_grammar.specs.Grammar.{Atom, Fixed, Numeral, Called, Typed, Blob}
use Rattle.spin_grammar.specs.Forms.{op_match_word, own_word, forced_word, apart_word, place_word, mode_word, counted_form, handler_or_any, effect_form, rule_form, value_atom}
use Rattle.spin_grammar.specs.Forms.{Spot, At, Before, After, Among, spot_form, Task, Install, Remove, Replace, Default, NoDefault, Raise, Later, Packet, task_form, test_form}
use Rattle.spin_grammar.specs.Lines as line
use Rattle.spin_grammar.specs.Lines.{LineMeaning, form, line_kind}
use Rattle.spin_grammar.specs.Bare.{bare_line, bare_step, bare_test, bare_merge}
use Rattle.spin_grammar.proofs.FormUniqueness.{code_of, first_code, tail_of, differ, one_steps, one_test, one_merge}

-- ---- fixed words

not_any : (o : Op) → code_of (op_match_word (op_match.One o)) ≡ (code_of (codes "any")) → ⊥
not_any op.Install e = differ (code_of (codes "install")) (code_of (codes "any")) refl e
not_any op.Remove e = differ (code_of (codes "remove")) (code_of (codes "any")) refl e
not_any op.Replace e = differ (code_of (codes "replace")) (code_of (codes "any")) refl e
not_any op.Default e = differ (code_of (codes "default")) (code_of (codes "any")) refl e
not_any op.NoDefault e = differ (code_of (codes "nodefault")) (code_of (codes "any")) refl e

one_op : (o p : OpMatch) → code_of (op_match_word o) ≡ code_of (op_match_word p) → o ≡ p
one_op op_match.Any op_match.Any e = refl
one_op (op_match.One op.Install) (op_match.One op.Install) e = refl
one_op (op_match.One op.Remove) (op_match.One op.Remove) e = refl
one_op (op_match.One op.Replace) (op_match.One op.Replace) e = refl
one_op (op_match.One op.Default) (op_match.One op.Default) e = refl
one_op (op_match.One op.NoDefault) (op_match.One op.NoDefault) e = refl
one_op op_match.Any (op_match.One o) e = absurd (not_any o (sym e))
one_op (op_match.One o) op_match.Any e = absurd (not_any o e)
one_op o p e = absurd (differ (code_of (op_match_word o)) (code_of (op_match_word p)) refl e)

one_own : (b d : Bool) → code_of (own_word b) ≡ code_of (own_word d) → b ≡ d
one_own true true e = refl
one_own false false e = refl
one_own b d e = absurd (differ (code_of (own_word b)) (code_of (own_word d)) refl e)

one_forced : (f g : Forced) → code_of (forced_word f) ≡ code_of (forced_word g) → f ≡ g
one_forced forced.Keep forced.Keep e = refl
one_forced forced.First forced.First e = refl
one_forced forced.Last forced.Last e = refl
one_forced f g e = absurd (differ (code_of (forced_word f)) (code_of (forced_word g)) refl e)

one_apart : (b d : Bool) → code_of (apart_word b) ≡ code_of (apart_word d) → b ≡ d
one_apart true true e = refl
one_apart false false e = refl
one_apart b d e = absurd (differ (code_of (apart_word b)) (code_of (apart_word d)) refl e)

one_place : (p q : Place) → code_of (place_word p) ≡ code_of (place_word q) → p ≡ q
one_place place.Free place.Free e = refl
one_place place.First place.First e = refl
one_place place.Last place.Last e = refl
one_place p q e = absurd (differ (code_of (place_word p)) (code_of (place_word q)) refl e)

one_mode : (m n : Mode) → code_of (mode_word m) ≡ code_of (mode_word n) → m ≡ n
one_mode mode.Plain mode.Plain e = refl
one_mode mode.Filter mode.Filter e = refl
one_mode mode.Async mode.Async e = refl
one_mode m n e = absurd (differ (code_of (mode_word m)) (code_of (mode_word n)) refl e)

-- ---- what stands in atoms

abbrev number_in : List Atom → ℕ
number_in (Numeral n ∷ more) = n
number_in zs = 0

abbrev name_in : List Atom → List ℕ
name_in (Called w ∷ more) = w
name_in zs = []

abbrev type_in : EventType → List Atom → EventType
type_in default (Typed sig ∷ more) = sig
type_in default zs = default

numbers : (ns ms : List ℕ) (r s : List Atom) → length ns ≡ length ms → map Numeral ns ++ r ≡ map Numeral ms ++ s → (ns ≡ ms) × (r ≡ s)
numbers [] [] r s n e = (refl, e)
numbers [] (m ∷ ms) r s n e = absurd (omega (arith, n))
numbers (n ∷ ns) [] r s l e = absurd (omega (arith, l))
numbers (n ∷ ns) (m ∷ ms) r s l e =
    let first : n ≡ m = ap number_in e in
    let rest = numbers ns ms r s (omega (arith, l)) (ap tail_of e) in
    (ap (λ (x : ℕ). x ∷ ns) first ∙ ap (λ (xs : List ℕ). m ∷ xs) rest.0, rest.1)

counted : (ns ms : List ℕ) (r s : List Atom) → counted_form ns ++ r ≡ counted_form ms ++ s → (ns ≡ ms) × (r ≡ s)
counted ns ms r s e =
    let count : length ns ≡ length ms = ap number_in e in
    numbers ns ms r s count (ap tail_of e)

whole : (x y : List Atom) → x ≡ y → x ++ [] ≡ y ++ []
whole x y e = ap (λ (z : List Atom). z ++ []) e

-- ---- rules

one_effect : (x y : Effect) → effect_form x ≡ effect_form y → x ≡ y
one_effect effect.Allow effect.Allow e = refl
one_effect effect.Deny effect.Deny e = refl
one_effect (effect.Quota n) (effect.Quota m) e = ap (λ (x : ℕ). effect.Quota x) (ap number_in (ap tail_of e))
one_effect (effect.Impose gs) (effect.Impose hs) e =
    let all = counted gs hs [] [] (whole (counted_form gs) (counted_form hs) (ap tail_of e)) in
    ap (λ (x : List ℕ). effect.Impose x) all.0
one_effect (effect.Force gs p a) (effect.Force hs q b) e =
    let all = counted gs hs (Fixed (forced_word p) ∷ Fixed (apart_word a) ∷ []) (Fixed (forced_word q) ∷ Fixed (apart_word b) ∷ []) (ap tail_of e) in
    let spot : p ≡ q = one_forced p q (ap first_code all.1) in
    let apart : a ≡ b = one_apart a b (ap first_code (ap tail_of all.1)) in
    ap (λ (x : List ℕ). effect.Force x p a) all.0 ∙ ap (λ (x : Forced). effect.Force hs x a) spot ∙ ap (λ (x : Bool). effect.Force hs q x) apart
one_effect x y e = absurd (differ (first_code (effect_form x)) (first_code (effect_form y)) refl (ap first_code e))

one_handler : (h i : Option ℕ) → handler_or_any h ≡ handler_or_any i → h ≡ i
one_handler None None e = refl
one_handler (Some n) (Some m) e = ap (λ (x : ℕ). Some x) (ap number_in (ap (λ (a : Atom). a ∷ []) e))
one_handler None (Some m) e = absurd (differ (code_of (codes "any")) 1 refl (ap first_code (ap (λ (a : Atom). a ∷ []) e)))
one_handler (Some n) None e = absurd (differ 1 (code_of (codes "any")) refl (ap first_code (ap (λ (a : Atom). a ∷ []) e)))

abbrev first_atom : List Atom → Atom
first_atom (a ∷ more) = a
first_atom [] = Numeral 0

pub one_rule : (x y : Rule) → rule_form x ≡ rule_form y → x ≡ y
one_rule x y e =
    let low : x.low ≡ y.low = ap number_in e in
    let e1 = ap tail_of e in
    let high : x.high ≡ y.high = ap number_in e1 in
    let e2 = ap tail_of e1 in
    let ops : x.op ≡ y.op = one_op x.op y.op (ap first_code e2) in
    let e3 = ap tail_of e2 in
    let handler : x.handler ≡ y.handler = one_handler x.handler y.handler (ap first_atom e3) in
    let e4 = ap tail_of e3 in
    let own : x.own_only ≡ y.own_only = one_own x.own_only y.own_only (ap first_code e4) in
    let result : x.effect ≡ y.effect = one_effect x.effect y.effect (ap tail_of e4) in
    ap (λ (n : ℕ). record x { low = n }) low ∙ ap (λ (n : ℕ). record x { low = y.low; high = n }) high ∙ ap (λ (o : OpMatch). record x { low = y.low; high = y.high; op = o }) ops
    ∙ ap (λ (h : Option ℕ). record x { low = y.low; high = y.high; op = y.op; handler = h }) handler
    ∙ ap (λ (b : Bool). record x { low = y.low; high = y.high; op = y.op; handler = y.handler; own_only = b }) own
    ∙ ap (λ (f : Effect). record x { low = y.low; high = y.high; op = y.op; handler = y.handler; own_only = y.own_only; effect = f }) result

-- ---- deeds

one_spot : (x y : Spot) (m n : Mode) → spot_form x ++ Fixed (mode_word m) ∷ [] ≡ spot_form y ++ Fixed (mode_word n) ∷ [] → (x ≡ y) × (m ≡ n)
one_spot (At p) (At q) m n e = (ap (λ (x : Place). At x) (one_place p q (ap first_code e)), one_mode m n (ap first_code (ap tail_of e)))
one_spot (Before a) (Before b) m n e = (ap (λ (x : ℕ). Before x) (ap number_in (ap tail_of e)), one_mode m n (ap first_code (ap tail_of (ap tail_of e))))
one_spot (After a) (After b) m n e = (ap (λ (x : ℕ). After x) (ap number_in (ap tail_of e)), one_mode m n (ap first_code (ap tail_of (ap tail_of e))))
one_spot (Among p bs zs) (Among q ds cs) m n e =
    let spot : p ≡ q = one_place p q (ap first_code e) in
    let e1 : (counted_form bs ++ Fixed (codes "after") ∷ counted_form zs) ++ Fixed (mode_word m) ∷ [] ≡ (counted_form ds ++ Fixed (codes "after") ∷ counted_form cs) ++ Fixed (mode_word n) ∷ [] =
    ap tail_of (ap tail_of e) in
    let before = counted bs ds (Fixed (codes "after") ∷ (counted_form zs ++ Fixed (mode_word m) ∷ [])) (Fixed (codes "after") ∷ (counted_form cs ++ Fixed (mode_word n) ∷ []))
    (sym (append_assoc (counted_form bs) (Fixed (codes "after") ∷ counted_form zs) (Fixed (mode_word m) ∷ []))
    ∙ e1 ∙ append_assoc (counted_form ds) (Fixed (codes "after") ∷ counted_form cs) (Fixed (mode_word n) ∷ [])) in
    let after = counted zs cs (Fixed (mode_word m) ∷ []) (Fixed (mode_word n) ∷ []) (ap tail_of before.1) in
    (ap (λ (x : Place). Among x bs zs) spot ∙ ap (λ (x : List ℕ). Among q x zs) before.0 ∙ ap (λ (x : List ℕ). Among q ds x) after.0, one_mode m n (ap first_code after.1))
one_spot (At place.Free) (Before b) m n e = absurd (differ (code_of (codes "free")) (code_of (codes "before")) refl (ap first_code e))
one_spot (At place.First) (Before b) m n e = absurd (differ (code_of (codes "first")) (code_of (codes "before")) refl (ap first_code e))
one_spot (At place.Last) (Before b) m n e = absurd (differ (code_of (codes "last")) (code_of (codes "before")) refl (ap first_code e))
one_spot (At place.Free) (After b) m n e = absurd (differ (code_of (codes "free")) (code_of (codes "after")) refl (ap first_code e))
one_spot (At place.First) (After b) m n e = absurd (differ (code_of (codes "first")) (code_of (codes "after")) refl (ap first_code e))
one_spot (At place.Last) (After b) m n e = absurd (differ (code_of (codes "last")) (code_of (codes "after")) refl (ap first_code e))
one_spot (Before b) (At place.Free) m n e = absurd (differ (code_of (codes "before")) (code_of (codes "free")) refl (ap first_code e))
one_spot (Before b) (At place.First) m n e = absurd (differ (code_of (codes "before")) (code_of (codes "first")) refl (ap first_code e))
one_spot (Before b) (At place.Last) m n e = absurd (differ (code_of (codes "before")) (code_of (codes "last")) refl (ap first_code e))
one_spot (After b) (At place.Free) m n e = absurd (differ (code_of (codes "after")) (code_of (codes "free")) refl (ap first_code e))
one_spot (After b) (At place.First) m n e = absurd (differ (code_of (codes "after")) (code_of (codes "first")) refl (ap first_code e))
one_spot (After b) (At place.Last) m n e = absurd (differ (code_of (codes "after")) (code_of (codes "last")) refl (ap first_code e))
one_spot (Before a) (After b) m n e = absurd (differ (code_of (codes "before")) (code_of (codes "after")) refl (ap first_code e))
one_spot (After a) (Before b) m n e = absurd (differ (code_of (codes "after")) (code_of (codes "before")) refl (ap first_code e))
one_spot (Among place.Free ds cs) (Before b) m n e = absurd (differ (code_of (codes "free")) (code_of (codes "before")) refl (ap first_code e))
one_spot (Among place.First ds cs) (Before b) m n e = absurd (differ (code_of (codes "first")) (code_of (codes "before")) refl (ap first_code e))
one_spot (Among place.Last ds cs) (Before b) m n e = absurd (differ (code_of (codes "last")) (code_of (codes "before")) refl (ap first_code e))
one_spot (Among place.Free ds cs) (After b) m n e = absurd (differ (code_of (codes "free")) (code_of (codes "after")) refl (ap first_code e))
one_spot (Among place.First ds cs) (After b) m n e = absurd (differ (code_of (codes "first")) (code_of (codes "after")) refl (ap first_code e))
one_spot (Among place.Last ds cs) (After b) m n e = absurd (differ (code_of (codes "last")) (code_of (codes "after")) refl (ap first_code e))
one_spot (Before b) (Among place.Free ds cs) m n e = absurd (differ (code_of (codes "before")) (code_of (codes "free")) refl (ap first_code e))
one_spot (Before b) (Among place.First ds cs) m n e = absurd (differ (code_of (codes "before")) (code_of (codes "first")) refl (ap first_code e))
one_spot (Before b) (Among place.Last ds cs) m n e = absurd (differ (code_of (codes "before")) (code_of (codes "last")) refl (ap first_code e))
one_spot (After b) (Among place.Free ds cs) m n e = absurd (differ (code_of (codes "after")) (code_of (codes "free")) refl (ap first_code e))
one_spot (After b) (Among place.First ds cs) m n e = absurd (differ (code_of (codes "after")) (code_of (codes "first")) refl (ap first_code e))
one_spot (After b) (Among place.Last ds cs) m n e = absurd (differ (code_of (codes "after")) (code_of (codes "last")) refl (ap first_code e))
one_spot (At p) (Among q ds cs) mode.Plain n e = absurd (differ (code_of (codes "plain")) (code_of (codes "before")) refl (ap first_code (ap tail_of e)))
one_spot (At p) (Among q ds cs) mode.Filter n e = absurd (differ (code_of (codes "filter")) (code_of (codes "before")) refl (ap first_code (ap tail_of e)))
one_spot (At p) (Among q ds cs) mode.Async n e = absurd (differ (code_of (codes "async")) (code_of (codes "before")) refl (ap first_code (ap tail_of e)))
one_spot (Among p bs zs) (At q) m mode.Plain e = absurd (differ (code_of (codes "before")) (code_of (codes "plain")) refl (ap first_code (ap tail_of e)))
one_spot (Among p bs zs) (At q) m mode.Filter e = absurd (differ (code_of (codes "before")) (code_of (codes "filter")) refl (ap first_code (ap tail_of e)))
one_spot (Among p bs zs) (At q) m mode.Async e = absurd (differ (code_of (codes "before")) (code_of (codes "async")) refl (ap first_code (ap tail_of e)))

abbrev value_in : List Atom → Value
value_in (Numeral n ∷ more) = value.Word n
value_in (Blob bs ∷ more) = value.Bytes bs
value_in zs = value.Word 0

first_value : (v : Value) (more : List Atom) → value_in (value_atom v ∷ more) ≡ v
first_value (value.Word n) more = refl
first_value (value.Bytes bs) more = refl

one_values : (vs ws : List Value) → map value_atom vs ≡ map value_atom ws → vs ≡ ws
one_values [] [] e = refl
one_values [] (w ∷ ws) e = absurd (omega (arith, ap length e))
one_values (v ∷ vs) [] e = absurd (omega (arith, ap length e))
one_values (v ∷ vs) (w ∷ ws) e =
    let first : v ≡ w = sym (first_value v (map value_atom vs)) ∙ ap value_in e ∙ first_value w (map value_atom ws) in
    ap (λ (x : Value). x ∷ vs) first ∙ ap (λ (xs : List Value). w ∷ xs) (one_values vs ws (ap tail_of e))

pub one_task : (x y : Task) → task_form x ≡ task_form y → x ≡ y
one_task (Install a b c d s m) (Install f g h i t n) e =
    let e1 = ap tail_of e in
    let e2 = ap tail_of e1 in
    let e3 = ap tail_of e2 in
    let e4 = ap tail_of e3 in
    let both = one_spot s t m n (ap tail_of e4) in
    let same : (a ≡ f) × (b ≡ g) × (c ≡ h) × (d ≡ i) = (ap number_in e1, ap number_in e2, ap number_in e3, ap number_in e4) in
    ap (λ (x : ℕ). Install x b c d s m) same.0 ∙ ap (λ (x : ℕ). Install f x c d s m) same.1 ∙ ap (λ (x : ℕ). Install f g x d s m) same.2 ∙ ap (λ (x : ℕ). Install f g h x s m) same.3
    ∙ ap (λ (x : Spot). Install f g h i x m) both.0 ∙ ap (λ (x : Mode). Install f g h i t x) both.1
one_task (Remove a b c) (Remove f g h) e = cc
one_task (Replace a b c d k) (Replace f g h i l) e = cc
one_task (Default a b c) (Default f g h) e = cc
one_task (NoDefault a b) (NoDefault f g) e = cc
one_task (Raise a vs) (Raise f ws) e =
    let e1 = ap tail_of e in
    let event : a ≡ f = ap number_in e1 in
    ap (λ (x : ℕ). Raise x vs) event ∙ ap (λ (x : List Value). Raise f x) (one_values vs ws (ap tail_of e1))
one_task (Later a vs) (Later f ws) e =
    let e1 = ap tail_of e in
    let event : a ≡ f = ap number_in e1 in
    ap (λ (x : ℕ). Later x vs) event ∙ ap (λ (x : List Value). Later f x) (one_values vs ws (ap tail_of e1))
one_task (Packet a n) (Packet f m) e = cc
one_task x y e = absurd (differ (first_code (task_form x)) (first_code (task_form y)) refl (ap first_code e))

-- ---- lines

one_test_alone : (x y : Test) → test_form x ≡ test_form y → bare_test x ≡ bare_test y
one_test_alone x y e = (one_test x y [] [] (whole (test_form x) (test_form y) e)).0

abbrev kind_number : Kind → ℕ
kind_number kind.Modules = 1
kind_number kind.Event = 2
kind_number kind.Endpoint = 3
kind_number kind.Handler = 4
kind_number kind.Guard = 5
kind_number kind.Rule = 6
kind_number kind.Authoriser = 7
kind_number kind.Default = 8
kind_number kind.Lane = 9
kind_number kind.Barrier = 10
kind_number kind.Retire = 11

pub one_line : (l m : LineMeaning) → line_kind l ≡ line_kind m → form l ≡ form m → bare_line l ≡ bare_line m
one_line (line.Modules a) (line.Modules b) k e = ap (λ (x : ℕ). line.Modules x) (ap number_in e)
one_line (line.Event a o s m) (line.Event b p t n) k e =
    let e1 = ap tail_of e in
    let e2 = ap tail_of e1 in
    let number : a ≡ b = ap number_in e in
    let owner : o ≡ p = ap number_in e1 in
    let sig : s ≡ t = ap (type_in s) e2 in
    ap (λ (x : ℕ). line.Event x o s (bare_merge m)) number ∙ ap (λ (x : ℕ). line.Event b x s (bare_merge m)) owner ∙ ap (λ (x : EventType). line.Event b p x (bare_merge m)) sig
    ∙ ap (λ (x : Merge). line.Event b p t x) (one_merge m n (ap tail_of e2))
one_line (line.Endpoint a v) (line.Endpoint b w) k e = ap (λ (x : ℕ). line.Endpoint x v) (ap number_in e) ∙ ap (λ (x : List ℕ). line.Endpoint b x) (ap name_in (ap tail_of e))
one_line (line.Handler a s xs) (line.Handler b t ys) k e =
    let e1 = ap tail_of e in
    let sig : s ≡ t = ap (type_in s) e1 in
    ap (λ (x : ℕ). line.Handler x s (map bare_step xs)) (ap number_in e) ∙ ap (λ (x : EventType). line.Handler b x (map bare_step xs)) sig
    ∙ ap (λ (x : List ActStep). line.Handler b t x) (one_steps xs ys (ap tail_of e1))
one_line (line.NativeHandler a v) (line.NativeHandler b w) k e =
    ap (λ (x : ℕ). line.NativeHandler x v) (ap number_in e) ∙ ap (λ (x : List ℕ). line.NativeHandler b x) (ap name_in (ap tail_of (ap tail_of e)))
one_line (line.Handler a s xs) (line.NativeHandler b w) k e = absurd (differ 4 (code_of (codes "native")) refl (ap first_code (ap tail_of e)))
one_line (line.NativeHandler a v) (line.Handler b t ys) k e = absurd (differ (code_of (codes "native")) 4 refl (ap first_code (ap tail_of e)))
one_line (line.Guard a s x) (line.Guard b t y) k e =
    let e1 = ap tail_of e in
    let sig : s ≡ t = ap (type_in s) e1 in
    ap (λ (n : ℕ). line.Guard n s (bare_test x)) (ap number_in e) ∙ ap (λ (u : EventType). line.Guard b u (bare_test x)) sig ∙ ap (λ (u : Test). line.Guard b t u) (one_test_alone x y (ap tail_of e1))
one_line (line.NativeGuard a v) (line.NativeGuard b w) k e = ap (λ (x : ℕ). line.NativeGuard x v) (ap number_in e) ∙ ap (λ (x : List ℕ). line.NativeGuard b x) (ap name_in (ap tail_of (ap tail_of e)))
one_line (line.Guard a s x) (line.NativeGuard b w) k e = absurd (differ 4 (code_of (codes "native")) refl (ap first_code (ap tail_of e)))
one_line (line.NativeGuard a v) (line.Guard b t y) k e = absurd (differ (code_of (codes "native")) 4 refl (ap first_code (ap tail_of e)))
one_line (line.Rules a r) (line.Rules b s) k e = ap (λ (x : ℕ). line.Rules x r) (ap number_in e) ∙ ap (λ (x : Rule). line.Rules b x) (one_rule r s (ap tail_of e))
one_line (line.Authoriser a v) (line.Authoriser b w) k e = ap (λ (x : ℕ). line.Authoriser x v) (ap number_in e) ∙ ap (λ (x : List ℕ). line.Authoriser b x) (ap name_in (ap tail_of e))
one_line (line.Default a g) (line.Default b h) k e = ap (λ (x : ℕ). line.Default x g) (ap number_in e) ∙ ap (λ (x : ℕ). line.Default b x) (ap number_in (ap tail_of e))
one_line (line.Lane a t) (line.Lane b u) k e = ap (λ (x : ℕ). line.Lane x t) (ap number_in e) ∙ ap (λ (x : Task). line.Lane b x) (one_task t u (ap tail_of e))
one_line line.Barrier line.Barrier k e = refl
one_line (line.Retire a) (line.Retire b) k e = ap (λ (x : ℕ). line.Retire x) (ap number_in e)
one_line l m k e = absurd (differ (kind_number (line_kind l)) (kind_number (line_kind m)) refl (ap kind_number k))
