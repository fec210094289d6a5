-- Words say one thing: a form is that of one value, and no form begins another.
use Rattle.std.proofs.Common.{◌≡◌, ℕ, ◌+◌, ◌*◌, true, false, eqb, get_or, List, [], ◌∷◌, ◌++◌, length, map, codes, refl, sym, ap, ◌∙◌, append_assoc, arith}
use Rattle.std.specs.List.{flat_map}
use Rattle.std.proofs.lemmas.List.{append-nil}
use Rattle.spin_code.specs.declared.expr.Expr.{Expr}
use Rattle.spin_code.specs.declared.expr.Expr.TheVariants as expr
use Rattle.spin_code.specs.declared.test.Cmp.{Cmp}
use Rattle.spin_code.specs.declared.test.Cmp.TheVariants as cmp
use Rattle.spin_code.specs.declared.test.Test.{Test}
use Rattle.spin_code.specs.declared.test.Test.TheVariants as test
use Rattle.spin_code.specs.declared.act.Part.{Part}
use Rattle.spin_code.specs.declared.act.Part.TheVariants as part
use Rattle.spin_code.specs.declared.act.Layer.{Layer}
use Rattle.spin_code.specs.declared.act.Layer.TheVariants as layer
use Rattle.spin_code.specs.declared.act.ActStep.{ActStep}
use Rattle.spin_code.specs.declared.act.ActStep.TheVariants as step
use Rattle.spin_code.specs.declared.merge.Merge.{Merge}
use Rattle.spin_code.specs.declared.merge.Merge.TheVariants as merge
use Rattle.spin_grammar.specs.Grammar.{Atom, Fixed, Numeral, Argument, Called, Typed, Blob}
use Rattle.spin_grammar.specs.Forms.{expr_form, test_form, part_form, step_form, steps_form, merge_form, cmp_word, layer_word}
use Rattle.spin_grammar.specs.Bare.{nowhere, bare_expr, bare_test, bare_part, bare_step, bare_merge}

-- ---- words told apart by their first three bytes

abbrev pub code_of : List ℕ → ℕ
code_of w = 65536 * get_or w 0 0 + 256 * get_or w 1 0 + get_or w 2 0

abbrev pub atom_code : Atom → ℕ
atom_code (Fixed w) = code_of w
atom_code (Numeral n) = 1
atom_code (Argument n) = 2
atom_code (Called w) = 3
atom_code (Typed sig) = 4
atom_code (Blob bs) = 5

abbrev pub first_code : List Atom → ℕ
first_code [] = 0
first_code (a ∷ more) = atom_code a

abbrev pub tail_of : List Atom → List Atom
tail_of [] = []
tail_of (a ∷ more) = more

eqb_self : (a b : ℕ) → a ≡ b → eqb a b ≡ true
eqb_self a b e = grind (arith, e)

pub differ : (a b : ℕ) → eqb a b ≡ false → a ≡ b → ⊥
differ a b ne e = absurd (let t : true ≡ false = sym (eqb_self a b e) ∙ ne in cc)

-- ---- expressions

abbrev expr_code : Expr → ℕ
expr_code (expr.Const n) = 1
expr_code (expr.Arg k) = 2
expr_code (expr.Field a o w) = code_of (codes "f")
expr_code (expr.Plus' p x q y) = code_of (codes "+")
expr_code (expr.And' p x q y) = code_of (codes "&")
expr_code (expr.Or' p x q y) = code_of (codes "|")

-- two things behind one word
two_tails : {A : Type 0} (form : A → List Atom) (x y u v : A) (r s : List Atom) → (form x ++ form y) ++ r ≡ (form u ++ form v) ++ s → form x ++ (form y ++ r) ≡ form u ++ (form v ++ s)
two_tails form x y u v r s e = sym (append_assoc (form x) (form y) r) ∙ e ∙ append_assoc (form u) (form v) s

pub one_expr : (x y : Expr) (r s : List Atom) → expr_form x ++ r ≡ expr_form y ++ s → (bare_expr x ≡ bare_expr y) × (r ≡ s)
one_expr (expr.Const n) (expr.Const m) r s e = (cc, cc)
one_expr (expr.Arg k) (expr.Arg j) r s e = (cc, cc)
one_expr (expr.Field a o w) (expr.Field b p z) r s e = (cc, cc)
one_expr (expr.Plus' p x q y) (expr.Plus' k u l v) r s e =
    let first = one_expr x u (expr_form y ++ r) (expr_form v ++ s) (two_tails expr_form x y u v r s (ap tail_of e)) in
    let second = one_expr y v r s first.1 in
    (ap (λ (t : Expr). expr.Plus' nowhere t nowhere (bare_expr y)) first.0 ∙ ap (λ (t : Expr). expr.Plus' nowhere (bare_expr u) nowhere t) second.0, second.1)
one_expr (expr.And' p x q y) (expr.And' k u l v) r s e =
    let first = one_expr x u (expr_form y ++ r) (expr_form v ++ s) (two_tails expr_form x y u v r s (ap tail_of e)) in
    let second = one_expr y v r s first.1 in
    (ap (λ (t : Expr). expr.And' nowhere t nowhere (bare_expr y)) first.0 ∙ ap (λ (t : Expr). expr.And' nowhere (bare_expr u) nowhere t) second.0, second.1)
one_expr (expr.Or' p x q y) (expr.Or' k u l v) r s e =
    let first = one_expr x u (expr_form y ++ r) (expr_form v ++ s) (two_tails expr_form x y u v r s (ap tail_of e)) in
    let second = one_expr y v r s first.1 in
    (ap (λ (t : Expr). expr.Or' nowhere t nowhere (bare_expr y)) first.0 ∙ ap (λ (t : Expr). expr.Or' nowhere (bare_expr u) nowhere t) second.0, second.1)
one_expr x y r s e = absurd (differ (expr_code x) (expr_code y) refl (ap first_code e))

-- ---- tests

cmp_code : (c d : Cmp) → code_of (cmp_word c) ≡ code_of (cmp_word d) → c ≡ d
cmp_code cmp.Eq cmp.Eq e = refl
cmp_code cmp.Ne cmp.Ne e = refl
cmp_code cmp.Lt cmp.Lt e = refl
cmp_code cmp.Le cmp.Le e = refl
cmp_code c d e = absurd (differ (code_of (cmp_word c)) (code_of (cmp_word d)) refl e)

abbrev test_code : Test → ℕ
test_code test.True = code_of (codes "true")
test_code (test.Compare cmp.Eq x y) = code_of (codes "==")
test_code (test.Compare cmp.Ne x y) = code_of (codes "!=")
test_code (test.Compare cmp.Lt x y) = code_of (codes "<")
test_code (test.Compare cmp.Le x y) = code_of (codes "<=")
test_code (test.HasBytes a n) = code_of (codes "has")
test_code (test.Not' p t) = code_of (codes "not")
test_code (test.All' p t q u) = code_of (codes "all")
test_code (test.Any' p t q u) = code_of (codes "any")

pub one_test : (x y : Test) (r s : List Atom) → test_form x ++ r ≡ test_form y ++ s → (bare_test x ≡ bare_test y) × (r ≡ s)
one_test test.True test.True r s e = (refl, ap tail_of e)
one_test (test.Compare c x y) (test.Compare d u v) r s e =
    let same : c ≡ d = cmp_code c d (ap first_code e) in
    let first = one_expr x u (expr_form y ++ r) (expr_form v ++ s) (two_tails expr_form x y u v r s (ap tail_of e)) in
    let second = one_expr y v r s first.1 in (
      ap (λ (b : Cmp). test.Compare b (bare_expr x) (bare_expr y)) same ∙ ap (λ (t : Expr). test.Compare d t (bare_expr y)) first.0
          ∙ ap (λ (t : Expr). test.Compare d (bare_expr u) t) second.0,
      second.1,
    )
one_test (test.HasBytes a n) (test.HasBytes b m) r s e = (cc, cc)
one_test (test.Not' p x) (test.Not' q u) r s e =
    let first = one_test x u r s (ap tail_of e) in
    (ap (λ (t : Test). test.Not' nowhere t) first.0, first.1)
one_test (test.All' p x q y) (test.All' k u l v) r s e =
    let first = one_test x u (test_form y ++ r) (test_form v ++ s) (two_tails test_form x y u v r s (ap tail_of e)) in
    let second = one_test y v r s first.1 in
    (ap (λ (t : Test). test.All' nowhere t nowhere (bare_test y)) first.0 ∙ ap (λ (t : Test). test.All' nowhere (bare_test u) nowhere t) second.0, second.1)
one_test (test.Any' p x q y) (test.Any' k u l v) r s e =
    let first = one_test x u (test_form y ++ r) (test_form v ++ s) (two_tails test_form x y u v r s (ap tail_of e)) in
    let second = one_test y v r s first.1 in
    (ap (λ (t : Test). test.Any' nowhere t nowhere (bare_test y)) first.0 ∙ ap (λ (t : Test). test.Any' nowhere (bare_test u) nowhere t) second.0, second.1)
one_test (test.Compare cmp.Eq x y) u r s e = absurd (differ (code_of (codes "==")) (test_code u) refl (ap first_code e))
one_test (test.Compare cmp.Ne x y) u r s e = absurd (differ (code_of (codes "!=")) (test_code u) refl (ap first_code e))
one_test (test.Compare cmp.Lt x y) u r s e = absurd (differ (code_of (codes "<")) (test_code u) refl (ap first_code e))
one_test (test.Compare cmp.Le x y) u r s e = absurd (differ (code_of (codes "<=")) (test_code u) refl (ap first_code e))
one_test x (test.Compare cmp.Eq u v) r s e = absurd (differ (test_code x) (code_of (codes "==")) refl (ap first_code e))
one_test x (test.Compare cmp.Ne u v) r s e = absurd (differ (test_code x) (code_of (codes "!=")) refl (ap first_code e))
one_test x (test.Compare cmp.Lt u v) r s e = absurd (differ (test_code x) (code_of (codes "<")) refl (ap first_code e))
one_test x (test.Compare cmp.Le u v) r s e = absurd (differ (test_code x) (code_of (codes "<=")) refl (ap first_code e))
one_test x y r s e = absurd (differ (test_code x) (test_code y) refl (ap first_code e))

-- ---- acts

abbrev part_code : Part → ℕ
part_code (part.Word e) = code_of (codes "w")
part_code (part.Bytes a from) = code_of (codes "b")

pub one_part : (x y : Part) (r s : List Atom) → part_form x ++ r ≡ part_form y ++ s → (bare_part x ≡ bare_part y) × (r ≡ s)
one_part (part.Word x) (part.Word y) r s e =
    let first = one_expr x y r s (ap tail_of e) in
    (ap (λ (t : Expr). part.Word t) first.0, first.1)
one_part (part.Bytes a o) (part.Bytes b p) r s e = (cc, cc)
one_part x y r s e = absurd (differ (part_code x) (part_code y) refl (ap first_code e))

pub one_parts : (xs ys : List Part) (r s : List Atom) → length xs ≡ length ys → flat_map part_form xs ++ r ≡ flat_map part_form ys ++ s → (map bare_part xs ≡ map bare_part ys) × (r ≡ s)
one_parts [] [] r s n e = (refl, e)
one_parts [] (y ∷ ys) r s n e = absurd (omega (arith, n))
one_parts (x ∷ xs) [] r s n e = absurd (omega (arith, n))
one_parts (x ∷ xs) (y ∷ ys) r s n e =
    let first =
    one_part x y (flat_map part_form xs ++ r) (flat_map part_form ys ++ s) (sym (append_assoc (part_form x) (flat_map part_form xs) r) ∙ e ∙ append_assoc (part_form y) (flat_map part_form ys) s) in
    let rest = one_parts xs ys r s (omega (arith, n)) first.1 in
    (ap (λ (t : Part). t ∷ map bare_part xs) first.0 ∙ ap (λ (ts : List Part). bare_part y ∷ ts) rest.0, rest.1)

layer_code : (k l : Layer) → code_of (layer_word k) ≡ code_of (layer_word l) → k ≡ l
layer_code layer.Ipv4 layer.Ipv4 e = refl
layer_code layer.Udp layer.Udp e = refl
layer_code k l e = absurd (differ (code_of (layer_word k)) (code_of (layer_word l)) refl e)

abbrev step_code : ActStep → ℕ
step_code (step.Set a e) = code_of (codes "set")
step_code (step.Send endpoint a from) = code_of (codes "send")
step_code (step.Result e) = code_of (codes "result")
step_code (step.Up event parts) = code_of (codes "up")
step_code (step.Layer k event) = code_of (codes "layer")

-- the number behind the first atom
abbrev number_at : List Atom → ℕ
number_at (Numeral n ∷ more) = n
number_at zs = 0

pub one_step : (x y : ActStep) (r s : List Atom) → step_form x ++ r ≡ step_form y ++ s → (bare_step x ≡ bare_step y) × (r ≡ s)
one_step (step.Set a x) (step.Set b y) r s e =
    let tail : Numeral a ∷ (expr_form x ++ r) ≡ Numeral b ∷ (expr_form y ++ s) = ap tail_of e in
    let arg : a ≡ b = ap number_at tail in
    let first = one_expr x y r s (ap tail_of tail) in
    (ap (λ (n : ℕ). step.Set n (bare_expr x)) arg ∙ ap (λ (t : Expr). step.Set b t) first.0, first.1)
one_step (step.Send p a o) (step.Send q b n) r s e = (cc, cc)
one_step (step.Result x) (step.Result y) r s e =
    let first = one_expr x y r s (ap tail_of e) in
    (ap (λ (t : Expr). step.Result t) first.0, first.1)
one_step (step.Up a ps) (step.Up b qs) r s e =
    let tail : Numeral a ∷ (Numeral (length ps) ∷ (flat_map part_form ps ++ r)) ≡ Numeral b ∷ (Numeral (length qs) ∷ (flat_map part_form qs ++ s)) = ap tail_of e in
    let event : a ≡ b = ap number_at tail in
    let tail2 : Numeral (length ps) ∷ (flat_map part_form ps ++ r) ≡ Numeral (length qs) ∷ (flat_map part_form qs ++ s) = ap tail_of tail in
    let count : length ps ≡ length qs = ap number_at tail2 in
    let first = one_parts ps qs r s count (ap tail_of tail2) in
    (ap (λ (n : ℕ). step.Up n (map bare_part ps)) event ∙ ap (λ (ts : List Part). step.Up b ts) first.0, first.1)
one_step (step.Layer k a) (step.Layer l b) r s e =
    let tail : Fixed (layer_word k) ∷ (Numeral a ∷ r) ≡ Fixed (layer_word l) ∷ (Numeral b ∷ s) = ap tail_of e in
    let same : k ≡ l = layer_code k l (ap first_code tail) in
    let tail2 : Numeral a ∷ r ≡ Numeral b ∷ s = ap tail_of tail in
    let event : a ≡ b = ap number_at tail2 in
    (ap (λ (n : ℕ). step.Layer k n) event ∙ ap (λ (x : Layer). step.Layer x b) same, ap tail_of tail2)
one_step x y r s e = absurd (differ (step_code x) (step_code y) refl (ap first_code e))

no_step : (x : ActStep) (r : List Atom) → [] ≡ step_form x ++ r → ⊥
no_step (step.Set a e) r h = differ 0 (code_of (codes "set")) refl (ap first_code h)
no_step (step.Send p a o) r h = differ 0 (code_of (codes "send")) refl (ap first_code h)
no_step (step.Result e) r h = differ 0 (code_of (codes "result")) refl (ap first_code h)
no_step (step.Up a ps) r h = differ 0 (code_of (codes "up")) refl (ap first_code h)
no_step (step.Layer k a) r h = differ 0 (code_of (codes "layer")) refl (ap first_code h)

pub one_steps : (xs ys : List ActStep) → steps_form xs ≡ steps_form ys → map bare_step xs ≡ map bare_step ys
one_steps [] [] e = refl
one_steps [] (y ∷ ys) e = absurd (no_step y (steps_form ys) e)
one_steps (x ∷ xs) [] e = absurd (no_step x (steps_form xs) (sym e))
one_steps (x ∷ xs) (y ∷ ys) e =
    let first = one_step x y (steps_form xs) (steps_form ys) e in
    ap (λ (t : ActStep). t ∷ map bare_step xs) first.0 ∙ ap (λ (ts : List ActStep). bare_step y ∷ ts) (one_steps xs ys first.1)

whole : (x : List Atom) → x ≡ x ++ []
whole x = sym (append-nil x)

pub one_merge : (x y : Merge) → merge_form x ≡ merge_form y → bare_merge x ≡ bare_merge y
one_merge merge.Last merge.Last e = refl
one_merge (merge.Fold x) (merge.Fold y) e =
    let first = one_expr x y [] [] (sym (whole (expr_form x)) ∙ ap tail_of e ∙ whole (expr_form y)) in
    ap (λ (t : Expr). merge.Fold t) first.0
one_merge merge.Last (merge.Fold y) e = absurd (differ (code_of (codes "last")) (code_of (codes "fold")) refl (ap first_code e))
one_merge (merge.Fold x) merge.Last e = absurd (differ (code_of (codes "fold")) (code_of (codes "last")) refl (ap first_code e))
