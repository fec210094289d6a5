-- Expressions and tests that are joined, wherever they lie in memory.
use Rattle.std.proofs.Common.{◌≡◌, ℕ, suc, ◌+◌, List, [], ◌∷◌, ◌++◌, Option, Some, None, Box, Global, codes, refl, ap, ◌∙◌, arith}
use denote.RawPtr.{null_ptr}
use Rattle.std.specs.Prelude.{max}
use Rattle.spin_code.specs.declared.expr.Expr.{Expr}
use Rattle.spin_code.specs.declared.expr.Expr.TheVariants.{Plus', And', Or'}
use Rattle.spin_code.specs.declared.test.Cmp.{Cmp}
use Rattle.spin_code.specs.declared.test.Test.{Test}
use Rattle.spin_code.specs.declared.test.Test.TheVariants.{Compare, Not', All', Any'}
use Rattle.spin_code.specs.Size.{expr_depth, test_depth}
use Rattle.spin_grammar.specs.declared.keywords.Operator.{Operator}
use Rattle.spin_grammar.specs.declared.keywords.Operator.TheVariants as operator
use Rattle.spin_grammar.specs.declared.keywords.Connective.{Connective}
use Rattle.spin_grammar.specs.declared.keywords.Connective.TheVariants as joint
use Rattle.spin_grammar.specs.Grammar as grammar
use Rattle.spin_grammar.specs.Grammar.{Atom, Fixed, Want, Expression}
use Rattle.spin_grammar.specs.Inner.Keywords.{sign, joint_word}
use Rattle.spin_grammar.specs.Forms.{expr_form, test_form, cmp_word}
use Rattle.spin_grammar.specs.Inner.Reading.{Leads, Takes, Joins, Negates}
use Rattle.spin_grammar.specs.Lines.{IsWithin}
use Rattle.spin_grammar.proofs.ReadingParts.{leads_then, leads_with}

nowhere : Box (Unit {0}) Global
nowhere = record { ptr = null_ptr; alloc = record { memory = record { seal = tt } }; value = tt }

pub joined : Operator → Expr → Expr → Expr
joined operator.Plus x y = Plus' nowhere x nowhere y
joined operator.And x y = And' nowhere x nowhere y
joined operator.Or x y = Or' nowhere x nowhere y

pub joined_form : (op : Operator) (x y : Expr) → expr_form (joined op x y) ≡ Fixed (sign op) ∷ (expr_form x ++ expr_form y)
unfolding joined
joined_form operator.Plus x y = refl
joined_form operator.And x y = refl
joined_form operator.Or x y = refl

joined_depth : (op : Operator) (x y : Expr) → expr_depth (joined op x y) ≡ suc (max (expr_depth x) (expr_depth y))
unfolding joined
joined_depth operator.Plus x y = refl
joined_depth operator.And x y = refl
joined_depth operator.Or x y = refl

pub paired : Connective → Test → Test → Test
paired joint.All x y = All' nowhere x nowhere y
paired joint.Any x y = Any' nowhere x nowhere y

pub paired_form : (j : Connective) (x y : Test) → test_form (paired j x y) ≡ Fixed (joint_word j) ∷ (test_form x ++ test_form y)
unfolding paired
paired_form joint.All x y = refl
paired_form joint.Any x y = refl

paired_depth : (j : Connective) (x y : Test) → test_depth (paired j x y) ≡ suc (max (test_depth x) (test_depth y))
unfolding paired
paired_depth joint.All x y = refl
paired_depth joint.Any x y = refl

pub negated : Test → Test
negated x = Not' nowhere x

pub negated_form : (x : Test) → test_form (negated x) ≡ Fixed (codes "not") ∷ test_form x
unfolding negated
negated_form x = refl

negated_depth : (x : Test) → test_depth (negated x) ≡ suc (test_depth x)
unfolding negated
negated_depth x = refl

-- a word, and the two things behind it
pub takes_two : (want : Want) (a : Atom) (w1 w2 : Want) (f g : List Atom) (old mid left new : List (List ℕ)) → Leads (want ∷ []) (a ∷ []) (w1 ∷ w2 ∷ []) old mid
    → Takes (w1 ∷ []) f mid left → Takes (w2 ∷ []) g left new → Takes (want ∷ []) (a ∷ (f ++ g)) old new
takes_two want a w1 w2 f g old mid left new head first second =
    leads_then (want ∷ []) (w1 ∷ w2 ∷ []) [] (a ∷ []) (f ++ g) old mid new head (leads_then (w1 ∷ w2 ∷ []) (w2 ∷ []) [] f g mid left new (leads_with (w1 ∷ []) [] (w2 ∷ []) f mid left first) second)

module _ {A B : Type 0} (form : A → List Atom) (depth : A → ℕ) (form' : B → List Atom) (depth' : B → ℕ) (join : A → A → B) (want inner : Want) (w : List ℕ) where
  -- something that a word joins of two, each of which was kept where it isn't too deep
  pub both_read : ((x y : A) → form' (join x y) ≡ Fixed w ∷ (form x ++ form y)) → ((x y : A) → depth' (join x y) ≡ suc (max (depth x) (depth y)))
      → (limit k : ℕ) (o r : Option A) (j : Option B) (x y : A) (old mid left new : List (List ℕ)) → k + 1 ≡ limit → Leads (want ∷ []) (Fixed w ∷ []) (inner ∷ inner ∷ []) old mid
      → Takes (inner ∷ []) (form x) mid left → IsWithin depth k o x → Takes (inner ∷ []) (form y) left new → IsWithin depth k r y → Joins form depth form' depth' w o r j
      → (e : B) × Takes (want ∷ []) (form' e) old new × IsWithin depth' limit j e
  both_read jf jd limit k None r j x y old mid left new l head first deep second h join_is =
      rw join_is (join x y, rw jf (takes_two want (Fixed w) inner inner (form x) (form y) old mid left new head first second), omega (arith, jd x y, deep))
  both_read jf jd limit k (Some a) None j x y old mid left new l head first h second deep join_is =
      rw join_is (join x y, rw jf (takes_two want (Fixed w) inner inner (form x) (form y) old mid left new head first second), omega (arith, jd x y, deep))
  both_read jf jd limit k (Some a) (Some b) None x y old mid left new l head first h second i join_is = absurd join_is
  both_read jf jd limit k (Some a) (Some b) (Some e) x y old mid left new l head first h second i join_is =
      let same : form' e ≡ Fixed w ∷ (form x ++ form y) = join_is.0 ∙ ap (λ (u : A). Fixed w ∷ (form u ++ form b)) h.0 ∙ ap (λ (u : A). Fixed w ∷ (form x ++ form u)) i.0 in
      let u : depth a ≡ depth x = ap depth h.0 in
      let v : depth b ≡ depth y = ap depth i.0 in
      (e, rw same (takes_two want (Fixed w) inner inner (form x) (form y) old mid left new head first second), (refl, omega (arith, join_is.1, u, v, h.1, i.1)))

pub expressions_read : (op : Operator) (limit k : ℕ) (o r j : Option Expr) (x y : Expr) (old mid left new : List (List ℕ))
    → k + 1 ≡ limit → Leads (Expression ∷ []) (Fixed (sign op) ∷ []) (Expression ∷ Expression ∷ []) old mid
    → Takes (Expression ∷ []) (expr_form x) mid left → IsWithin expr_depth k o x → Takes (Expression ∷ []) (expr_form y) left new
    → IsWithin expr_depth k r y → Joins expr_form expr_depth expr_form expr_depth (sign op) o r j
    → (e : Expr) × Takes (Expression ∷ []) (expr_form e) old new × IsWithin expr_depth limit j e
expressions_read op = both_read expr_form expr_depth expr_form expr_depth (joined op) Expression Expression (sign op) (joined_form op) (joined_depth op)

pub comparison_read : (c : Cmp) (limit k : ℕ) (o r : Option Expr) (j : Option Test) (x y : Expr) (old mid left new : List (List ℕ))
    → k + 1 ≡ limit → Leads (grammar.Test ∷ []) (Fixed (cmp_word c) ∷ []) (Expression ∷ Expression ∷ []) old mid
    → Takes (Expression ∷ []) (expr_form x) mid left → IsWithin expr_depth k o x → Takes (Expression ∷ []) (expr_form y) left new
    → IsWithin expr_depth k r y → Joins expr_form expr_depth test_form test_depth (cmp_word c) o r j
    → (t : Test) × Takes (grammar.Test ∷ []) (test_form t) old new × IsWithin test_depth limit j t
comparison_read c = both_read expr_form expr_depth test_form test_depth (Compare c) grammar.Test Expression (cmp_word c) (λ x y. refl) (λ x y. refl)

pub tests_read : (j : Connective) (limit k : ℕ) (o r p : Option Test) (x y : Test) (old mid left new : List (List ℕ))
    → k + 1 ≡ limit → Leads (grammar.Test ∷ []) (Fixed (joint_word j) ∷ []) (grammar.Test ∷ grammar.Test ∷ []) old mid
    → Takes (grammar.Test ∷ []) (test_form x) mid left → IsWithin test_depth k o x → Takes (grammar.Test ∷ []) (test_form y) left new
    → IsWithin test_depth k r y → Joins test_form test_depth test_form test_depth (joint_word j) o r p
    → (t : Test) × Takes (grammar.Test ∷ []) (test_form t) old new × IsWithin test_depth limit p t
tests_read j = both_read test_form test_depth test_form test_depth (paired j) grammar.Test grammar.Test (joint_word j) (paired_form j) (paired_depth j)

pub negation_read : (limit k : ℕ) (o r : Option Test) (x : Test) (old mid new : List (List ℕ)) → k + 1 ≡ limit → Leads (grammar.Test ∷ []) (Fixed (codes "not") ∷ []) (grammar.Test ∷ []) old mid
    → Takes (grammar.Test ∷ []) (test_form x) mid new → IsWithin test_depth k o x → Negates o r
    → (t : Test) × Takes (grammar.Test ∷ []) (test_form t) old new × IsWithin test_depth limit r t
negation_read limit k None r x old mid new l head first deep n =
    rw n (negated x, rw negated_form (leads_then (grammar.Test ∷ []) (grammar.Test ∷ []) [] (Fixed (codes "not") ∷ []) (test_form x) old mid new head first), omega (arith, negated_depth x, deep))
negation_read limit k (Some a) None x old mid new l head first h n = absurd n
negation_read limit k (Some a) (Some e) x old mid new l head first h n =
    let same : test_form e ≡ Fixed (codes "not") ∷ test_form x = n.0 ∙ ap (λ (u : Test). Fixed (codes "not") ∷ test_form u) h.0 in
    let u : test_depth a ≡ test_depth x = ap test_depth h.0 in
    (e, rw same (leads_then (grammar.Test ∷ []) (grammar.Test ∷ []) [] (Fixed (codes "not") ∷ []) (test_form x) old mid new head first), (refl, omega (arith, n.1, u, h.1)))
