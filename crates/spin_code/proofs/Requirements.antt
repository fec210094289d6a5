-- A test that requires a constant for an expression and holds finds it as the expression's value.
use Rattle.std.proofs.Common.{◌≡◌, ℕ, Bool, true, false, ◌&&◌, List, Option, Some, None, refl, sym, ap, ◌∙◌, arith}
use Rattle.std.specs.Option.{option_or}
use Rattle.std.specs.Prelude.{◌==◌}
use Rattle.std.proofs.lemmas.Option.{cond_some}
use Rattle.std.proofs.lemmas.Bool.Decides.{nat_tests}
use Rattle.spin_values.specs.declared.values.Value.{Value}
use Rattle.spin_code.specs.declared.expr.Expr.{Expr}
use Rattle.spin_code.specs.declared.expr.Expr.TheVariants.{Const, Arg, Field, Plus', And', Or'}
use Rattle.spin_code.specs.declared.test.Cmp.TheVariants.{Eq, Ne, Lt, Le}
use Rattle.spin_code.specs.declared.test.Test.{Test}
use Rattle.spin_code.specs.declared.test.Test.TheVariants.{True, Compare, HasBytes, Not', All', Any'}
use Rattle.spin_code.specs.Value.{value_of}
use Rattle.spin_code.specs.Truth.{truth_of}
use Rattle.spin_code.specs.Required.{is_same_read, constant_beside, required_by}

pub first_of_both : (a b : Bool) → (a && b) ≡ true → a ≡ true
first_of_both true b h = refl
first_of_both false b h = h

pub second_of_both : (a b : Bool) → (a && b) ≡ true → b ≡ true
second_of_both true b h = h
second_of_both false true h = refl
second_of_both false false h = h

number_is : (a b : ℕ) → (a == b) ≡ true → a ≡ b
number_is a b h = grind (arith, nat_tests, h)

-- no two arguments or fields are the same
pub same_is : (d e : Expr) → is_same_read d e ≡ true → d ≡ e
same_is (Arg a) (Arg b) h = ap Arg (number_is a b h)
same_is (Field a o w) (Field b p v) h =
    let front = first_of_both ((a == b) && (o == p)) (w == v) h in
    let first = number_is a b (first_of_both (a == b) (o == p) front) in
    let second = number_is o p (second_of_both (a == b) (o == p) front) in
    let third = number_is w v (second_of_both ((a == b) && (o == p)) (w == v) h) in
    λ i. Field (first i) (second i) (third i)
same_is (Const n) e h = absurd cc
same_is (Plus' p a q b) e h = absurd cc
same_is (And' p a q b) e h = absurd cc
same_is (Or' p a q b) e h = absurd cc
same_is (Arg a) (Const n) h = absurd cc
same_is (Arg a) (Field b p v) h = absurd cc
same_is (Arg a) (Plus' p b q d) h = absurd cc
same_is (Arg a) (And' p b q d) h = absurd cc
same_is (Arg a) (Or' p b q d) h = absurd cc
same_is (Field a o w) (Const n) h = absurd cc
same_is (Field a o w) (Arg b) h = absurd cc
same_is (Field a o w) (Plus' p b q d) h = absurd cc
same_is (Field a o w) (And' p b q d) h = absurd cc
same_is (Field a o w) (Or' p b q d) h = absurd cc

-- what stands beside a constant has it as its value, where the two are equal
beside : (d b e : Expr) (args : List Value) (c : ℕ) → constant_beside d b e ≡ Some c → value_of d args ≡ value_of b args → value_of e args ≡ c
beside d (Const n) e args c h same =
    let found = cond_some (is_same_read d e) n c h in
    ap (λ x. value_of x args) (sym (same_is d e found.0)) ∙ same ∙ found.1
beside d (Arg a) e args c h same = absurd cc
beside d (Field a o w) e args c h same = absurd cc
beside d (Plus' p a q b) e args c h same = absurd cc
beside d (And' p a q b) e args c h same = absurd cc
beside d (Or' p a q b) e args c h same = absurd cc

-- of two the first that is there
one_of : {P : Type 0} (o p : Option ℕ) (c : ℕ) → option_or o p ≡ Some c → (o ≡ Some c → P) → (p ≡ Some c → P) → P
one_of (Some n) p c h left right = left h
one_of None p c h left right = right h

pub is_met : (t : Test) (e : Expr) (args : List Value) (c : ℕ) → required_by t e ≡ Some c → truth_of t args ≡ true → value_of e args ≡ c
is_met True e args c h holds = absurd cc
is_met (Compare Eq a b) e args c h holds =
    let same : value_of a args ≡ value_of b args = number_is (value_of a args) (value_of b args) holds in
    one_of (constant_beside a b e) (constant_beside b a e) c h
    (λ left. beside a b e args c left same)
    (λ right. beside b a e args c right (sym same))
is_met (Compare Ne a b) e args c h holds = absurd cc
is_met (Compare Lt a b) e args c h holds = absurd cc
is_met (Compare Le a b) e args c h holds = absurd cc
is_met (HasBytes a n) e args c h holds = absurd cc
is_met (Not' p t) e args c h holds = absurd cc
is_met (All' p a q b) e args c h holds =
    one_of (required_by a e) (required_by b e) c h
    (λ left. is_met a e args c left (first_of_both (truth_of a args) (truth_of b args) holds))
    (λ right. is_met b e args c right (second_of_both (truth_of a args) (truth_of b args) holds))
is_met (Any' p a q b) e args c h holds = absurd cc
