-- Nothing has depth 0 or no nodes.
use Rattle.std.proofs.Common.{◌<◌, ◌&&◌, Bool, List, [], ◌∷◌, ◌≡◌, refl, ap, ◌∙◌, arith}
use Rattle.std.specs.List.{list_all, flat_map}
use Rattle.std.proofs.lemmas.List.Folds.{list_all-append}
use Rattle.spin_code.specs.declared.expr.Expr.{Expr}
use Rattle.spin_code.specs.declared.expr.Expr.TheVariants.{Const, Arg, Field, Plus', And', Or'}
use Rattle.spin_code.specs.declared.test.Test.{Test}
use Rattle.spin_code.specs.declared.test.Test.TheVariants.{True, Compare, HasBytes, Not', All', Any'}
use Rattle.spin_code.specs.Size.{expr_depth, expr_nodes, test_depth, test_nodes}

pub expr_depth_positive : (e : Expr) → 0 < expr_depth e
expr_depth_positive (Const n) = omega arith
expr_depth_positive (Arg a) = omega arith
expr_depth_positive (Field a o w) = omega arith
expr_depth_positive (Plus' p a q b) = omega arith
expr_depth_positive (And' p a q b) = omega arith
expr_depth_positive (Or' p a q b) = omega arith

pub expr_nodes_positive : (e : Expr) → 0 < expr_nodes e
expr_nodes_positive (Const n) = omega arith
expr_nodes_positive (Arg a) = omega arith
expr_nodes_positive (Field a o w) = omega arith
expr_nodes_positive (Plus' p a q b) = omega arith
expr_nodes_positive (And' p a q b) = omega arith
expr_nodes_positive (Or' p a q b) = omega arith

pub test_depth_positive : (t : Test) → 0 < test_depth t
test_depth_positive True = omega arith
test_depth_positive (Compare c a b) = omega arith
test_depth_positive (HasBytes a n) = omega arith
test_depth_positive (Not' p t) = omega arith
test_depth_positive (All' p a q b) = omega arith
test_depth_positive (Any' p a q b) = omega arith

pub test_nodes_positive : (t : Test) → 0 < test_nodes t
test_nodes_positive True = omega arith
test_nodes_positive (Compare c a b) = omega arith
test_nodes_positive (HasBytes a n) = omega arith
test_nodes_positive (Not' p t) = omega arith
test_nodes_positive (All' p a q b) = omega arith
test_nodes_positive (Any' p a q b) = omega arith

-- a test of each element of lists that are joined
pub all_of_all : {A B : Type 0} (p : B → Bool) (f : A → List B) (xs : List A) → list_all p (flat_map f xs) ≡ list_all (λ x. list_all p (f x)) xs
all_of_all p f [] = refl
all_of_all p f (x ∷ xs) = list_all-append p (f x) (flat_map f xs) ∙ ap (λ b. list_all p (f x) && b) (all_of_all p f xs)
