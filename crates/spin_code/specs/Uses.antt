-- How expressions, tests and steps use arguments, and whether parameters allow it.
use Rattle.std.specs.Prelude.{ℕ, Bool, true, false, ◌&&◌, ◌==◌, List, [], ◌∷◌}
use Rattle.std.specs.Prelude.{◌++◌, Option, Some, None, nat_lt, length, slice_get}
use Rattle.std.specs.List.{list_all, flat_map}
use Rattle.spin_values.specs.declared.types.Kind.{Kind}
use Rattle.spin_values.specs.declared.types.Kind.TheVariants as kind
use Rattle.spin_values.specs.declared.types.Param.{Param}
use Rattle.spin_code.specs.declared.expr.Expr.{Expr}
use Rattle.spin_code.specs.declared.expr.Expr.TheVariants.{Const, Arg, Field, Plus', And', Or'}
use Rattle.spin_code.specs.declared.test.Test.{Test}
use Rattle.spin_code.specs.declared.test.Test.TheVariants.{True, Compare, HasBytes, Not', All', Any'}
use Rattle.spin_code.specs.declared.act.Layer.{Layer}
use Rattle.spin_code.specs.declared.act.Layer.TheVariants as layer
use Rattle.spin_code.specs.declared.act.Part.{Part}
use Rattle.spin_code.specs.declared.act.Part.TheVariants as part
use Rattle.spin_code.specs.declared.act.ActStep.{ActStep}
use Rattle.spin_code.specs.declared.act.ActStep.TheVariants as step
use Rattle.spin_code.specs.Value.{is_width}

-- an argument is wanted as a word, as bytes, or as bytes with a field of this width
pub data Use : Type 0 where
  AsWord : (arg : ℕ) → Use
  AsBytes : (arg : ℕ) → Use
  AsField : (arg width : ℕ) → Use

-- how an expression uses arguments, from left to right
abbrev pub expr_uses : Expr → List Use
expr_uses (Const n) = []
expr_uses (Arg a) = AsWord a ∷ []
expr_uses (Field a offset width) = AsField a width ∷ []
expr_uses (Plus' p a q b) = expr_uses a ++ expr_uses b
expr_uses (And' p a q b) = expr_uses a ++ expr_uses b
expr_uses (Or' p a q b) = expr_uses a ++ expr_uses b

-- how a test uses arguments, from left to right; `has` wants bytes
abbrev pub test_uses : Test → List Use
test_uses True = []
test_uses (Compare c a b) = expr_uses a ++ expr_uses b
test_uses (HasBytes a n) = AsBytes a ∷ []
test_uses (Not' p t) = test_uses t
test_uses (All' p a q b) = test_uses a ++ test_uses b
test_uses (Any' p a q b) = test_uses a ++ test_uses b

-- how a part uses arguments
abbrev pub part_uses : Part → List Use
part_uses (part.Word e) = expr_uses e
part_uses (part.Bytes a from) = AsBytes a ∷ []

-- how a step uses arguments, what it sets first; what reading headers needs is said by `is_layer_right` alone
abbrev pub step_uses : ActStep → List Use
step_uses (step.Set a e) = AsWord a ∷ expr_uses e
step_uses (step.Send endpoint a from) = AsBytes a ∷ []
step_uses (step.Result e) = expr_uses e
step_uses (step.Up event parts) = flat_map part_uses parts
step_uses (step.Layer k event) = []

-- both are words, or both are bytes
abbrev pub same_kind : Kind → Kind → Bool
same_kind kind.Word kind.Word = true
same_kind kind.Bytes kind.Bytes = true
same_kind _ _ = false

-- the parameter is there and has this kind
abbrev pub is_of_kind : Option Param → Kind → Bool
is_of_kind None k = false
is_of_kind (Some p) k = same_kind p.kind k

-- the parameter is there
abbrev pub is_known : List Param → Use → Bool
is_known params (AsWord a) = nat_lt a (length params)
is_known params (AsBytes a) = nat_lt a (length params)
is_known params (AsField a width) = nat_lt a (length params)

-- the parameter has the kind that is wanted, and a width is a listed one
abbrev pub is_right : List Param → Use → Bool
is_right params (AsWord a) = is_of_kind (slice_get params a) kind.Word
is_right params (AsBytes a) = is_of_kind (slice_get params a) kind.Bytes
is_right params (AsField a width) = is_of_kind (slice_get params a) kind.Bytes && is_width width

-- the parameters are those that the headers need: a frame first; or payload, protocol, source and
-- destination
abbrev pub is_layer_right : List Param → Layer → Bool
is_layer_right params layer.Ipv4 = is_of_kind (slice_get params 0) kind.Bytes
is_layer_right params layer.Udp =
    (length params == 4) && is_of_kind (slice_get params 0) kind.Bytes && is_of_kind (slice_get params 1) kind.Word
    && is_of_kind (slice_get params 2) kind.Word && is_of_kind (slice_get params 3) kind.Word

-- each argument that a step uses is there
abbrev pub is_step_known : List Param → ActStep → Bool
is_step_known params s = list_all (is_known params) (step_uses s)

-- each argument that a step uses is of the kind that is wanted
abbrev pub is_step_right : List Param → ActStep → Bool
is_step_right params (step.Layer k event) = is_layer_right params k
is_step_right params s = list_all (is_right params) (step_uses s)
