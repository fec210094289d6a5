-- The words that each value is written with, in prefix form.
use Rattle.std.specs.Prelude.{ℕ, Bool, true, false, List, [], ◌∷◌, ◌++◌, length, map, take}
use Rattle.std.specs.Prelude.{replicate, codes, Option, None, Some}
use Rattle.std.specs.List.{flat_map}
use Rattle.spin_values.specs.declared.values.Value.{Value}
use Rattle.spin_values.specs.declared.values.Value.TheVariants as value
use Rattle.spin_code.specs.declared.expr.Expr.{Expr}
use Rattle.spin_code.specs.declared.expr.Expr.TheVariants as expr
use Rattle.spin_code.specs.declared.test.Cmp.{Cmp}
use Rattle.spin_code.specs.declared.test.Cmp.TheVariants as cmp
use Rattle.spin_code.specs.declared.test.Test.{Test}
use Rattle.spin_code.specs.declared.test.Test.TheVariants as test
use Rattle.spin_code.specs.declared.act.Part.{Part}
use Rattle.spin_code.specs.declared.act.Part.TheVariants as part
use Rattle.spin_code.specs.declared.act.Layer.{Layer}
use Rattle.spin_code.specs.declared.act.Layer.TheVariants as layer
use Rattle.spin_code.specs.declared.act.ActStep.{ActStep}
use Rattle.spin_code.specs.declared.act.ActStep.TheVariants as step
use Rattle.spin_code.specs.declared.merge.Merge.{Merge}
use Rattle.spin_code.specs.declared.merge.Merge.TheVariants as merge
use Rattle.spin_word.specs.declared.command.Op.{Op}
use Rattle.spin_word.specs.declared.command.Op.TheVariants as op
use Rattle.spin_word.specs.declared.command.Place.{Place}
use Rattle.spin_word.specs.declared.command.Place.TheVariants as place
use Rattle.spin_word.specs.Commands.{no_number}
use Rattle.spin_word.specs.declared.command.Mode.{Mode}
use Rattle.spin_word.specs.declared.command.Mode.TheVariants as mode
use Rattle.spin_policy.specs.declared.rule.OpMatch.{OpMatch}
use Rattle.spin_policy.specs.declared.rule.OpMatch.TheVariants as op_match
use Rattle.spin_policy.specs.declared.rule.Forced.{Forced}
use Rattle.spin_policy.specs.declared.rule.Forced.TheVariants as forced
use Rattle.spin_policy.specs.declared.rule.Effect.{Effect}
use Rattle.spin_policy.specs.declared.rule.Effect.TheVariants as effect
use Rattle.spin_policy.specs.declared.rule.Rule.{Rule}
use Rattle.spin_grammar.specs.Grammar.{Atom, Fixed, Numeral, Argument, Blob}

-- ---- fixed words

-- the word of each comparison: equal, not equal, less, less or equal
abbrev pub cmp_word : Cmp → List ℕ
cmp_word cmp.Eq = codes "=="
cmp_word cmp.Ne = codes "!="
cmp_word cmp.Lt = codes "<"
cmp_word cmp.Le = codes "<="

-- the word of each layer whose headers are read
abbrev pub layer_word : Layer → List ℕ
layer_word layer.Ipv4 = codes "ipv4"
layer_word layer.Udp = codes "udp"

-- the word of what a command does
abbrev pub op_word : Op → List ℕ
op_word op.Install = codes "install"
op_word op.Remove = codes "remove"
op_word op.Replace = codes "replace"
op_word op.Default = codes "default"
op_word op.NoDefault = codes "nodefault"

-- the word of the op that a rule is of, or `any`
abbrev pub op_match_word : OpMatch → List ℕ
op_match_word op_match.Any = codes "any"
op_match_word (op_match.One o) = op_word o

-- whether a rule is of own bindings only, or of all
abbrev pub own_word : Bool → List ℕ
own_word true = codes "own"
own_word false = codes "all"

-- the place that a rule forces, where `keep` forces none
abbrev pub forced_word : Forced → List ℕ
forced_word forced.Keep = codes "keep"
forced_word forced.First = codes "first"
forced_word forced.Last = codes "last"

-- whether a rule forces asynchronous running, where `keep` forces nothing
abbrev pub apart_word : Bool → List ℕ
apart_word true = codes "async"
apart_word false = codes "keep"

-- the word of each place
abbrev pub place_word : Place → List ℕ
place_word place.Free = codes "free"
place_word place.First = codes "first"
place_word place.Last = codes "last"

-- the word of each mode
abbrev pub mode_word : Mode → List ℕ
mode_word mode.Plain = codes "plain"
mode_word mode.Filter = codes "filter"
mode_word mode.Async = codes "async"

-- ---- what guards and handlers do

-- the words of an expression: an operator stands before its two sides, and `f` before a field's three numbers
abbrev pub expr_form : Expr → List Atom
expr_form (expr.Const n) = Numeral n ∷ []
expr_form (expr.Arg k) = Argument k ∷ []
expr_form (expr.Field a offset width) = Fixed (codes "f") ∷ Numeral a ∷ Numeral offset ∷ Numeral width ∷ []
expr_form (expr.Plus' p x q y) = Fixed (codes "+") ∷ (expr_form x ++ expr_form y)
expr_form (expr.And' p x q y) = Fixed (codes "&") ∷ (expr_form x ++ expr_form y)
expr_form (expr.Or' p x q y) = Fixed (codes "|") ∷ (expr_form x ++ expr_form y)

-- the words of a test: what it is comes first, then the two sides, the argument and the number, or the tests in it
abbrev pub test_form : Test → List Atom
test_form test.True = Fixed (codes "true") ∷ []
test_form (test.Compare c x y) = Fixed (cmp_word c) ∷ (expr_form x ++ expr_form y)
test_form (test.HasBytes a n) = Fixed (codes "has") ∷ Numeral a ∷ Numeral n ∷ []
test_form (test.Not' p t) = Fixed (codes "not") ∷ test_form t
test_form (test.All' p t q u) = Fixed (codes "all") ∷ (test_form t ++ test_form u)
test_form (test.Any' p t q u) = Fixed (codes "any") ∷ (test_form t ++ test_form u)

-- the words of a part: `w` and an expression, or `b`, an argument and where its bytes begin
abbrev pub part_form : Part → List Atom
part_form (part.Word e) = Fixed (codes "w") ∷ expr_form e
part_form (part.Bytes a from) = Fixed (codes "b") ∷ Numeral a ∷ Numeral from ∷ []

-- the words of a step: what it does, and then with what; of `up` the parts stand behind their count
abbrev pub step_form : ActStep → List Atom
step_form (step.Set a e) = Fixed (codes "set") ∷ Numeral a ∷ expr_form e
step_form (step.Send endpoint a from) = Fixed (codes "send") ∷ Numeral endpoint ∷ Numeral a ∷ Numeral from ∷ []
step_form (step.Result e) = Fixed (codes "result") ∷ expr_form e
step_form (step.Up event parts) = Fixed (codes "up") ∷ Numeral event ∷ Numeral (length parts) ∷ flat_map part_form parts
step_form (step.Layer k event) = Fixed (codes "layer") ∷ Fixed (layer_word k) ∷ Numeral event ∷ []

-- the words of steps, one step after another
abbrev pub steps_form : List ActStep → List Atom
steps_form steps = flat_map step_form steps

-- the words of a merge: the last result, or a fold with its expression
abbrev pub merge_form : Merge → List Atom
merge_form merge.Last = Fixed (codes "last") ∷ []
merge_form (merge.Fold e) = Fixed (codes "fold") ∷ expr_form e

-- ---- rules

-- so many numbers, behind their count
abbrev pub counted_form : List ℕ → List Atom
counted_form ns = Numeral (length ns) ∷ map Numeral ns

-- the handler that a rule is of, or `any`
abbrev pub handler_or_any : Option ℕ → Atom
handler_or_any None = Fixed (codes "any")
handler_or_any (Some handler) = Numeral handler

-- the words of what a rule decides; guards stand behind their count, the place and mode forced come last
abbrev pub effect_form : Effect → List Atom
effect_form effect.Allow = Fixed (codes "allow") ∷ []
effect_form effect.Deny = Fixed (codes "deny") ∷ []
effect_form (effect.Quota most) = Fixed (codes "quota") ∷ Numeral most ∷ []
effect_form (effect.Impose guards) = Fixed (codes "impose") ∷ counted_form guards
effect_form (effect.Force guards place apart) =
    Fixed (codes "force") ∷ (counted_form guards ++ Fixed (forced_word place) ∷ Fixed (apart_word apart) ∷ [])

-- the words of a rule: the requesters from low to high, the op, the handler, whose bindings, and what it decides
abbrev pub rule_form : Rule → List Atom
rule_form r =
    Numeral r.low ∷ Numeral r.high ∷ Fixed (op_match_word r.op) ∷ handler_or_any r.handler
    ∷ Fixed (own_word r.own_only) ∷ effect_form r.effect

-- ---- deeds

-- where a new binding goes, as it is written: versions 1 and 2 name one other binding at most
pub data Spot : Type 0 where
  At : Place → Spot
  Before : ℕ → Spot
  After : ℕ → Spot
  -- version 3: the bindings before which and after which it goes
  Among : Place → (before after : List ℕ) → Spot

-- the words of a spot; where several bindings may be named, each list stands behind its word and its count
abbrev pub spot_form : Spot → List Atom
spot_form (At p) = Fixed (place_word p) ∷ []
spot_form (Before n) = Fixed (codes "before") ∷ Numeral n ∷ []
spot_form (After n) = Fixed (codes "after") ∷ Numeral n ∷ []
spot_form (Among p before after) =
    Fixed (place_word p) ∷ Fixed (codes "before") ∷ (counted_form before ++ Fixed (codes "after") ∷ counted_form after)

-- the word of a value: a number, or bytes
abbrev pub value_atom : Value → Atom
value_atom (value.Word n) = Numeral n
value_atom (value.Bytes bytes) = Blob bytes

-- the deed of a lane
pub data Task : Type 0 where
  Install : (event requester handler guard : ℕ) → Spot → Mode → Task
  Remove : (event requester target : ℕ) → Task
  Replace : (event requester target handler guard : ℕ) → Task
  Default : (event requester handler : ℕ) → Task
  NoDefault : (event requester : ℕ) → Task
  Raise : ℕ → List Value → Task
  Later : ℕ → List Value → Task
  Packet : (event count : ℕ) → Task

-- these binding numbers, up to four, filled up to four by no binding
abbrev pub padded : List ℕ → List ℕ
padded ns = take 4 (ns ++ replicate 4 no_number)

-- the place that a spot gives a command: it is free where a spot only names one other binding
abbrev pub spot_place : Spot → Place
spot_place (At p) = p
spot_place (Before n) = place.Free
spot_place (After n) = place.Free
spot_place (Among p before after) = p

-- the four numbers that a spot gives as `before`: the bindings that it names so, and then none
abbrev pub spot_before : Spot → List ℕ
spot_before (Before n) = padded (n ∷ [])
spot_before (Among p before after) = padded before
spot_before _ = padded []

-- the four numbers that a spot gives as `after`: the bindings that it names so, and then none
abbrev pub spot_after : Spot → List ℕ
spot_after (After n) = padded (n ∷ [])
spot_after (Among p before after) = padded after
spot_after _ = padded []

-- the words of a lane's deed: what is asked, the event, the requester of a command, and what it is asked with
abbrev pub task_form : Task → List Atom
task_form (Install e m h g spot mode) =
    Fixed (codes "install") ∷ Numeral e ∷ Numeral m ∷ Numeral h ∷ Numeral g
    ∷ (spot_form spot ++ Fixed (mode_word mode) ∷ [])
task_form (Remove e m n) = Fixed (codes "remove") ∷ Numeral e ∷ Numeral m ∷ Numeral n ∷ []
task_form (Replace e m n h g) = Fixed (codes "replace") ∷ Numeral e ∷ Numeral m ∷ Numeral n ∷ Numeral h ∷ Numeral g ∷ []
task_form (Default e m h) = Fixed (codes "default") ∷ Numeral e ∷ Numeral m ∷ Numeral h ∷ []
task_form (NoDefault e m) = Fixed (codes "nodefault") ∷ Numeral e ∷ Numeral m ∷ []
task_form (Raise e vs) = Fixed (codes "raise") ∷ Numeral e ∷ map value_atom vs
task_form (Later e vs) = Fixed (codes "later") ∷ Numeral e ∷ map value_atom vs
task_form (Packet e n) = Fixed (codes "packet") ∷ Numeral e ∷ Numeral n ∷ []
