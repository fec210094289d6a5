-- What each word that begins something stands for, and what is wanted behind it.
use Rattle.std.specs.Prelude.{ℕ, Bool, List, [], ◌∷◌, ◌++◌, codes, Option, None, Some, Result, Ok}
use Rattle.std.specs.Prelude.{Err}
use Rattle.spin_values.specs.declared.types.EventType.{EventType}
use Rattle.spin_code.specs.declared.act.Layer.{Layer}
use Rattle.spin_word.specs.declared.command.Place.{Place}
use Rattle.spin_word.specs.declared.command.Mode as command
use Rattle.spin_policy.specs.declared.rule.OpMatch.{OpMatch}
use Rattle.spin_policy.specs.declared.rule.Forced.{Forced}
use Rattle.spin_values.specs.declared.types.TheConstants.{MAX_PARAMS}
use Rattle.spin_grammar.specs.declared.limits.TheConstants.{LAST_ARGUMENT, MAX_OFFSET, MAX_WIDTH}
use Rattle.spin_grammar.specs.declared.limits.TheConstants.{LAST_ENDPOINT, LAST_EVENT, MAX_PARTS}
use Rattle.spin_grammar.specs.declared.limits.TheConstants.{MAX_QUOTA, MAX_IMPOSED, LAST_GUARD}
use Rattle.spin_grammar.specs.declared.limits.TheConstants.{LAST_TARGET, LAST_MODULE, LAST_HANDLER}
use Rattle.spin_grammar.specs.declared.limits.TheConstants.{MAX_PACKETS}
use Rattle.spin_grammar.specs.declared.cause.Cause.{Cause}
use Rattle.spin_grammar.specs.declared.cause.Cause.TheVariants as cause
use Rattle.spin_grammar.specs.declared.keywords.ExprWord.{ExprWord}
use Rattle.spin_grammar.specs.declared.keywords.ExprWord.TheVariants as expr
use Rattle.spin_grammar.specs.declared.keywords.Operator.{Operator}
use Rattle.spin_grammar.specs.declared.keywords.Operator.TheVariants as operator
use Rattle.spin_grammar.specs.declared.keywords.Connective.{Connective}
use Rattle.spin_grammar.specs.declared.keywords.Connective.TheVariants as joint
use Rattle.spin_grammar.specs.declared.keywords.TestWord.{TestWord}
use Rattle.spin_grammar.specs.declared.keywords.TestWord.TheVariants as test
use Rattle.spin_grammar.specs.declared.keywords.PartWord.{PartWord}
use Rattle.spin_grammar.specs.declared.keywords.PartWord.TheVariants as part
use Rattle.spin_grammar.specs.declared.keywords.StepWord.{StepWord}
use Rattle.spin_grammar.specs.declared.keywords.StepWord.TheVariants as step
use Rattle.spin_grammar.specs.declared.keywords.MergeWord.{MergeWord}
use Rattle.spin_grammar.specs.declared.keywords.MergeWord.TheVariants as merge
use Rattle.spin_grammar.specs.declared.keywords.EffectWord.{EffectWord}
use Rattle.spin_grammar.specs.declared.keywords.EffectWord.TheVariants as effect
use Rattle.spin_grammar.specs.declared.keywords.SpotWord.{SpotWord}
use Rattle.spin_grammar.specs.declared.keywords.SpotWord.TheVariants as spot
use Rattle.spin_grammar.specs.declared.keywords.DeedWord.{DeedWord}
use Rattle.spin_grammar.specs.declared.keywords.DeedWord.TheVariants as deed
use Rattle.spin_grammar.specs.Grammar.{Atom, Fixed, Numeral, Argument, Want, WordStep, Number, Name}
use Rattle.spin_grammar.specs.Grammar.{Expression, Test, Part, Steps, LayerKind, Mode, Counted}
use Rattle.spin_grammar.specs.Grammar.{ForcedPlace, ForcedMode, Values, Typed, spot_wants}
use Rattle.spin_grammar.specs.Grammar.{last_target}
use Rattle.spin_grammar.specs.Forms.{cmp_word, layer_word, op_match_word, own_word, forced_word}
use Rattle.spin_grammar.specs.Forms.{apart_word, place_word, mode_word, handler_or_any}

abbrev pub Next : Type 0
Next = Atom × List Want

-- a word at its place, or the cause
abbrev pub step_of : {A : Type 0} → (A → Next) → Result A Cause → WordStep
step_of next (Err c) = Err c
step_of next (Ok a) = Ok (next a)

-- what a table has for a word, or that it doesn't have it
abbrev pub known : {A : Type 0} → Option A → Result A Cause
known None = Err cause.Word
known (Some a) = Ok a

abbrev pub alone : List ℕ → Next
alone w = (Fixed w, [])

abbrev pub sign : Operator → List ℕ
sign operator.Plus = codes "+"
sign operator.And = codes "&"
sign operator.Or = codes "|"

abbrev pub joint_word : Connective → List ℕ
joint_word joint.All = codes "all"
joint_word joint.Any = codes "any"

abbrev pub expr_next : ExprWord → Next
expr_next (expr.Const n) = (Numeral n, [])
expr_next (expr.Arg k) = (Argument k, [])
expr_next expr.Field =
    (Fixed (codes "f"), Number 0 LAST_ARGUMENT ∷ Number 0 MAX_OFFSET ∷ Number 0 MAX_WIDTH ∷ [])
expr_next (expr.Binary op) = (Fixed (sign op), Expression ∷ Expression ∷ [])

abbrev pub test_next : TestWord → Next
test_next test.True = (Fixed (codes "true"), [])
test_next (test.Compare c) = (Fixed (cmp_word c), Expression ∷ Expression ∷ [])
test_next test.Has = (Fixed (codes "has"), Number 0 LAST_ARGUMENT ∷ Number 0 MAX_OFFSET ∷ [])
test_next test.Not = (Fixed (codes "not"), Test ∷ [])
test_next (test.Pair j) = (Fixed (joint_word j), Test ∷ Test ∷ [])

abbrev pub part_next : PartWord → Next
part_next part.Word = (Fixed (codes "w"), Expression ∷ [])
part_next part.Bytes = (Fixed (codes "b"), Number 0 LAST_ARGUMENT ∷ Number 0 MAX_OFFSET ∷ [])

abbrev pub step_next : StepWord → Next
step_next step.Set = (Fixed (codes "set"), Number 0 LAST_ARGUMENT ∷ Expression ∷ Steps ∷ [])
step_next step.Send = (
  Fixed (codes "send"),
  Number 0 LAST_ENDPOINT ∷ Number 0 LAST_ARGUMENT ∷ Number 0 MAX_OFFSET
      ∷ Steps ∷ [],
)
step_next step.Result = (Fixed (codes "result"), Expression ∷ Steps ∷ [])
step_next step.Up =
    (Fixed (codes "up"), Number 0 LAST_EVENT ∷ Counted 0 MAX_PARTS Part ∷ Steps ∷ [])
step_next step.Layer = (Fixed (codes "layer"), LayerKind ∷ Number 0 LAST_EVENT ∷ Steps ∷ [])

abbrev pub layer_next : Layer → Next
layer_next k = alone (layer_word k)

abbrev pub merge_next : MergeWord → Next
merge_next merge.Last = alone (codes "last")
merge_next merge.Fold = (Fixed (codes "fold"), Expression ∷ [])

abbrev pub op_next : OpMatch → Next
op_next o = alone (op_match_word o)

abbrev pub handler_next : Option ℕ → Next
handler_next h = (handler_or_any h, [])

abbrev pub own_next : Bool → Next
own_next own = alone (own_word own)

abbrev pub effect_next : EffectWord → Next
effect_next effect.Allow = alone (codes "allow")
effect_next effect.Deny = alone (codes "deny")
effect_next effect.Quota = (Fixed (codes "quota"), Number 0 MAX_QUOTA ∷ [])
effect_next effect.Impose =
    (Fixed (codes "impose"), Counted 1 MAX_IMPOSED (Number 1 LAST_GUARD) ∷ [])
effect_next effect.Force = (
  Fixed (codes "force"),
  Counted 0 MAX_IMPOSED (Number 1 LAST_GUARD) ∷ ForcedPlace ∷ ForcedMode
      ∷ [],
)

abbrev pub forced_next : Forced → Next
forced_next f = alone (forced_word f)

abbrev pub apart_next : Bool → Next
apart_next apart = alone (apart_word apart)

abbrev pub spot_next : SpotWord → Next
spot_next (spot.At p) = alone (place_word p)
spot_next spot.Before = (Fixed (codes "before"), Number 0 LAST_TARGET ∷ [])
spot_next spot.After = (Fixed (codes "after"), Number 0 LAST_TARGET ∷ [])

abbrev pub place_next : Place → Next
place_next p = alone (place_word p)

abbrev pub mode_next : command.Mode → Next
mode_next m = alone (mode_word m)

abbrev pub deed_next : ℕ → DeedWord → Next
deed_next version deed.Install = (
  Fixed (codes "install"),
  Number 0 LAST_EVENT ∷ Number 0 LAST_MODULE ∷ Number 0 LAST_HANDLER
      ∷ Number 0 LAST_GUARD ∷ (spot_wants version ++ Mode ∷ []),
)
deed_next version deed.Remove = (
  Fixed (codes "remove"),
  Number 0 LAST_EVENT ∷ Number 0 LAST_MODULE
      ∷ Number 0 (last_target version) ∷ [],
)
deed_next version deed.Replace = (
  Fixed (codes "replace"),
  Number 0 LAST_EVENT ∷ Number 0 LAST_MODULE
      ∷ Number 0 (last_target version) ∷ Number 0 LAST_HANDLER ∷ Number 0 LAST_GUARD ∷ [],
)
deed_next version deed.Default = (
  Fixed (codes "default"),
  Number 0 LAST_EVENT ∷ Number 0 LAST_MODULE ∷ Number 0 LAST_HANDLER
      ∷ [],
)
deed_next version deed.NoDefault =
    (Fixed (codes "nodefault"), Number 0 LAST_EVENT ∷ Number 0 LAST_MODULE ∷ [])
deed_next version deed.Raise = (Fixed (codes "raise"), Number 0 LAST_EVENT ∷ Values MAX_PARAMS ∷ [])
deed_next version deed.Later = (Fixed (codes "later"), Number 0 LAST_EVENT ∷ Values MAX_PARAMS ∷ [])
deed_next version deed.Packet =
    (Fixed (codes "packet"), Number 0 LAST_EVENT ∷ Number 1 MAX_PACKETS ∷ [])

-- the body of a handler, or of a guard: `native` and a name, or a signature and what it does
abbrev pub handler_body_next : Option EventType → Next
handler_body_next None = (Fixed (codes "native"), Name ∷ [])
handler_body_next (Some sig) = (Typed sig, Steps ∷ [])

abbrev pub guard_body_next : Option EventType → Next
guard_body_next None = (Fixed (codes "native"), Name ∷ [])
guard_body_next (Some sig) = (Typed sig, Test ∷ [])
