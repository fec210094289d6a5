-- One turn of a raise, by what is to come.
use Rattle.std.proofs.Common.{◌≡◌, ℕ, ◌<◌, ◌∷◌, [], List, Option, Some, None, true, refl, sym, ap, subst, arith}
use Rattle.std.specs.List.{flat_map}
use Rattle.spin_code.specs.declared.merge.Merge.{Merge}
use Rattle.spin_objects.specs.declared.item.Item.{Item}
use Rattle.spin_objects.specs.Doing.{last_result}
use Rattle.spin_raise.specs.declared.answer.Answer.TheVariants as answer
use Rattle.spin_raise.specs.declared.stepping.Progress.{Progress}
use Rattle.spin_raise.specs.declared.stepping.Stepped.TheVariants as stepped
use Rattle.spin_raise.specs.Firing.{Firing, Did, Apart, ByDefault, items_by, left_by, one_if}
use Rattle.spin_raise.specs.Progress.{answer_after}
use Rattle.spin_raise.proofs.RaiseSteps.{is_ran}
use Rattle.spin_proto.specs.declared.walk.Upward.{Upward}
use Rattle.spin_proto.specs.declared.walk.Walk.{Walk}
use Rattle.spin_proto.specs.declared.reply.Step.TheVariants as step
use Rattle.spin_proto.specs.Whole.{Plain, marks_at, starts}
use Rattle.spin_proto.specs.Inner.Walks.{Notes}
use Rattle.spin_proto.specs.Inner.Turns.{IsShort, IsTurn}
use Rattle.spin_proto.proofs.WalkLemmas.{starts-append}

-- each firing starts something
first_starts : (event : ℕ) (f : Firing) → 0 < starts (flat_map (marks_at event) (items_by f))
first_starts event (Did n merged given left) = omega (arith, starts-append (Plain (step.Run event n) ∷ []) (flat_map (marks_at event) given))
first_starts event (Apart n args) = omega arith
first_starts event (ByDefault given left) = omega (arith, starts-append (Plain (step.Run event 0) ∷ []) (flat_map (marks_at event) given))

pub turn_short_of : (event : ℕ) (before : List Firing) (f : Firing) (fs : List Firing) (w : Walk) → before ≡ f ∷ fs
    → w.left < starts (flat_map (marks_at event) (items_by f)) → IsShort event before w
turn_short_of event before f fs w e short = subst (λ xs. IsShort event xs w) (sym e) short

-- none may start
pub turn_without_room : (event : ℕ) (before : List Firing) (f : Firing) (fs : List Firing) (w : Walk) → before ≡ f ∷ fs → w.left ≡ 0 → IsShort event before w
turn_without_room event before f fs w e none = turn_short_of event before f fs w e (omega (arith, none, first_starts event f))

pub turn_ran : (m : Merge) (event : ℕ) (before after : List Firing) (f : Firing) (fs : List Firing) (p p' : Progress) (ups : List Upward) (w w' : Walk)
    → before ≡ f ∷ fs → after ≡ fs → p'.answer ≡ answer_after m p.answer f → p'.args ≡ left_by f → Notes true ups event (items_by f) w w'
    → IsTurn m event stepped.Ran before after p p' ups w w'
turn_ran m event before after f fs p p' ups w w' e rest so_far left notes =
    (items_by f, is_ran m true before after f fs p p' [] (items_by f) e refl rest record { items = refl; so_far = so_far; left = left }, notes)

-- the default's result
pub default_result : (given : List Item) (word : Option ℕ) → one_if (last_result given) ≡ one_if word → answer.Default word ≡ answer.Default (last_result given)
default_result given word e = ap answer.Default (same (last_result given) word e)
  where
    same : (o w : Option ℕ) → one_if o ≡ one_if w → w ≡ o
    same None None e = refl
    same None (Some n) e = cc
    same (Some m) None e = cc
    same (Some m) (Some n) e = cc
