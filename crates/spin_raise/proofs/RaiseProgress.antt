-- A raise under way: what it gave and what is to come are together the whole.
use Rattle.std.proofs.Common.{◌≡◌, ◌<◌, Bool, List, [], ◌∷◌, ◌++◌, length, drop, fold, sym, ap, ◌∙◌, append_assoc, arith, true}
use Rattle.std.proofs.lemmas.List.{append-nil}
use Rattle.std.proofs.lemmas.Bool.{false≢true}
use Rattle.std.specs.List.{flat_map}
use Rattle.spin_values.specs.declared.values.Value.{Value}
use Rattle.spin_code.specs.declared.merge.Merge.{Merge}
use Rattle.spin_objects.specs.declared.item.Item.{Item}
use Rattle.spin_raise.specs.declared.bound.Runner.{Runner}
use Rattle.spin_raise.specs.declared.answer.Answer.TheVariants as answer
use Rattle.spin_raise.specs.declared.stepping.Stepped.TheVariants as stepped
use Rattle.spin_raise.specs.Firing.{Units, Bound, Firing, fired, firings, or_default, items_by, args_left, answer_of}
use Rattle.spin_raise.specs.declared.stepping.Progress.{Progress}
use Rattle.spin_raise.specs.Progress.{answer_after, IsStep, to_come, default_now}
use Rattle.spin_raise.proofs.HandlerWalk.{fold_fired}

pub record Goes (m : Merge) (all rest : List Firing) (out_0 : List Item) (args_0 : List Value) (p : Progress) (out : List Item) : Type 0 where
  pub items : out ++ flat_map items_by rest ≡ out_0 ++ flat_map items_by all
  pub so_far : fold (answer_after m) p.answer rest ≡ fold (answer_after m) answer.NoHandler all
  pub left : args_left p.args rest ≡ args_left args_0 all

pub goes_on : (m : Merge) (room : Bool) (all rest rest' : List Firing) (out_0 : List Item) (args_0 : List Value) (p p' : Progress) (out out' : List Item)
    → Goes m all rest out_0 args_0 p out → IsStep m room stepped.Ran rest rest' p p' out out' → Goes m all rest' out_0 args_0 p' out'
goes_on m room all [] rest' out_0 args_0 p p' out out' g s = absurd s
goes_on m room all (f ∷ fs) rest' out_0 args_0 p p' out out' g (r, e, i) = record {
  items = ap (λ xs. out' ++ flat_map items_by xs) e ∙ ap (λ xs. xs ++ flat_map items_by fs) i.items ∙ append_assoc out (items_by f) (flat_map items_by fs) ∙ g.items;
  so_far = ap (λ xs. fold (answer_after m) p'.answer xs) e ∙ ap (λ x. fold (answer_after m) x fs) i.so_far ∙ g.so_far;
  left = ap (λ xs. args_left p'.args xs) e ∙ ap (λ xs. args_left xs fs) i.left ∙ g.left;
}

pub step_smaller : (m : Merge) (room : Bool) (rest rest' : List Firing) (p p' : Progress) (out out' : List Item) → IsStep m room stepped.Ran rest rest' p p' out out' → length rest' < length rest
step_smaller m room [] rest' p p' out out' s = absurd s
step_smaller m room (f ∷ fs) rest' p p' out out' (r, e, i) = omega (arith, ap length e)

pub never_full : (m : Merge) (rest rest' : List Firing) (p p' : Progress) (out out' : List Item) → IsStep m true stepped.Full rest rest' p p' out out' → ⊥
never_full m [] rest' p p' out out' s = s
never_full m (f ∷ fs) rest' p p' out out' s = false≢true (sym s.0)

pub end_items : (m : Merge) (room : Bool) (all rest rest' : List Firing) (out_0 : List Item) (args_0 : List Value) (p p' : Progress) (out out' : List Item)
    → Goes m all rest out_0 args_0 p out → IsStep m room stepped.End rest rest' p p' out out' → out' ≡ out_0 ++ flat_map items_by all
end_items m room all rest rest' out_0 args_0 p p' out out' g (e, idle) = idle.1 ∙ sym (append-nil out) ∙ ap (λ xs. out ++ flat_map items_by xs) (sym e) ∙ g.items

pub end_args : (m : Merge) (room : Bool) (all rest rest' : List Firing) (out_0 : List Item) (args_0 : List Value) (p p' : Progress) (out out' : List Item)
    → Goes m all rest out_0 args_0 p out → IsStep m room stepped.End rest rest' p p' out out' → p'.args ≡ args_left args_0 all
end_args m room all rest rest' out_0 args_0 p p' out out' g (e, idle) = ap (λ (x : Progress). x.args) idle.0 ∙ ap (λ xs. args_left p.args xs) (sym e) ∙ g.left

pub end_answer : (room : Bool) (by : Runner) (u : Units) (b : Bound) (rest rest' : List Firing) (out_0 : List Item) (args_0 : List Value) (p p' : Progress) (out out' : List Item)
    → Goes b.merge (fired by u b args_0) rest out_0 args_0 p out → IsStep b.merge room stepped.End rest rest' p p' out out' → p'.answer ≡ answer_of b.merge (fired by u b args_0)
end_answer room by u b rest rest' out_0 args_0 p p' out out' g (e, idle) =
    ap (λ (x : Progress). x.answer) idle.0 ∙ ap (λ xs. fold (answer_after b.merge) p.answer xs) (sym e) ∙ g.so_far ∙ fold_fired by u b args_0

-- nothing has fired yet
pub starts : (by : Runner) (u : Units) (b : Bound) (p : Progress) (args : List Value) → p.from ≡ 0 → p.answer ≡ answer.NoHandler → p.args ≡ args → to_come by u b p ≡ fired by u b args
starts by u b p args from so_far same =
    ap (λ n. or_default u (default_now p.answer b.default) p.args (firings by u (drop n b.bindings) p.args)) from
    ∙ ap (λ a. or_default u (default_now a b.default) p.args (firings by u b.bindings p.args)) so_far
    ∙ ap (λ xs. fired by u b xs) same

pub goes_start : (by : Runner) (u : Units) (b : Bound) (p : Progress) (out : List Item) (args : List Value) → p.from ≡ 0
    → p.answer ≡ answer.NoHandler → p.args ≡ args → Goes b.merge (fired by u b args) (to_come by u b p) out args p out
goes_start by u b p out args from so_far same =
    let e = starts by u b p args from so_far same in
    record {
      items = ap (λ xs. out ++ flat_map items_by xs) e;
      so_far = ap (λ xs. fold (answer_after b.merge) p.answer xs) e ∙ ap (λ a. fold (answer_after b.merge) a (fired by u b args)) so_far;
      left = ap (λ xs. args_left p.args xs) e ∙ ap (λ xs. args_left xs (fired by u b args)) same;
    }
