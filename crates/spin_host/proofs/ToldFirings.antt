-- One more firing is told.
use Rattle.std.proofs.Common.{◌≡◌, ◌++◌, false, List, [], ◌∷◌, fold, Option, Some, None, sym, ap, subst, ◌∙◌}
use Rattle.std.specs.Prelude.{IfSome, IsSomeAnd, flat_map}
use Rattle.std.proofs.lemmas.List.Sums.{fold-append}
use Rattle.spin_values.specs.declared.types.EventType.{EventType}
use Rattle.spin_values.specs.declared.values.Value.{Value}
use Rattle.spin_objects.specs.declared.item.Item.{Item}
use Rattle.spin_raise.specs.declared.answer.Answer.TheVariants as answer
use Rattle.spin_raise.specs.Firing.{Units, Bound, args_left, items_by}
use Rattle.spin_raise.specs.Progress.{answer_after}
use Rattle.spin_host.specs.declared.frame.Frame.{Frame}
use Rattle.spin_host.specs.OpenRaises.{Next, Fate, Told, Standing, front, IsDue, fate_fault, fires}
use Rattle.spin_host.specs.OpenRaises.{from_after, asked_after, after, after_all, AreTold}
use Rattle.spin_host.specs.Frames.{due_in, next_if, Keeps, Stands, Begins, Tells}

told_more : (u : Units) (sig : EventType) (e : Bound) (s : Standing) (told : List Told) (t : Told) → AreTold u sig e s told → IsDue u e (after_all u e s told) (Some t.next)
    → t.saw ≡ (after_all u e s told).args → fate_fault sig t.next t.fate ≡ None → AreTold u sig e s (told ++ t ∷ [])
told_more u sig e s [] t way due saw fit = (due, saw, fit, tt)
told_more u sig e s (x ∷ xs) t way due saw fit = (way.0, way.1, way.2, told_more u sig e (after u e s x) xs t way.3 due saw fit)

pub due_so : (u : Units) (e : Bound) (s : Standing) (f : Frame) (n : Next) → Keeps u e s f → due_in e f ≡ Some n → IsDue u e s (Some n)
due_so u e s f n k is =
    let P : Option Next → Type 0 = λ o. IfSome o (λ n. IsDue u e s (Some n)) in
    subst P is k.due

pub not_due : (u : Units) (e : Bound) (s : Standing) (f : Frame) → due_in e f ≡ None → IfSome (due_in e f) (λ n. IsDue u e s (Some n))
not_due u e s f is =
    let P : Option Next → Type 0 = λ o. IfSome o (λ n. IsDue u e s (Some n)) in
    subst P (sym is) tt

module _ (u : Units) (e : Bound) (n : Next) (fate : Fate) (f f' : Frame) (is : due_in e f ≡ Some n) (from : f'.progress.from ≡ from_after e n)
    (left : f'.progress.args ≡ args_left f.progress.args (fires u f.progress.args n fate))
    (so_far : f'.progress.answer ≡ fold (answer_after e.merge) f.progress.answer (fires u f.progress.args n fate))
    (asked : f'.asked ≡ asked_after f.asked n) (none : due_in e f' ≡ None) where
  -- what is held is where it stands afterwards
  keeps_after : (s : Standing) → Keeps u e s f → Keeps u e (after u e s record { next = n; saw = f.progress.args; fate = fate }) f'
  keeps_after s k =
      let s' : Standing = after u e s record { next = n; saw = f.progress.args; fate = fate } in
      record {
        from = from;
        same = left ∙ ap (λ xs. args_left xs (fires u xs n fate)) k.same;
        so_far =
            so_far ∙ ap (λ xs. fold (answer_after e.merge) f.progress.answer (fires u xs n fate)) k.same
            ∙ ap (λ a. fold (answer_after e.merge) a (fires u s.args n fate)) k.so_far
            ∙ sym (fold-append (answer_after e.merge) answer.NoHandler s.fired (fires u s.args n fate));
        asked = asked ∙ ap (λ b. asked_after b n) k.asked;
        due = not_due u e s' f' none;
      }

  pub tells : (sig : EventType) (out out' : List Item) → fate_fault sig n fate ≡ None → out' ≡ out ++ flat_map items_by (fires u f.progress.args n fate)
      → Tells u sig e fate f f' out out'
  tells sig out out' fit items =
      let P : Option Next → Type 0 = λ o. IsSomeAnd o
      (λ n. (out' ≡ out ++ flat_map items_by (fires u f.progress.args n fate))
      × ((args : List Value) (told : List Told) → Stands u sig e args told f
      → Stands u sig e args (told ++ record { next = n; saw = f.progress.args; fate = fate } ∷ []) f')) in
      subst P (sym is) (
        items,
        λ args told h.
            let t : Told = record { next = n; saw = f.progress.args; fate = fate } in
            let s : Standing = after_all u e (front args) told in
            let all : after_all u e (front args) (told ++ t ∷ []) ≡ after u e s t = fold-append (after u e) (front args) told (t ∷ []) in (
              told_more u sig e (front args) told t h.0 (due_so u e s f n h.1 is) h.1.same fit,
              subst (λ (x : Standing). Keeps u e x f') (sym all) (keeps_after s h.1),
            ),
      )

-- nothing was told yet
pub begins : (args : List Value) (f : Frame) → f.progress.from ≡ 0 → f.progress.answer ≡ answer.NoHandler → f.progress.args ≡ args → f.asked ≡ false → f.due ≡ None → Begins args f
begins args f from so_far same asked none = λ u sig e. (
  tt,
  record { from = from; same = same; so_far = so_far; asked = asked; due = not_due u e (front args) f (ap (next_if e) none) },
)
