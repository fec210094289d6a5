-- What is next is told, or the raise ends.
use Rattle.std.proofs.Common.{◌≡◌, ℕ, Bool, true, false, List, length, fold, Option, Some, None, refl, sym, ap, subst, ◌∙◌}
use Rattle.std.specs.Prelude.{IfSome, MatchOption, slice_get}
use Rattle.std.specs.Option.{option_map}
use Rattle.spin_values.specs.declared.values.Value.{Value}
use Rattle.spin_place.specs.declared.binding.Binding.{Binding}
use Rattle.spin_plan.specs.Next.{guards_hold, IsNext}
use Rattle.spin_raise.specs.declared.stepping.Progress.{Progress}
use Rattle.spin_raise.specs.Firing.{Units, Bound}
use Rattle.spin_raise.specs.Progress.{answer_after}
use Rattle.spin_raise.specs.declared.answer.Answer.TheVariants as answer
use Rattle.spin_host.specs.declared.frame.Due.{Due}
use Rattle.spin_host.specs.declared.frame.Due.TheVariants as due
use Rattle.spin_host.specs.declared.frame.Frame.{Frame}
use Rattle.spin_host.specs.OpenRaises.{Next, Reached, Standing, front, IsDue, after_all}
use Rattle.spin_host.specs.Frames.{due_in, next_if, is_default_next, Finds, Looks, Keeps, Stays, Ends}
use Rattle.spin_host.proofs.FiredAnswers.{tidy, answers, default_is_next, default_is_not_next, there}

module _ (u : Units) (e : Bound) (s : Standing) (f : Frame) (k : Keeps u e s f) where
  moved : (o : Option ℕ) → IsNext (guards_hold u.tests f.progress.args) e.bindings f.progress.from o → IsNext (guards_hold u.tests s.args) e.bindings s.from o
  moved o next =
      subst (λ (n : ℕ). IsNext (guards_hold u.tests s.args) e.bindings n o) k.from
      (subst (λ (xs : List Value). IsNext (guards_hold u.tests xs) e.bindings f.progress.from o) k.same next)

  so_far : (b : Bool) → is_default_next f.asked f.progress.answer e.default ≡ b → is_default_next s.asked (fold (answer_after e.merge) answer.NoHandler s.fired) e.default ≡ b
  so_far b is =
      sym (ap (λ t. is_default_next t (fold (answer_after e.merge) answer.NoHandler s.fired) e.default) k.asked)
      ∙ sym (ap (λ a. is_default_next f.asked a e.default) k.so_far) ∙ is

  finds_some : (o : Option Due) → Finds u e f o → IfSome (next_if e o) (λ n. IsDue u e s (Some n))
  finds_some None h = tt
  finds_some (Some (due.Binding at)) h =
      let next = moved (Some at) h in
      let b = there (λ x. guards_hold u.tests s.args x ≡ true) (slice_get e.bindings at) next.1 in
      let P : Option Binding → Type 0 = λ o. IfSome (option_map (Reached at) o) (λ n. IsDue u e s (Some n)) in
      subst P (sym b.1) (next, b.1)
  finds_some (Some due.Default) h =
      let is = default_is_next e.merge s.asked s.fired e.default (so_far true h.1) in
      let P : Option Next → Type 0 = λ o. IfSome o (λ n. IsDue u e s (Some n)) in
      subst P (sym is.1) (moved None h.0, sym is.0)

  finds_none : Finds u e f None → IsDue u e s None
  finds_none h = (moved None h.0, sym (default_is_not_next e.merge s.asked s.fired e.default (so_far false h.1)))

  -- what was looked for and isn't there yet, or was due already
  looks : (o : Option Due) → Looks u e f o → IfSome (next_if e o) (λ n. IsDue u e s (Some n))
  looks o h = choose (due_in e f) refl h
    where
      choose : (d : Option Next) → due_in e f ≡ d → MatchOption d (Finds u e f o) (λ n. next_if e o ≡ Some n) → IfSome (next_if e o) (λ n. IsDue u e s (Some n))
      choose None is h = finds_some o h
      choose (Some n) is h =
          let P : Option Next → Type 0 = λ o. IfSome o (λ n. IsDue u e s (Some n)) in
          subst P (is ∙ sym h) k.due

  pub keeps_same : (f' : Frame) → f'.progress ≡ f.progress → f'.asked ≡ f.asked → IfSome (due_in e f') (λ n. IsDue u e s (Some n)) → Keeps u e s f'
  keeps_same f' progress asked due = record {
    from = ap (λ (p : Progress). p.from) progress ∙ k.from;
    same = ap (λ (p : Progress). p.args) progress ∙ k.same;
    so_far = ap (λ (p : Progress). p.answer) progress ∙ k.so_far;
    asked = asked ∙ k.asked;
    due = due;
  }

pub stays : (u : Units) (e : Bound) (f f' : Frame) (o : Option Due) → Looks u e f o → f'.progress ≡ f.progress → f'.asked ≡ f.asked → f'.due ≡ o → Stays u e f f'
stays u e f f' o h progress asked is = λ sig args told (way, k).
    let s : Standing = after_all u e (front args) told in
    let P : Option Due → Type 0 = λ o. IfSome (next_if e o) (λ n. IsDue u e s (Some n)) in
    (way, keeps_same u e s f k f' progress asked (subst P (sym is) (looks u e s f k o h)))

-- nothing is next
nothing : (u : Units) (e : Bound) (f : Frame) → Looks u e f None → (due_in e f ≡ None) × Finds u e f None
nothing u e f h = choose (due_in e f) refl h
  where
    choose : (d : Option Next) → due_in e f ≡ d → MatchOption d (Finds u e f None) (λ n. None ≡ Some n) → (due_in e f ≡ None) × Finds u e f None
    choose None is h = (is, h)
    choose (Some n) is h = cc

pub ends : (u : Units) (e : Bound) (f : Frame) (o : Option Due) → Looks u e f o → o ≡ None → Ends u e f f.progress.answer
ends u e f o h none =
    let P : Option Due → Type 0 = λ o. Looks u e f o in
    let finds = (nothing u e f (subst P none h)).1 in
    λ sig args told (way, k).
    let s : Standing = after_all u e (front args) told in
    record {
      way = way;
      end = finds_none u e s f k finds;
      comes = k.so_far ∙ answers e.merge (length e.bindings) s.from s.asked s.fired (tidy u sig e (front args) told tt way);
    }
