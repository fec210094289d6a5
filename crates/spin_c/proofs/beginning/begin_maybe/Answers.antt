use Rattle.std.proofs.Common.{◌≡◌, Some, None, sym, ap, subst, ◌∙◌, inl, inr}
use Rattle.std.specs.Prelude.{◌⊎◌}
use Rattle.spin_c.specs.Beginnings.{Begins, BeginsIn}
use Rattle.spin_c.specs.Raisings.{IsIdle}
use Rattle.spin_c.proofs.RaiseOpening.{begun_in}
use Rattle.spin_c.proofs.beginning.begin_maybe.Goals as goal
use Rattle.spin_c.proofs.beginning.begin_maybe.Goals.{in-Some-into_loose, in-None+in-Ok}

pub returns-clause-begins : goal.returns-clause-begins
returns-clause-begins g c =
    let h = c.in-Some.loose.value in let other = c.args.other.value in let r = c.deref_mut-2.result.now in
    let event = c.args.begin.event in let args = c.args.begin.args in
    let after = c.begin_in-told.new.held in let raised = c.begin_in-told.new.raising in let told = c.begin_in-told.result in
    let was : (other ≡ Some r) ⊎ ((other ≡ None) × IsIdle r) =
    elim c.match-into_loose-2.branch [
      | in-Some-into_loose w ↦ inl (w.in-Some-into_loose.ensures ∙ ap Some (sym ((rw w.raising-is at c.deref_mut-2.ensures.value) ∙ w.into_box-raising.ensures)))
      | in-None+in-Ok w ↦ inr (w.in-None.ensures, rw ((rw w.raising-is at c.deref_mut-2.ensures.value) ∙ w.in-Ok.ensures.ok) tt)
    ] in
    let begins = subst (λ x. BeginsIn x r event args after raised told) (c.deref_mut.ensures.value ∙ c.into_box-held.ensures) c.begin_in-told.ensures.begins in
    let whole = begun_in h after event args other r raised told was begins in
    subst (λ x. Begins c.args.maybe.value other event args x c.of-4.result.value told) (sym (c.of-2.ensures ∙ ap Some c.of.ensures))
    (subst (λ x. Begins c.args.maybe.value other event args (Some after) x told) (sym (c.of-4.ensures ∙ ap Some c.of-3.ensures))
    (subst (λ x. Begins x other event args (Some after) (Some raised) told) (sym c.in-Some.ensures) whole))
