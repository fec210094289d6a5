use Rattle.std.proofs.Common.{◌≡◌, ◌≤◌, ◌∙◌, All, IfOk, length, sym, ap, subst}
use Rattle.std.proofs.lemmas.List.{length-map}
use Rattle.spin_place.specs.declared.binding.Binding.{Binding}
use Rattle.spin_plan.specs.Planned.{IsOver}
use Rattle.spin_objects.specs.Units.{GuardUnit, guards_of, tests_of}
use Rattle.spin_table.proofs.lists.compiled.Goals as goal

pub compile-requires-clause-own : goal.compile-requires-clause-own
compile-requires-clause-own g c =
    let catalogue = c.args.setup.now.catalogue in
    let size : length (guards_of catalogue) ≡ length (tests_of c.catalogue.result.now) =
    sym (length-map (guards_of catalogue) (λ (u : GuardUnit). u.test)) ∙ ap (λ x. length (tests_of x)) (sym c.catalogue.ensures) in
    subst (λ n. All (λ (b : Binding). b.own_guard ≤ n) c.args.ordered.now) size c.requires.own

pub compile-requires-clause-imposed : goal.compile-requires-clause-imposed
compile-requires-clause-imposed g c =
    let catalogue = c.args.setup.now.catalogue in
    let size : length (guards_of catalogue) ≡ length (tests_of c.catalogue.result.now) =
    sym (length-map (guards_of catalogue) (λ (u : GuardUnit). u.test)) ∙ ap (λ x. length (tests_of x)) (sym c.catalogue.ensures) in
    subst (λ n. All (λ (b : Binding). All (λ m. m ≤ n) b.imposed) c.args.ordered.now) size c.requires.imposed

pub returns-clause-over : goal.returns-clause-over
returns-clause-over g c =
    subst (λ x. IfOk c.compile.result (λ plan. IsOver (tests_of x) plan)) c.catalogue.ensures c.compile.ensures.over
