use Rattle.std.proofs.Common.{length, sym, ◌∙◌}
use Rattle.std.proofs.lemmas.List.{length-map}
use Rattle.spin_objects.specs.Adding.{guard_refusal}
use Rattle.spin_objects.specs.There.{IsCheckThere}
use Rattle.spin_objects.specs.Units.{known_guard, native_guards, unit_of_check, native_of_check}
use Rattle.spin_objects.proofs.AddedItems.{known_after, all_after, answered, few_checks, check_fits}
use Rattle.spin_objects.proofs.catalogue.Catalogue.add_guard.Goals as goal

pub invariant_of-self : goal.invariant_of-self
invariant_of-self g c =
    let catalogue = c.args.self.now in
    let counted = c.count-natives.ensures ∙ length-map _ _ ∙ length-map catalogue.natives.guards known_guard in
    let fits = answered (guard_refusal c.args.check) c.refusal-refusal.result c.keep.result _ _ _ _ c.refusal-refusal.ensures counted c.len.ensures c.keep.ensures.answer in
    record {
      few_bodies = catalogue.few_bodies;
      few_checks =
          few_checks c.args.check c.keep.result (length catalogue.natives.guards) catalogue.checks c.keep.new.units _ fits
          catalogue.few_checks c.keep.ensures.added c.keep.ensures.kept;
      bodies_there = catalogue.bodies_there;
      checks_there =
          all_after (IsCheckThere (length catalogue.natives.guards)) c.keep.result catalogue.checks c.keep.new.units _ c.keep.ensures.added c.keep.ensures.kept
          catalogue.checks_there (check_fits c.args.check c.keep.result (length catalogue.natives.guards) (length catalogue.checks) fits);
    }

pub returns-clause-number : goal.returns-clause-number
returns-clause-number g c =
    let catalogue = c.args.self.now in
    rw (length-map catalogue.checks (unit_of_check (native_guards catalogue.natives))) c.keep.ensures.number

pub returns-clause-added : goal.returns-clause-added
returns-clause-added g c =
    let catalogue = c.args.self.now in
    known_after (unit_of_check (native_guards catalogue.natives)) c.keep.result catalogue.checks c.keep.new.units _ c.keep.ensures.added

pub returns-clause-as_native : goal.returns-clause-as_native
returns-clause-as_native g c = known_after native_of_check c.keep.result c.args.self.now.checks c.keep.new.units _ c.keep.ensures.added

pub returns-clause-answer : goal.returns-clause-answer
returns-clause-answer g c =
    let catalogue = c.args.self.now in
    answered (guard_refusal c.args.check) c.refusal-refusal.result c.keep.result _ _ _ _ c.refusal-refusal.ensures
    (c.count-natives.ensures ∙ length-map _ _) (c.len.ensures ∙ sym (length-map catalogue.checks (unit_of_check (native_guards catalogue.natives)))) c.keep.ensures.answer
