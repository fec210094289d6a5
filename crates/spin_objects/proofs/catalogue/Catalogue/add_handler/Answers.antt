use Rattle.std.proofs.Common.{length, sym, ◌∙◌}
use Rattle.std.proofs.lemmas.List.{length-map}
use Rattle.spin_objects.specs.Adding.{handler_refusal}
use Rattle.spin_objects.specs.There.{IsBodyThere}
use Rattle.spin_objects.specs.Units.{known_handler, native_handlers, unit_of_body, native_of_body}
use Rattle.spin_objects.proofs.AddedItems.{known_after, all_after, answered, few_bodies, body_fits}
use Rattle.spin_objects.proofs.catalogue.Catalogue.add_handler.Goals as goal

pub invariant_of-self : goal.invariant_of-self
invariant_of-self g c =
    let catalogue = c.args.self.now in
    let counted = c.count-natives.ensures ∙ length-map _ _ ∙ length-map catalogue.natives.handlers known_handler in
    let fits = answered (handler_refusal c.args.body) c.refusal-refusal.result c.keep.result _ _ _ _ c.refusal-refusal.ensures counted c.len.ensures c.keep.ensures.answer in
    record {
      few_bodies =
          few_bodies c.args.body c.keep.result (length catalogue.natives.handlers) catalogue.bodies c.keep.new.units _ fits
          catalogue.few_bodies c.keep.ensures.added c.keep.ensures.kept;
      few_checks = catalogue.few_checks;
      bodies_there =
          all_after (IsBodyThere (length catalogue.natives.handlers)) c.keep.result catalogue.bodies c.keep.new.units _ c.keep.ensures.added c.keep.ensures.kept
          catalogue.bodies_there (body_fits c.args.body c.keep.result (length catalogue.natives.handlers) (length catalogue.bodies) fits);
      checks_there = catalogue.checks_there;
    }

pub returns-clause-number : goal.returns-clause-number
returns-clause-number g c =
    let catalogue = c.args.self.now in
    rw (length-map catalogue.bodies (unit_of_body (native_handlers catalogue.natives))) c.keep.ensures.number

pub returns-clause-added : goal.returns-clause-added
returns-clause-added g c =
    let catalogue = c.args.self.now in
    known_after (unit_of_body (native_handlers catalogue.natives)) c.keep.result catalogue.bodies c.keep.new.units _ c.keep.ensures.added

pub returns-clause-as_native : goal.returns-clause-as_native
returns-clause-as_native g c = known_after native_of_body c.keep.result c.args.self.now.bodies c.keep.new.units _ c.keep.ensures.added

pub returns-clause-answer : goal.returns-clause-answer
returns-clause-answer g c =
    let catalogue = c.args.self.now in
    answered (handler_refusal c.args.body) c.refusal-refusal.result c.keep.result _ _ _ _ c.refusal-refusal.ensures
    (c.count-natives.ensures ∙ length-map _ _) (c.len.ensures ∙ sym (length-map catalogue.bodies (unit_of_body (native_handlers catalogue.natives)))) c.keep.ensures.answer
