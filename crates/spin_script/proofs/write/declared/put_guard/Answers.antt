use Rattle.std.proofs.Common.{◌≡◌, ◌++◌, map, sym, ap, ◌∙◌, Some, OnOk, subst}
use Rattle.std.specs.Prelude.{slice_get}
use Rattle.spin_objects.specs.Units.{Named, GuardUnit}
use Rattle.spin_grammar.specs.Lines.{LineMeaning}
use Rattle.spin_script.specs.States.{natives_seen}
use Rattle.spin_script.specs.Canonical.{line_text}
use Rattle.spin_script.proofs.WrittenParts.{guard_coded, guard_native}
use Rattle.spin_script.proofs.write.declared.put_guard.Goals as goal

pub returns-in-None : goal.returns-in-None
returns-in-None g c = λ b at.
    subst (λ (l : LineMeaning). OnOk c.put_coded_guard.result (c.put_coded_guard.new.out ≡ c.args.out.now ++ line_text l))
    (sym (guard_coded (natives_seen c.args.catalogue.now.natives) c.args.catalogue.now.checks c.args.number b c.guard_type-sig.result.now c.test_of.result.now at
    (c.native_guard.ensures.native ∙ ap (λ x. Some x) c.in-None.is) c.guard_type-sig.ensures c.test_of.ensures)) c.put_coded_guard.ensures

pub returns-in-Some : goal.returns-in-Some
returns-in-Some g c = λ b at.
    subst (λ (l : LineMeaning). OnOk c.put_native.result (c.put_native.new.out ≡ c.args.out.now ++ line_text l))
    (sym (guard_native (natives_seen c.args.catalogue.now.natives) c.args.catalogue.now.checks c.args.number b c.in-Some.native c.name_of-name.result.now at
    (c.native_guard.ensures.native ∙ ap (λ x. Some x) c.in-Some.is)
    (subst (λ ns. slice_get (map (λ (m : Named GuardUnit). m.name) (natives_seen ns).guards) c.in-Some.native ≡ Some c.name_of-name.result.now) c.natives.ensures c.name_of-name.ensures)))
    c.put_native.ensures
