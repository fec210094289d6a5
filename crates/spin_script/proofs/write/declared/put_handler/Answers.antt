use Rattle.std.proofs.Common.{◌≡◌, ◌++◌, map, sym, ap, ◌∙◌, Some, OnOk, subst}
use Rattle.std.specs.Prelude.{slice_get}
use Rattle.spin_objects.specs.Units.{Named, HandlerUnit}
use Rattle.spin_grammar.specs.Lines.{LineMeaning}
use Rattle.spin_script.specs.States.{natives_seen}
use Rattle.spin_script.specs.Canonical.{line_text}
use Rattle.spin_script.proofs.WrittenParts.{handler_coded, handler_native}
use Rattle.spin_script.proofs.write.declared.put_handler.Goals as goal

pub returns-in-None : goal.returns-in-None
returns-in-None g c = λ b at.
    subst (λ (l : LineMeaning). OnOk c.put_coded_handler.result (c.put_coded_handler.new.out ≡ c.args.out.now ++ line_text l))
    (sym (handler_coded (natives_seen c.args.catalogue.now.natives) c.args.catalogue.now.bodies c.args.number b c.type_of-sig.result.now c.act_of.result.now at
    (c.native_handler.ensures.native ∙ ap (λ x. Some x) c.in-None.is) c.type_of-sig.ensures c.act_of.ensures)) c.put_coded_handler.ensures

pub returns-in-Some : goal.returns-in-Some
returns-in-Some g c = λ b at.
    subst (λ (l : LineMeaning). OnOk c.put_native.result (c.put_native.new.out ≡ c.args.out.now ++ line_text l))
    (sym (handler_native (natives_seen c.args.catalogue.now.natives) c.args.catalogue.now.bodies c.args.number b c.in-Some.native c.name_of-name.result.now at
    (c.native_handler.ensures.native ∙ ap (λ x. Some x) c.in-Some.is)
    (subst (λ ns. slice_get (map (λ (m : Named HandlerUnit). m.name) (natives_seen ns).handlers) c.in-Some.native ≡ Some c.name_of-name.result.now) c.natives.ensures c.name_of-name.ensures)))
    c.put_native.ensures
