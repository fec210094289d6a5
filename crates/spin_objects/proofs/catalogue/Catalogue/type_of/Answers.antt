use Rattle.std.proofs.Common.{◌≡◌, ◌∙◌, length, ap, sym, subst}
use Rattle.spin_objects.specs.There.{IsBodyThere}
use Rattle.spin_objects.specs.Units.{HandlerUnit, unit_of_body, native_handlers}
use Rattle.spin_objects.proofs.NumberedItems.{numbered_and}
use Rattle.spin_objects.proofs.NativeLemmas.{handler_known}
use Rattle.spin_objects.proofs.catalogue.Catalogue.type_of.Goals as goal

pub handler-requires : goal.handler-requires
handler-requires g c = subst (IsBodyThere (length c.args.self.now.natives.handlers)) c.in-Native.is c.body.ensures.there

pub returns-in-Coded : goal.returns-in-Coded
returns-in-Coded g c =
    let natives = native_handlers c.args.self.now.natives in
    numbered_and (unit_of_body natives) (λ (u : HandlerUnit). c.in-Coded.sig ≡ u.sig) c.args.self.now.bodies c.args.handler c.body.result.now c.body.ensures.body
    (ap (λ b. (unit_of_body natives b).sig) (sym c.in-Coded.is))

pub returns-in-Native : goal.returns-in-Native
returns-in-Native g c =
    let natives = native_handlers c.args.self.now.natives in
    numbered_and (unit_of_body natives) (λ (u : HandlerUnit). c.handler.result.now.sig ≡ u.sig) c.args.self.now.bodies c.args.handler c.body.result.now c.body.ensures.body
    (ap (λ (u : HandlerUnit). u.sig) (sym (handler_known c.args.self.now.natives.handlers c.in-Native.native c.handler.result.now c.handler.ensures))
    ∙ ap (λ b. (unit_of_body natives b).sig) (sym c.in-Native.is))
