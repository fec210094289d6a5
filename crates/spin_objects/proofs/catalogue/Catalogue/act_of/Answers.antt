use Rattle.std.proofs.Common.{◌∙◌, length, ap, subst}
use Rattle.std.specs.Prelude.{Some}
use Rattle.std.proofs.lemmas.List.{length-map}
use Rattle.spin_objects.specs.There.{IsBodyThere}
use Rattle.spin_objects.specs.Units.{handlers_of, HandlerUnit, unit_of_body, native_handlers}
use Rattle.spin_objects.proofs.NumberedItems.{numbered_mapped}
use Rattle.spin_objects.proofs.NativeLemmas.{handler_known}
use Rattle.spin_objects.proofs.catalogue.Catalogue.act_of.Goals as goal

pub body-requires : goal.body-requires
body-requires g c = record {
  first = c.requires.first;
  last = rw (← length-map (handlers_of c.args.self.now) (λ (u : HandlerUnit). u.act)) c.requires.last;
}

pub handler-requires : goal.handler-requires
handler-requires g c = subst (IsBodyThere (length c.args.self.now.natives.handlers)) c.in-Native.is c.body.ensures.there

pub returns-in-Coded : goal.returns-in-Coded
returns-in-Coded g c =
    let natives = native_handlers c.args.self.now.natives in
    numbered_mapped (unit_of_body natives) (λ (u : HandlerUnit). u.act) c.args.self.now.bodies c.args.handler c.body.result.now c.body.ensures.body
    ∙ ap (λ b. Some (unit_of_body natives b).act) c.in-Coded.is

pub returns-in-Native : goal.returns-in-Native
returns-in-Native g c =
    let natives = native_handlers c.args.self.now.natives in
    numbered_mapped (unit_of_body natives) (λ (u : HandlerUnit). u.act) c.args.self.now.bodies c.args.handler c.body.result.now c.body.ensures.body
    ∙ ap (λ b. Some (unit_of_body natives b).act) c.in-Native.is
    ∙ ap (λ (u : HandlerUnit). Some u.act) (handler_known c.args.self.now.natives.handlers c.in-Native.native c.handler.result.now c.handler.ensures)
