use Rattle.std.proofs.Common.{◌∙◌, sym, ap, subst}
use Rattle.std.specs.Prelude.{Some, OnOk}
use Rattle.spin_code.specs.declared.act.Act.{Act}
use Rattle.spin_objects.specs.Doing.{IsDone}
use Rattle.spin_objects.specs.Units.{native_handlers, act_if}
use Rattle.spin_objects.proofs.NativeLemmas.{native_act}
use Rattle.spin_objects.proofs.catalogue.Catalogue.run.Goals as goal

pub returns-in-None : goal.returns-in-None
returns-in-None g c =
    subst (λ (act : Act). OnOk c.run_act.result (IsDone act c.args.args.now c.args.out.now c.run_act.new.args c.run_act.new.out))
    (sym (ap act_if c.act_of.ensures)) c.run_act.ensures.done

pub returns-in-Some : goal.returns-in-Some
returns-in-Some g c =
    let is_native = c.native_handler.ensures.native ∙ ap Some c.in-Some.is in
    subst (λ (act : Act). OnOk c.run.result (IsDone act c.args.args.now c.args.out.now c.run.new.args c.run.new.out))
    (sym (native_act (native_handlers c.args.self.now.natives) c.args.self.now.bodies c.args.handler c.in-Some.native is_native)) c.run.ensures
