use Rattle.std.proofs.Common.{◌≡◌, ap, sym, subst}
use Rattle.std.specs.Prelude.{OnOk}
use Rattle.spin_code.specs.declared.act.Act.{Act}
use Rattle.spin_objects.specs.Doing.{IsDone}
use Rattle.spin_objects.specs.Units.{HandlerUnit, known_handler}
use Rattle.spin_objects.proofs.MappedLists.{place_mapped, read_all}
use Rattle.spin_objects.proofs.NativeLemmas.{handler_known}
use Rattle.spin_objects.proofs.natives.Natives.run.Goals as goal

pub handler-requires : goal.handler-requires
handler-requires g c = place_mapped known_handler c.args.self.now.handlers c.args.native c.requires.there

pub run-requires : goal.run-requires
run-requires g c =
    read_all (λ n. (goal.Handler-dyn g (n.object.vtable, n.object.value)).does n.object.value ≡ n.act)
    c.args.self.now.handlers c.args.native c.handler.result.now c.requires.sincere.handlers c.handler.ensures

pub returns : goal.returns
returns g c =
    subst (λ (act : Act). OnOk c.run.result (IsDone act c.args.args.now c.args.out.now c.run.new.args c.run.new.out))
    (sym (ap (λ (u : HandlerUnit). u.act) (handler_known c.args.self.now.handlers c.args.native c.handler.result.now c.handler.ensures))) c.run.ensures
