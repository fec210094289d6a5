use Rattle.std.proofs.Common.{◌∙◌, sym, ap}
use Rattle.spin_vm.proofs.RegionOrder.{any_is, reaches}
use Rattle.spin_vm.proofs.regions.Regions.have_some.Goals as goal

pub returns-in-None : goal.returns-in-None
returns-in-None c = sym (any_is 0 c.args.from c.args.to c.args.self.now c.requires c.in-None.ensures.apart ∙ ap (reaches c.args.from) (sym c.in-None.ensures.last))

pub returns-in-Some : goal.returns-in-Some
returns-in-Some c = sym (any_is 0 c.args.from c.args.to c.args.self.now c.requires c.in-Some.ensures.apart ∙ ap (reaches c.args.from) (sym c.in-Some.ensures.last))
