use Rattle.std.proofs.Common.{◌∙◌, sym, ap, cond, None, Some}
use Rattle.spin_table.specs.SetupOf.{data_of}
use Rattle.spin_host.specs.declared.fault.RaiseFault.TheVariants as fault
use Rattle.spin_host.proofs.FoundEvents.{fault_is}
use Rattle.spin_host.proofs.fault.begin_fault.Goals as goal

pub returns-then-not-fits : goal.returns-then-not-fits
returns-then-not-fits g c =
    let a = c.args in
    sym (fault_is (data_of a.setup.now) a.event c.event.result.now a.args.now c.fits.result c.event.ensures c.fits.ensures ∙ ap (λ t. cond t None (Some fault.WrongArgs)) c.if-not-fits.true)

pub returns : goal.returns
returns g c =
    let a = c.args in
    sym (fault_is (data_of a.setup.now) a.event c.event.result.now a.args.now c.fits.result c.event.ensures c.fits.ensures ∙ ap (λ t. cond t None (Some fault.WrongArgs)) c.if-not-fits.false)
