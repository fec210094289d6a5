use Rattle.std.proofs.Common.{sym, subst, refl}
use Rattle.spin_host.specs.declared.open.OpenRaise.{OpenRaise}
use Rattle.spin_host.specs.Levels.{IsUpOpened}
use Rattle.spin_host.proofs.open.OpenRaise.open_up.Goals as goal

pub returns-clause-opened : goal.returns-clause-opened
returns-clause-opened c =
    let o = c.args.self.now in
    subst (λ (x : OpenRaise). IsUpOpened c.args.up o x) (sym c.in_ok-push.ensures.ok) (c.begin.ensures, refl, refl, refl)
