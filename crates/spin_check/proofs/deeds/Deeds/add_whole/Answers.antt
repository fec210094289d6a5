use Rattle.std.proofs.Common.{[], ◌∷◌, sym, subst, arith}
use Rattle.std.proofs.lemmas.Result.{on_ok_weaker}
use Rattle.spin_check.specs.declared.deeds.Ask.{Ask}
use Rattle.spin_check.specs.Inner.Asks.{Adds, numbered}
use Rattle.spin_check.proofs.Queues.{adds_one}
use Rattle.spin_check.proofs.deeds.Deeds.add_whole.Goals as goal

pub returns : goal.returns
returns c =
    let line = c.args.line.now in
    let ask : Ask = record { lane = line.lane; line = line.number; part = 0; asked = c.args.asked } in
    let old = c.args.self.now in
    on_ok_weaker c.add.result
    (λ pushed. subst (λ q. Adds (numbered ask ∷ []) old q) (sym pushed) (adds_one ask old c.requires.lane (c.requires.valid, omega (arith, c.requires.lane, c.requires.lanes))))
    c.add.ensures
