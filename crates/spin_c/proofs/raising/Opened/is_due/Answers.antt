use Rattle.std.proofs.Common.{◌∙◌, ap}
use Rattle.spin_host.specs.declared.open.OpenRaise.{OpenRaise}
use Rattle.spin_c.specs.Raisings.{setup_of}
use Rattle.spin_c.proofs.DueFirings.{zero_leaves, zero_tells}
use Rattle.spin_c.proofs.raising.Opened.is_due.Goals as goal

pub begin_within-told-requires : goal.begin_within-told-requires
begin_within-told-requires g c = record { well = rw c.setup.ensures (rw c.deref.ensures c.requires.well) }

pub returns-clause-same : goal.returns-clause-same
returns-clause-same g c =
    let o = c.args.self.now in
    let fault = rw c.new.ensures at (rw c.deref.ensures at (rw c.setup.ensures at c.begin_within-told.ensures.fault)) in
    ap (λ (r : OpenRaise). record o { raise = r }) (zero_leaves (setup_of o) o.raise c.begin_within-told.new.self c.begin_within-told.result c.requires.well fault)

pub returns-clause-due : goal.returns-clause-due
returns-clause-due g c =
    let o = c.args.self.now in
    let fault = rw c.new.ensures at (rw c.deref.ensures at (rw c.setup.ensures at c.begin_within-told.ensures.fault)) in
    λ bounds sig e are typed read. c.due_by.ensures ∙ zero_tells (setup_of o) o.raise c.begin_within-told.new.self c.begin_within-told.result fault bounds sig e are typed read
