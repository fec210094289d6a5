use Rattle.spin_table.specs.SetupOf.{data_of}
use Rattle.spin_proto.proofs.ReplyLemmas.{on_ok_map}
use Rattle.spin_host.proofs.OpenTurns.{next_up}
use Rattle.spin_host.proofs.open.OpenRaise.next.Goals as goal

pub returns-in-Some-clause-well : goal.returns-in-Some-clause-well
returns-in-Some-clause-well g c =
    on_ok_map c.open_up.result _ _
    (λ h. next_up (data_of c.args.setup.now) c.args.self.now c.open_up.new.self c.in-Some.up c.take_first.new.self c.keep_items.new.items c.requires.well c.in-Some.ensures h)
    c.open_up.ensures.opened
