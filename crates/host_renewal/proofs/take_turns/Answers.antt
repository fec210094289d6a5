use mir.Syntax.{ty_ptr}
use denote.Exit.{no}
use denote.Param.Send.{param_send, arg_send}
use Rattle.spin.proofs.ThreadCrossing.{turns_cross, turned_send}
use Rattle.host_renewal.specs.contracts.take_turns.dyn-1 as one
use Rattle.host_renewal.specs.contracts.take_turns.dyn-2 as two
use Rattle.host_renewal.specs.contracts.take_turns.dyn-3 as three
use Rattle.host_renewal.proofs.take_turns.Goals as goal

-- what the first seat's turns come to
pub join-requires-send-A : goal.join-requires-send-A
join-requires-send-A g c κs within =
    let given = param_send 3 _ turned_send in
    record { owned = given.owned; leaving = given.leaving }

-- what a seat's turns take
pub join-requires-send-F : goal.join-requires-send-F
join-requires-send-F g c κs within =
    let R = g.row.R in
    let taken = turns_cross (one.slots R) (two.slots R) (three.slots R) g.dyn-1 g.dyn-2 g.dyn-3 κs.1.1.1.1.1.1.0 κs.1.1.1.1.1.1.1.0 in
    let given = param_send 1 _ (arg_send ty_ptr no _ taken) in
    record { owned = given.owned; leaving = given.leaving }
