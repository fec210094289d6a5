use mathlib.Core.List.{[], ◌∷◌}
use mir.Syntax.{ty_ptr}
use denote.Exit.{no}
use denote.Struct.Tuple.{Tuple}
use denote.Param.Send.{IsSend, sendable, param_send, arg_send}
use Rattle.std.specs.contracts.result.Result as Result
use Rattle.std.proofs.Crossing.{crosses, Arc-sync}
use Rattle.spin.proofs.ThreadCrossing.{answer_send, tasks_cross, version_send, version_sync}
use Rattle.spin.proofs.NoMemoryRow as NoMemory
use Rattle.spin.proofs.PartyRow as Party
use Rattle.host_workers.specs.contracts.Tally as Tally
use Rattle.host_workers.specs.contracts.take_turns.dyn-1 as one
use Rattle.host_workers.specs.contracts.take_turns.dyn-2 as two
use Rattle.host_workers.specs.contracts.take_turns.dyn-3 as three
use Rattle.host_workers.proofs.take_turns.Goals as goal

tally_send : IsSend Tally.the_row
tally_send = search (crosses, sendable) depth 30 fits 20000

-- what a thread gives back: the party and its tally
done_send : IsSend (Tuple (Party.the_row ∷ Tally.the_row ∷ []))
done_send = answer_send Tally.the_row tally_send

outcome_send : IsSend (Result.the_row (Tuple (Party.the_row ∷ Tally.the_row ∷ [])) NoMemory.the_row)
outcome_send = search (done_send, sendable) depth 30 fits 20000

pub join-requires-send-A : goal.join-requires-send-A
join-requires-send-A g c κs within =
    let given = param_send 3 _ outcome_send in
    record { owned = given.owned; leaving = given.leaving }

-- what a thread is handed
pub join-requires-send-F : goal.join-requires-send-F
join-requires-send-F g c κs within =
    let A = g.row.A in let R = g.row.R in
    let version = Arc-sync _ version_send version_sync in
    let taken = tasks_cross (one.slots A R) (two.slots A R) (three.slots A R) g.dyn-1 g.dyn-2 g.dyn-3 _ A _ g.A.Agreement
    κs.1.1.1.1.1.1.0 κs.1.1.1.1.1.1.1.0 κs.1.1.1.1.1.1.1.1.0 κs.1.1.1.1.1.1.1.1.1.0 κs.1.1.1.1.1.1.1.1.1.1.0 c.type_bounds.sync-R version in
    let given = param_send 1 _ (arg_send ty_ptr no _ taken) in
    record { owned = given.owned; leaving = given.leaving }
