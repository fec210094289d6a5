use mathlib.Core.List.{[], ◌∷◌}
use mir.Syntax.{Dict, Slots, named, ty_ptr}
use base.Fml.{Lft}
use denote.Exit.{no}
use denote.RattleType.{RattleType}
use denote.Ref.{ShrRef}
use denote.Struct.Declared.{shape, field}
use denote.Struct.Tuple.{TupleAt, type_at}
use denote.Param.Object.{Vt, ghosts_of}
use denote.Param.Send.{IsSend, IsSync, sendable, param_send, arg_send, recorded_send, struct_send, shr_send}
use Rattle.std.specs.contracts.alloc.Global as Global
use Rattle.std.specs.contracts.result.Result as Result
use Rattle.std.proofs.Crossing.{crosses}
use Rattle.spin_seat.specs.contracts.answer.SeatFault as SeatFault
use Rattle.spin_seat.specs.contracts.hub.Hub as Hub
use Rattle.spin_seat.specs.contracts.seat.Seat as Seat
use Rattle.spin_jobs.proofs.ThreadCrossing.{Shared}
use Rattle.spin_run.proofs.ThreadCrossing.{hub_crosses, seat_send}
use Rattle.spin_tests.specs.contracts.seats.take_turns_at_once.dyn-1 as one
use Rattle.spin_tests.specs.contracts.seats.take_turns_at_once.dyn-2 as two
use Rattle.spin_tests.specs.contracts.seats.take_turns_at_once.dyn-3 as three
use Rattle.spin_tests.proofs.seats.take_turns_at_once.Goals as goal

taken : (A B C : RattleType) (k l : Lft) → IsSync A → IsSync B → IsSend C
    → IsSend (TupleAt [] (ShrRef (named 0) k A ∷ ShrRef (named 0) l B ∷ C ∷ []))
taken A B C k l a b c =
    let T = type_at [] (ShrRef (named 0) k A ∷ ShrRef (named 0) l B ∷ C ∷ []) in
    recorded_send (field T).row _ _ T.to_one
    (struct_send (shape T) (shr_send (named 0) k A a, (shr_send (named 0) l B b, (c, tt))))

global_sync : IsSync Global.the_row
global_sync = search (crosses, sendable) depth 20

-- what a seat's turns take: the allocator and the hub, which are lent, and the seat
turns_cross : {G H K : Type 0 → Type 1} (s t u : Dict → Slots) (x : Shared G) (y : Shared H) (z : Shared K) (k l : Lft)
    → IsSend (TupleAt [] (ShrRef (named 0) k Global.the_row
    ∷ ShrRef (named 0) l (Hub.the_row (Vt s x.0) (Vt t y.0) (Vt u z.0) (ghosts_of s x.0 x.1) (ghosts_of t y.0 y.1) (ghosts_of u z.0 z.1))
    ∷ Seat.the_row ∷ []))
turns_cross s t u x y z k l = taken Global.the_row _ Seat.the_row k l global_sync (hub_crosses s t u x y z) seat_send

-- what the first seat's turns come to
outcome_send : IsSend (Result.the_row Seat.the_row SeatFault.the_row)
outcome_send = search (seat_send, sendable) depth 30 fits 20000

pub join-requires-send-A : goal.join-requires-send-A
join-requires-send-A g c κs within =
    let given = param_send 3 _ outcome_send in
    record { owned = given.owned; leaving = given.leaving }

pub join-requires-send-F : goal.join-requires-send-F
join-requires-send-F g c κs within =
    let R = g.row.R in
    let taken = turns_cross (one.slots R) (two.slots R) (three.slots R) g.dyn-1 g.dyn-2 g.dyn-3 κs.1.1.1.1.1.1.0 κs.1.1.1.1.1.1.1.0 in
    let given = param_send 1 _ (arg_send ty_ptr no _ taken) in
    record { owned = given.owned; leaving = given.leaving }
