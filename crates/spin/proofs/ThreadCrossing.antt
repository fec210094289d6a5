-- What a host hands to its threads, and what they give back, may cross to them.
--     turns_cross     what a closure takes that works on a seat: the allocator and the hub, which are lent, and the seat
--     turned_send     what it answers: the seat, or a fault
--     tasks_cross     what a closure takes that works on tasks: what waits, the allocator, the queue, the setup and the
--                     version, which are lent, and the party
--     answer_send     what it answers where there is memory: the party and a value of the host's
use mathlib.Core.List.{[], ◌∷◌}
use mir.Syntax.{Dict, Slots, named}
use base.Fml.{Lft}
use denote.RattleType.{RattleType}
use denote.Ref.{ShrRef}
use denote.Struct.Declared.{shape, field}
use denote.Struct.Tuple.{Tuple, tuple_type, TupleAt, type_at}
use denote.Param.Object.{Vt, ghosts_of}
use denote.Param.Send.{IsSend, IsSync, sendable, recorded_send, struct_send, shr_send}
use Rattle.std.specs.contracts.alloc.Global as Global
use Rattle.std.specs.contracts.result.Result as Result
use Rattle.std.proofs.Crossing.{crosses}
use Rattle.spin_table.specs.contracts.setup.Setup as Setup
use Rattle.spin_seat.specs.contracts.answer.SeatFault as SeatFault
use Rattle.spin_seat.specs.contracts.hub.Hub as Hub
use Rattle.spin_seat.specs.contracts.seat.Seat as Seat
use Rattle.spin_later.specs.declared.agreement.Agreement.{Ghosts}
use Rattle.spin_later.specs.contracts.party.Party as Party
use Rattle.spin_later.specs.contracts.queue.Queue as Queue
pub use Rattle.spin_jobs.proofs.ThreadCrossing.{Shared, setup_crosses, version_send, version_sync}
pub use Rattle.spin_run.proofs.ThreadCrossing.{hub_crosses, seat_send}
pub use Rattle.spin_later.proofs.ThreadCrossing.{party_send, queue_sync}

global_sync : IsSync Global.the_row
global_sync = search (crosses, sendable) depth 20

seat_taken : (A B C : RattleType) (k l : Lft) → IsSync A → IsSync B → IsSend C
    → IsSend (TupleAt [] (ShrRef (named 0) k A ∷ ShrRef (named 0) l B ∷ C ∷ []))
seat_taken A B C k l a b c =
    let T = type_at [] (ShrRef (named 0) k A ∷ ShrRef (named 0) l B ∷ C ∷ []) in
    recorded_send (field T).row _ _ T.to_one
    (struct_send (shape T) (shr_send (named 0) k A a, (shr_send (named 0) l B b, (c, tt))))

pub turns_cross : {G H K : Type 0 → Type 1} (s t u : Dict → Slots) (x : Shared G) (y : Shared H) (z : Shared K) (k l : Lft)
    → IsSend (TupleAt [] (ShrRef (named 0) k Global.the_row
    ∷ ShrRef (named 0) l (Hub.the_row (Vt s x.0) (Vt t y.0) (Vt u z.0) (ghosts_of s x.0 x.1) (ghosts_of t y.0 y.1) (ghosts_of u z.0 z.1))
    ∷ Seat.the_row ∷ []))
turns_cross s t u x y z k l = seat_taken Global.the_row _ Seat.the_row k l global_sync (hub_crosses s t u x y z) seat_send

pub turned_send : IsSend (Result.the_row Seat.the_row SeatFault.the_row)
turned_send = search (seat_send, sendable) depth 30 fits 20000

party_taken : (A B C D E F : RattleType) (k l m n o : Lft) → IsSync A → IsSync B → IsSync C → IsSync D → IsSync E → IsSend F
    → IsSend (TupleAt [] (ShrRef (named 0) k A ∷ ShrRef (named 0) l B ∷ ShrRef (named 0) m C ∷ ShrRef (named 0) n D ∷ ShrRef (named 0) o E ∷ F ∷ []))
party_taken A B C D E F k l m n o a b c d e f =
    let T = type_at [] (ShrRef (named 0) k A ∷ ShrRef (named 0) l B ∷ ShrRef (named 0) m C ∷ ShrRef (named 0) n D ∷ ShrRef (named 0) o E ∷ F ∷ []) in
    recorded_send (field T).row _ _ T.to_one
    (struct_send (shape T) (shr_send (named 0) k A a, (shr_send (named 0) l B b, (shr_send (named 0) m C c, (shr_send (named 0) n D d, (shr_send (named 0) o E e, (f, tt)))))))

pub tasks_cross : {G H K : Type 0 → Type 1} (s t u : Dict → Slots) (x : Shared G) (y : Shared H) (z : Shared K) (W A V : RattleType) (a : Ghosts A.Denot) (k l m n o : Lft) → IsSync W → IsSync V
    → IsSend (TupleAt [] (ShrRef (named 0) k W ∷ ShrRef (named 0) l Global.the_row ∷ ShrRef (named 0) m (Queue.the_row A a)
    ∷ ShrRef (named 0) n (Setup.the_row (Vt s x.0) (Vt t y.0) (Vt u z.0) (ghosts_of s x.0 x.1) (ghosts_of t y.0 y.1) (ghosts_of u z.0 z.1))
    ∷ ShrRef (named 0) o V ∷ Party.the_row ∷ []))
tasks_cross s t u x y z W A V a k l m n o w v =
    party_taken W Global.the_row (Queue.the_row A a) _ V Party.the_row k l m n o w global_sync (queue_sync A a) (setup_crosses s t u x y z) v party_send

pub answer_send : (T : RattleType) → IsSend T → IsSend (Tuple (Party.the_row ∷ T ∷ []))
answer_send T t =
    let P = tuple_type (Party.the_row ∷ T ∷ []) in
    recorded_send (field P).row _ _ P.to_one (struct_send (shape P) (party_send, (t, tt)))
