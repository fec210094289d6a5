-- What lanes share may be lent to other threads.
use mathlib.Core.List.{[], ◌∷◌}
use mir.Syntax.{Dict, Slots, named}
use base.Fml.{Lft}
use denote.Builtin.{u8}
use denote.RattleType.{RattleType}
use denote.Ref.{ShrRef}
use denote.Struct.Declared.{shape, field}
use denote.Struct.Tuple.{TupleAt, type_at}
use denote.Param.Object.{Vt, ghosts_of}
use denote.Param.Send.{IsSend, IsSync, sendable, recorded_send, recorded_sync, struct_send, struct_sync, shr_sync}
use Rattle.std.specs.contracts.alloc.Global as Global
use Rattle.std.proofs.Crossing.{crosses}
use Rattle.spin_values.specs.contracts.list.Sequence as Sequence
use Rattle.spin_values.proofs.list.Sequence.TheSendSync as list
use Rattle.spin_log.proofs.log.Log.TheSendSync as log
use Rattle.spin_log.proofs.pen.Pen.TheSendSync as pen
use Rattle.spin_seat.specs.contracts.hub.Hub as Hub
use Rattle.spin_seat.specs.contracts.seat.Seat as Seat
use Rattle.spin_script.specs.contracts.script.Segment as Segment
use Rattle.spin_proto.specs.contracts.deed.Job as Job
use Rattle.spin_jobs.proofs.ThreadCrossing.{Shared, setup_sync, version_send, version_sync}
use Rattle.spin_report.specs.contracts.entry.Entry as Entry
use Rattle.spin_run.specs.contracts.lane.Lane as Lane
use Rattle.spin_run.specs.contracts.trail.EntryIndex as EntryIndex
use Rattle.spin_run.specs.contracts.trail.Sending as Sending
use Rattle.spin_run.proofs.trail.Sending.TheSendSync as sending
use Rattle.spin_run.specs.contracts.trail.Trail as Trail

-- the hub
pub hub_crosses : {G H K : Type 0 → Type 1} (s t u : Dict → Slots) (x : Shared G) (y : Shared H) (z : Shared K)
    → IsSync (Hub.the_row (Vt s x.0) (Vt t y.0) (Vt u z.0) (ghosts_of s x.0 x.1) (ghosts_of t y.0 y.1) (ghosts_of u z.0 z.1))
hub_crosses s t u x y z =
    let A = Vt s x.0 in let B = Vt t y.0 in let C = Vt u z.0 in
    let a = ghosts_of s x.0 x.1 in let b = ghosts_of t y.0 y.1 in let c = ghosts_of u z.0 z.1 in
    recorded_sync (Hub.the_field A B C a b c).row _ _ (Hub.the_type A B C a b c).to_one
    (struct_sync (shape (Hub.the_type A B C a b c)) (log.the_sync, (setup_sync A B C a b c x.3 y.3 z.3 (search sendable) (search sendable) (search sendable), tt)))

borrows : (A B C D E : RattleType) (k l m n o : Lft) → IsSync A → IsSync B → IsSync C → IsSync D → IsSync E
    → IsSync (TupleAt [] (ShrRef (named 0) k A ∷ ShrRef (named 0) l B ∷ ShrRef (named 0) m C ∷ ShrRef (named 0) n D ∷ ShrRef (named 0) o E ∷ []))
borrows A B C D E k l m n o a b c d e =
    let T = type_at [] (ShrRef (named 0) k A ∷ ShrRef (named 0) l B ∷ ShrRef (named 0) m C ∷ ShrRef (named 0) n D ∷ ShrRef (named 0) o E ∷ []) in
    recorded_sync (field T).row _ _ T.to_one
    (struct_sync (shape T) (shr_sync (named 0) k A a, (shr_sync (named 0) l B b, (shr_sync (named 0) m C c, (shr_sync (named 0) n D d, (shr_sync (named 0) o E e, tt))))))

global_sync : IsSync Global.the_row
global_sync = search (crosses, sendable) depth 20

segment_sync : IsSync Segment.the_row
segment_sync = search (crosses, sendable) depth 60 fits 20000

frames_sync : IsSync (Sequence.the_row (Sequence.the_row u8))
frames_sync = list.the_sync (Sequence.the_row u8) (list.the_sync u8 (search sendable))

-- what the function borrows that runs one lane: the allocator, the hub, the segment, the frames and the gate
pub borrows_cross : {G H K : Type 0 → Type 1} (s t u : Dict → Slots) (x : Shared G) (y : Shared H) (z : Shared K) (E : RattleType) (k l m n o : Lft) → IsSync E
    → IsSync (TupleAt [] (ShrRef (named 0) k Global.the_row
    ∷ ShrRef (named 0) l (Hub.the_row (Vt s x.0) (Vt t y.0) (Vt u z.0) (ghosts_of s x.0 x.1) (ghosts_of t y.0 y.1) (ghosts_of u z.0 z.1))
    ∷ ShrRef (named 0) m Segment.the_row ∷ ShrRef (named 0) n (Sequence.the_row (Sequence.the_row u8)) ∷ ShrRef (named 0) o E ∷ []))
borrows_cross s t u x y z E k l m n o e = borrows Global.the_row _ Segment.the_row _ E k l m n o global_sync (hub_crosses s t u x y z) segment_sync frames_sync e

-- a seat, and a lane, which their threads take
pub seat_send : IsSend Seat.the_row
seat_send = search (pen.the_send, version_send, version_sync, crosses, sendable) depth 60 fits 20000

job_send : IsSend Job.the_row
job_send = search (version_send, version_sync, crosses, sendable) depth 60 fits 20000

mark_send : IsSend EntryIndex.the_row
mark_send = search (crosses, sendable) depth 60 fits 20000

trail_send : IsSend (Trail.the_field).row
trail_send =
    struct_send (shape Trail.the_type)
    (list.the_send u8 (search sendable), (list.the_send Sending.the_row sending.the_send, (list.the_send EntryIndex.the_row mark_send, tt)))

entry_send : IsSend Entry.the_row
entry_send = search (crosses, sendable) depth 60 fits 20000

entries_send : IsSend (Sequence.the_row Entry.the_row)
entries_send = list.the_send Entry.the_row entry_send

pub lane_send : IsSend Lane.the_row
lane_send =
    recorded_send (Lane.the_field).row _ _ (Lane.the_type).to_one
    (struct_send (shape Lane.the_type) (
      search (seat_send, sendable),
      (
        trail_send,
        (
          list.the_send Job.the_row job_send,
          (
            search (crosses, sendable) depth 30 fits 20000,
            (search (entries_send, crosses, sendable) depth 30 fits 20000, tt),
          ),
        ),
      ),
    ))
