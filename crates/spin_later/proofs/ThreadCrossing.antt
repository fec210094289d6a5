-- What the parties of a run share may be lent to other threads.
use mathlib.Core.List.{[], ◌∷◌}
use mir.Syntax.{Dict, Slots, named}
use base.Fml.{Lft}
use denote.RattleType.{RattleType}
use denote.Ref.{ShrRef}
use denote.Struct.Declared.{shape, field}
use denote.Struct.Tuple.{TupleAt, type_at}
use denote.Param.Object.{Vt, ghosts_of}
use denote.Param.Send.{IsSend, IsSync, sendable, view_send, view_sync, recorded_sync, struct_sync, shr_sync}
use Rattle.std.specs.contracts.alloc.Global as Global
use Rattle.std.specs.contracts.option.Option as Option
use Rattle.std.proofs.Crossing.{crosses}
use Rattle.spin_values.specs.contracts.list.Sequence as Sequence
use Rattle.spin_values.proofs.list.Sequence.TheSendSync as list
use Rattle.spin_table.specs.contracts.setup.Setup as Setup
use Rattle.spin_jobs.proofs.ThreadCrossing.{Shared, setup_crosses, version_send, version_sync}
use Rattle.spin_later.specs.declared.agreement.Agreement.{Ghosts}
use Rattle.spin_later.specs.contracts.batch.Call as Call
use Rattle.atomic_table.proofs.shared.Seat.TheSendSync as seat
use Rattle.spin_later.specs.contracts.queue.Queue as Queue
use Rattle.spin_later.specs.contracts.queue.Queue.TheInside as queue
use Rattle.spin_later.specs.contracts.party.Party as Party
use Rattle.spin_later.specs.contracts.party.Party.TheInside as party
use Rattle.spin_later.specs.contracts.doing.Done as Done
use Rattle.spin_later.specs.contracts.worker.Worker as Worker
use Rattle.spin_later.specs.contracts.task.Task as Task
use Rattle.crossbeam_queue.proofs.array_queue.Slotted.TheSendSync as ring

borrows : (A B C D E : RattleType) (k l m n o : Lft) → IsSync A → IsSync B → IsSync C → IsSync D → IsSync E
    → IsSync (TupleAt [] (ShrRef (named 0) k A ∷ ShrRef (named 0) l B ∷ ShrRef (named 0) m C ∷ ShrRef (named 0) n D ∷ ShrRef (named 0) o E ∷ []))
borrows A B C D E k l m n o a b c d e =
    let T = type_at [] (ShrRef (named 0) k A ∷ ShrRef (named 0) l B ∷ ShrRef (named 0) m C ∷ ShrRef (named 0) n D ∷ ShrRef (named 0) o E ∷ []) in
    recorded_sync (field T).row _ _ T.to_one
    (struct_sync (shape T) (shr_sync (named 0) k A a, (shr_sync (named 0) l B b, (shr_sync (named 0) m C c, (shr_sync (named 0) n D d, (shr_sync (named 0) o E e, tt))))))

global_sync : IsSync Global.the_row
global_sync = search (crosses, sendable) depth 20

call_sync : IsSync Call.the_row
call_sync = search (version_send, version_sync, crosses, sendable) depth 60 fits 20000

-- a task, a queue and a party may cross: a host that hands them to threads of its own cites these
pub task_send : IsSend Task.the_row
task_send = search (version_send, version_sync, crosses, sendable) depth 60 fits 20000

maybe_task_send : IsSend (Option.the_row Task.the_row)
maybe_task_send = search (task_send, sendable) depth 30 fits 20000

-- the queue's fields, of which contracts see less
inside_sync : (A : RattleType) (a : Ghosts A.Denot) → IsSync (queue.the_row A a)
inside_sync A a =
    recorded_sync (queue.the_field A a).row _ _ (queue.the_type A a).to_one
    (struct_sync (shape (queue.the_type A a)) (search (ring.the_field_sync, maybe_task_send, crosses, sendable) depth 30 fits 20000, (search sendable, tt)))

-- whatever its parties agree on
pub queue_sync : (A : RattleType) (a : Ghosts A.Denot) → IsSync (Queue.the_row A a)
queue_sync A a = search (inside_sync A a, view_sync)

-- a party's fields
party_inside_send : IsSend party.the_row
party_inside_send = search (seat.the_send, maybe_task_send, crosses, sendable) depth 30 fits 20000

pub party_send : IsSend Party.the_row
party_send = search (party_inside_send, view_send)

done_send : IsSend Done.the_row
done_send = search (crosses, sendable) depth 60 fits 20000

-- a worker, which its thread takes
pub worker_send : IsSend Worker.the_row
worker_send = search (party_send, done_send, crosses, sendable) depth 60 fits 20000

batches_sync : IsSync (Sequence.the_row (Sequence.the_row Call.the_row))
batches_sync = list.the_sync (Sequence.the_row Call.the_row) (list.the_sync Call.the_row call_sync)

-- what the function borrows that runs one party: what it waits by, the allocator, the queue, the setup and the batches
pub borrows_cross : {G H K : Type 0 → Type 1} (s t u : Dict → Slots) (x : Shared G) (y : Shared H) (z : Shared K) (W A : RattleType) (a : Ghosts A.Denot) (k l m n o : Lft) → IsSync W
    → IsSync (TupleAt [] (ShrRef (named 0) k W ∷ ShrRef (named 0) l Global.the_row ∷ ShrRef (named 0) m (Queue.the_row A a)
    ∷ ShrRef (named 0) n (Setup.the_row (Vt s x.0) (Vt t y.0) (Vt u z.0) (ghosts_of s x.0 x.1) (ghosts_of t y.0 y.1) (ghosts_of u z.0 z.1))
    ∷ ShrRef (named 0) o (Sequence.the_row (Sequence.the_row Call.the_row)) ∷ []))
borrows_cross s t u x y z W A a k l m n o w = borrows W Global.the_row (Queue.the_row A a) _ _ k l m n o w global_sync (queue_sync A a) (setup_crosses s t u x y z) batches_sync
