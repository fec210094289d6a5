-- The handle of an open raise may go to another thread, since what it holds may.
use mir.Raw.{raw}
use base.Shift.{Keyless}
use denote.RattleType.{RattleType}
use denote.Memory.{lone}
use denote.RawPtr.{Ptr}
use denote.Struct.Declared.{shape}
use denote.Param.Object.{Ghosts, table_of}
use denote.Param.Sent.{Sends, Syncs}
use denote.Param.Send.{IsSend, IsSync, sendable, struct_send, owning_send}
use Rattle.std.specs.Prelude.{Option, None, Some}
use Rattle.std.specs.Global.{Global}
use Rattle.std.proofs.Crossing.{crosses, frees}
use Rattle.std_alloc.proofs.SendSync.{lies}
use Rattle.spin_jobs.proofs.ThreadCrossing.{version_send, version_sync}
use Rattle.spin_host.specs.contracts.open.Level as Level
use Rattle.spin_host.specs.contracts.open.OpenRaise as OpenRaise
use Rattle.spin_host.specs.contracts.open.Room as Room
use Rattle.spin_host.specs.contracts.spare.Spare as Spare
use Rattle.spin_seat.specs.contracts.party.Party as Party
use Rattle.spin_c.specs.contracts.raising.Opened as Opened
use Rattle.spin_c.specs.contracts.raising.Raising as Raising
use Rattle.spin_c.specs.contracts.raiser.SpinRaising as Raiser
use Rattle.spin_c.specs.contracts.turn.turn_maybe.dyn-1 as first
use Rattle.spin_c.specs.contracts.turn.turn_maybe.dyn-2 as second
use Rattle.spin_c.specs.contracts.turn.turn_maybe.dyn-3 as third
use Rattle.spin_c.specs.Owned.{maybe_owns}
use Rattle.spin_c.specs.Lanes.{no_first, no_second, no_third}
use Rattle.spin_c.specs.Raisers.{raising_at, RaisingAt}
use Rattle.spin_c.proofs.Crossing.{party_send, party_sync}

spare_send : IsSend (Spare.the_field).row
spare_send = search (crosses, sendable) depth 60 fits 20000

level_send : IsSend Level.the_row
level_send = search (crosses, sendable) depth 60 fits 20000

level_field_send : IsSend (Level.the_field).row
level_field_send = search (crosses, sendable) depth 60 fits 20000

room_send : IsSend (Room.the_field).row
room_send = search (spare_send, level_send, crosses, sendable) depth 60 fits 20000

raise_send : IsSend (OpenRaise.the_field).row
raise_send = search (version_send, version_sync, spare_send, level_field_send, level_send, crosses, sendable) depth 60 fits 20000

module _ (A B C : RattleType) (a : Ghosts A.Denot) (b : Ghosts B.Denot) (c : Ghosts C.Denot)
    (handlers : Sends (table_of A.Denot a)) (guards : Sends (table_of B.Denot b)) (authorisers : Sends (table_of C.Denot c))
    (send_a : IsSend A) (send_b : IsSend B) (send_c : IsSend C)
    (handlers' : Syncs (table_of A.Denot a)) (guards' : Syncs (table_of B.Denot b)) (authorisers' : Syncs (table_of C.Denot c))
    (sync_a : IsSync A) (sync_b : IsSync B) (sync_c : IsSync C) where
  sent : IsSend (Party.the_row A B C a b c)
  sent = party_send A B C a b c handlers guards authorisers send_a send_b send_c handlers' guards' authorisers' sync_a sync_b sync_c

  shared : IsSync (Party.the_row A B C a b c)
  shared = party_sync A B C a b c handlers guards authorisers send_a send_b send_c handlers' guards' authorisers' sync_a sync_b sync_c

  opened_send : IsSend (Opened.the_field A B C a b c).row
  opened_send = struct_send (shape (Opened.the_type A B C a b c)) (search (sent, shared, crosses, sendable), (raise_send, tt))

  held_send : IsSend (Raising.the_row A B C a b c)
  held_send = search (opened_send, room_send, crosses, sendable) depth 60 fits 20000

-- what a handle holds may go to another thread
all_send : IsSend raising_at
all_send =
    held_send (first.Any no_first).2 (second.Any no_second).2 (third.Any no_third).2 (first.Any no_first).3 (second.Any no_second).3 (third.Any no_third).3
    (λ i. absurd i) (λ i. absurd i) (λ i. absurd i) (search sendable) (search sendable) (search sendable)
    (λ i. absurd i) (λ i. absurd i) (λ i. absurd i) (search sendable) (search sendable) (search sendable)

owned_keyless : (a : Global) (p : Ptr) (kept : Option RaisingAt) → Keyless (maybe_owns raising_at a p kept)
owned_keyless a p None = tt
owned_keyless a p (Some r) = (lies raising_at all_send p r, frees.frees a (raw (lone raising_at.mir)) p)

pub raiser_send : IsSend Raiser.the_row
raiser_send = owning_send Raiser.the_type (search sendable, (search sendable, tt)) (λ d. (owned_keyless d.alloc d.at d.kept, λ _. tt)) (λ k x w. tt)
