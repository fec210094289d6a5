-- A handle may go to another thread, since what it holds may, and the party that lanes share may be used by several
-- threads.
use mir.Raw.{raw}
use base.Shift.{Keyless}
use denote.RattleType.{RattleType}
use denote.Memory.{lone}
use denote.RawPtr.{Ptr}
use denote.Struct.Declared.{shape}
use denote.Param.Object.{Ghosts, table_of}
use denote.Param.Sent.{Sends, Syncs}
use denote.Param.Send.{IsSend, IsSync, sendable, recorded_send, recorded_sync, struct_send, struct_sync, owning_send}
use Rattle.std.specs.Prelude.{Option, None, Some}
use Rattle.std.specs.Global.{Global}
use Rattle.std.specs.contracts.option.Option as Option'
use Rattle.std.proofs.Crossing.{crosses, dyn_box_send, frees}
use Rattle.std_alloc.proofs.SendSync.{lies}
use Rattle.spin_values.proofs.list.Sequence.TheSendSync as list
use Rattle.spin_values.proofs.text.Text.TheSendSync as text
use Rattle.spin_values.proofs.types.EventType.TheSendSync as event_type
use Rattle.spin_code.proofs.expr.Expr.TheLaws.TheKnot as expr
use Rattle.spin_code.proofs.test.Test.TheLaws.TheKnot as test
use Rattle.spin_code.specs.contracts.act.Act as Act
use Rattle.spin_code.specs.contracts.test.Test as Test
use Rattle.spin_policy.proofs.policy.Policy.TheSendSync as policy
use Rattle.spin_log.proofs.log.Log.TheSendSync as log
use Rattle.spin_log.proofs.pen.Pen.TheSendSync as pen
use Rattle.spin_objects.specs.contracts.pair.NativeHandler as NativeHandler
use Rattle.spin_objects.specs.contracts.pair.NativeGuard as NativeGuard
use Rattle.spin_objects.specs.contracts.pair.NativeAuthoriser as NativeAuthoriser
use Rattle.spin_objects.specs.contracts.natives.Natives as Natives
use Rattle.spin_objects.specs.contracts.unit.Body as Body
use Rattle.spin_objects.specs.contracts.unit.Check as Check
use Rattle.spin_objects.specs.contracts.catalogue.Catalogue as Catalogue
use Rattle.spin_table.specs.contracts.event.EventDef as EventDef
use Rattle.spin_table.specs.contracts.setup.Setup as Setup
use Rattle.spin_homes.proofs.homes.Homes.TheSendSync as homes
use Rattle.spin_homes.proofs.homes.Ticket.TheSendSync as ticket
use Rattle.spin_proto.proofs.reply_buffer.ReplyBuffer.TheSendSync as buffer
use Rattle.spin_proto.proofs.reply.Reply.TheSendSync as reply
use Rattle.spin_c.proofs.kept.Last.TheSendSync as last
use Rattle.spin_c.specs.contracts.kept.Kept as Kept
use Rattle.spin_seat.specs.contracts.hub.Hub as Hub
use Rattle.spin_seat.specs.contracts.party.Away as Away
use Rattle.spin_seat.specs.contracts.party.Party as Party
use Rattle.spin_seat.specs.contracts.seat.Seat as Seat
use Rattle.spin_jobs.proofs.ThreadCrossing.{setup_sync, version_send, version_sync}
use Rattle.spin_c.specs.contracts.lane.Held as Held
use Rattle.spin_c.specs.contracts.lane.Lane as Lane
use Rattle.spin_c.specs.contracts.lane.Room as Room
use Rattle.spin_c.specs.contracts.handle.SpinLane as Handle
use Rattle.spin_c.specs.contracts.turn.turn_maybe.dyn-1 as first
use Rattle.spin_c.specs.contracts.turn.turn_maybe.dyn-2 as second
use Rattle.spin_c.specs.contracts.turn.turn_maybe.dyn-3 as third
use Rattle.spin_c.specs.Owned.{maybe_owns}
use Rattle.spin_c.specs.Lanes.{row_at, HeldAt, no_first, no_second, no_third}

act_send : IsSend (Act.the_field).row
act_send = search (expr.crosses, crosses, sendable) depth 60 fits 20000

test_send : IsSend (Test.the_field).row
test_send = search (expr.crosses, test.crosses, crosses, sendable) depth 60 fits 20000

body_send : IsSend Body.the_row
body_send = search (expr.crosses, crosses, sendable) depth 60 fits 20000

check_send : IsSend Check.the_row
check_send = search (expr.crosses, test.crosses, crosses, sendable) depth 60 fits 20000

event_send : IsSend EventDef.the_row
event_send = search (expr.crosses, crosses, sendable) depth 60 fits 20000

seat_send : IsSend Seat.the_row
seat_send = search (pen.the_send, version_send, version_sync, crosses, sendable) depth 60 fits 20000

away_send : IsSend Away.the_row
away_send = search (ticket.the_send, seat_send, crosses, sendable) depth 60 fits 20000

away_field_send : IsSend (Away.the_field).row
away_field_send = search (ticket.the_send, seat_send, crosses, sendable) depth 60 fits 20000

room_field_send : IsSend (Room.the_field).row
room_field_send = search (ticket.the_send, seat_send, crosses, sendable) depth 60 fits 20000

kept_send : IsSend Kept.the_row
kept_send = search (buffer.the_send, last.the_send, reply.the_send, version_send, version_sync, crosses, sendable) depth 60 fits 20000

slot_send : IsSend (Option'.the_row Away.the_row)
slot_send = search (away_send, crosses, sendable) depth 30 fits 20000

module _ (A B C : RattleType) (a : Ghosts A.Denot) (b : Ghosts B.Denot) (c : Ghosts C.Denot)
    (handlers : Sends (table_of A.Denot a)) (guards : Sends (table_of B.Denot b)) (authorisers : Sends (table_of C.Denot c))
    (send_a : IsSend A) (send_b : IsSend B) (send_c : IsSend C) where
  handler_send : IsSend (NativeHandler.the_row A a)
  handler_send =
      recorded_send (NativeHandler.the_field A a).row _ _ (NativeHandler.the_type A a).to_one
      (struct_send (shape (NativeHandler.the_type A a)) (text.the_send, (event_type.the_field_send, (act_send, (dyn_box_send A a handlers send_a, tt)))))

  guard_send : IsSend (NativeGuard.the_row B b)
  guard_send =
      recorded_send (NativeGuard.the_field B b).row _ _ (NativeGuard.the_type B b).to_one
      (struct_send (shape (NativeGuard.the_type B b)) (text.the_send, (event_type.the_field_send, (test_send, (dyn_box_send B b guards send_b, tt)))))

  authoriser_send : IsSend (NativeAuthoriser.the_row C c)
  authoriser_send =
      recorded_send (NativeAuthoriser.the_field C c).row _ _ (NativeAuthoriser.the_type C c).to_one
      (struct_send (shape (NativeAuthoriser.the_type C c)) (text.the_send, (policy.the_send, (dyn_box_send C c authorisers send_c, tt))))

  natives_send : IsSend (Natives.the_field A B C a b c).row
  natives_send =
      struct_send (shape (Natives.the_type A B C a b c)) (
        list.the_send (NativeHandler.the_row A a) handler_send,
        (list.the_send (NativeGuard.the_row B b) guard_send, (list.the_send (NativeAuthoriser.the_row C c) authoriser_send, tt)),
      )

  catalogue_send : IsSend (Catalogue.the_field A B C a b c).row
  catalogue_send =
      struct_send (shape (Catalogue.the_type A B C a b c)) (natives_send, (list.the_send Body.the_row body_send, (list.the_send Check.the_row check_send, tt)))

  setup_send : IsSend (Setup.the_field A B C a b c).row
  setup_send = struct_send (shape (Setup.the_type A B C a b c)) (search sendable, (search sendable, (list.the_send EventDef.the_row event_send, (catalogue_send, tt))))

  module _ (handlers' : Syncs (table_of A.Denot a)) (guards' : Syncs (table_of B.Denot b)) (authorisers' : Syncs (table_of C.Denot c))
      (sync_a : IsSync A) (sync_b : IsSync B) (sync_c : IsSync C) where
    -- several threads may use the hub
    hub_sync : IsSync (Hub.the_field A B C a b c).row
    hub_sync = struct_sync (shape (Hub.the_type A B C a b c)) (log.the_sync, (setup_sync A B C a b c handlers' guards' authorisers' sync_a sync_b sync_c, tt))

    hub_send : IsSend (Hub.the_field A B C a b c).row
    hub_send = struct_send (shape (Hub.the_type A B C a b c)) (log.the_send, (setup_send, tt))

    -- and so the party
    pub party_sync : IsSync (Party.the_row A B C a b c)
    party_sync =
        recorded_sync (Party.the_field A B C a b c).row _ _ (Party.the_type A B C a b c).to_one
        (struct_sync (shape (Party.the_type A B C a b c)) (hub_sync, (search (homes.the_field_sync, seat_send, crosses, sendable) depth 60 fits 20000, tt)))

    pub party_send : IsSend (Party.the_row A B C a b c)
    party_send =
        recorded_send (Party.the_field A B C a b c).row _ _ (Party.the_type A B C a b c).to_one
        (struct_send (shape (Party.the_type A B C a b c)) (hub_send, (search (homes.the_field_send, seat_send, crosses, sendable) depth 60 fits 20000, tt)))

    lane_send : IsSend (Lane.the_field A B C a b c).row
    lane_send =
        struct_send (shape (Lane.the_type A B C a b c)) (
          search (party_send, party_sync, crosses, sendable),
          (away_field_send, (kept_send, (list.the_send (Option'.the_row Away.the_row) slot_send, (room_field_send, (search (list.the_send, crosses, sendable), (search sendable, tt)))))),
        )

    held_send : IsSend (Held.the_row A B C a b c)
    held_send = search (lane_send, list.the_send, crosses, sendable) depth 60 fits 20000

-- what a handle holds may go to another thread
pub all_send : IsSend row_at
all_send =
    held_send (first.Any no_first).2 (second.Any no_second).2 (third.Any no_third).2 (first.Any no_first).3 (second.Any no_second).3 (third.Any no_third).3
    (λ i. absurd i) (λ i. absurd i) (λ i. absurd i) (search sendable) (search sendable) (search sendable)
    (λ i. absurd i) (λ i. absurd i) (λ i. absurd i) (search sendable) (search sendable) (search sendable)

owned_keyless : (a : Global) (p : Ptr) (kept : Option HeldAt) → Keyless (maybe_owns row_at a p kept)
owned_keyless a p None = tt
owned_keyless a p (Some l) = (lies row_at all_send p l, frees.frees a (raw (lone row_at.mir)) p)

pub handle_send : IsSend Handle.the_row
handle_send = owning_send Handle.the_type (search sendable, (search sendable, tt)) (λ d. (owned_keyless d.alloc d.at d.kept, λ _. tt)) (λ k x w. tt)
