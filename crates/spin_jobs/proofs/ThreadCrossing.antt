-- A setup may be lent to other threads, where the boxed objects in it may.
--     setup_sync        as a field of another struct, at any three kinds of boxed handlers, guards and authorisers
--     setup_crosses     at the kinds that the boxes of a function's parameters hide
--     version_send, version_sync    a version may be sent and lent to other threads
--     borrows_cross     the same of what the function borrows that does one job
use mathlib.Core.List.{[], ◌∷◌}
use mir.Syntax.{Dict, Slots, named}
use base.Fml.{Lft}
use denote.RattleType.{RattleType}
use denote.Ref.{ShrRef}
use denote.Slice.{ShrSlice}
use denote.Struct.Declared.{shape, field}
use denote.Struct.Tuple.{TupleAt, type_at}
use denote.Param.Table.{Table, Lawful}
use denote.Param.Object.{Ghosts, table_of, Vt, ghosts_of}
use denote.Param.Sent.{Sends, Syncs}
use denote.Param.Send.{IsSend, IsSync, sendable, recorded_sync, struct_sync, shr_sync, shr_slice_sync}
use Rattle.std.specs.contracts.alloc.Global as Global
use Rattle.std.proofs.Crossing.{crosses, dyn_box_sync}
use Rattle.std_collections.proofs.Crosses.{BTreeMap-send, BTreeMap-sync}
use Rattle.spin_values.proofs.list.Sequence.TheSendSync as list
use Rattle.spin_values.proofs.text.Text.TheSendSync as text
use Rattle.spin_values.proofs.types.EventType.TheSendSync as event_type
use Rattle.spin_code.proofs.expr.Expr.TheLaws.TheKnot as expr
use Rattle.spin_code.proofs.test.Test.TheLaws.TheKnot as test
use Rattle.spin_code.specs.contracts.act.Act as Act
use Rattle.spin_code.specs.contracts.test.Test as Test
use Rattle.spin_policy.proofs.policy.Policy.TheSendSync as policy
use Rattle.spin_objects.specs.contracts.pair.NativeHandler as NativeHandler
use Rattle.spin_objects.specs.contracts.pair.NativeGuard as NativeGuard
use Rattle.spin_objects.specs.contracts.pair.NativeAuthoriser as NativeAuthoriser
use Rattle.spin_objects.specs.contracts.natives.Natives as Natives
use Rattle.spin_objects.specs.contracts.unit.Body as Body
use Rattle.spin_objects.specs.contracts.unit.Check as Check
use Rattle.spin_objects.specs.contracts.catalogue.Catalogue as Catalogue
use Rattle.spin_table.specs.contracts.event.EventDef as EventDef
use Rattle.spin_table.specs.contracts.setup.Setup as Setup
use Rattle.spin_table.specs.contracts.version.Version as Version
use Rattle.spin_proto.specs.contracts.deed.Job as Job

act_sync : IsSync (Act.the_field).row
act_sync = search (expr.crosses, crosses, sendable) depth 60 fits 20000

test_sync : IsSync (Test.the_field).row
test_sync = search (expr.crosses, test.crosses, crosses, sendable) depth 60 fits 20000

body_sync : IsSync Body.the_row
body_sync = search (expr.crosses, crosses, sendable) depth 60 fits 20000

check_sync : IsSync Check.the_row
check_sync = search (expr.crosses, test.crosses, crosses, sendable) depth 60 fits 20000

event_sync : IsSync EventDef.the_row
event_sync = search (expr.crosses, crosses, sendable) depth 60 fits 20000

module _ (A B C : RattleType) (a : Ghosts A.Denot) (b : Ghosts B.Denot) (c : Ghosts C.Denot)
    (handlers : Syncs (table_of A.Denot a)) (guards : Syncs (table_of B.Denot b)) (authorisers : Syncs (table_of C.Denot c))
    (sync_a : IsSync A) (sync_b : IsSync B) (sync_c : IsSync C) where
  handler_sync : IsSync (NativeHandler.the_row A a)
  handler_sync =
      recorded_sync (NativeHandler.the_field A a).row _ _ (NativeHandler.the_type A a).to_one
      (struct_sync (shape (NativeHandler.the_type A a))
      (text.the_sync, (event_type.the_field_sync, (act_sync, (dyn_box_sync A a handlers sync_a, tt)))))

  guard_sync : IsSync (NativeGuard.the_row B b)
  guard_sync =
      recorded_sync (NativeGuard.the_field B b).row _ _ (NativeGuard.the_type B b).to_one
      (struct_sync (shape (NativeGuard.the_type B b))
      (text.the_sync, (event_type.the_field_sync, (test_sync, (dyn_box_sync B b guards sync_b, tt)))))

  authoriser_sync : IsSync (NativeAuthoriser.the_row C c)
  authoriser_sync =
      recorded_sync (NativeAuthoriser.the_field C c).row _ _ (NativeAuthoriser.the_type C c).to_one
      (struct_sync (shape (NativeAuthoriser.the_type C c)) (text.the_sync, (policy.the_sync, (dyn_box_sync C c authorisers sync_c, tt))))

  natives_sync : IsSync (Natives.the_field A B C a b c).row
  natives_sync =
      struct_sync (shape (Natives.the_type A B C a b c)) (
        list.the_sync (NativeHandler.the_row A a) handler_sync,
        (list.the_sync (NativeGuard.the_row B b) guard_sync, (list.the_sync (NativeAuthoriser.the_row C c) authoriser_sync, tt)),
      )

  catalogue_sync : IsSync (Catalogue.the_field A B C a b c).row
  catalogue_sync =
      struct_sync (shape (Catalogue.the_type A B C a b c))
      (natives_sync, (list.the_sync Body.the_row body_sync, (list.the_sync Check.the_row check_sync, tt)))

  pub setup_sync : IsSync (Setup.the_field A B C a b c).row
  setup_sync =
      struct_sync (shape (Setup.the_type A B C a b c))
      (search sendable, (search sendable, (list.the_sync EventDef.the_row event_sync, (catalogue_sync, tt))))

-- what boxes hide whose objects may be sent to and lent to other threads
abbrev pub Shared : (Type 0 → Type 1) → Type 2
Shared G = (T : Table G Dict) × Lawful T × Sends T × Syncs T

pub setup_crosses : {G H K : Type 0 → Type 1} (s t u : Dict → Slots) (x : Shared G) (y : Shared H) (z : Shared K)
    → IsSync (Setup.the_row (Vt s x.0) (Vt t y.0) (Vt u z.0) (ghosts_of s x.0 x.1) (ghosts_of t y.0 y.1) (ghosts_of u z.0 z.1))
setup_crosses s t u x y z =
    let A = Vt s x.0 in let B = Vt t y.0 in let C = Vt u z.0 in
    let a = ghosts_of s x.0 x.1 in let b = ghosts_of t y.0 y.1 in let c = ghosts_of u z.0 z.1 in
    recorded_sync (Setup.the_field A B C a b c).row _ _ (Setup.the_type A B C a b c).to_one
    (setup_sync A B C a b c x.3 y.3 z.3 (search sendable) (search sendable) (search sendable))

pub version_send : IsSend Version.the_row
version_send = search (expr.crosses, test.crosses, BTreeMap-send, BTreeMap-sync, crosses, sendable) depth 60 fits 20000

pub version_sync : IsSync Version.the_row
version_sync = search (expr.crosses, test.crosses, BTreeMap-send, BTreeMap-sync, crosses, sendable) depth 60 fits 20000

job_sync : IsSync Job.the_row
job_sync = search (version_send, version_sync, crosses, sendable) depth 60 fits 20000

global_sync : IsSync Global.the_row
global_sync = search (crosses, sendable) depth 20

borrows : (A B C : RattleType) (k l m : Lft) → IsSync A → IsSync B → IsSync C
    → IsSync (TupleAt [] (ShrRef (named 0) k A ∷ ShrRef (named 0) l B ∷ ShrSlice (named 0) m C ∷ []))
borrows A B C k l m a b c =
    let T = type_at [] (ShrRef (named 0) k A ∷ ShrRef (named 0) l B ∷ ShrSlice (named 0) m C ∷ []) in
    recorded_sync (field T).row _ _ T.to_one
    (struct_sync (shape T) (shr_sync (named 0) k A a, (shr_sync (named 0) l B b, (shr_slice_sync (named 0) m C c, tt))))

-- what the function borrows that does one job: the allocator, the setup and the jobs
pub borrows_cross : {G H K : Type 0 → Type 1} (s t u : Dict → Slots) (x : Shared G) (y : Shared H) (z : Shared K) (k l m : Lft)
    → IsSync (TupleAt [] (ShrRef (named 0) k Global.the_row
    ∷ ShrRef (named 0) l (Setup.the_row (Vt s x.0) (Vt t y.0) (Vt u z.0) (ghosts_of s x.0 x.1) (ghosts_of t y.0 y.1) (ghosts_of u z.0 z.1))
    ∷ ShrSlice (named 0) m Job.the_row ∷ []))
borrows_cross s t u x y z k l m = borrows Global.the_row _ Job.the_row k l m global_sync (setup_crosses s t u x y z) job_sync
