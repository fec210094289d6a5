use Rattle.std.proofs.Common.{◌≡◌, [], sym, subst, arith}
use Rattle.std.specs.Prelude.{All, None, Some}
use Rattle.spin_table.specs.SetupOf.{data_of}
use Rattle.spin_check.specs.Inner.Replays.{At, GoesOn}
use Rattle.spin_check.proofs.ReplaySteps.{on_way_none, on_way_more, rest_shorter, on_way_end, on_way_stuck}
use Rattle.spin_check.proofs.replay.Replay.run.Goals as goal

pub loop-alloc-init : goal.loop-alloc-init
loop-alloc-init g c = on_way_none (data_of c.args.setup.now) c.args.self c.requires.fresh c.requires.sound c.requires.valid c.requires.lanes

pub step-requires-clause-sound : goal.step-requires-clause-sound
step-requires-clause-sound g c = c.loop-alloc.invariant.sound

pub step-requires-clause-valid : goal.step-requires-clause-valid
step-requires-clause-valid g c = c.loop-alloc.invariant.valid

pub step-requires-clause-lanes : goal.step-requires-clause-lanes
step-requires-clause-lanes g c = c.loop-alloc.invariant.lanes

pub step-requires-clause-room : goal.step-requires-clause-room
step-requires-clause-room g c = let room = c.loop-alloc.invariant.room in omega (arith, room, c.requires.room)

pub loop-alloc-preserved : goal.loop-alloc-preserved
loop-alloc-preserved g c =
    let d = data_of c.args.setup.now in
    let goes : GoesOn d c.loop-alloc.replay (Some c.in-Some.next) = subst (GoesOn d c.loop-alloc.replay) c.in-Some.is c.in_ok-next.ensures in
    on_way_more d c.args.self c.loop-alloc.replay c.in-Some.next goes c.loop-alloc.invariant

pub loop-alloc-smaller : goal.loop-alloc-smaller
loop-alloc-smaller g c =
    let d = data_of c.args.setup.now in
    let goes : GoesOn d c.loop-alloc.replay (Some c.in-Some.next) = subst (GoesOn d c.loop-alloc.replay) c.in-Some.is c.in_ok-next.ensures in
    rest_shorter d c.loop-alloc.replay c.in-Some.next goes

pub returns : goal.returns
returns g c =
    let none : All (λ queue. queue ≡ []) c.loop-alloc.replay.queues = subst (λ (a : At). All (λ queue. queue ≡ []) a.queues) c.replay.view_is (c.are_done.ensures.0 c.loop-alloc-test.false) in
    on_way_end (data_of c.args.setup.now) c.args.self c.loop-alloc.replay none c.loop-alloc.invariant

pub returns-in_default : goal.returns-in_default
returns-in_default g c =
    let d = data_of c.args.setup.now in
    let stuck : GoesOn d c.loop-alloc.replay None = subst (GoesOn d c.loop-alloc.replay) c.in_default.is c.in_ok-next.ensures in
    on_way_stuck d c.args.self c.loop-alloc.replay
    (λ (none : All (λ queue. queue ≡ []) c.loop-alloc.replay.queues).
    let own : All (λ queue. queue ≡ []) c.replay.inside.deeds = subst (λ (a : At). All (λ queue. queue ≡ []) a.queues) (sym c.replay.view_is) none in
    absurd (cc (c.are_done.ensures.1 own, c.loop-alloc-test.true))) stuck c.loop-alloc.invariant
