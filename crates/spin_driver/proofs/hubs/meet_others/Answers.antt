use Rattle.std.proofs.Common.{◌∙◌, ◌<◌, List, ap, sym, refl, arith, length, get_or}
use Rattle.spin_log.specs.Pens.{PenValue}
use Rattle.spin_table.specs.SetupOf.{data_of}
use Rattle.spin_seat.proofs.SeatRenewals.{knows_same, knows_then, knows_met, know_as_before, know_set, still_own, still_seats}
use Rattle.spin_driver.proofs.hubs.meet_others.Goals as goal

pub loop-k-init : goal.loop-k-init
loop-k-init g c =
    let d = data_of c.args.hub.now.setup in
    (knows_same d c.args.first.now c.args.first.now c.requires.seat refl refl, know_as_before d c.args.others.now (λ k s lt. (c.requires.seats k s lt).0))

pub meet-requires-clause-log_a : goal.meet-requires-clause-log_a
meet-requires-clause-log_a g c = ap (λ (p : PenValue). p.log) c.loop-k.invariant.0.reads.1 ∙ c.requires.log

pub meet-requires-clause-log_b : goal.meet-requires-clause-log_b
meet-requires-clause-log_b g c =
    let lt = c.loop-k-test.true in
    let know = c.loop-k.invariant.1 in
    still_own (data_of c.args.hub.now.setup) c.args.others.now c.loop-k.others (λ (p : PenValue). p.log) c.args.hub.now.log.id (λ p front. refl) know c.requires.logs
    c.loop-k.k c.index-others-k.result (omega (arith, lt, know.0))

pub meet-requires-clause-seat_a : goal.meet-requires-clause-seat_a
meet-requires-clause-seat_a g c = c.loop-k.invariant.0.seat

pub meet-requires-clause-seat_b : goal.meet-requires-clause-seat_b
meet-requires-clause-seat_b g c =
    let lt = c.loop-k-test.true in
    let know = c.loop-k.invariant.1 in
    still_seats (data_of c.args.hub.now.setup) c.args.others.now c.loop-k.others know c.loop-k.k c.index-others-k.result (omega (arith, lt, know.0))

pub meet-requires-clause-first : goal.meet-requires-clause-first
meet-requires-clause-first g c =
    let lt = c.loop-k-test.true in
    (c.loop-k.invariant.1.1 c.loop-k.k c.index-others-k.result (omega (arith, lt))).first ∙ (c.requires.seats c.loop-k.k c.index-others-k.result (omega (arith, lt))).1
    ∙ sym c.loop-k.invariant.0.first

pub loop-k-preserved : goal.loop-k-preserved
loop-k-preserved g c =
    let d = data_of c.args.hub.now.setup in
    let lt = c.loop-k-test.true in
    let know = c.loop-k.invariant in
    let met = c.in_ok-meet.ensures in (
      knows_then d c.args.first.now c.loop-k.first c.meet.new.a know.0 (record { seat = met.seat_a; first = met.first.0; reads = met.reads.0 }),
      know_set d c.args.others.now c.loop-k.others c.loop-k.k c.index-others-k.result c.meet.new.b know.1 (omega (arith, lt, know.1.0))
          (record { seat = met.seat_b; first = met.first.1; reads = met.reads.1 }),
    )

pub returns-in_err-meet-clause-first : goal.returns-in_err-meet-clause-first
returns-in_err-meet-clause-first g c =
    let d = data_of c.args.hub.now.setup in
    let met = c.in_err-meet.ensures in
    knows_then d c.args.first.now c.loop-k.first c.meet.new.a c.loop-k.invariant.0 (knows_same d c.loop-k.first c.meet.new.a met.seat_a met.first.0 met.a)

pub returns-in_err-meet-clause-others : goal.returns-in_err-meet-clause-others
returns-in_err-meet-clause-others g c =
    let d = data_of c.args.hub.now.setup in
    let lt = c.loop-k-test.true in
    let know = c.loop-k.invariant.1 in
    let met = c.in_err-meet.ensures in
    know_set d c.args.others.now c.loop-k.others c.loop-k.k c.index-others-k.result c.meet.new.b know (omega (arith, lt, know.0))
    (knows_same d (get_or c.loop-k.others c.loop-k.k c.index-others-k.result) c.meet.new.b met.seat_b met.first.1 met.b)
