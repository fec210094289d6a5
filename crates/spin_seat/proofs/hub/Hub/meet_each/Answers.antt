use Rattle.std.proofs.Common.{◌∙◌, ◌+◌, ◌<◌, List, ap, sym, subst, refl, arith, rules, length, get_or}
use Rattle.spin_log.specs.Pens.{PenValue}
use Rattle.spin_table.specs.SetupOf.{data_of}
use Rattle.spin_seat.specs.Seats.{SeatValue}
use Rattle.spin_seat.proofs.SeatRenewals.{Round, round_begins, round_more, round_skip, still_more, knows_same, know_set, still_own, still_seats}
use Rattle.spin_seat.proofs.hub.Hub.meet_each.Goals as goal
use Rattle.spin_seat.proofs.hub.Hub.meet_each.Goals.{then-front+in_ok-meet, else-front}

pub loop-k-init : goal.loop-k-init
loop-k-init g c =
    let d = data_of c.args.self.now.setup in
    round_begins d c.args.first.now c.apply.new.self c.args.others.now (knows_same d c.args.first.now c.apply.new.self c.in_ok-apply.ensures.seat c.in_ok-apply.ensures.first c.in_ok-apply.ensures.pen)
    c.in_ok-apply.ensures.ok (λ k s lt. (c.requires.seats k s lt).0)

pub meet-requires-clause-log_a : goal.meet-requires-clause-log_a
meet-requires-clause-log_a g c = ap (λ (p : PenValue). p.log) c.loop-k.invariant.knows.reads.1 ∙ c.requires.log

pub meet-requires-clause-log_b : goal.meet-requires-clause-log_b
meet-requires-clause-log_b g c =
    let lt = c.loop-k-test.true in
    let know = c.loop-k.invariant.others_know in
    still_own (data_of c.args.self.now.setup) c.args.others.now c.loop-k.others (λ (p : PenValue). p.log) c.args.self.now.log.id (λ p front. refl) know c.requires.logs
    c.loop-k.k c.index-others-k-then-front.result (omega (arith, lt, know.0))

pub meet-requires-clause-seat_a : goal.meet-requires-clause-seat_a
meet-requires-clause-seat_a g c = c.loop-k.invariant.knows.seat

pub meet-requires-clause-seat_b : goal.meet-requires-clause-seat_b
meet-requires-clause-seat_b g c =
    let lt = c.loop-k-test.true in
    let know = c.loop-k.invariant.others_know in
    still_seats (data_of c.args.self.now.setup) c.args.others.now c.loop-k.others know c.loop-k.k c.index-others-k-then-front.result (omega (arith, lt, know.0))

pub meet-requires-clause-first : goal.meet-requires-clause-first
meet-requires-clause-first g c =
    let lt = c.loop-k-test.true in
    (c.loop-k.invariant.others_know.1 c.loop-k.k c.index-others-k-then-front.result (omega (arith, lt))).first ∙ (c.requires.seats c.loop-k.k c.index-others-k-then-front.result (omega (arith, lt))).1
    ∙ sym c.loop-k.invariant.knows.first

pub loop-k-preserved : goal.loop-k-preserved
loop-k-preserved g c =
    let d = data_of c.args.self.now.setup in
    let lt = c.loop-k-test.true in
    let round = c.loop-k.invariant in
    let know = round.others_know in
    let inside : c.loop-k.k < length c.loop-k.others = omega (arith, lt, know.0) in
    let Next : SeatValue × List SeatValue → Type 0 = λ x. Round d c.args.first.now c.args.others.now (c.loop-k.k + 1) x.0 x.1 in
    elim c.if-front.branch [
      | then-front+in_ok-meet w ↦
          let met = w.in_ok-meet.ensures in
          subst Next (λ i. (sym w.first-is i, sym w.others-is i))
          (round_more d c.args.first.now c.args.others.now c.loop-k.k c.loop-k.first w.meet.new.a c.loop-k.others w.index-others-k-then-front.result w.meet.new.b inside round
          (record { seat = met.seat_a; first = met.first.0; reads = met.reads.0 }) met.whole.0 (record { seat = met.seat_b; first = met.first.1; reads = met.reads.1 })
          (ap (λ (p : PenValue). p.front) met.b ∙ sym (ap (λ (p : PenValue). p.front) met.a)))
      | else-front w ↦
          let most = w.if-front.false in
          let own = c.front.ensures.length in
          let its = c.front-in-loop-k.ensures.length in
          subst Next (λ i. (sym w.first-is i, sym w.others-is i))
          (round_skip d c.args.first.now c.args.others.now c.loop-k.k c.loop-k.first c.loop-k.others c.index-others-k.result inside round (omega (arith, most, own, its)))
    ]

pub returns-in_err-meet-clause-others : goal.returns-in_err-meet-clause-others
returns-in_err-meet-clause-others g c =
    let d = data_of c.args.self.now.setup in
    let lt = c.loop-k-test.true in
    let know = c.loop-k.invariant.others_know in
    let met = c.in_err-meet.ensures in
    know_set d c.args.others.now c.loop-k.others c.loop-k.k c.index-others-k-then-front.result c.meet.new.b know (omega (arith, lt, know.0))
    (knows_same d (get_or c.loop-k.others c.loop-k.k c.index-others-k-then-front.result) c.meet.new.b met.seat_b met.first.1 met.b)

pub returns-in_err-meet-clause-err : goal.returns-in_err-meet-clause-err
returns-in_err-meet-clause-err g c =
    let lt = c.loop-k-test.true in
    let know = c.loop-k.invariant.others_know in
    let inside : c.loop-k.k < length c.loop-k.others = omega (arith, lt, know.0) in
    let more = c.if-front.true in
    let own = c.front.ensures.length in
    let its = c.front-in-loop-k.ensures.length in
    let met = c.in_err-meet.ensures in
    let less =
    still_more c.loop-k.others c.loop-k.k c.loop-k.first c.meet.new.a c.meet.new.b c.index-others-k-then-front.result c.index-others-k.result inside (omega (arith, more, own, its)) met.a met.b in
    search (rules, less)

pub returns : goal.returns
returns g c =
    let le = c.loop-k-test.false in
    let know = c.loop-k.invariant.others_know in
    record {
      first = c.loop-k.invariant.knows;
      others = know;
      ok = (c.loop-k.invariant.whole, λ i s lt. c.loop-k.invariant.shorter i s (omega (arith, lt, le, know.0)));
      err = tt;
    }
