use Rattle.std.proofs.Common.{◌∙◌, sym, ap, subst, length, arith}
use Rattle.spin_log.specs.Pens.{PenValue}
use Rattle.spin_table.specs.SetupOf.{data_of}
use Rattle.spin_table.specs.States.{State}
use Rattle.spin_seat.specs.Places.{place_past}
use Rattle.spin_seat.specs.Calls.{ReadsOn}
use Rattle.spin_seat.specs.Inner.Tries.{Tries}
use Rattle.spin_seat.proofs.SeatCalls.{judges_later, reads_further}
use Rattle.spin_seat.proofs.seat.Seat.command_turning.Goals as goal

pub returns-in-Some-clause-answer : goal.returns-in-Some-clause-answer
returns-in-Some-clause-answer g c =
    let read = subst (ReadsOn c.args.self.now.pen) (sym c.in_ok-apply.ensures.pen) c.loop-alloc.invariant.0 in
    let said = subst (λ r. Tries (data_of c.args.hub.now.setup) c.apply.new.self c.args.c.now r c.judge.new.self) c.in-Some.is c.in_ok-judged.ensures.tries in
    let first = c.in_ok-apply.ensures.first ∙ c.loop-alloc.invariant.2 in
    (judges_later (data_of c.args.hub.now.setup) c.args.self.now c.apply.new.self c.judge.new.self c.args.c.now c.in-Some.judged read first said).gives

pub returns-in-Some-clause-room : goal.returns-in-Some-clause-room
returns-in-Some-clause-room g c =
    let read = subst (ReadsOn c.args.self.now.pen) (sym c.in_ok-apply.ensures.pen) c.loop-alloc.invariant.0 in
    let said = subst (λ r. Tries (data_of c.args.hub.now.setup) c.apply.new.self c.args.c.now r c.judge.new.self) c.in-Some.is c.in_ok-judged.ensures.tries in
    let first = c.in_ok-apply.ensures.first ∙ c.loop-alloc.invariant.2 in
    (judges_later (data_of c.args.hub.now.setup) c.args.self.now c.apply.new.self c.judge.new.self c.args.c.now c.in-Some.judged read first said).room

pub returns-in-Some-clause-whole : goal.returns-in-Some-clause-whole
returns-in-Some-clause-whole g c =
    let said = subst (λ r. Tries (data_of c.args.hub.now.setup) c.apply.new.self c.args.c.now r c.judge.new.self) c.in-Some.is c.in_ok-judged.ensures.tries in
    said.whole

pub loop-alloc-preserved : goal.loop-alloc-preserved
loop-alloc-preserved g c =
    let read = subst (ReadsOn c.args.self.now.pen) (sym c.in_ok-apply.ensures.pen) c.loop-alloc.invariant.0 in
    let said = subst (λ r. Tries (data_of c.args.hub.now.setup) c.apply.new.self c.args.c.now r c.judge.new.self) c.in_default.is c.in_ok-judged.ensures.tries in
    let before = c.loop-alloc.invariant.3 in
    let same = ap (λ (p : PenValue). length p.front) c.in_ok-apply.ensures.pen in
    let tick = c.tick.ensures in (
      reads_further c.args.self.now.pen c.apply.new.self.pen c.judge.new.self.pen read said.0,
      c.in_ok-judged.ensures.seat,
      c.judge.ensures.first ∙ c.in_ok-apply.ensures.first
          ∙ c.loop-alloc.invariant.2,
      omega (arith, before, same, tick, said.1),
    )

pub returns-clause-fault : goal.returns-clause-fault
returns-clause-fault g c =
    let first = ap (λ (s : State). s.place) c.loop-alloc.invariant.2 in
    let at = ap (λ p. place_past p (length c.loop-alloc.self.pen.front)) first in
    let none = c.loop-alloc-test.false in
    let left = c.room.ensures.left in
    (omega (arith, none, left, at), c.room.ensures.front)
