use Rattle.std.proofs.Common.{refl}
use Rattle.spin_c.proofs.Turning.{stays_well}
use Rattle.spin_c.proofs.turn.raise_words.Goals as goal

pub raise_words-requires-clause-seat : goal.raise_words-requires-clause-seat
raise_words-requires-clause-seat g c = rw c.deref.ensures c.requires.well.0.own.1.is_seat.0

pub returns-in-Ok-clause-well : goal.returns-in-Ok-clause-well
returns-in-Ok-clause-well g c = (
  stays_well c.args.lane.now c.raise_words.new.seat c.requires.well c.raise_words.ensures.same (rw c.deref.ensures at c.raise_words.ensures.seat) c.raise_words.ensures.first,
  rw c.deref.ensures at c.raise_words.ensures.well,
)

pub returns-in-Ok-clause-raises : goal.returns-in-Ok-clause-raises
returns-in-Ok-clause-raises g c = (
  (refl, c.raise_words.ensures.first, refl, refl, refl, refl, refl),
  record {
    reply = c.in-Ok.ensures.answer.0;
    kept = c.in-Ok.ensures.answer.1;
    told_is = c.in-Ok.ensures.answer.2;
    replay = rw c.deref.ensures at c.in-Ok.ensures.answer.3;
    gives = rw c.deref.ensures at c.in-Ok.ensures.answer.4;
  },
)

pub returns-in-Err-clause-well : goal.returns-in-Err-clause-well
returns-in-Err-clause-well g c = (
  stays_well c.args.lane.now c.raise_words.new.seat c.requires.well c.raise_words.ensures.same (rw c.deref.ensures at c.raise_words.ensures.seat) c.raise_words.ensures.first,
  rw c.deref.ensures at c.raise_words.ensures.well,
)
