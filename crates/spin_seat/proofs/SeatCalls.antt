-- What a call of a seat gives, from its last step back to its start.
use Rattle.std.proofs.Common.{◌≡◌, ℕ, [], ◌++◌, length, refl, sym, ap, ◌∙◌, subst}
use Rattle.std.specs.Prelude.{None, IfSome}
use Rattle.std.proofs.lemmas.List.{append-nil, append_assoc}
use Rattle.spin_word.specs.Rows.{lane_of}
use Rattle.spin_log.specs.Rows.{rows_of}
use Rattle.spin_log.specs.Pens.{PenValue, with_front}
use Rattle.spin_log.proofs.RowLists.{rows_of-append}
use Rattle.spin_table.specs.Setups.{SetupData}
use Rattle.spin_table.specs.States.{State}
use Rattle.spin_word.specs.declared.work.Deed.{Deed}
use Rattle.spin_proto.specs.declared.reply.Reply.{Reply}
use Rattle.spin_proto.specs.Replies.{IsDeedReply}
use Rattle.spin_seat.specs.Replay.{IsReplayFrom}
use Rattle.spin_seat.specs.Places.{place_past}
use Rattle.spin_seat.specs.Seats.{SeatValue, IsSeat}
use Rattle.spin_seat.specs.Answers.{Answer, row_published, LeadsTo}
use Rattle.spin_seat.specs.Calls.{ReadsOn, ReadsToPin, GivesFrom, pen_after, reply_answer, verdict_answer, IsFaultAt}
use Rattle.spin_seat.specs.Inner.Tries.{Judges}
use Rattle.spin_seat.specs.declared.answer.Judged.{Judged}
use Rattle.spin_seat.specs.declared.answer.SeatFault.{SeatFault}
use Rattle.spin_word.specs.declared.command.Command.{Command}
use Rattle.spin_seat.proofs.SeatInvariants.{whole_applied}

-- rows are read on, and then further rows
pub reads_further : (old middle new : PenValue) → ReadsOn old middle → ReadsOn middle new → ReadsOn old new
reads_further old middle new h k =
    let lane = ap (λ (p : PenValue). p.lane) h.1 in (
      h.0 ++ k.0,
      k.1 ∙ ap (λ (p : PenValue). with_front p (p.front ++ k.0)) h.1 ∙ ap (with_front old) (append_assoc old.front h.0 k.0),
      rows_of-append old.lane h.0 k.0 ∙ (ap (λ rows. rows ++ rows_of old.lane k.0) h.2 ∙ (ap (λ n. rows_of n k.0) (sym lane) ∙ k.2)),
    )

-- an answer that is given after rows that were read on
pub gives_later : (d : SetupData) (first : State) (old middle new : PenValue) (answer : Answer)
    → ReadsOn old middle → GivesFrom d first middle answer new → GivesFrom d first old answer new
gives_later d first old middle new answer h g =
    let lane : middle.lane ≡ old.lane = ap (λ (p : PenValue). p.lane) h.1 in
    let further = reads_further old middle (with_front middle (middle.front ++ g.more)) h (g.more, refl, g.others) in
    record {
      more = further.0;
      before = g.before;
      after = g.after;
      others = further.2;
      pen = g.pen ∙ ap (pen_after (row_published answer.said)) further.1;
      row = subst (λ n. IfSome (row_published answer.said) (λ row. lane_of row ≡ n)) lane g.row;
      lane = g.lane ∙ lane;
      place = g.place;
      replay_before = subst (λ rows. IsReplayFrom d first rows g.before) (ap (λ (p : PenValue). p.front) further.1) g.replay_before;
      replay_after = g.replay_after;
      leads = g.leads;
    }

-- an answer that is given at the front
pub gives_here : (d : SetupData) (old : SeatValue) (new : PenValue) (answer : Answer) (after : State) → IsSeat d old
    → old.pending ≡ None → LeadsTo d old.state answer.said after → answer.lane ≡ old.pen.lane → answer.place ≡ place_past old.base.place (length new.front)
    → new ≡ pen_after (row_published answer.said) old.pen → IfSome (row_published answer.said) (λ row. lane_of row ≡ old.pen.lane)
    → IsReplayFrom d old.base new.front after → GivesFrom d old.base old.pen answer new
gives_here d old new answer after h none leads lane place is row replay =
    let nil = append-nil old.pen.front in
    record {
      more = [];
      before = old.state;
      after = after;
      others = refl;
      pen = is ∙ ap (λ rows. pen_after (row_published answer.said) (with_front old.pen rows)) (sym nil);
      row = row;
      lane = lane;
      place = place;
      replay_before = subst (λ rows. IsReplayFrom d old.base rows old.state) (sym nil) (whole_applied d old h none);
      replay_after = replay;
      leads = leads;
    }

-- a reply that is given at a pin
pub gives_reply : (d : SetupData) (old : PenValue) (seat : SeatValue) (asked : Deed) (place : ℕ) (reply : Reply)
    → ReadsToPin old seat.pen → IsSeat d seat → seat.pending ≡ None → place ≡ place_past seat.base.place (length seat.pen.front) → IsDeedReply d seat.state asked reply
    → GivesFrom d seat.base old (reply_answer old.lane asked place reply) seat.pen
gives_reply d old seat asked place reply h k none at is =
    let whole = whole_applied d seat k none in
    record {
      more = h.0;
      before = seat.state;
      after = seat.state;
      others = h.2;
      pen = h.1;
      row = tt;
      lane = refl;
      place = at;
      replay_before = subst (λ rows. IsReplayFrom d seat.base rows seat.state) (ap (λ (p : PenValue). p.front) h.1) whole;
      replay_after = whole;
      leads = (is, refl);
    }

-- a verdict that is given after rows that were read on
pub judges_later : (d : SetupData) (old middle new : SeatValue) (c : Command) (judged : Judged)
    → ReadsOn old.pen middle.pen → middle.base ≡ old.base → Judges d middle c judged new → Judges d old c judged new
judges_later d old middle new c judged h first j =
    let lane : middle.pen.lane ≡ old.pen.lane = ap (λ (p : PenValue). p.lane) h.1 in
    record {
      gives = subst (λ (x : State × ℕ). GivesFrom d x.0 old.pen (verdict_answer x.1 c judged.place judged.verdict) new.pen) (λ i. (first i, lane i))
          (gives_later d middle.base old.pen middle.pen new.pen (verdict_answer middle.pen.lane c judged.place judged.verdict) h j.gives);
      room = j.room;
      whole = j.whole;
    }

-- a fault at the front that another value of the seat has
pub fault_is : (place other : ℕ) (old new : PenValue) (f : SeatFault) → place ≡ other → old ≡ new → IsFaultAt place (length old.front) f → IsFaultAt other (length new.front) f
fault_is place other old new f same is h = subst (λ (x : ℕ × PenValue). IsFaultAt x.0 (length x.1.front) f) (λ i. (same i, is i)) h
