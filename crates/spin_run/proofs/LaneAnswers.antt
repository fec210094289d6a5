-- A lane's answers, call by call.
use Rattle.std.proofs.Common.{◌≡◌, ℕ, ◌+◌, ◌≤◌, List, [], ◌∷◌, ◌++◌, map, length, take, refl, sym, ap, ◌∙◌, subst, arith, inl, inr, length-append, append_assoc, take_all}
use Rattle.std.specs.Prelude.{Option, None, Some, Result, Ok, Err, IsErrAnd}
use Rattle.spin_seat.specs.declared.answer.SeatFault.{SeatFault}
use Rattle.spin_seat.specs.declared.answer.SeatFault.TheVariants as fault
use Rattle.std.specs.Arc.{arc_value}
use Rattle.std.proofs.lemmas.List.{append-nil, map-append, length-map}
use Rattle.std.proofs.lemmas.List.Elements.{All-nil}
use Rattle.spin_word.specs.declared.command.Command.{Command}
use Rattle.spin_word.specs.declared.row.Row.{Row}
use Rattle.spin_word.specs.declared.work.Work.{Work}
use Rattle.spin_word.specs.declared.work.Work.TheVariants as work
use Rattle.spin_log.specs.Rows.{IsPrefix}
use Rattle.spin_log.specs.Pens.{PenValue}
use Rattle.spin_table.specs.Setups.{SetupData}
use Rattle.spin_table.specs.States.{State, VersionValue}
use Rattle.spin_table.specs.Soundness.{IsSoundVersion}
use Rattle.spin_table.specs.declared.refusal.Verdicted.{Verdicted}
use Rattle.spin_proto.specs.declared.deed.Job.{Job}
use Rattle.spin_proto.specs.Replies.{BelongsTo}
use Rattle.spin_seat.specs.Replay.{IsReplayFrom}
use Rattle.spin_seat.specs.Places.{rows_past}
use Rattle.spin_seat.specs.Seats.{IsSeatFrom, version_of}
use Rattle.spin_seat.specs.Calls.{ReadsOn, GivesFrom, IsFaultAt, IsUnrefused, verdict_answer}
use Rattle.spin_seat.specs.Runs.{RanFrom, GainsPinsPast}
use Rattle.spin_seat.proofs.PastPlaces.{place_past_is, rows_past_is}
use Rattle.spin_seat.proofs.SeatInvariants.{whole_applied}
use Rattle.spin_seat.proofs.SeatAnswers.{nothing_ran, answered, ran_more, ran_reads, pins_more}
use Rattle.spin_report.specs.declared.entry.Entry.{Entry}
use Rattle.spin_report.specs.Jobs.{answer_calls}
use Rattle.spin_report.specs.Asked.{Numbered, asked_of}
use Rattle.spin_run.specs.declared.lane.Lane.{Lane}
use Rattle.spin_run.specs.Lanes.{seat_answer, jobs_from, AreJobsOf, BeginsWithCommand, LacksFor, kept_with}
use Rattle.spin_run.specs.declared.trail.Trail.{Trail}
use Rattle.spin_run.specs.Trails.{IsNew, IsTrailOf, AddsTo}
use Rattle.spin_run.specs.Inner.Answering.{HasAnswered, Answers, EndsFull, EndsShort, Comes, AddsJobs, IsLeftBy, asked_alone}
use Rattle.spin_run.proofs.EntryJobs.{jobs_stay, jobs_more}
use Rattle.spin_run.proofs.KeptMarks.{new_trail}

-- ---- one call

-- one more entry
entry_more : (d : SetupData) (old new : Lane) (entry : Entry) → AddsTo old.trail entry new.trail → GivesFrom d old.seat.base old.seat.pen (seat_answer entry) new.seat.pen
    → new.seat.base ≡ old.seat.base → new.entries ≡ kept_with old.entries (entry ∷ [])
    → ((given : List Entry) → AreJobsOf d old.seat.base given new.seat.pen.front old.jobs → AreJobsOf d old.seat.base (given ++ entry ∷ []) new.seat.pen.front new.jobs)
    → Answers d (asked_of entry ∷ []) old new
entry_more d old new entry adds gives first kept jobs = record {
  added = entry ∷ [];
  asked_are = refl;
  count = omega (arith, adds.count);
  first = first;
  kept = kept;
  goes_on = λ before given h.
      let base = old.seat.base in
      let answers : map seat_answer (given ++ entry ∷ []) ≡ map seat_answer given ++ seat_answer entry ∷ [] = map-append seat_answer given (entry ∷ []) in
      let front = (answered d old.seat.pen (seat_answer entry) new.seat.pen gives).front in
      record {
        ran = subst (λ l. RanFrom d base before l new.seat.pen) (sym answers) (ran_more d before old.seat.pen new.seat.pen (map seat_answer given) (seat_answer entry) h.ran gives);
        pins = subst (λ l. GainsPinsPast base.place before l new.seat.pen) (sym answers)
            (pins_more d before old.seat.pen new.seat.pen (map seat_answer given) (seat_answer entry) h.pins gives);
        jobs_are = jobs given (jobs_stay d base before old.seat.pen new.seat.pen given old.jobs h.ran front h.jobs_are);
        told = adds.goes_on given h.told;
      };
}

-- a deed's reply, with the jobs that it leaves on the version of the seat
pub reply_more : (d : SetupData) (old new : Lane) (entry : Entry) (version : VersionValue) → AddsTo old.trail entry new.trail
    → GivesFrom d old.seat.base old.seat.pen (seat_answer entry) new.seat.pen → IsSeatFrom d old.seat.base new.seat → new.seat.pending ≡ None → version ≡ version_of new.seat
    → new.entries ≡ kept_with old.entries (entry ∷ []) → AddsJobs entry version (answer_calls entry.what) old.jobs new.jobs → Answers d (asked_of entry ∷ []) old new
reply_more d old new entry version added gives seat whole is kept adds =
    let base = old.seat.base in
    let rows = rows_past base.place entry.place in
    let place : length new.seat.pen.front ≤ rows =
    omega (arith, gives.place, place_past_is base.place (length new.seat.pen.front), rows_past_is base.place entry.place) in
    let replay : IsReplayFrom d base (take rows new.seat.pen.front) version.state =
    subst (λ (x : State × List Row × VersionValue). IsReplayFrom d x.0 x.1 x.2.state) (λ i. (seat.1 i, sym (take_all rows new.seat.pen.front place) i, sym is i)) (whole_applied d new.seat seat.0 whole) in
    entry_more d old new entry added gives seat.1 kept
    (λ given j. jobs_more d base new.seat.pen given entry version old.jobs new.jobs j adds replay (subst (IsSoundVersion d) (sym is) seat.0.sound))

-- a command's verdict, which leaves no job
pub verdict_more : (d : SetupData) (old new : Lane) (entry : Entry) → answer_calls entry.what ≡ [] → AddsTo old.trail entry new.trail
    → new.jobs ≡ old.jobs → GivesFrom d old.seat.base old.seat.pen (seat_answer entry) new.seat.pen → IsSeatFrom d old.seat.base new.seat → new.seat.pending ≡ None
    → new.entries ≡ kept_with old.entries (entry ∷ []) → Answers d (asked_of entry ∷ []) old new
verdict_more d old new entry none added jobs gives seat whole kept =
    reply_more d old new entry (version_of new.seat) added gives seat whole refl kept (record {
      added = [];
      jobs_are = jobs ∙ sym (append-nil old.jobs);
      asked = sym (ap (jobs_from entry 0) none);
      each = All-nil (IsLeftBy entry (version_of new.seat));
    })

-- nothing is given
none_given : (d : SetupData) (first : State) (before : PenValue) (given : List Entry) (lane : Lane) → HasAnswered d first before given lane → HasAnswered d first before (given ++ []) lane
none_given d first before given lane h = subst (λ l. HasAnswered d first before l lane) (sym (append-nil given)) h

-- and nothing kept
keeps_none : (entries : Option (List Entry)) → entries ≡ kept_with entries []
keeps_none None = refl
keeps_none (Some kept) = ap Some (sym (append-nil kept))

keeps_then : (entries : Option (List Entry)) (first second : List Entry) → kept_with (kept_with entries first) second ≡ kept_with entries (first ++ second)
keeps_then None first second = refl
keeps_then (Some kept) first second = ap Some (append_assoc kept first second)

-- a call that only reads rows of other lanes
pub reads_more : (d : SetupData) (old new : Lane) → new.trail ≡ old.trail → new.jobs ≡ old.jobs → ReadsOn old.seat.pen new.seat.pen
    → new.seat.base ≡ old.seat.base → new.entries ≡ old.entries → Answers d [] old new
reads_more d old new trail jobs reads first kept =
    let pins : new.seat.pen.pins ≡ old.seat.pen.pins = ap (λ (p : PenValue). p.pins) reads.1 in
    let front : IsPrefix old.seat.pen.front new.seat.pen.front = (reads.0, ap (λ (p : PenValue). p.front) reads.1) in
    record {
      added = [];
      asked_are = refl;
      count = omega (arith, ap (λ (t : Trail). length t.marks) trail);
      first = first;
      kept = kept ∙ keeps_none old.entries;
      goes_on = λ before given h. none_given d old.seat.base before given new (record {
        ran = ran_reads d before old.seat.pen new.seat.pen (map seat_answer given) h.ran reads;
        pins = pins ∙ h.pins;
        jobs_are = subst (AreJobsOf d old.seat.base given new.seat.pen.front) (sym jobs)
            (jobs_stay d old.seat.base before old.seat.pen new.seat.pen given old.jobs h.ran front h.jobs_are);
        told = subst (IsTrailOf given) (sym trail) h.told;
      });
    }

-- a command that finds the log full
pub ends_full : (d : SetupData) (old new : Lane) (asked : List Numbered) → new.trail ≡ old.trail → new.jobs ≡ old.jobs
    → ReadsOn old.seat.pen new.seat.pen → new.seat.base ≡ old.seat.base → new.entries ≡ old.entries
    → IsFaultAt old.seat.base.place (length new.seat.pen.front) fault.Full → BeginsWithCommand asked → EndsFull d asked old new
ends_full d old new asked trail jobs reads first kept full next = record {
  first = [];
  left = asked;
  parts = refl;
  answers = reads_more d old new trail jobs reads first kept;
  full = full;
  next = next;
}

-- ---- calls one after another

pub answers_nothing : (d : SetupData) (lane : Lane) → Answers d [] lane lane
answers_nothing d lane = record {
  added = [];
  asked_are = refl;
  count = omega arith;
  first = refl;
  kept = keeps_none lane.entries;
  goes_on = λ before given h. none_given d lane.seat.base before given lane h;
}

pub answers_then : (d : SetupData) (first second : List Numbered) (old middle new : Lane) → Answers d first old middle → Answers d second middle new → Answers d (first ++ second) old new
answers_then d first second old middle new a b = record {
  added = a.added ++ b.added;
  asked_are = map-append asked_of a.added b.added ∙ (λ i. a.asked_are i ++ b.asked_are i);
  count = omega (arith, a.count, b.count, length-append a.added b.added);
  first = b.first ∙ a.first;
  kept = b.kept ∙ ap (λ (e : Option (List Entry)). kept_with e b.added) a.kept ∙ keeps_then old.entries a.added b.added;
  goes_on = λ before given h.
      let there = subst (λ (s : State). HasAnswered d s before (given ++ a.added) middle) (sym a.first) (a.goes_on before given h) in
      subst (λ (x : State × List Entry). HasAnswered d x.0 before x.1 new) (λ i. (a.first i, append_assoc given a.added b.added i)) (b.goes_on before (given ++ a.added) there);
}

begins_more : (left more : List Numbered) → BeginsWithCommand left → BeginsWithCommand (left ++ more)
begins_more [] more h = absurd h
begins_more (n ∷ left) more h = h

-- it ends in the middle of what is asked
pub ends_then : (d : SetupData) (first second more : List Numbered) (old middle new : Lane) → Answers d first old middle → EndsFull d second middle new → EndsFull d (first ++ (second ++ more)) old new
ends_then d first second more old middle new a e = record {
  first = first ++ e.first;
  left = e.left ++ more;
  parts = ap (λ l. first ++ (l ++ more)) e.parts ∙ ap (λ l. first ++ l) (append_assoc e.first e.left more) ∙ sym (append_assoc first e.first (e.left ++ more));
  answers = answers_then d first e.first old middle new a e.answers;
  full = subst (λ (s : State). IsFaultAt s.place (length new.seat.pen.front) fault.Full) a.first e.full;
  next = begins_more e.left more e.next;
}

-- it ends for want of memory in the middle of what is asked
pub short_then : (d : SetupData) (first second more : List Numbered) (old middle new : Lane) → Answers d first old middle → EndsShort d second middle new → EndsShort d (first ++ (second ++ more)) old new
short_then d first second more old middle new a e = record {
  first = first ++ e.first;
  middle = e.middle;
  answers = answers_then d first e.first old middle e.middle a e.answers;
  next = e.next;
  left = e.left ++ more;
  parts =
      ap (λ l. first ++ (l ++ more)) e.parts ∙ ap (λ l. first ++ l) (append_assoc e.first (e.next ∷ e.left) more)
      ∙ sym (append_assoc first e.first (e.next ∷ (e.left ++ more)));
  lacks = subst (λ (s : State). LacksFor d s e.middle.seat.pen e.next.asked new.seat) a.first e.lacks;
}

-- how many entries there are
pub answers_count : (d : SetupData) (asked : List Numbered) (old new : Lane) → Answers d asked old new → length new.trail.marks ≡ length old.trail.marks + length asked
answers_count d asked old new a = omega (arith, a.count, ap length a.asked_are, length-map a.added asked_of)

-- a lane that has answered nothing
pub nothing_answered : (d : SetupData) (lane : Lane) → IsNew lane.trail → lane.jobs ≡ [] → HasAnswered d lane.seat.base lane.seat.pen [] lane
nothing_answered d lane trail jobs = record {
  ran = nothing_ran d lane.seat.pen;
  pins = sym (append-nil lane.seat.pen.pins);
  jobs_are = subst (AreJobsOf d lane.seat.base [] lane.seat.pen.front) (sym jobs) none;
  told = new_trail lane.trail trail;
}
  where
    none : AreJobsOf d lane.seat.base [] lane.seat.pen.front []
    none = record {
      asked = refl;
      versions = All-nil (λ (j : Job). IsReplayFrom d lane.seat.base (take (rows_past lane.seat.base.place j.place) lane.seat.pen.front) (arc_value j.version).state);
      sound = All-nil (λ (j : Job). IsSoundVersion d (arc_value j.version));
      calls = All-nil (λ (j : Job). BelongsTo (arc_value j.version).state j.call);
    }

-- there is no memory for the one thing that is asked
pub short_alone : (d : SetupData) (old new : Lane) (lane line : ℕ) (asked : Work) → LacksFor d old.seat.base old.seat.pen asked new.seat → EndsShort d (asked_alone lane line 0 asked) old new
short_alone d old new lane line asked lacks = record {
  first = [];
  middle = old;
  answers = answers_nothing d old;
  next = record { lane = lane; line = line; part = 0; asked = asked };
  left = [];
  parts = refl;
  lacks = lacks;
}

-- why a command has no verdict
pub command_ends : (d : SetupData) (old new : Lane) (line : ℕ) (c : Command) (f : SeatFault) → new.trail ≡ old.trail → new.jobs ≡ old.jobs
    → ReadsOn old.seat.pen new.seat.pen → new.seat.base ≡ old.seat.base → new.entries ≡ old.entries
    → IsFaultAt old.seat.base.place (length new.seat.pen.front) f → IsUnrefused d new.seat c f
    → Comes d (asked_alone old.seat.pen.lane line 0 (work.Command c)) old (Err f) new
command_ends d old new line c fault.Full trail jobs reads first kept full unrefused =
    ends_full d old new (asked_alone old.seat.pen.lane line 0 (work.Command c)) trail jobs reads first kept full refl
command_ends d old new line c fault.NoMemory trail jobs reads first kept full unrefused = short_alone d old new old.seat.pen.lane line (work.Command c) (inr (reads, unrefused))

-- a verdict that couldn't be kept
pub verdict_lost : (d : SetupData) (old new : Lane) (line : ℕ) (c : Command) (place : ℕ) (verdict : Verdicted)
    → GivesFrom d old.seat.base old.seat.pen (verdict_answer old.seat.pen.lane c place verdict) new.seat.pen
    → EndsShort d (asked_alone old.seat.pen.lane line 0 (work.Command c)) old new
verdict_lost d old new line c place verdict gives = short_alone d old new old.seat.pen.lane line (work.Command c) (inl (place, verdict, gives))

-- a fault that was passed on
pub err_is : (r : Result (Unit {0}) SeatFault) (f : SeatFault) → IsErrAnd r (λ e. e ≡ f) → r ≡ Err f
err_is (Ok done) f h = absurd h
err_is (Err e) f h = ap Err h
