-- A lane that goes from line to line.
use Rattle.std.proofs.Common.{◌≡◌, ◌≢◌, ℕ, ◌+◌, ◌<◌, ◌≤◌, List, [], ◌∷◌, ◌++◌, map, length, take, drop, get_or, sum_by, refl, sym, ap, ◌∙◌, subst, arith, length-append, append_assoc}
use Rattle.std.specs.Prelude.{Some, Result, Ok, Err, OnErr}
use Rattle.std.specs.Result.{result_err}
use Rattle.std.proofs.lemmas.List.{append-nil}
use Rattle.std.proofs.lemmas.Option.{none-some}
use Rattle.spin_word.specs.declared.work.Deed.{Deed}
use Rattle.spin_word.specs.declared.work.Work.{Work}
use Rattle.spin_word.specs.declared.work.Work.TheVariants as work
use Rattle.spin_table.specs.Setups.{SetupData}
use Rattle.spin_seat.specs.Seats.{IsSeat}
use Rattle.spin_seat.specs.declared.answer.SeatFault.{SeatFault}
use Rattle.spin_seat.specs.declared.answer.SeatFault.TheVariants as fault
use Rattle.spin_script.specs.declared.script.Line.{Line}
use Rattle.spin_script.specs.States.{deed_count}
use Rattle.spin_report.specs.Asked.{Numbered, asked_of}
use Rattle.spin_report.specs.Segments.{records_wanted, raise_with, parts_of, asked_at, asked_in, asked_of_lane}
use Rattle.spin_report.specs.declared.entry.Entry.{Entry}
use Rattle.spin_run.specs.declared.lane.Lane.{Lane}
use Rattle.spin_run.specs.declared.trail.Trail.{Trail}
use Rattle.spin_run.specs.Trails.{IsNew, IsTrailOf}
use Rattle.spin_run.specs.Lanes.{RanLane, RanShort, HadMemory, HasRunLane, kept_with}
use Rattle.spin_run.specs.Inner.Answering.{HasAnswered, Answers, EndsFull, EndsShort, Comes, Stays, asked_packets}
use Rattle.spin_run.proofs.AskedOfLane.{own_line, other_line, asked_next, own_few, packets_behind, packets_parts}
use Rattle.spin_run.proofs.LaneAnswers.{answers_nothing, answers_then, ends_then, short_alone, short_then, answers_count, nothing_answered}

pub stays_then : (d : SetupData) (old middle new : Lane) → Stays d old middle → Stays d middle new → Stays d old new
stays_then d old middle new a b = ((b.0.0, b.0.1 ∙ a.0.1), (b.1.0 ∙ a.1.0, b.1.1 ∙ a.1.1, b.1.2 ∙ a.1.2))

-- there is no memory for the raise with a record
pub packets_short : {T E : Type 0} (d : SetupData) (lane line event i : ℕ) (records : List (List ℕ)) (record' : List ℕ) (old now new : Lane) (r : Result T E) → i < length records
    → Answers d (asked_packets lane line event 1 (take i records)) old now → OnErr r (EndsShort d (asked_packets lane line event 1 records) old new)
packets_short d lane line event i records record' old now new (Ok done) lt a = tt
packets_short d lane line event i records record' old now new (Err e) lt a = record {
  first = asked_packets lane line event 1 (take i records);
  middle = now;
  answers = a;
  next = record { lane = lane; line = line; part = i + 1; asked = raise_with event (get_or records i record') };
  left = packets_behind lane line event i records;
  parts = packets_parts lane line event i records record' lt;
  lacks = tt;
}

-- there is no memory for the deed of a line
pub deed_short : (d : SetupData) (line : Line) (records : List (List ℕ)) (deed : Deed) (old new : Lane) → line.work ≡ work.Deed deed → EndsShort d (asked_at line records) old new
deed_short d line records deed old new is =
    subst (λ (w : Work). EndsShort d (map (λ (part : ℕ × Work). record { lane = line.lane; line = line.number; part = part.0; asked = part.1 }) (parts_of w records)) old new) (sym is)
    (short_alone d old new line.lane line.number (work.Deed deed) tt)

-- and for the raises of a line of packets
pub line_short : (d : SetupData) (line : Line) (records : List (List ℕ)) (lane event count : ℕ) (old new : Lane) → line.work ≡ work.Packet event count → line.lane ≡ lane
    → EndsShort d (asked_packets lane line.number event 1 records) old new → EndsShort d (asked_at line records) old new
line_short d line records lane event count old new is own e =
    subst (λ (w : Work). EndsShort d (map (λ (part : ℕ × Work). record { lane = line.lane; line = line.number; part = part.0; asked = part.1 }) (parts_of w records)) old new) (sym is)
    (subst (λ (k : ℕ). EndsShort d (asked_packets k line.number event 1 records) old new) (sym own) e)

-- Of what it is asked the lane has answered the first part, and this is left.
pub record Progress (d : SetupData) (own rest : List Numbered) (old now : Lane) : Type 0 where
  pub first : List Numbered
  pub parts : own ≡ first ++ rest
  pub answers : Answers d first old now
  pub stays : Stays d old now

-- what the lane is asked from line i on, where these records are left
abbrev pub rest_at : ℕ → ℕ → List Line → List (List ℕ) → List Numbered
rest_at k i lines left = asked_of_lane k (asked_in (drop i lines) left)

-- before the first line
pub begins : (d : SetupData) (k : ℕ) (lines : List Line) (frames left : List (List ℕ)) (old : Lane) → left ≡ frames
    → IsSeat d old.seat → Progress d (asked_of_lane k (asked_in lines frames)) (rest_at k 0 lines left) old old
begins d k lines frames left old is seat = record {
  first = [];
  parts = ap (λ l. asked_of_lane k (asked_in lines l)) (sym is);
  answers = answers_nothing d old;
  stays = ((seat, refl), (refl, refl, refl));
}

-- a line of another lane
pub skips : (d : SetupData) (k i : ℕ) (lines : List Line) (line : Line) (left : List (List ℕ)) (own : List Numbered) (old now : Lane) → i < length lines → line ≡ get_or lines i line → line.lane ≢ k
    → Progress d own (rest_at k i lines left) old now → Progress d own (rest_at k (i + 1) lines (drop (records_wanted line.work) left)) old now
skips d k i lines line left own old now lt is other p = record {
  first = p.first;
  parts =
      p.parts ∙ ap (λ l. p.first ++ l)
      (asked_next k i lines line left lt is ∙ ap (λ l. l ++ rest_at k (i + 1) lines (drop (records_wanted line.work) left)) (other_line k line (take (records_wanted line.work) left) other));
  answers = p.answers;
  stays = p.stays;
}

own_parts : (k i : ℕ) (lines : List Line) (line : Line) (left : List (List ℕ)) → i < length lines → line ≡ get_or lines i line → line.lane ≡ k
    → rest_at k i lines left ≡ asked_at line (take (records_wanted line.work) left) ++ rest_at k (i + 1) lines (drop (records_wanted line.work) left)
own_parts k i lines line left lt is own =
    asked_next k i lines line left lt is ∙ ap (λ l. l ++ rest_at k (i + 1) lines (drop (records_wanted line.work) left)) (own_line k line (take (records_wanted line.work) left) own)

-- a line of this lane
pub goes_on : (d : SetupData) (k i : ℕ) (lines : List Line) (line : Line) (left : List (List ℕ)) (own : List Numbered) (old now new : Lane)
    → i < length lines → line ≡ get_or lines i line → line.lane ≡ k
    → Progress d own (rest_at k i lines left) old now → Answers d (asked_at line (take (records_wanted line.work) left)) now new → Stays d now new
    → Progress d own (rest_at k (i + 1) lines (drop (records_wanted line.work) left)) old new
goes_on d k i lines line left own old now new lt is same p a s =
    let here = asked_at line (take (records_wanted line.work) left) in
    let rest = rest_at k (i + 1) lines (drop (records_wanted line.work) left) in
    record {
      first = p.first ++ here;
      parts = p.parts ∙ ap (λ l. p.first ++ l) (own_parts k i lines line left lt is same) ∙ sym (append_assoc p.first here rest);
      answers = answers_then d p.first here old now new p.answers a;
      stays = stays_then d old now new p.stays s;
    }

-- it ends at a line of this lane
pub ends : (d : SetupData) (k i : ℕ) (lines : List Line) (line : Line) (left : List (List ℕ)) (own : List Numbered) (old now new : Lane) (f : SeatFault)
    → i < length lines → line ≡ get_or lines i line → line.lane ≡ k
    → Progress d own (rest_at k i lines left) old now → Comes d (asked_at line (take (records_wanted line.work) left)) now (Err f) new → Comes d own old (Err f) new
ends d k i lines line left own old now new fault.NoMemory lt is same p e =
    let here = asked_at line (take (records_wanted line.work) left) in
    let rest = rest_at k (i + 1) lines (drop (records_wanted line.work) left) in
    let parts : own ≡ p.first ++ (here ++ rest) = p.parts ∙ ap (λ l. p.first ++ l) (own_parts k i lines line left lt is same) in
    subst (λ l. EndsShort d l old new) (sym parts) (short_then d p.first here rest old now new p.answers e)
ends d k i lines line left own old now new fault.Full lt is same p e =
    let here = asked_at line (take (records_wanted line.work) left) in
    let rest = rest_at k (i + 1) lines (drop (records_wanted line.work) left) in
    let parts : own ≡ p.first ++ (here ++ rest) = p.parts ∙ ap (λ l. p.first ++ l) (own_parts k i lines line left lt is same) in
    subst (λ l. EndsFull d l old new) (sym parts) (ends_then d p.first here rest old now new p.answers e)

-- at the end nothing is left
pub all_done : (d : SetupData) (own : List Numbered) (old now : Lane) (rest : List Numbered) → rest ≡ [] → Progress d own rest old now → Answers d own old now
all_done d own old now rest none p = subst (λ l. Answers d l old now) (sym (p.parts ∙ ap (λ l. p.first ++ l) none ∙ append-nil p.first)) p.answers

-- the entries of a line are within the number of deeds that a segment may have
pub line_few : (d : SetupData) (k i : ℕ) (lines : List Line) (line : Line) (frames left : List (List ℕ)) (old now : Lane)
    → i < length lines → line ≡ get_or lines i line → line.lane ≡ k → IsNew old.trail
    → Progress d (asked_of_lane k (asked_in lines frames)) (rest_at k i lines left) old now
    → length now.trail.marks + length (asked_at line (take (records_wanted line.work) left)) ≤ sum_by (λ l. deed_count l.work) lines
line_few d k i lines line frames left old now lt is same none p =
    let here = asked_at line (take (records_wanted line.work) left) in
    let rest = rest_at k (i + 1) lines (drop (records_wanted line.work) left) in
    let all = own_few k lines frames in
    let parts = ap length (p.parts ∙ ap (λ l. p.first ++ l) (own_parts k i lines line left lt is same)) in
    let count = answers_count d p.first old now p.answers in
    let empty : length old.trail.marks ≡ 0 = ap (λ (t : Trail). length t.marks) none in
    omega (arith, all, parts, count, empty, length-append p.first (here ++ rest), length-append here rest)

-- what a lane's run says, by what its lines came to
pub has_run : (d : SetupData) (asked : List Numbered) (old now new : Lane) (r : Result (Unit {0}) SeatFault) → IsNew old.trail → old.jobs ≡ []
    → Stays d old now → Comes d (asked_of_lane old.seat.pen.lane asked) old r now
    → new.seat ≡ now.seat → new.trail ≡ now.trail → new.jobs ≡ now.jobs → new.stop ≡ result_err r → new.entries ≡ now.entries → (given : List Entry) × HasRunLane d asked old new given
has_run d asked old now new r trail jobs stays comes seat trail' jobs' stop entries =
    let run = ran r comes in (
      run.0,
      subst (λ (l : Lane). HasRunLane d asked old l run.0) same
          (record {
            seat = stays.0;
            same = stays.1;
            ran = λ memory. (run.1.0 memory).0;
            told = λ memory. (run.1.0 memory).1.0;
            kept = λ memory. (run.1.0 memory).1.1;
            short = run.1.1;
          }),
    )
  where
    own : List Numbered
    own = asked_of_lane old.seat.pen.lane asked

    same : ◌≡◌ {A = Lane} (record { seat = now.seat; trail = now.trail; jobs = now.jobs; stop = result_err r; entries = now.entries }) new
    same = λ i. record { seat = sym seat i; trail = sym trail' i; jobs = sym jobs' i; stop = sym stop i; entries = sym entries i }

    before : HasAnswered d old.seat.base old.seat.pen [] old
    before = nothing_answered d old trail jobs

    ran : (o : Result (Unit {0}) SeatFault) → Comes d own old o now
        → (given : List Entry)
        × ((HadMemory (result_err o) → RanLane d old.seat.base own old.seat.pen now.seat.pen given now.jobs (result_err o)
        × (IsTrailOf given now.trail × (now.entries ≡ kept_with old.entries given)))
        × (result_err o ≡ Some fault.NoMemory → RanShort d old.seat.base own old.seat.pen now.seat given))
    ran (Ok done) a =
        let h = a.goes_on old.seat.pen [] before in (
          a.added,
          (
            λ memory. (
              record {
                ran = h.ran;
                pins = h.pins;
                left = [];
                deeds_are = sym (append-nil (map asked_of a.added) ∙ a.asked_are);
                whole = λ none. refl;
                full = λ e. absurd (none-some fault.Full e);
                jobs_are = h.jobs_are;
              },
              (h.told, a.kept),
            ),
            λ short. absurd (none-some fault.NoMemory short),
          ),
        )
    ran (Err fault.Full) e =
        let h = e.answers.goes_on old.seat.pen [] before in (
          e.answers.added,
          (
            λ memory. (
              record {
                ran = h.ran;
                pins = h.pins;
                left = e.left;
                deeds_are = e.parts ∙ ap (λ l. l ++ e.left) (sym e.answers.asked_are);
                whole = λ none. absurd (none-some fault.Full (sym none));
                full = λ full. (e.full, e.next);
                jobs_are = h.jobs_are;
              },
              (h.told, e.answers.kept),
            ),
            λ short. absurd (cc short),
          ),
        )
    ran (Err fault.NoMemory) e =
        let h = e.answers.goes_on old.seat.pen [] before in (
          e.answers.added,
          (
            λ memory. absurd (memory refl),
            λ short. record {
              pen = e.middle.seat.pen;
              ran = h.ran;
              pins = h.pins;
              next = e.next;
              left = e.left;
              deeds_are = e.parts ∙ ap (λ l. l ++ e.next ∷ e.left) (sym e.answers.asked_are);
              lacks = e.lacks;
            },
          ),
        )
