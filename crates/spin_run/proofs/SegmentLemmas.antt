-- From the clauses of all lanes and of their meeting to those of a segment.
use Rattle.std.proofs.Common.{◌≡◌, ◌==◌, ◌≢◌, ℕ, zero, suc, ◌+◌, ◌<◌, ◌≤◌, ◌^◌, Bool, true, false, ltb, List, [], ◌∷◌, ◌++◌, map, length, take, drop, get_or, refl, sym, ap, ◌∙◌, subst, arith, append_assoc, length-append}
use Rattle.std.specs.Prelude.{All, filter, Option, Some, None}
use Rattle.std.specs.List.{flat_map, AllZip}
use Rattle.std.specs.Arc.{arc_value}
use Rattle.std.proofs.lemmas.Bool.{ltb-true, ltb-false}
use Rattle.std.proofs.lemmas.List.{append-nil, get_or-map, get_or_past, length-map, drop_at, take_at}
use Rattle.std.proofs.lemmas.List.Elements.{All-drop, All-weaker}
use Rattle.atomic_table.specs.Seated.{TableId}
use Rattle.spin_word.specs.declared.command.TheConstants.{MAX_PLACE}
use Rattle.spin_word.specs.declared.row.Row.{Row}
use Rattle.spin_word.specs.declared.work.Work.{Work}
use Rattle.spin_word.specs.Rows.{lane_of}
use Rattle.spin_log.specs.Rows.{rows_of, IsCommandBelow}
use Rattle.spin_log.specs.Pens.{PenValue, StandsIn, IsPen}
use Rattle.spin_log.proofs.RowLists.{rows_of-append}
use Rattle.spin_table.specs.Setups.{SetupData}
use Rattle.spin_table.specs.States.{State}
use Rattle.spin_table.specs.Soundness.{IsSoundVersion}
use Rattle.spin_proto.specs.declared.deed.Job.{Job}
use Rattle.spin_proto.specs.Replies.{BelongsTo}
use Rattle.spin_proto.specs.declared.reply.Reply.{Reply}
use Rattle.spin_jobs.specs.Jobs.{CanRun, IsReplyTo}
use Rattle.spin_seat.specs.declared.answer.SeatFault.{SeatFault}
use Rattle.spin_seat.specs.declared.answer.SeatFault.TheVariants as fault
use Rattle.spin_seat.specs.Replay.{IsReplayFrom, IsCleanFrom, IsLaneCleanFrom}
use Rattle.spin_seat.specs.Places.{place_past, rows_past}
use Rattle.spin_seat.specs.Seats.{SeatValue, IsSeatFrom, AreOfLanes}
use Rattle.spin_seat.specs.Answers as seat
use Rattle.spin_seat.proofs.LaneCounts.{by_lane}
use Rattle.spin_seat.proofs.RowReplays.{IsReplayFrom-one, IsReplay-take}
use Rattle.spin_seat.proofs.PastPlaces.{place_past_is, rows_past_place}
use Rattle.spin_seat.proofs.SeatInvariants.{whole_applied, all_unmap, clean_from_lanes, of_lanes_at, are_of_lanes}
use Rattle.spin_script.specs.declared.script.Line.{Line}
use Rattle.spin_script.specs.Segments.{IsOnLane}
use Rattle.spin_script.specs.Soundness.{commands_in}
use Rattle.spin_report.specs.declared.entry.Entry.{Entry}
use Rattle.spin_report.specs.Asked.{Numbered, asked_of}
use Rattle.spin_report.specs.Lines.{JobSeen}
use Rattle.spin_report.specs.Legal.{IsLegal}
use Rattle.spin_report.specs.Segments.{asked_in, asked_of_lane, of_lane, IsInOrder, IsWoven}
use Rattle.spin_report.proofs.LaneAnswers.{filter_asked}
use Rattle.spin_report.proofs.Asking.{asked_all}
use Rattle.spin_run.specs.declared.lane.Lane.{Lane}
use Rattle.spin_run.specs.Lanes.{seat_answer, rows_in, job_asked, jobs_of, AreJobsOf, RanLane, HadMemory, kept_with}
use Rattle.spin_run.specs.Segments.{front_of, first_of, state_of, place_of, IsAtRest, AreAtRest, IsReady, AreReady, IsFitSegment, HaveRun, jobs_seen, kept_at}
use Rattle.spin_run.specs.Meetings.{AreOfHub, HasMet, HaveMet}
use Rattle.spin_run.specs.declared.trail.EntryIndex.{EntryIndex}
use Rattle.spin_run.specs.declared.trail.Trail.{Trail}
use Rattle.spin_run.specs.Trails.{IsMarkOf, IsTrailOf, none_left, trail_of, unmarked_trail, AreMarksOf}
use Rattle.spin_run.specs.Inner.Weaves.{AreOfTheirLanes, IsInterleaving, AreMarksInOrder, AreJobsInOrder, IsEmptied, unmarked, marks_by_lane, jobs_by_lane}
use Rattle.spin_run.proofs.EntryJobs.{rows_stand}
use Rattle.spin_run.proofs.EntryOrder.{trail_in_order}
use Rattle.spin_run.proofs.JobOrder.{jobs_in_order, jobs_have, jobs_woven, filter_beyond}
use Rattle.spin_run.proofs.KeptMarks.{AllZip-weaker, mark_in, moment_is}
use Rattle.spin_run.proofs.LiftedWeaves.{Lifted, lift}
use Rattle.spin_run.proofs.MarkOrder.{marks_in_order, entries_in_order, lanes_of_marks, lanes_of_entries}
use Rattle.spin_run.proofs.AskedOfSegment.{lane_rises, commands_asked}
use Rattle.spin_run.proofs.LogCounts.{AllRan, grown_few, never_full}
use Rattle.spin_run.proofs.JobCounts.{jobs_few}
use Rattle.spin_run.proofs.WovenEntries.{all_right, woven_legal}
use Rattle.spin_run.proofs.PublishedRows.{rows_are}
use Rattle.spin_run.proofs.JobReplies.{IsOfLog, IsRepliedBy, are_jobs}

pub some_lane : (xs : List Lane) → 0 < length xs → Lane
some_lane [] lt = absurd (omega arith)
some_lane (x ∷ xs) lt = x

front_of_first : (xs : List Lane) (l : Lane) → 0 < length xs → front_of xs ≡ (get_or xs 0 l).seat.pen.front
front_of_first [] l lt = absurd (omega arith)
front_of_first (x ∷ xs) l lt = refl

first_of_first : (d : SetupData) (xs : List Lane) (l : Lane) → 0 < length xs → first_of d xs ≡ (get_or xs 0 l).seat.base
first_of_first d [] l lt = absurd (omega arith)
first_of_first d (x ∷ xs) l lt = refl

state_of_first : (d : SetupData) (xs : List Lane) (l : Lane) → 0 < length xs → state_of d xs ≡ (get_or xs 0 l).seat.state
state_of_first d [] l lt = absurd (omega arith)
state_of_first d (x ∷ xs) l lt = refl

seat_at : (xs : List Lane) (k : ℕ) (l : Lane) → k < length xs → get_or (map (λ (x : Lane). x.seat) xs) k l.seat ≡ (get_or xs k l).seat
seat_at xs k l lt = get_or-map (λ (x : Lane). x.seat) xs k l l.seat lt

lane_at : (xs : List Lane) (k : ℕ) (l : Lane) → AreOfLanes 0 (map (λ (x : Lane). x.seat) xs) → k < length xs → (get_or xs k l).seat.pen.lane ≡ k
lane_at xs k l order lt =
    let at = of_lanes_at 0 k (map (λ (x : Lane). x.seat) xs) l.seat order (omega (arith, length-map xs (λ (x : Lane). x.seat))) in
    ap (λ (s : SeatValue). s.pen.lane) (sym (seat_at xs k l lt)) ∙ omega (arith, at)

pub get_or_same : {X : Type 0} (xs : List X) (k : ℕ) (a b : X) → k < length xs → get_or xs k a ≡ get_or xs k b
get_or_same [] k a b lt = absurd (omega arith)
get_or_same (x ∷ xs) zero a b lt = refl
get_or_same (x ∷ xs) (suc k) a b lt = get_or_same xs k a b (omega arith)

-- replies that leave no job are replies
replies_told : (d : SetupData) (jobs : List Job) (replies : List Reply) → AllZip (IsReplyTo d) jobs replies → AllZip (IsRepliedBy d) jobs replies
replies_told d [] [] each = tt
replies_told d [] (r ∷ rs) each = absurd each
replies_told d (j ∷ js) [] each = absurd each
replies_told d (j ∷ js) (r ∷ rs) each = (each.0.0, replies_told d js rs each.1)

neither : (s : Option SeatFault) → s ≢ Some fault.Full → s ≢ Some fault.NoMemory → s ≡ None
neither None full memory = refl
neither (Some fault.Full) full memory = absurd (full refl)
neither (Some fault.NoMemory) full memory = absurd (memory refl)

module _ (d : SetupData) (log : TableId) (count : ℕ) (lines : List Line) (records : List (List ℕ)) (before ran met : List Lane) (given : List (List Entry)) (l : Lane) where
  -- what is known once all lanes ran and all seats met
  pub record Facts : Type 0 where
    pub ready : AreAtRest d log count before
    pub fit : IsFitSegment (length before) lines
    pub room : place_of d before + commands_in lines ≤ MAX_PLACE
    pub have_run : HaveRun d (asked_in lines records) before ran given
    pub memory : All (λ (lane : Lane). HadMemory lane.stop) ran
    pub have_met : HaveMet d ran met

  abbrev asked : List Numbered
  asked = asked_in lines records

  -- the state on which the log follows
  abbrev base : State
  base = first_of d before

  abbrev pen_before : ℕ → PenValue
  pen_before k = (get_or before k l).seat.pen

  abbrev pen_ran : ℕ → PenValue
  pen_ran k = (get_or ran k l).seat.pen

  abbrev trail_at : ℕ → List Entry
  trail_at k = get_or given k []

  abbrev jobs_at : ℕ → List Job
  jobs_at k = (get_or ran k l).jobs

  abbrev stop_at : ℕ → Option SeatFault
  stop_at k = (get_or ran k l).stop

  module _ (f : Facts) where
    pub met_count : length met ≡ length before
    met_count = f.have_met.0 ∙ f.have_run.count

    lane_before : (k : ℕ) → k < length before → (pen_before k).lane ≡ k
    lane_before k lt = lane_at before k l f.ready.order lt

    ready_at : (k : ℕ) → k < length before → IsAtRest d log count base (front_of before) (get_or before k l)
    ready_at k lt = f.ready.each k l lt

    had_memory : (k : ℕ) → k < length before → HadMemory (stop_at k)
    had_memory k lt = f.memory k l (omega (arith, f.have_run.count))

    lane_ran : (k : ℕ) → k < length before → RanLane d base (asked_of_lane k asked) (pen_before k) (pen_ran k) (trail_at k) (jobs_at k) (stop_at k)
    lane_ran k lt =
        let h = f.have_run.each k l lt in
        subst (λ (x : State × ℕ). RanLane d x.0 (asked_of_lane x.1 asked) (pen_before k) (pen_ran k) (trail_at k) (jobs_at k) (stop_at k))
        (λ i. ((ready_at k lt).seat.1 i, lane_before k lt i)) (h.ran (had_memory k lt))

    lane_met : (k : ℕ) → k < length before → HasMet d (front_of met) (state_of d met) (get_or ran k l) (get_or met k l)
    lane_met k lt = f.have_met.1 k l (omega (arith, f.have_run.count))

    seat_met : (k : ℕ) → k < length before → IsSeatFrom d base (get_or met k l).seat
    seat_met k lt =
        let read = (lane_met k lt).read.seat in
        (read.0, read.1 ∙ (f.have_run.each k l lt).seat.1 ∙ (ready_at k lt).seat.1)

    -- the common front is what each lane knew and rows of other lanes
    begins : (k : ℕ) (lt : k < length before) → front_of met ≡ (pen_ran k).front ++ (lane_met k lt).read.reads.0
    begins k lt = let m = lane_met k lt in sym m.front_is ∙ ap (λ (p : PenValue). p.front) m.read.reads.1

    stands : (k : ℕ) → k < length before → StandsIn (front_of met) (pen_ran k)
    stands k lt =
        let m = lane_met k lt in
        let pen = pen_ran k in
        let own : pen.own ≡ rows_of pen.lane (front_of met) =
        ap (λ (p : PenValue). p.own) (sym m.read.reads.1) ∙ m.settled.pen.own ∙ (λ i. rows_of (ap (λ (p : PenValue). p.lane) m.read.reads.1 i) (m.front_is i)) in
        record {
          front = (m.read.reads.0, begins k lt);
          own = own;
          reached = own ∙ ap (rows_of pen.lane) (begins k lt) ∙ rows_of-append pen.lane pen.front m.read.reads.0
              ∙ ap (λ r. rows_of pen.lane pen.front ++ r) m.read.reads.2 ∙ append-nil (rows_of pen.lane pen.front);
        }

    grown : (more : List Row) × (front_of met ≡ front_of before ++ more)
    grown =
        let r = lane_ran 0 f.ready.some in
        let m = lane_met 0 f.ready.some in (
          r.ran.front.0 ++ m.read.reads.0,
          begins 0 f.ready.some ∙ ap (λ x. x ++ m.read.reads.0) r.ran.front.1 ∙ append_assoc (pen_before 0).front r.ran.front.0 m.read.reads.0
              ∙ ap (λ x. x ++ (r.ran.front.0 ++ m.read.reads.0)) (ready_at 0 f.ready.some).front_is,
        )

    lanes_below : All (λ row. lane_of row < length before) (front_of met)
    lanes_below =
        let m = lane_met 0 f.ready.some in
        let lanes : (get_or met 0 l).seat.pen.lanes ≡ length before =
        ap (λ (p : PenValue). p.lanes) m.read.reads.1 ∙ (f.have_run.each 0 l f.ready.some).same.1 ∙ (ready_at 0 f.ready.some).among ∙ sym f.ready.all in
        All-weaker (IsCommandBelow (length before)) (λ row. lane_of row < length before) (λ row h. h.1) (front_of met)
        (subst (λ (x : ℕ × List Row). All (IsCommandBelow x.0) x.1) (λ i. (lanes i, m.front_is i)) m.settled.pen.commands)

    clean : IsCleanFrom d base (front_of met)
    clean = clean_from_lanes d base (length before) (front_of met) (λ k. (get_or met k l).seat.pen) lanes_below
        (λ k lt. ap (λ (p : PenValue). p.lane) (lane_met k lt).read.reads.1 ∙ (f.have_run.each k l lt).same.2 ∙ lane_before k lt)
        (λ k lt.
        let m = lane_met k lt in
        let own = m.settled.pen.own ∙ ap (rows_of (get_or met k l).seat.pen.lane) m.front_is in
        record { front = ([], sym (append-nil (get_or met k l).seat.pen.front ∙ m.front_is)); own = own; reached = m.settled.pen.own })
        (λ k lt.
        let pen = (get_or met k l).seat.pen in
        let seat = seat_met k lt in
        subst (λ (s : State). IsLaneCleanFrom d s pen.lane pen.front) seat.1 seat.0.clean)

    all_ran : AllRan d base (length before) asked pen_before pen_ran trail_at jobs_at stop_at (front_of before) grown.0
    all_ran = record {
      ran = lane_ran;
      at_start = λ k lt. ((ready_at k lt).front_is, lane_before k lt);
      met = λ k lt. subst (λ (rows : List Row). StandsIn rows (pen_ran k)) grown.1 (stands k lt);
      rows = subst (All (λ row. lane_of row < length before)) (ap (drop (length (front_of before))) grown.1 ∙ drop_at (front_of before) grown.0 (length (front_of before)) refl)
          (All-drop (λ row. lane_of row < length before) (length (front_of before)) (front_of met) lanes_below);
      under = asked_all (λ n. n.lane < length before) lines records
          (All-weaker (IsOnLane (length before)) (λ line. (part : ℕ × Work) → line.lane < length before) (λ line on part. on.below) lines f.fit.on_lane);
    }

    replay_met : IsReplayFrom d base (front_of met) (state_of d met)
    replay_met =
        let m = lane_met 0 f.ready.some in
        let seat = seat_met 0 f.ready.some in
        subst (λ (x : State × List Row × State). IsReplayFrom d x.0 x.1 x.2) (λ i. (seat.1 i, m.front_is i, m.state_is i)) (whole_applied d (get_or met 0 l).seat seat.0 m.settled.whole)

    start_front : take (length (front_of before)) (front_of met) ≡ front_of before
    start_front = ap (take (length (front_of before))) grown.1 ∙ take_at (front_of before) grown.0 (length (front_of before)) refl

    -- the state of the front that all lanes knew
    pub first : State
    first = (IsReplay-take d (front_of met) (length (front_of before)) base (state_of d met) replay_met).0

    pub replay_first : IsReplayFrom d base (front_of before) first
    unfolding first
    replay_first = subst (λ (rows : List Row). IsReplayFrom d base rows first) start_front (IsReplay-take d (front_of met) (length (front_of before)) base (state_of d met) replay_met).1

    -- no lane stopped
    no_stop : (k : ℕ) → k < length before → stop_at k ≡ None
    no_stop k lt =
        neither (stop_at k)
        (never_full d base (length before) asked pen_before pen_ran trail_at jobs_at stop_at (front_of before) grown.0 all_ran (omega (arith, f.room, commands_asked lines records)) k lt)
        (had_memory k lt)

    pub room_taken : place_past base.place (length (front_of met)) ≤ place_of d before + commands_in lines
    room_taken =
        let few = grown_few d base (length before) asked pen_before pen_ran trail_at jobs_at stop_at (front_of before) grown.0 all_ran in
        let total = ap length grown.1 ∙ length-append (front_of before) grown.0 in
        omega (arith, few, total, commands_asked lines records, place_past_is base.place (length (front_of met)), place_past_is base.place (length (front_of before)))

    -- ---- the trails and the jobs that are woven

    abbrev marks : List (List EntryIndex)
    marks = marks_by_lane met

    abbrev jobs : List (List Job)
    jobs = jobs_by_lane met

    marks_count : length marks ≡ length before
    marks_count = length-map met (λ (x : Lane). x.trail.marks) ∙ met_count

    jobs_count : length jobs ≡ length before
    jobs_count = length-map met (λ (x : Lane). x.jobs) ∙ met_count

    marks_are : (k : ℕ) (e : List EntryIndex) → k < length before → get_or marks k e ≡ (get_or ran k l).trail.marks
    marks_are k e lt = get_or-map (λ (x : Lane). x.trail.marks) met k l e (omega (arith, met_count)) ∙ ap (λ (t : Trail). t.marks) (lane_met k lt).read.trail

    -- the trail of each lane is that of what it has given
    told_at : (k : ℕ) → k < length before → IsTrailOf (trail_at k) (get_or ran k l).trail
    told_at k lt = (f.have_run.each k l lt).told (had_memory k lt)

    jobs_is : (k : ℕ) (e : List Job) → k < length before → get_or jobs k e ≡ jobs_at k
    jobs_is k e lt = get_or-map (λ (x : Lane). x.jobs) met k l e (omega (arith, met_count)) ∙ (lane_met k lt).read.jobs_are

    trail_lane : (k : ℕ) → k < length before → All (λ (e : Entry). e.lane ≡ k) (trail_at k)
    trail_lane k lt =
        All-weaker (λ (e : Entry). e.lane ≡ (pen_before k).lane) (λ (e : Entry). e.lane ≡ k) (λ e same. same ∙ lane_before k lt) (trail_at k)
        (all_unmap (λ (a : seat.Answer). a.lane ≡ (pen_before k).lane) seat_answer (trail_at k) (lane_ran k lt).ran.lane)

    trail_order : (k : ℕ) → k < length before → IsInOrder (trail_at k)
    trail_order k lt =
        let r = lane_ran k lt in
        trail_in_order k (trail_at k) (asked_of_lane k asked) r.left r.ran.rising (trail_lane k lt) r.deeds_are (lane_rises k lines records f.fit.numbers)

    pub marks_lanes : AreOfTheirLanes (λ (m : EntryIndex). m.lane) marks
    marks_lanes k e lt =
        let at : k < length before = omega (arith, marks_count) in
        let t = (get_or ran k l).trail in
        subst (All (λ (m : EntryIndex). m.lane ≡ k)) (sym (marks_are k e at))
        (lanes_of_marks (IsMarkOf t) (λ m e is. is.lane) (λ n. n ≡ k) t.marks (trail_at k) (told_at k at).marks (trail_lane k at))

    pub marks_order : All AreMarksInOrder marks
    marks_order k e lt =
        let at : k < length before = omega (arith, marks_count) in
        let t = (get_or ran k l).trail in
        subst AreMarksInOrder (sym (marks_are k e at)) (marks_in_order (IsMarkOf t) (moment_is t) t.marks (trail_at k) (told_at k at).marks (trail_order k at))

    pub jobs_lanes : AreOfTheirLanes (λ (j : Job). j.lane) jobs
    jobs_lanes k e lt =
        let at : k < length before = omega (arith, jobs_count) in
        subst (All (λ (j : Job). j.lane ≡ k)) (sym (jobs_is k e at)) (jobs_have (λ m. m.1 ≡ k) (trail_at k) (jobs_at k) (trail_lane k at) (lane_ran k at).jobs_are.asked)

    pub jobs_order : All AreJobsInOrder jobs
    jobs_order k e lt =
        let at : k < length before = omega (arith, jobs_count) in
        subst AreJobsInOrder (sym (jobs_is k e at)) (jobs_in_order (trail_at k) (jobs_at k) (trail_order k at) (lane_ran k at).jobs_are.asked)

    -- a job's place lies in the front of its lane
    jobs_reach : (k : ℕ) → k < length before → All (λ (j : Job). j.place ≤ place_past base.place (length (pen_ran k).front)) (jobs_at k)
    jobs_reach k lt =
        let r = lane_ran k lt in
        let end = place_past base.place (length (pen_ran k).front) in
        jobs_have (λ m. m.0 ≤ end) (trail_at k) (jobs_at k)
        (All-weaker (λ (e : Entry). seat.IsAnswerFrom d base (pen_ran k).front (seat_answer e)) (λ (e : Entry). e.place ≤ end) (λ e a. a.reached) (trail_at k)
        (all_unmap (seat.IsAnswerFrom d base (pen_ran k).front) seat_answer (trail_at k) r.ran.steps)) r.jobs_are.asked

    -- each job's version is that of its place in the whole log
    jobs_of_log : (k : ℕ) → k < length before → All (IsOfLog d base (front_of met)) (jobs_at k)
    jobs_of_log k lt i j in' =
        let job = get_or (jobs_at k) i j in
        let rows = rows_past base.place job.place in
        let same : take rows (front_of met) ≡ take rows (pen_ran k).front =
        ap (take rows) (begins k lt) ∙ rows_stand base.place job.place (pen_ran k).front (lane_met k lt).read.reads.0 (jobs_reach k lt i j in') in
        subst (λ (rows : List Row). IsReplayFrom d base rows (arc_value job.version).state) (sym same) ((lane_ran k lt).jobs_are.versions i j in')

    -- ---- the entries whose marks are woven

    -- the trails as they are taken out
    abbrev pub trails : List Trail
    trails = map unmarked met

    trails_are : (k : ℕ) → k < length before → trail_of trails k ≡ unmarked (get_or met k l)
    trails_are k lt = get_or-map unmarked met k l none_left (omega (arith, met_count))

    -- each has the lines and the sends of its lane's entries, and nothing more
    pub trails_told : (k : ℕ) → k < length before → trail_of trails k ≡ unmarked_trail (trail_at k)
    trails_told k lt =
        let read : (get_or met k l).trail ≡ (get_or ran k l).trail = (lane_met k lt).read.trail in
        let told = told_at k lt in
        trails_are k lt ∙ (λ i. record { text = (ap (λ (t : Trail). t.text) read ∙ told.text) i; sends = (ap (λ (t : Trail). t.sends) read ∙ told.sends) i; marks = [] })

    -- the marks of each lane are those of its entries in the trails, too
    told_in : (k : ℕ) → k < length before → AllZip (IsMarkOf (trail_of trails k)) (get_or ran k l).trail.marks (trail_at k)
    told_in k lt =
        let at = trails_are k lt in
        let read = (lane_met k lt).read.trail in
        AllZip-weaker (IsMarkOf (get_or ran k l).trail) (IsMarkOf (trail_of trails k))
        (mark_in (get_or ran k l).trail (trail_of trails k) (ap (λ (t : Trail). t.text) at ∙ ap (λ (t : Trail). t.text) read) (ap (λ (t : Trail). t.sends) at ∙ ap (λ (t : Trail). t.sends) read))
        (get_or ran k l).trail.marks (trail_at k) (told_at k lt).marks

    module _ (woven_marks : List EntryIndex) (all : IsInterleaving (λ (m : EntryIndex). m.lane) marks woven_marks) where
      pub marks_under : All (λ (m : EntryIndex). m.lane < length before) woven_marks
      marks_under = subst (λ (n : ℕ). All (λ (m : EntryIndex). m.lane < n) woven_marks) marks_count all.lanes_are

      each_lane : (k : ℕ) → AllZip (IsMarkOf (trail_of trails k)) (filter (λ (m : EntryIndex). m.lane == k) woven_marks) (trail_at k)
      each_lane k = go (ltb k (length before)) refl
        where
          go : (b : Bool) → ltb k (length before) ≡ b → AllZip (IsMarkOf (trail_of trails k)) (filter (λ (m : EntryIndex). m.lane == k) woven_marks) (trail_at k)
          go true e =
              let lt = ltb-true k (length before) e in
              subst (λ (ms : List EntryIndex). AllZip (IsMarkOf (trail_of trails k)) ms (trail_at k)) (sym (all.each k [] (omega (arith, lt, marks_count)) ∙ marks_are k [] lt)) (told_in k lt)
          go false e =
              let le = ltb-false k (length before) e in
              subst (λ (x : List EntryIndex × List Entry). AllZip (IsMarkOf (trail_of trails k)) x.0 x.1)
              (λ i. (
                sym (filter_beyond (λ (m : EntryIndex). m.lane) (length before) k woven_marks (λ lt. absurd (omega (arith, lt, le))) marks_under) i,
                sym
                    (get_or_past given k [] (omega (arith, le, f.have_run.given_count))) i,
              )) tt

      pub lifted : Lifted (λ (m : EntryIndex). m.lane) (λ (e : Entry). e.lane) (λ k. IsMarkOf (trail_of trails k)) (λ k m e is. sym is.lane) trail_at woven_marks
      lifted = lift (λ (m : EntryIndex). m.lane) (λ (e : Entry). e.lane) (λ k. IsMarkOf (trail_of trails k)) (λ k m e is. sym is.lane) woven_marks trail_at each_lane

    module _ (entries : List Entry) (woven_jobs : List Job) where
      -- what the weave gave
      pub record Wove : Type 0 where
        pub each_trail : (k : ℕ) → k < length before → of_lane k entries ≡ trail_at k
        pub under : All (λ (e : Entry). e.lane < length before) entries
        pub order : IsInOrder entries
        pub jobs_are : IsInterleaving (λ (j : Job). j.lane) jobs woven_jobs
        pub jobs_rise : AreJobsInOrder woven_jobs

      -- it is so of the entries of the woven marks
      pub wove : (woven_marks : List EntryIndex) → AreMarksOf trails woven_marks entries → ((k : ℕ) → of_lane k entries ≡ trail_at k) → All (λ (m : EntryIndex). m.lane < length before) woven_marks
          → AreMarksInOrder woven_marks → IsInterleaving (λ (j : Job). j.lane) jobs woven_jobs → AreJobsInOrder woven_jobs → Wove
      wove woven_marks are each lanes order of_jobs rise = record {
        each_trail = λ k lt. each k;
        under = lanes_of_entries (λ m e. IsMarkOf (trail_of trails m.lane) m e) (λ m e is. is.lane) (λ n. n < length before) woven_marks entries are lanes;
        order = entries_in_order (λ m e. IsMarkOf (trail_of trails m.lane) m e) (λ m e is. moment_is (trail_of trails m.lane) m e is) woven_marks entries are order;
        jobs_are = of_jobs;
        jobs_rise = rise;
      }

      module _ (w : Wove) where
        jobs_under : All (λ (j : Job). j.lane < length before) woven_jobs
        jobs_under = subst (λ (n : ℕ). All (λ (j : Job). j.lane < n) woven_jobs) jobs_count w.jobs_are.lanes_are

        each_jobs : (k : ℕ) → k < length before → filter (λ (j : Job). j.lane == k) woven_jobs ≡ jobs_at k
        each_jobs k lt = w.jobs_are.each k [] (omega (arith, jobs_count)) ∙ jobs_is k [] lt

        -- what holds of each lane's jobs holds of all
        of_all_jobs : (P : Job → Type 0) → ((k : ℕ) → k < length before → All P (jobs_at k)) → All P woven_jobs
        of_all_jobs P each = by_lane P (λ (j : Job). j.lane) (length before) woven_jobs jobs_under (λ k lt. subst (All P) (sym (each_jobs k lt)) (each k lt))

        asked_once : (k : ℕ) → k < length before → map asked_of (of_lane k entries) ≡ asked_of_lane k asked
        asked_once k lt =
            let r = lane_ran k lt in
            ap (map asked_of) (w.each_trail k lt) ∙ sym (r.deeds_are ∙ ap (λ x. map asked_of (trail_at k) ++ x) (r.whole (no_stop k lt)) ∙ append-nil (map asked_of (trail_at k)))

        woven_is_legal : IsLegal d first entries (state_of d met)
        woven_is_legal =
            woven_legal d base (length before) asked pen_before pen_ran trail_at jobs_at stop_at (front_of before) grown.0 all_ran entries w.under w.each_trail first (state_of d met)
            (subst (IsCleanFrom d base) grown.1 clean) replay_first (subst (λ (rows : List Row). IsReplayFrom d base rows (state_of d met)) grown.1 replay_met) w.order

        jobs_told : map job_asked woven_jobs ≡ flat_map jobs_of entries
        jobs_told = jobs_woven (length before) trail_at entries woven_jobs w.order w.under w.each_trail w.jobs_rise jobs_under
            (λ k lt. ap (map job_asked) (each_jobs k lt) ∙ (lane_ran k lt).jobs_are.asked)

        pub few_jobs : length woven_jobs < 2 ^ 32
        few_jobs = jobs_few d first (state_of d met) (length before) lines records entries woven_jobs f.fit.few woven_is_legal all_ran.under w.under asked_once jobs_told

        -- the jobs are those that the entries leave, each with its version
        pub jobs_left : AreJobsOf d base entries (front_of met) woven_jobs
        jobs_left = record {
          asked = jobs_told;
          versions = of_all_jobs (IsOfLog d base (front_of met)) jobs_of_log;
          sound = of_all_jobs (λ (j : Job). IsSoundVersion d (arc_value j.version)) (λ k lt. (lane_ran k lt).jobs_are.sound);
          calls = of_all_jobs (λ (j : Job). BelongsTo (arc_value j.version).state j.call) (λ k lt. (lane_ran k lt).jobs_are.calls);
        }

        -- the front is the one before and the rows that the entries published
        pub front_told : front_of met ≡ front_of before ++ rows_in entries
        front_told =
            grown.1 ∙ ap (λ (rows : List Row). front_of before ++ rows)
            (rows_are d base (length before) asked pen_before pen_ran trail_at jobs_at stop_at (front_of before) grown.0 all_ran entries w.under w.each_trail w.order)

        -- each job can be done
        pub jobs_can_run : All (CanRun d) woven_jobs
        jobs_can_run = of_all_jobs (CanRun d) (λ k lt i j in'. let are = (lane_ran k lt).jobs_are in (are.sound i j in', are.calls i j in'))

        pub woven_made : (replies : List Reply) → AllZip (IsReplyTo d) woven_jobs replies
            → IsWoven d (length before) asked first (state_of d met) entries (jobs_seen woven_jobs replies)
        woven_made replies replied =
            let start = length (front_of before) in
            let right = subst (λ (rows : List Row). All (λ e. seat.IsAnswerFrom d base rows (seat_answer e)) entries) (sym grown.1)
            (all_right d base (length before) asked pen_before pen_ran trail_at jobs_at stop_at (front_of before) grown.0 all_ran entries w.under w.each_trail) in
            record {
              legal = woven_is_legal;
              once = λ k lt. filter_asked k entries ∙ asked_once k lt;
              lanes_are = w.under;
              order = w.order;
              jobs_are =
                  are_jobs d base (front_of met) clean entries woven_jobs replies (place_past base.place start) first (state_of d met)
                  (omega (arith, place_past_is base.place start))
                  (omega (arith, place_past_is base.place start, place_past_is base.place (length (front_of met)), ap length grown.1, length-append (front_of before) grown.0))
                  (subst (λ (rows : List Row). IsReplayFrom d base rows first) (sym (ap (λ n. take n (front_of met)) (rows_past_place base.place start) ∙ start_front)) replay_first)
                  woven_is_legal right jobs_told (replies_told d woven_jobs replies replied) (of_all_jobs (IsOfLog d base (front_of met)) jobs_of_log);
            }

    -- ---- the lanes once the trails and jobs were taken out

    module _ (after : List Lane) (seats : map (λ (x : Lane). x.seat) after ≡ map (λ (x : Lane). x.seat) met) (stops : map (λ (x : Lane). x.stop) after ≡ map (λ (x : Lane). x.stop) met) where
      after_count : length after ≡ length before
      after_count = sym (length-map after (λ (x : Lane). x.seat)) ∙ ap length seats ∙ length-map met (λ (x : Lane). x.seat) ∙ met_count

      seat_after : (k : ℕ) → k < length before → (get_or after k l).seat ≡ (get_or met k l).seat
      seat_after k lt = sym (seat_at after k l (omega (arith, after_count))) ∙ ap (λ xs. get_or xs k l.seat) seats ∙ seat_at met k l (omega (arith, met_count))

      stop_after : (k : ℕ) → k < length before → (get_or after k l).stop ≡ None
      stop_after k lt =
          sym (get_or-map (λ (x : Lane). x.stop) after k l l.stop (omega (arith, after_count)))
          ∙ ap (λ xs. get_or xs k l.stop) stops ∙ get_or-map (λ (x : Lane). x.stop) met k l l.stop (omega (arith, met_count))
          ∙ (lane_met k lt).read.stop ∙ no_stop k lt

      pub front_after : front_of after ≡ front_of met
      front_after =
          front_of_first after l (omega (arith, after_count, f.ready.some)) ∙ ap (λ (s : SeatValue). s.pen.front) (seat_after 0 f.ready.some) ∙ (lane_met 0 f.ready.some).front_is

      pub base_after : first_of d after ≡ base
      base_after =
          first_of_first d after l (omega (arith, after_count, f.ready.some)) ∙ ap (λ (s : SeatValue). s.base) (seat_after 0 f.ready.some) ∙ (seat_met 0 f.ready.some).1

      pub place_after : place_of d after ≡ place_past base.place (length (front_of met))
      place_after = λ i. place_past (base_after i).place (length (front_after i))

      -- and what it keeps is what it kept, and what its lane has given
      pub kept_after : map (λ (x : Lane). x.entries) after ≡ map (λ (x : Lane). x.entries) met
          → (k : ℕ) → k < length before → kept_at after k ≡ kept_with (kept_at before k) (trail_at k)
      kept_after same k lt =
          ap (λ (xs : List (Option (List Entry))). get_or xs k None) same ∙ kept_here met k (omega (arith, met_count))
          ∙ (lane_met k lt).read.kept ∙ (f.have_run.each k l lt).kept (had_memory k lt)
          ∙ ap (λ (kept : Option (List Entry)). kept_with kept (trail_at k)) (sym (kept_here before k lt))
        where
          kept_here : (xs : List Lane) (k : ℕ) → k < length xs → kept_at xs k ≡ (get_or xs k l).entries
          kept_here xs k lt = get_or-map (λ (x : Lane). x.entries) xs k l None lt

      pub state_after : state_of d after ≡ state_of d met
      state_after =
          state_of_first d after l (omega (arith, after_count, f.ready.some)) ∙ ap (λ (s : SeatValue). s.state) (seat_after 0 f.ready.some) ∙ (lane_met 0 f.ready.some).state_is

      met_order : AreOfLanes 0 (map (λ (x : Lane). x.seat) met)
      met_order = are_of_lanes 0 (map (λ (x : Lane). x.seat) met) (λ k s lt.
          let at : k < length before = omega (arith, lt, met_count, length-map met (λ (x : Lane). x.seat)) in
          let same : (get_or (map (λ (x : Lane). x.seat) met) k s).pen.lane ≡ k =
          ap (λ (v : SeatValue). v.pen.lane) (get_or-map (λ (x : Lane). x.seat) met k l s (omega (arith, met_count)))
          ∙ ap (λ (p : PenValue). p.lane) (lane_met k at).read.reads.1 ∙ (f.have_run.each k l at).same.2 ∙ lane_before k at in
          omega (arith, same))

      one_ready : All IsEmptied after → (k : ℕ) → k < length before → IsReady d log count (first_of d after) (front_of after) (get_or after k l)
      one_ready emptied k lt =
          let m = lane_met k lt in
          let seat = seat_after k lt in
          let r = ready_at k lt in
          let same = (f.have_run.each k l lt).same in
          let none = emptied k l (omega (arith, after_count)) in
          record {
            own = ap (λ (s : SeatValue). s.pen.log) seat ∙ ap (λ (p : PenValue). p.log) m.read.reads.1 ∙ same.0 ∙ r.own;
            among = ap (λ (s : SeatValue). s.pen.lanes) seat ∙ ap (λ (p : PenValue). p.lanes) m.read.reads.1 ∙ same.1 ∙ r.among;
            pen = subst (λ (s : SeatValue). IsPen s.pen) (sym seat) m.settled.pen;
            seat = subst (λ (x : State × SeatValue). IsSeatFrom d x.0 x.1) (λ i. (sym base_after i, sym seat i)) (seat_met k lt);
            whole = ap (λ (s : SeatValue). s.pending) seat ∙ m.settled.whole;
            front_is = ap (λ (s : SeatValue). s.pen.front) seat ∙ m.front_is ∙ sym front_after;
            trail = none.0;
            jobs_are = none.1;
            stop = stop_after k lt;
          }

      pub ready_again : All IsEmptied after → AreReady d log count after
      ready_again emptied = record {
        some = omega (arith, after_count, f.ready.some);
        all = after_count ∙ f.ready.all;
        order = subst (AreOfLanes 0) (sym seats) met_order;
        each = λ k x lt. subst (IsReady d log count (first_of d after) (front_of after)) (get_or_same after k l x lt) (one_ready emptied k (omega (arith, after_count)));
      }

-- the seats of lanes that ran are still those of their hub
pub still_of_hub : (d : SetupData) (log : TableId) (count : ℕ) (asked : List Numbered) (before ran : List Lane) (given : List (List Entry)) → AreAtRest d log count before
    → HaveRun d asked before ran given → AreOfHub d log ran
still_of_hub d log count asked before ran given ready have = (
  first_of d before,
  λ k l lt.
      let at : k < length before = omega (arith, have.count) in
      let h = have.each k l at in
      let rest = ready.each k l at in
      (h.same.0 ∙ rest.own, (h.seat.0, h.seat.1 ∙ rest.seat.1)),
)

-- and stand in the order of their lanes
pub still_in_order : (d : SetupData) (asked : List Numbered) (before ran : List Lane) (given : List (List Entry))
    → AreOfLanes 0 (map (λ (x : Lane). x.seat) before) → HaveRun d asked before ran given → AreOfLanes 0 (map (λ (x : Lane). x.seat) ran)
still_in_order d asked before ran given order have = are_of_lanes 0 (map (λ (x : Lane). x.seat) ran) (λ k s lt.
    let l : Lane = record { seat = s; trail = none_left; jobs = []; stop = None; entries = None } in
    let size = length-map ran (λ (x : Lane). x.seat) in
    let at : k < length before = omega (arith, lt, have.count, size) in
    let same : (get_or (map (λ (x : Lane). x.seat) ran) k s).pen.lane ≡ k =
    ap (λ (v : SeatValue). v.pen.lane) (get_or-map (λ (x : Lane). x.seat) ran k l s (omega (arith, lt, size))) ∙ (have.each k l at).same.2 ∙ lane_at before k l order at in
    omega (arith, same))

-- what is known where all have met
pub known : (d : SetupData) (log : TableId) (count : ℕ) (lines : List Line) (records : List (List ℕ)) (before ran met : List Lane) (given : List (List Entry)) (ready : AreAtRest d log count before)
    → IsFitSegment (length before) lines → place_of d before + commands_in lines ≤ MAX_PLACE
    → HaveRun d (asked_in lines records) before ran given → All (λ (lane : Lane). HadMemory lane.stop) ran → HaveMet d ran met
    → Facts d log count lines records before ran met given (some_lane before ready.some)
known d log count lines records before ran met given ready fit room have_run memory have_met =
    record { ready = ready; fit = fit; room = room; have_run = have_run; memory = memory; have_met = have_met }

-- ---- lanes that keep no row

-- ready lanes are at rest
pub rest_of_ready : (d : SetupData) (log : TableId) (count : ℕ) (lanes : List Lane) → AreReady d log count lanes → AreAtRest d log count lanes
rest_of_ready d log count lanes r = record {
  some = r.some;
  all = r.all;
  order = r.order;
  each = λ k x lt.
      let one = r.each k x lt in
      record {
        own = one.own;
        among = one.among;
        seat = one.seat;
        front_is = one.front_is;
        trail = one.trail;
        jobs_are = one.jobs_are;
        stop = one.stop;
      };
}

-- and their state is that of their front
pub ready_state : (d : SetupData) (log : TableId) (count : ℕ) (lanes : List Lane) (s : State) → AreReady d log count lanes → IsReplayFrom d (first_of d lanes) (front_of lanes) s → s ≡ state_of d lanes
ready_state d log count [] s r replay = let some = r.some in absurd (omega arith)
ready_state d log count (lane ∷ lanes) s r replay =
    let one : IsReady d log count lane.seat.base lane.seat.pen.front lane = r.each 0 lane (omega arith) in
    IsReplayFrom-one d lane.seat.base lane.seat.pen.front s lane.seat.state replay (whole_applied d lane.seat one.seat.0 one.whole)

pub woven_ready : (d : SetupData) (log : TableId) (count : ℕ) (lanes : List Lane) (asked : List Numbered) (after : State) (entries : List Entry) (jobs : List JobSeen) → AreReady d log count lanes
    → ((before : State) × IsReplayFrom d (first_of d lanes) (front_of lanes) before × IsWoven d (length lanes) asked before after entries jobs) → IsWoven d (length lanes) asked (state_of d lanes) after entries jobs
woven_ready d log count lanes asked after entries jobs ready w =
    subst (λ (s : State). IsWoven d (length lanes) asked s after entries jobs) (ready_state d log count lanes w.0 ready w.1) w.2
