-- From the answers of each seat to one legal history.
use Rattle.std.proofs.Common.{◌≡◌, ◌==◌, ℕ, ◌+◌, ◌<◌, ◌≤◌, cond, List, [], ◌∷◌, ◌++◌, length, take, drop, get_or, refl, sym, ap, ◌∙◌, subst, arith, length-append}
use Rattle.std.specs.Prelude.{All, filter, Option, Some, None, is_some, ◌&&◌}
use Rattle.std.specs.Option.{option_map}
use Rattle.std.specs.List.{count_by, cons_option, enumerate_from}
use Rattle.std.proofs.lemmas.Bool.{ne_eqb, eq-eqb}
use Rattle.std.proofs.lemmas.List.{take_all, take_at, drop_at, take-append-drop, length-take-le}
use Rattle.std.proofs.lemmas.List.Elements.{All-head, All-tail, All-nil, All-cons}
use Rattle.spin_word.specs.declared.row.Row.{Row}
use Rattle.spin_word.specs.Rows.{lane_of}
use Rattle.spin_log.specs.Rows.{rows_of}
use Rattle.spin_log.specs.Pens.{PenValue, StandsIn}
use Rattle.spin_table.specs.Setups.{SetupData}
use Rattle.spin_table.specs.States.{State, start_of}
use Rattle.spin_seat.specs.Replay.{IsReplayFrom, IsReplay, IsCleanFrom, IsClean}
use Rattle.spin_seat.specs.Places.{place_past, rows_past}
use Rattle.spin_seat.specs.Seats.{SeatValue}
use Rattle.spin_seat.specs.Answers.{Answer, row_published, place_before, LeadsTo, IsAnswerFrom, AreLegalAnswers}
use Rattle.spin_seat.specs.Runs.{gained_past, published, Ran, RanFrom, new_of}
use Rattle.spin_seat.specs.Weaves.{IsWeave, AnswersAreLegalFrom}
use Rattle.spin_seat.proofs.RowReplays.{IsReplayFrom-one, IsReplay-take, clean_replays, clean_place_from}
use Rattle.spin_seat.proofs.PastPlaces.{place_past_is, rows_past_is, rows_past_place}
use Rattle.spin_seat.proofs.SeatInvariants.{none_added}
use Rattle.spin_seat.proofs.LaneCounts.{count-cons, sum_below-same, partition, by_lane}
use Rattle.spin_seat.proofs.SeatAnswers.{below, same_gain_past, answer_stands, before_place}
use Rattle.spin_seat.proofs.LegalAnswers.{is_accepted_at, IsTurn, walk}

count_step : (q place : ℕ) (o : Option Row) (rest : List (ℕ × Row))
    → count_by (λ x. x.0 == q) (cons_option (option_map (λ (row : Row). (place, row)) o) rest) ≡ cond {A = ℕ} (is_some o && (place == q)) 1 0 + count_by (λ x. x.0 == q) rest
count_step q place (Some row) rest = count-cons (λ (x : ℕ × Row). x.0 == q) (place, row) rest
count_step q place None rest = omega arith

-- the accepted commands of a place are counted by their places
count_published : (q : ℕ) (answers : List Answer) → count_by (is_accepted_at q) answers ≡ count_by (λ x. x.0 == q) (published answers)
count_published q [] = refl
count_published q (a ∷ answers) =
    let r = count_published q answers in
    let c = count-cons (is_accepted_at q) a answers in
    let s = count_step q a.place (row_published a.said) (published answers) in
    omega (arith, r, c, s)

-- the rows of a log by their places: none before the first, and one at each
count_before : (p q : ℕ) (rows : List Row) → q < p → count_by (λ x. x.0 == q) (enumerate_from p rows) ≡ 0
count_before p q [] lt = refl
count_before p q (row ∷ rows) lt =
    let r = count_before (p + 1) q rows (omega arith) in
    let c = count-cons (λ (x : ℕ × Row). x.0 == q) (p, row) (enumerate_from (p + 1) rows) in
    let e : cond {A = ℕ} (p == q) 1 0 ≡ 0 = ap (λ t. cond {A = ℕ} t 1 0) (ne_eqb p q (λ same. absurd (omega arith))) in
    omega (arith, r, c, e)

count_within : (p q : ℕ) (rows : List Row) → p ≤ q → q < p + length rows → count_by (λ x. x.0 == q) (enumerate_from p rows) ≡ 1
count_within p q [] le lt = absurd (omega arith)
count_within p q (row ∷ rows) le lt =
    let c = count-cons (λ (x : ℕ × Row). x.0 == q) (p, row) (enumerate_from (p + 1) rows) in
    let here : p ≡ q → count_by (λ x. x.0 == q) (enumerate_from p (row ∷ rows)) ≡ 1 = λ same.
    let e : cond {A = ℕ} (p == q) 1 0 ≡ 1 = ap (λ t. cond {A = ℕ} t 1 0) (eq-eqb p q same) in
    let z = count_before (p + 1) q rows (omega arith) in
    omega (arith, c, e, z) in
    let far : (p < q → count_by (λ x. x.0 == q) (enumerate_from (p + 1) rows) ≡ 1) → p < q → count_by (λ x. x.0 == q) (enumerate_from p (row ∷ rows)) ≡ 1 = λ more h.
    let e : cond {A = ℕ} (p == q) 1 0 ≡ 0 = ap (λ t. cond {A = ℕ} t 1 0) (ne_eqb p q (λ same. absurd (omega arith))) in
    let o = more h in
    omega (arith, c, e, o) in
    below p q le here (far (λ h. count_within (p + 1) q rows (omega arith) (omega arith)))

enumerated_lanes : (n p : ℕ) (rows : List Row) → All (λ row. lane_of row < n) rows → All (λ x. lane_of x.1 < n) (enumerate_from p rows)
enumerated_lanes n p [] all = All-nil (λ x. lane_of x.1 < n)
enumerated_lanes n p (row ∷ rows) all =
    All-cons (λ (x : ℕ × Row). lane_of x.1 < n) (p, row) (enumerate_from (p + 1) rows) (All-head (λ row. lane_of row < n) row rows all)
    (enumerated_lanes n (p + 1) rows (All-tail (λ row. lane_of row < n) row rows all))

-- an answer that is right in a clean log leads from one replay to the other, and has its place
turn_of : (d : SetupData) (first : State) (log : List Row) (at : ℕ → State) → ((p : ℕ) → IsReplayFrom d first (take (rows_past first.place p) log) (at p)) → IsCleanFrom d first log
    → (answer : Answer) → IsAnswerFrom d first log answer → IsTurn d (at (place_before answer)) answer (at answer.place)
turn_of d first log at replays clean answer a =
    let base = first.place in
    let early = rows_past base (place_before answer) in
    let late = rows_past base answer.place in
    let from : a.before ≡ at (place_before answer) = IsReplayFrom-one d first (take early log) a.before (at (place_before answer)) a.replay_before (replays (place_before answer)) in
    let to : a.after ≡ at answer.place = IsReplayFrom-one d first (take late log) a.after (at answer.place) a.replay_after (replays answer.place) in
    let place = clean_place_from d first (take late log) (drop late log) log (at answer.place) clean (sym (take-append-drop late log)) (replays answer.place) in
    let within : late ≤ length log = omega (arith, a.reached, rows_past_is base answer.place, place_past_is base (length log)) in
    let since : base ≤ answer.place = omega (arith, a.since, before_place answer) in (
      subst (λ (x : State × State). LeadsTo d x.0 answer.said x.1) (λ i. (from i, to i)) a.leads,
      omega (arith, place, length-take-le late log within, since, rows_past_is base answer.place),
    )

-- the accepted commands of a lane are the rows that the log has of it past the start
own_of : (d : SetupData) (first : State) (k : ℕ) (start more : List Row) (before after : PenValue) (answers : List Answer) → before.front ≡ start → before.lane ≡ k
    → RanFrom d first before answers after → StandsIn (start ++ more) after
    → published answers ≡ filter (λ x. lane_of x.1 == k) (enumerate_from (place_past first.place (length start) + 1) more)
own_of d first k start more before after answers front lane r s =
    let base = first.place in
    let log = start ++ more in
    let is : after.lane ≡ before.lane = r.same.2 in
    let none : rows_of before.lane s.front.0 ≡ [] = subst (λ n. rows_of n s.front.0 ≡ []) is (none_added after.lane after.front s.front.0 log s.front.1 (sym s.reached ∙ s.own)) in
    let longer : length before.front ≤ length after.front = omega (arith, ap length r.front.1, length-append before.front r.front.0) in
    let at_log : published answers ≡ gained_past base before.lane (length before.front) log =
    r.rows ∙ same_gain_past base before.lane (length before.front) after.front s.front.0 longer none ∙ ap (gained_past base before.lane (length before.front)) (sym s.front.1) in
    let here : gained_past base before.lane (length before.front) log ≡ gained_past base k (length start) log = λ i. gained_past base (lane i) (length (front i)) log in
    at_log ∙ here ∙ ap (λ rows. filter (λ x. lane_of x.1 == k) (enumerate_from (place_past base (length start) + 1) rows)) (drop_at start more (length start) refl)

pub weaves_are_legal_from : (d : SetupData) (first : State) (lanes : ℕ) (start more : List Row) (begun last : State)
    (before after : ℕ → PenValue) (trails : ℕ → List Answer) (woven : List Answer)
    → IsCleanFrom d first (start ++ more) → IsReplayFrom d first start begun → IsReplayFrom d first (start ++ more) last
    → All (λ row. lane_of row < lanes) more
    → ((k : ℕ) → k < lanes → (before k).front ≡ start)
    → ((k : ℕ) → k < lanes → (before k).lane ≡ k)
    → ((k : ℕ) → k < lanes → RanFrom d first (before k) (trails k) (after k))
    → ((k : ℕ) → k < lanes → StandsIn (start ++ more) (after k))
    → IsWeave lanes trails woven → AreLegalAnswers d begun woven last
weaves_are_legal_from d first lanes start more begun last before after trails woven clean replay_begun replay_last under fronts lane ran stand weave =
    subst (λ (x : State × State). AreLegalAnswers d x.0 woven x.1) (λ i. (sym from i, sym to i))
    (walk d at end woven begin long weave.order places turns
    (λ q lt le. count_at q ∙ count_within (begin + 1) q more (omega arith) (omega (arith, total, begin_is, end_is)))
    (λ q le. count_at q ∙ count_before (begin + 1) q more (omega arith)))
  where
    log : List Row
    log = start ++ more

    base : ℕ
    base = first.place

    begin : ℕ
    begin = place_past base (length start)

    end : ℕ
    end = place_past base (length log)

    begin_is : begin ≡ base + length start
    begin_is = place_past_is base (length start)

    end_is : end ≡ base + length log
    end_is = place_past_is base (length log)

    total : length log ≡ length start + length more
    total = length-append start more

    long : begin ≤ end
    long = omega (arith, total, begin_is, end_is)

    at : ℕ → State
    at p = (IsReplay-take d log (rows_past base p) first last replay_last).0

    replays : (p : ℕ) → IsReplayFrom d first (take (rows_past base p) log) (at p)
    replays p = (IsReplay-take d log (rows_past base p) first last replay_last).1

    at_rows : (n : ℕ) → IsReplayFrom d first (take n log) (at (place_past base n))
    at_rows n = subst (λ m. IsReplayFrom d first (take m log) (at (place_past base n))) (rows_past_place base n) (replays (place_past base n))

    from : begun ≡ at begin
    from = IsReplayFrom-one d first start begun (at begin) replay_begun (subst (λ rows. IsReplayFrom d first rows (at begin)) (take_at start more (length start) refl) (at_rows (length start)))

    to : last ≡ at end
    to = IsReplayFrom-one d first log last (at end) replay_last (subst (λ rows. IsReplayFrom d first rows (at end)) (take_all (length log) log (omega arith)) (at_rows (length log)))

    right : All (IsAnswerFrom d first log) woven
    right = by_lane (IsAnswerFrom d first log) (λ (a : Answer). a.lane) lanes woven weave.lanes_are (λ k lt.
        subst (All (IsAnswerFrom d first log)) (sym (weave.each k lt))
        (λ j d' in'. answer_stands d (after k).front log (get_or (trails k) j d') (stand k lt).front ((ran k lt).steps j d' in')))

    turns : All (λ a. IsTurn d (at (place_before a)) a (at a.place)) woven
    turns j d' in' = turn_of d first log at replays clean (get_or woven j d') (right j d' in')

    begun_after : All (λ (a : Answer). begin ≤ a.place) woven
    begun_after = by_lane (λ (a : Answer). begin ≤ a.place) (λ (a : Answer). a.lane) lanes woven weave.lanes_are (λ k lt.
        subst (All (λ (a : Answer). begin ≤ a.place)) (sym (weave.each k lt))
        (subst (λ (rows : List Row). All (λ (a : Answer). place_past base (length rows) ≤ a.place) (trails k)) (fronts k lt) (ran k lt).within))

    places : All (λ (a : Answer). (begin ≤ a.place) × (a.place ≤ end)) woven
    places j d' in' = (begun_after j d' in', (right j d' in').reached)

    count_at : (q : ℕ) → count_by (is_accepted_at q) woven ≡ count_by (λ x. x.0 == q) (enumerate_from (begin + 1) more)
    count_at q =
        let one = partition (is_accepted_at q) (λ (a : Answer). a.lane) lanes woven weave.lanes_are in
        let two = partition (λ (x : ℕ × Row). x.0 == q) (λ (x : ℕ × Row). lane_of x.1) lanes (enumerate_from (begin + 1) more) (enumerated_lanes lanes (begin + 1) more under) in
        let same = sum_below-same lanes (λ k. count_by (is_accepted_at q) (filter (λ (a : Answer). a.lane == k) woven))
        (λ k. count_by (λ x. x.0 == q) (filter (λ x. lane_of x.1 == k) (enumerate_from (begin + 1) more)))
        (λ k lt. ap (count_by (is_accepted_at q)) (weave.each k lt) ∙ count_published q (trails k)
        ∙ ap (count_by (λ x. x.0 == q)) (own_of d first k start more (before k) (after k) (trails k) (fronts k lt) (lane k lt) (ran k lt) (stand k lt))) in
        sym one ∙ same ∙ two

pub weaves_are_legal : (d : SetupData) (lanes : ℕ) (start more : List Row) (first last : State) (before after : ℕ → PenValue) (trails : ℕ → List Answer) (woven : List Answer)
    → IsClean d (start ++ more) → IsReplay d start first → IsReplay d (start ++ more) last
    → All (λ row. lane_of row < lanes) more
    → ((k : ℕ) → k < lanes → (before k).front ≡ start)
    → ((k : ℕ) → k < lanes → (before k).lane ≡ k)
    → ((k : ℕ) → k < lanes → Ran d (before k) (trails k) (after k))
    → ((k : ℕ) → k < lanes → StandsIn (start ++ more) (after k))
    → IsWeave lanes trails woven → AreLegalAnswers d first woven last
weaves_are_legal d = weaves_are_legal_from d (start_of d)

-- all that seats have answered since they were new is legal
pub answers_are_legal : (d : SetupData) (first : State) (seats : List SeatValue) (log : List Row) → SeatValue → IsCleanFrom d first log → All (λ row. lane_of row < length seats) log
    → ((k : ℕ) (s : SeatValue) → k < length seats → (get_or seats k s).pen.lane ≡ k) → All (λ (s : SeatValue). StandsIn log s.pen) seats → AnswersAreLegalFrom d first seats log
answers_are_legal d first seats log nobody clean rows lane stand trails woven have weave =
    let end = clean_replays d first log clean in (
      end.0,
      end.1,
      weaves_are_legal_from d first (length seats) [] log first end.0 (λ k. new_of (get_or seats k nobody).pen) (λ k. (get_or seats k nobody).pen) trails woven clean refl end.1 rows
          (λ k lt. refl) (λ k lt. lane k nobody lt) (λ k lt. have k nobody lt) (λ k lt. stand k nobody lt) weave,
    )
