-- A seat's answers, call by call.
use Rattle.std.proofs.Common.{◌≡◌, ◌==◌, ℕ, ◌+◌, ◌-◌, ◌<◌, ◌≤◌, Bool, true, false, cond, ltb, List, [], ◌∷◌, ◌++◌, map, length}
use Rattle.std.proofs.Common.{take, drop, get_or, refl, sym, ap, ◌∙◌, subst, arith, length-append, append_assoc, ⊎_elim}
use Rattle.std.specs.Prelude.{filter, not, Option, None, Some, IfSome, is_some}
use Rattle.std.specs.Option.{option_map}
use Rattle.std.specs.List.{AllAdjacentBelow, enumerate_from, cons_option}
use Rattle.std.proofs.lemmas.Bool.{false≢true, eq-eqb, ltb-true, ltb-false}
use Rattle.std.proofs.lemmas.List.{take_all, take_at, append-nil, map-append, drop_at, drop-append-le, take-append-le, get_or_append_left, get_or_push, length-drop, length_push}
use Rattle.std.proofs.lemmas.List.Elements.{All-nil, All-push, filter-append, filter_map-append}
use Rattle.spin_word.specs.declared.row.Row.{Row}
use Rattle.spin_word.specs.Rows.{lane_of}
use Rattle.spin_log.specs.Rows.{rows_of, IsPrefix}
use Rattle.spin_log.specs.Pens.{PenValue, IsSamePen, with_front, written, pinned_at_front}
use Rattle.spin_table.specs.Setups.{SetupData}
use Rattle.spin_table.specs.States.{State}
use Rattle.spin_seat.specs.Replay.{IsReplayFrom}
use Rattle.spin_seat.specs.Places.{place_past, rows_past}
use Rattle.spin_seat.specs.Answers.{Answer, row_published, is_accepted, place_before, IsAnswerFrom}
use Rattle.spin_seat.specs.Calls.{ReadsOn, ReadsToPin, AddsAtMostAPin, GivesFrom, pen_after}
use Rattle.spin_seat.specs.Runs.{gained, gained_past, row_placed, published, pins_past, Follows, RanFrom, GainsPinsPast}
use Rattle.spin_seat.proofs.PastPlaces.{place_past_is, rows_past_is}

-- cases on numbers
pub below : {T : Type 0} (p q : ℕ) → p ≤ q → (p ≡ q → T) → (p < q → T) → T
below {T} p q le same less = go (ltb p q) refl
  where
    go : (t : Bool) → ltb p q ≡ t → T
    go true e = less (ltb-true p q e)
    go false e = let g = ltb-false p q e in same (omega arith)

-- the place before an answer is at most its place
pub before_place : (answer : Answer) → place_before answer ≤ answer.place
before_place answer = go (is_accepted answer.said)
  where
    go : (b : Bool) → cond b (answer.place - 1) answer.place ≤ answer.place
    go true = omega arith
    go false = omega arith

-- an answer that is right in a front is right in each log that it begins
pub answer_stands : {first : State} (d : SetupData) (front log : List Row) (answer : Answer) → IsPrefix front log → IsAnswerFrom d first front answer → IsAnswerFrom d first log answer
answer_stands {first} d front log answer p a =
    let same : (n : ℕ) → n ≤ length front → take n front ≡ take n log = λ n h. sym (ap (take n) p.1 ∙ take-append-le n front p.0 h) in
    let reached : answer.place ≤ first.place + length front = omega (arith, a.reached, place_past_is first.place (length front)) in
    let longer : length front ≤ length log = omega (arith, ap length p.1, length-append front p.0) in
    let early : rows_past first.place (place_before answer) ≤ length front = omega (arith, reached, before_place answer, rows_past_is first.place (place_before answer)) in
    let late : rows_past first.place answer.place ≤ length front = omega (arith, reached, rows_past_is first.place answer.place) in
    record {
      before = a.before;
      after = a.after;
      since = a.since;
      reached = omega (arith, reached, longer, place_past_is first.place (length log));
      replay_before = subst (λ rows. IsReplayFrom d first rows a.before) (same (rows_past first.place (place_before answer)) early) a.replay_before;
      replay_after = subst (λ rows. IsReplayFrom d first rows a.after) (same (rows_past first.place answer.place) late) a.replay_after;
      leads = a.leads;
    }

-- rows by their places
pub enumerate-append : (p : ℕ) (xs ys : List Row) → enumerate_from p (xs ++ ys) ≡ enumerate_from p xs ++ enumerate_from (p + length xs) ys
enumerate-append p [] ys = ap (λ q. enumerate_from q ys) (omega arith)
enumerate-append p (x ∷ xs) ys = ap (λ l. (p, x) ∷ l) (enumerate-append (p + 1) xs ys ∙ ap (λ q. enumerate_from (p + 1) xs ++ enumerate_from q ys) (omega arith))

-- rows of other lanes add nothing
pub none_of : (k p : ℕ) (rows : List Row) → rows_of k rows ≡ [] → filter (λ x. lane_of x.1 == k) (enumerate_from p rows) ≡ []
none_of k p [] none = refl
none_of k p (row ∷ rows) none = go (lane_of row == k) none (λ (h : rows_of k rows ≡ []). none_of k (p + 1) rows h)
  where
    go : (b : Bool) → cond b (row ∷ rows_of k rows) (rows_of k rows) ≡ [] → (rows_of k rows ≡ [] → filter (λ x. lane_of x.1 == k) (enumerate_from (p + 1) rows) ≡ [])
        → cond b ((p, row) ∷ filter (λ x. lane_of x.1 == k) (enumerate_from (p + 1) rows)) (filter (λ x. lane_of x.1 == k) (enumerate_from (p + 1) rows)) ≡ []
    go true e rest = absurd (cc (e))
    go false e rest = rest e

-- what a front gains in two parts
gained_more : (first lane from : ℕ) (front more : List Row) → from ≤ length front
    → gained_past first lane from (front ++ more) ≡ gained_past first lane from front ++ gained_past first lane (length front) (front ++ more)
gained_more first lane from front more le =
    let begin = place_past first from + 1 in
    let past : drop from (front ++ more) ≡ drop from front ++ more = drop-append-le from front more le in
    let place : begin + length (drop from front) ≡ place_past first (length front) + 1 = omega (arith, length-drop from front, place_past_is first from, place_past_is first (length front)) in
    let rest : drop (length front) (front ++ more) ≡ more = drop_at front more (length front) refl in
    ap (λ rows. filter (λ x. lane_of x.1 == lane) (enumerate_from begin rows)) past
    ∙ ap (filter (λ x. lane_of x.1 == lane)) (enumerate-append begin (drop from front) more)
    ∙ filter-append (λ (x : ℕ × Row). lane_of x.1 == lane) (enumerate_from begin (drop from front)) (enumerate_from (begin + length (drop from front)) more)
    ∙ (λ i. gained_past first lane from front ++ filter (λ x. lane_of x.1 == lane) (enumerate_from (place i) (sym rest i)))

-- rows of other lanes that a front gains
gained_nothing : (first lane : ℕ) (front more : List Row) → rows_of lane more ≡ [] → gained_past first lane (length front) (front ++ more) ≡ []
gained_nothing first lane front more none =
    let begin = place_past first (length front) + 1 in
    ap (λ rows. filter (λ x. lane_of x.1 == lane) (enumerate_from begin rows)) (drop_at front more (length front) refl) ∙ none_of lane begin more none

-- such rows, and then one of the lane
gained_one : (first lane p : ℕ) (front more : List Row) (row : Row) → rows_of lane more ≡ [] → lane_of row ≡ lane
    → p ≡ place_past first (length front) + 1 + length more → gained_past first lane (length front) (front ++ (more ++ row ∷ [])) ≡ (p, row) ∷ []
gained_one first lane p front more row none own place =
    let begin = place_past first (length front) + 1 in
    ap (λ rows. filter (λ x. lane_of x.1 == lane) (enumerate_from begin rows)) (drop_at front (more ++ row ∷ []) (length front) refl)
    ∙ ap (filter (λ x. lane_of x.1 == lane)) (enumerate-append begin more (row ∷ []))
    ∙ filter-append (λ (x : ℕ × Row). lane_of x.1 == lane) (enumerate_from begin more) (enumerate_from (begin + length more) (row ∷ []))
    ∙ ap (λ l. l ++ filter (λ x. lane_of x.1 == lane) (enumerate_from (begin + length more) (row ∷ []))) (none_of lane begin more none)
    ∙ ap (λ b. cond b ((begin + length more, row) ∷ []) []) (eq-eqb (lane_of row) lane own)
    ∙ ap (λ q. (q, row) ∷ []) (sym place)

-- a front that grew by rows of other lanes gained no more
pub same_gain_past : (first lane from : ℕ) (front more : List Row) → from ≤ length front → rows_of lane more ≡ []
    → gained_past first lane from front ≡ gained_past first lane from (front ++ more)
same_gain_past first lane from front more le none =
    sym (gained_more first lane from front more le ∙ ap (λ l. gained_past first lane from front ++ l) (gained_nothing first lane front more none) ∙ append-nil (gained_past first lane from front))

pub same_gain : (lane from : ℕ) (front more : List Row) → from ≤ length front → rows_of lane more ≡ [] → gained lane from front ≡ gained lane from (front ++ more)
same_gain = same_gain_past 0

-- what one answer leaves
pub record Answered (d : SetupData) (first : State) (before : PenValue) (answer : Answer) (after : PenValue) : Type 0 where
  pub same : IsSamePen before after
  pub front : IsPrefix before.front after.front
  pub lane : answer.lane ≡ before.lane
  pub place : answer.place ≡ place_past first.place (length after.front)
  pub pins : GainsPinsPast first.place before (answer ∷ []) after
  pub rows : published (answer ∷ []) ≡ gained_past first.place before.lane (length before.front) after.front
  pub rising : is_accepted answer.said ≡ true → place_past first.place (length before.front) < answer.place
  pub step : IsAnswerFrom d first after.front answer

pub answered : {first : State} (d : SetupData) (before : PenValue) (answer : Answer) (after : PenValue) → GivesFrom d first before answer after → Answered d first before answer after
answered {first} d before answer after g = go (row_published answer.said) refl
  where
    base : ℕ
    base = first.place

    end : answer.place ≡ base + length after.front
    end = omega (arith, g.place, place_past_is base (length after.front))

    begin : place_past base (length before.front) ≡ base + length before.front
    begin = place_past_is base (length before.front)

    count : rows_past base answer.place ≡ length after.front
    count = omega (arith, end, rows_past_is base answer.place)

    whole : after.front ≡ take (rows_past base answer.place) after.front
    whole = sym (take_all (rows_past base answer.place) after.front (omega (arith, count)))

    go : (o : Option Row) → row_published answer.said ≡ o → Answered d first before answer after
    go None e =
        let is : after ≡ pinned_at_front (with_front before (before.front ++ g.more)) = g.pen ∙ ap (λ t. pen_after t (with_front before (before.front ++ g.more))) e in
        let front : after.front ≡ before.front ++ g.more = ap (λ (p : PenValue). p.front) is in
        let from : place_before answer ≡ answer.place = ap (λ (t : Option Row). cond {A = ℕ} (is_some t) (answer.place - 1) answer.place) e in
        record {
          same = (ap (λ (p : PenValue). p.log) is, ap (λ (p : PenValue). p.lanes) is, ap (λ (p : PenValue). p.lane) is);
          front = (g.more, front);
          lane = g.lane;
          place = g.place;
          pins = ap (λ (p : PenValue). p.pins) is ∙ ap (λ n. before.pins ++ n ∷ []) (sym (count ∙ ap length front))
              ∙ ap (λ (t : Option Row). before.pins ++ map (λ (a : Answer). rows_past base a.place) (cond (not (is_some t)) (answer ∷ []) [])) (sym e);
          rows = ap (λ (t : Option Row). cons_option (option_map (λ (row : Row). (answer.place, row)) t) []) e
              ∙ sym (ap (gained_past base before.lane (length before.front)) front ∙ gained_nothing base before.lane before.front g.more g.others);
          rising = λ accepted. absurd (false≢true (sym (ap (λ (t : Option Row). is_some t) e) ∙ accepted));
          step = record {
            before = g.before;
            after = g.after;
            since = omega (arith, from, end);
            reached = omega (arith, g.place);
            replay_before = subst (λ rows. IsReplayFrom d first rows g.before) (sym front ∙ whole ∙ ap (λ n. take (rows_past base n) after.front) (sym from)) g.replay_before;
            replay_after = subst (λ rows. IsReplayFrom d first rows g.after) whole g.replay_after;
            leads = g.leads;
          };
        }
    go (Some row) e =
        let is : after ≡ written (with_front before (before.front ++ g.more)) row = g.pen ∙ ap (λ t. pen_after t (with_front before (before.front ++ g.more))) e in
        let parts : after.front ≡ (before.front ++ g.more) ++ row ∷ [] = ap (λ (p : PenValue). p.front) is in
        let front : after.front ≡ before.front ++ (g.more ++ row ∷ []) = parts ∙ append_assoc before.front g.more (row ∷ []) in
        let own : lane_of row ≡ before.lane = subst (λ (t : Option Row). IfSome t (λ r. lane_of r ≡ before.lane)) e g.row in
        let long : answer.place ≡ base + length before.front + 1 + length g.more = omega (arith, end, ap length front, length-append before.front (g.more ++ row ∷ []), length_push g.more row) in
        let from : place_before answer ≡ answer.place - 1 = ap (λ (t : Option Row). cond {A = ℕ} (is_some t) (answer.place - 1) answer.place) e in
        let low : length (before.front ++ g.more) ≡ rows_past base (place_before answer) = omega (arith, from, long, length-append before.front g.more, rows_past_is base (place_before answer)) in
        record {
          same = (ap (λ (p : PenValue). p.log) is, ap (λ (p : PenValue). p.lanes) is, ap (λ (p : PenValue). p.lane) is);
          front = (g.more ++ row ∷ [], front);
          lane = g.lane;
          place = g.place;
          pins = ap (λ (p : PenValue). p.pins) is ∙ sym (append-nil before.pins)
              ∙ ap (λ (t : Option Row). before.pins ++ map (λ (a : Answer). rows_past base a.place) (cond (not (is_some t)) (answer ∷ []) [])) (sym e);
          rows = ap (λ (t : Option Row). cons_option (option_map (λ (r : Row). (answer.place, r)) t) []) e
              ∙ sym (ap (gained_past base before.lane (length before.front)) front
              ∙ gained_one base before.lane answer.place before.front g.more row g.others own (omega (arith, long, begin)));
          rising = λ _. omega (arith, long, begin);
          step = record {
            before = g.before;
            after = g.after;
            since = omega (arith, from, long);
            reached = omega (arith, g.place);
            replay_before =
                subst (λ rows. IsReplayFrom d first rows g.before)
                (sym (ap (take (rows_past base (place_before answer))) parts ∙ take_at (before.front ++ g.more) (row ∷ []) (rows_past base (place_before answer)) low)) g.replay_before;
            replay_after = subst (λ rows. IsReplayFrom d first rows g.after) whole g.replay_after;
            leads = g.leads;
          };
        }

adjacent_push : {X : Type 0} (R : X → X → Type 0) (xs : List X) (x : X) → AllAdjacentBelow R xs (length xs)
    → ((k : ℕ) (d : X) → k + 1 ≡ length xs → R (get_or xs k d) x) → AllAdjacentBelow R (xs ++ x ∷ []) (length (xs ++ x ∷ []))
adjacent_push {X} R xs x up last k d lt =
    let size = length_push xs x in
    let first : get_or xs k d ≡ get_or (xs ++ x ∷ []) k d = sym (get_or_append_left xs (x ∷ []) d k (omega (arith, size))) in
    below (k + 1) (length xs) (omega (arith, size))
    (λ (e : k + 1 ≡ length xs).
    let second : x ≡ get_or (xs ++ x ∷ []) (k + 1) d = sym (get_or_push xs x d (k + 1) (sym e)) in
    subst (λ (p : X × X). R p.0 p.1) (λ i. (first i, second i)) (last k d e))
    (λ (h : k + 1 < length xs).
    let second : get_or xs (k + 1) d ≡ get_or (xs ++ x ∷ []) (k + 1) d = sym (get_or_append_left xs (x ∷ []) d (k + 1) h) in
    subst (λ (p : X × X). R p.0 p.1) (λ i. (first i, second i)) (up k d h))

-- a seat that has answered nothing
pub nothing_ran : {first : State} (d : SetupData) (pen : PenValue) → RanFrom d first pen [] pen
nothing_ran {first} d pen = record {
  same = (refl, refl, refl);
  front = ([], sym (append-nil pen.front));
  lane = All-nil (λ (a : Answer). a.lane ≡ pen.lane);
  rows = sym (ap (gained_past first.place pen.lane (length pen.front)) (sym (append-nil pen.front)) ∙ gained_nothing first.place pen.lane pen.front [] refl);
  rising = λ k d lt. absurd (omega arith);
  within = All-nil (λ (a : Answer). place_past first.place (length pen.front) ≤ a.place);
  steps = All-nil (IsAnswerFrom d first pen.front);
}

-- one more call that answers
pub ran_more : {first : State} (d : SetupData) (before middle after : PenValue) (answers : List Answer) (answer : Answer)
    → RanFrom d first before answers middle → GivesFrom d first middle answer after → RanFrom d first before (answers ++ answer ∷ []) after
ran_more {first} d before middle after answers answer r g =
    let base = first.place in
    let a = answered d middle answer after g in
    let grows : length before.front ≤ length middle.front = omega (arith, ap length r.front.1, length-append before.front r.front.0) in
    let longer : length middle.front ≤ length after.front = omega (arith, ap length a.front.1, length-append middle.front a.front.0) in
    let place = a.place in
    let at_before = place_past_is base (length before.front) in
    let at_middle = place_past_is base (length middle.front) in
    let at_after = place_past_is base (length after.front) in
    record {
      same = (a.same.0 ∙ r.same.0, a.same.1 ∙ r.same.1, a.same.2 ∙ r.same.2);
      front = (r.front.0 ++ a.front.0, a.front.1 ∙ ap (λ l. l ++ a.front.0) r.front.1 ∙ append_assoc before.front r.front.0 a.front.0);
      lane = All-push (λ (x : Answer). x.lane ≡ before.lane) answers answer r.lane (a.lane ∙ r.same.2);
      rows = filter_map-append row_placed answers (answer ∷ [])
          ∙ (λ i. r.rows i ++ a.rows i)
          ∙ (λ i. gained_past base before.lane (length before.front) middle.front ++ gained_past base (r.same.2 i) (length middle.front) (a.front.1 i))
          ∙ sym (gained_more base before.lane (length before.front) middle.front a.front.0 grows)
          ∙ ap (gained_past base before.lane (length before.front)) (sym a.front.1);
      rising = adjacent_push Follows answers answer r.rising
          (λ k d' e. let w = (r.steps k d' (omega arith)).reached in (omega (arith, w, place, longer, at_middle, at_after), λ t. let up = a.rising t in omega (arith, w, up)));
      within = All-push (λ (x : Answer). place_past base (length before.front) ≤ x.place) answers answer r.within (omega (arith, place, grows, longer, at_before, at_after));
      steps = All-push (IsAnswerFrom d first after.front) answers answer (λ k d' lt. answer_stands d middle.front after.front (get_or answers k d') a.front (r.steps k d' lt)) a.step;
    }

-- one more call that only reads rows of other lanes
pub ran_on : {first : State} (d : SetupData) (before middle after : PenValue) (answers : List Answer) (more : List Row) → RanFrom d first before answers middle
    → IsSamePen middle after → after.front ≡ middle.front ++ more → rows_of middle.lane more ≡ [] → RanFrom d first before answers after
ran_on {first} d before middle after answers more r same front none =
    let base = first.place in
    let grows : length before.front ≤ length middle.front = omega (arith, ap length r.front.1, length-append before.front r.front.0) in
    record {
      same = (same.0 ∙ r.same.0, same.1 ∙ r.same.1, same.2 ∙ r.same.2);
      front = (r.front.0 ++ more, front ∙ ap (λ l. l ++ more) r.front.1 ∙ append_assoc before.front r.front.0 more);
      lane = r.lane;
      rows = r.rows ∙ same_gain_past base before.lane (length before.front) middle.front more grows (subst (λ n. rows_of n more ≡ []) r.same.2 none)
          ∙ ap (gained_past base before.lane (length before.front)) (sym front);
      rising = r.rising;
      within = r.within;
      steps = λ k d' lt. answer_stands d middle.front after.front (get_or answers k d') (more, front) (r.steps k d' lt);
    }

-- a call of a seat with a fault
pub ran_reads : {first : State} (d : SetupData) (before middle after : PenValue) (answers : List Answer) → RanFrom d first before answers middle → ReadsOn middle after
    → RanFrom d first before answers after
ran_reads d before middle after answers r h =
    ran_on d before middle after answers h.0 r (ap (λ (p : PenValue). p.log) h.1, ap (λ (p : PenValue). p.lanes) h.1, ap (λ (p : PenValue). p.lane) h.1) (ap (λ (p : PenValue). p.front) h.1) h.2

pub ran_pins : {first : State} (d : SetupData) (before middle after : PenValue) (answers : List Answer) → RanFrom d first before answers middle → AddsAtMostAPin middle after
    → RanFrom d first before answers after
ran_pins d before middle after answers r h =
    ⊎_elim (λ (e : ReadsOn middle after). ran_reads d before middle after answers r e)
    (λ (e : ReadsToPin middle after). ran_on d before middle after answers e.0 r
    (ap (λ (p : PenValue). p.log) e.1, ap (λ (p : PenValue). p.lanes) e.1, ap (λ (p : PenValue). p.lane) e.1) (ap (λ (p : PenValue). p.front) e.1) e.2) h

pins_past-append : (place : ℕ) (xs ys : List Answer) → pins_past place (xs ++ ys) ≡ pins_past place xs ++ pins_past place ys
pins_past-append place xs ys =
    ap (map (λ (a : Answer). rows_past place a.place)) (filter-append (λ (a : Answer). not (is_accepted a.said)) xs ys)
    ∙ map-append (λ (a : Answer). rows_past place a.place) (filter (λ (a : Answer). not (is_accepted a.said)) xs) (filter (λ (a : Answer). not (is_accepted a.said)) ys)

-- the pins of one more answer
pub pins_more : {first : State} (d : SetupData) (before middle after : PenValue) (answers : List Answer) (answer : Answer)
    → GainsPinsPast first.place before answers middle → GivesFrom d first middle answer after → GainsPinsPast first.place before (answers ++ answer ∷ []) after
pins_more {first} d before middle after answers answer p g =
    let base = first.place in
    (answered d middle answer after g).pins ∙ ap (λ l. l ++ pins_past base (answer ∷ [])) p
    ∙ append_assoc before.pins (pins_past base answers) (pins_past base (answer ∷ [])) ∙ ap (λ l. before.pins ++ l) (sym (pins_past-append base answers (answer ∷ [])))
