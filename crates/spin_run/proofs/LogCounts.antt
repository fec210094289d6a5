-- How far the log has come: by as many rows as the lanes had commands accepted.
use Rattle.std.proofs.Common.{◌≡◌, ◌==◌, ◌≢◌, ℕ, zero, suc, ◌+◌, ◌<◌, ◌≤◌, Bool, true, false, cond, eqb, List, [], ◌∷◌, ◌++◌, map, length, refl, sym, ap, ◌∙◌, subst, arith, length-append}
use Rattle.std.specs.Prelude.{All, filter, Option, Some}
use Rattle.std.specs.Option.{option_map}
use Rattle.std.specs.List.{count_by, cons_option, enumerate_from}
use Rattle.std.proofs.lemmas.Bool.{eqb-true, eqb-false}
use Rattle.std.proofs.lemmas.List.{drop_at}
use Rattle.std.proofs.lemmas.List.Sums.{sum_by-append}
use Rattle.std.proofs.lemmas.List.FromFn.{length-enumerate_from}
use Rattle.std.proofs.lemmas.List.Elements.{All-head, All-tail, All-nil, All-cons}
use Rattle.spin_word.specs.declared.command.TheConstants.{MAX_PLACE}
use Rattle.spin_word.specs.declared.row.Row.{Row}
use Rattle.spin_word.specs.Rows.{lane_of}
use Rattle.spin_log.specs.Rows.{rows_of}
use Rattle.spin_log.specs.Pens.{PenValue, StandsIn}
use Rattle.spin_table.specs.declared.refusal.Verdicted.TheVariants as verdicted
use Rattle.spin_table.specs.Setups.{SetupData}
use Rattle.spin_table.specs.States.{State}
use Rattle.spin_proto.specs.declared.deed.Job.{Job}
use Rattle.spin_seat.specs.declared.answer.SeatFault.{SeatFault}
use Rattle.spin_seat.specs.declared.answer.SeatFault.TheVariants as fault
use Rattle.spin_seat.specs.Answers as seat
use Rattle.spin_seat.specs.Places.{place_past}
use Rattle.spin_seat.specs.Runs.{gained_past, published}
use Rattle.spin_seat.proofs.LaneCounts.{sum_below, count-cons, sum_below-same, partition}
use Rattle.spin_seat.proofs.SeatInvariants.{none_added}
use Rattle.spin_seat.proofs.PastPlaces.{place_past_is}
use Rattle.spin_seat.proofs.SeatAnswers.{same_gain_past}
use Rattle.spin_script.specs.Soundness.{is_command_work}
use Rattle.spin_report.specs.declared.entry.What.{What}
use Rattle.spin_report.specs.declared.entry.What.TheVariants as what
use Rattle.spin_report.specs.declared.entry.Entry.{Entry}
use Rattle.spin_report.specs.Asked.{Numbered, asked_by, asked_of}
use Rattle.spin_report.specs.Segments.{asked_of_lane}
use Rattle.spin_run.specs.Lanes.{said_of, seat_answer, RanLane, BeginsWithCommand}
use Rattle.spin_run.proofs.AskedOfSegment.{commands_of}

sum_below-le : (n : ℕ) (f g : ℕ → ℕ) → ((k : ℕ) → k < n → f k ≤ g k) → sum_below n f ≤ sum_below n g
sum_below-le zero f g below = omega arith
sum_below-le (suc n) f g below =
    let r = sum_below-le n f g (λ k h. below k (omega arith)) in
    let e = below n (omega arith) in
    omega (arith, r, e)

-- where one of them is less
sum_below-lt : (n : ℕ) (f g : ℕ → ℕ) → ((k : ℕ) → k < n → f k ≤ g k) → (j : ℕ) → j < n → f j < g j → sum_below n f < sum_below n g
sum_below-lt zero f g below j in' less = absurd (omega arith)
sum_below-lt (suc n) f g below j in' less =
    go (eqb j n) refl (sum_below-le n f g (λ k h. below k (omega arith))) (λ (h : j < n). sum_below-lt n f g (λ k h. below k (omega arith)) j h less)
  where
    go : (b : Bool) → eqb j n ≡ b → sum_below n f ≤ sum_below n g → (j < n → sum_below n f < sum_below n g) → sum_below n f + f n < sum_below n g + g n
    go true e some more =
        let here : f n < g n = subst (λ k. f k < g k) (eqb-true j n e) less in
        omega arith
    go false e some more =
        let ne = eqb-false j n e in
        let r = more (omega arith) in
        let last = below n (omega arith) in
        omega arith

count_all : {X : Type 0} (xs : List X) → count_by (λ x. true) xs ≡ length xs
count_all [] = refl
count_all (x ∷ xs) = let c = count-cons (λ x. true) x xs in let r = count_all xs in omega (arith, c, r)

-- the lengths of the parts by lane
pub partition_length : {X : Type 0} (lane : X → ℕ) (n : ℕ) (xs : List X) → All (λ x. lane x < n) xs → sum_below n (λ k. length (filter (λ x. lane x == k) xs)) ≡ length xs
partition_length lane n xs under =
    sum_below-same n (λ k. length (filter (λ x. lane x == k) xs)) (λ k. count_by (λ x. true) (filter (λ x. lane x == k) xs)) (λ k h. sym (count_all (filter (λ x. lane x == k) xs)))
    ∙ partition (λ x. true) lane n xs under ∙ count_all xs

-- each accepted command is one of the commands
published_few : (es : List Entry) → length (published (map seat_answer es)) ≤ commands_of (map asked_of es)
published_few [] = omega arith
published_few (e ∷ es) =
    let c = count-cons (λ (n : Numbered). is_command_work n.asked) (asked_of e) (map asked_of es) in
    let r = few e.place e.what (published (map seat_answer es)) in
    let t = published_few es in
    omega (arith, c, r, t)
  where
    few : (place : ℕ) (w : What) (rest : List (ℕ × Row))
        → length (cons_option (option_map (λ (row : Row). (place, row)) (seat.row_published (said_of w))) rest) ≤ cond {A = ℕ} (is_command_work (asked_by w)) 1 0 + length rest
    few place (what.Command c verdicted.Accepted) rest = omega arith
    few place (what.Command c (verdicted.Refused refusal)) rest = omega arith
    few place (what.Deed d reply) rest = omega arith

begins_some : (left : List Numbered) → BeginsWithCommand left → 1 ≤ commands_of left
begins_some [] none = absurd none
begins_some (next ∷ rest) is =
    let c = count-cons (λ (n : Numbered). is_command_work n.asked) next rest in
    let e : cond {A = ℕ} (is_command_work next.asked) 1 0 ≡ 1 = ap (λ b. cond {A = ℕ} b 1 0) is in
    omega (arith, c, e)

pub enumerated_lanes : (n p : ℕ) (rows : List Row) → All (λ row. lane_of row < n) rows → All (λ x. lane_of x.1 < n) (enumerate_from p rows)
enumerated_lanes n p [] all = All-nil (λ x. lane_of x.1 < n)
enumerated_lanes n p (row ∷ rows) all =
    All-cons (λ (x : ℕ × Row). lane_of x.1 < n) (p, row) (enumerate_from (p + 1) rows) (All-head (λ row. lane_of row < n) row rows all)
    (enumerated_lanes n (p + 1) rows (All-tail (λ row. lane_of row < n) row rows all))

module _ (d : SetupData) (first : State) (lanes : ℕ) (asked : List Numbered) (before after : ℕ → PenValue) (trail : ℕ → List Entry) (jobs : ℕ → List Job) (stop : ℕ → Option SeatFault) (start more : List Row) where
  -- what is known once all lanes ran and all seats met
  pub record AllRan : Type 0 where
    pub ran : (k : ℕ) → k < lanes → RanLane d first (asked_of_lane k asked) (before k) (after k) (trail k) (jobs k) (stop k)
    pub at_start : (k : ℕ) → k < lanes → ((before k).front ≡ start) × ((before k).lane ≡ k)
    pub met : (k : ℕ) → k < lanes → StandsIn (start ++ more) (after k)
    pub rows : All (λ row. lane_of row < lanes) more
    pub under : All (λ n. n.lane < lanes) asked

  -- the rows of a lane past the start, each with its place
  abbrev pub next_place : ℕ
  next_place = place_past first.place (length start) + 1

  abbrev pub rows_at : ℕ → List (ℕ × Row)
  rows_at k = filter (λ x. lane_of x.1 == k) (enumerate_from next_place more)

  pub own_of : AllRan → (k : ℕ) → k < lanes → published (map seat_answer (trail k)) ≡ rows_at k
  own_of all k lt =
      let r = (all.ran k lt).ran in
      let s = all.at_start k lt in
      let m = all.met k lt in
      let none : rows_of (before k).lane m.front.0 ≡ [] =
      subst (λ (n : ℕ). rows_of n m.front.0 ≡ []) r.same.2 (none_added (after k).lane (after k).front m.front.0 (start ++ more) m.front.1 (sym m.reached ∙ m.own)) in
      let longer : length (before k).front ≤ length (after k).front = omega (arith, ap length r.front.1, length-append (before k).front r.front.0) in
      r.rows ∙ same_gain_past first.place (before k).lane (length (before k).front) (after k).front m.front.0 longer none
      ∙ ap (gained_past first.place (before k).lane (length (before k).front)) (sym m.front.1)
      ∙ (λ i. gained_past first.place (s.1 i) (length (s.0 i)) (start ++ more))
      ∙ ap (λ ws. filter (λ x. lane_of x.1 == k) (enumerate_from next_place ws)) (drop_at start more (length start) refl)

  -- no lane has gained more rows than it answered commands
  gained_few : (all : AllRan) (k : ℕ) (lt : k < lanes) → length (rows_at k) + commands_of (all.ran k lt).left ≤ commands_of (asked_of_lane k asked)
  gained_few all k lt =
      let r = all.ran k lt in
      let own = ap length (own_of all k lt) in
      let parts = ap (λ l. commands_of l) r.deeds_are ∙ sum_by-append (λ (n : Numbered). cond {A = ℕ} (is_command_work n.asked) 1 0) (map asked_of (trail k)) r.left in
      let few = published_few (trail k) in
      omega (arith, own, parts, few)

  gained_sum : AllRan → sum_below lanes (λ k. length (rows_at k)) ≡ length more
  gained_sum all =
      partition_length (λ (x : ℕ × Row). lane_of x.1) lanes (enumerate_from next_place more) (enumerated_lanes lanes next_place more all.rows)
      ∙ length-enumerate_from next_place more

  asked_sum : AllRan → sum_below lanes (λ k. commands_of (asked_of_lane k asked)) ≡ commands_of asked
  asked_sum all = partition (λ (n : Numbered). is_command_work n.asked) (λ (n : Numbered). n.lane) lanes asked all.under

  -- the log grows by at most the commands of all lanes
  pub grown_few : AllRan → length more ≤ commands_of asked
  grown_few all =
      let below = sum_below-le lanes (λ k. length (rows_at k)) (λ k. commands_of (asked_of_lane k asked)) (λ j h. let f = gained_few all j h in omega (arith, f)) in
      let rows = gained_sum all in
      let commands = asked_sum all in
      omega (arith, below, rows, commands)

  -- a lane that finds no room would have gained too few
  pub never_full : AllRan → place_past first.place (length start) + commands_of asked ≤ MAX_PLACE → (k : ℕ) → k < lanes → stop k ≢ Some fault.Full
  never_full all room k lt is =
      let r = all.ran k lt in
      let m = all.met k lt in
      let next = begins_some r.left (r.full is).1 in
      let here = gained_few all k lt in
      let less = sum_below-lt lanes (λ k. length (rows_at k)) (λ k. commands_of (asked_of_lane k asked)) (λ j h. let f = gained_few all j h in omega (arith, f)) k lt (omega (arith, next, here)) in
      let rows = gained_sum all in
      let commands = asked_sum all in
      let total = length-append start more in
      let begins = ap length m.front.1 in
      let front = length-append (after k).front m.front.0 in
      let at = (r.full is).0.0 in
      omega (arith, less, rows, commands, total, begins, front, at, room, place_past_is first.place (length start), place_past_is first.place (length (after k).front))
