-- All lanes meet.
use Rattle.std.proofs.Common.{◌≡◌, ◌≢◌, ◌==◌, ℕ, ◌+◌, ◌<◌, ◌≤◌, Bool, true, false, cond, ltb, List, [], ◌∷◌, ◌++◌, All, length, get_or, set, ◌-◌, refl, sym}
use Rattle.std.proofs.Common.{ap, ◌∙◌, subst, arith, length-append, append_assoc, eqb-true, get_or-set_same, get_or-set_other, get_or-append-add, length-set}
use Rattle.std.specs.Prelude.{None, Result, Ok, Err, OnOk, MatchResult}
use Rattle.spin_values.specs.declared.no_memory.NoMemory.{NoMemory}
use Rattle.std.proofs.lemmas.Bool.{eqb-false, ltb-true, ltb-false}
use Rattle.std.proofs.lemmas.List.{append-nil, get_or_append_left, get_or_default}
use Rattle.spin_word.specs.declared.row.Row.{Row}
use Rattle.spin_log.specs.Rows.{IsPrefix, rows_of}
use Rattle.spin_log.specs.Steps.{longer}
use Rattle.spin_log.specs.Pens.{PenValue, IsPen, StandsIn, with_front}
use Rattle.spin_log.proofs.RowLists.{rows_of-append}
use Rattle.atomic_table.specs.Seated.{TableId}
use Rattle.spin_table.specs.Setups.{SetupData}
use Rattle.spin_table.specs.States.{State}
use Rattle.spin_seat.specs.Replay.{IsReplayFrom}
use Rattle.spin_seat.specs.Seats.{SeatValue, IsSeat, IsSeatFrom}
use Rattle.spin_seat.specs.Calls.{ReadsOn}
use Rattle.spin_seat.proofs.RowReplays.{IsReplayFrom-one}
use Rattle.spin_seat.proofs.SeatInvariants.{whole_applied, reads_nothing}
use Rattle.spin_seat.proofs.SeatCalls.{reads_further}
use Rattle.spin_run.specs.declared.lane.Lane.{Lane}
use Rattle.spin_run.specs.Segments.{front_of, state_of}
use Rattle.spin_run.specs.Meetings.{IsOfHub, AreOfHub, HasRead, IsSettled, HasMet, HaveMet}
use Rattle.spin_run.specs.Inner.Meeting.{lane_at, front_at, FirstIsSettled, SettledFirst, Met, FirstKnowsAll, HadRound}

-- ---- one lane

pub has_read_nothing : (d : SetupData) (lane : Lane) → IsSeat d lane.seat → HasRead d lane lane
has_read_nothing d lane seat = record {
  seat = (seat, refl);
  reads = reads_nothing lane.seat.pen lane.seat.pen refl;
  trail = refl;
  jobs_are = refl;
  stop = refl;
  kept = refl;
}

pub has_read_then : (d : SetupData) (old middle new : Lane) → HasRead d old middle → HasRead d middle new → HasRead d old new
has_read_then d old middle new a b = record {
  seat = (b.seat.0, b.seat.1 ∙ a.seat.1);
  reads = reads_further old.seat.pen middle.seat.pen new.seat.pen a.reads b.reads;
  trail = b.trail ∙ a.trail;
  jobs_are = b.jobs_are ∙ a.jobs_are;
  stop = b.stop ∙ a.stop;
  kept = b.kept ∙ a.kept;
}

-- its front begins with what it was
front_grows : (d : SetupData) (old new : Lane) → HasRead d old new → IsPrefix old.seat.pen.front new.seat.pen.front
front_grows d old new h = (h.reads.0, ap (λ (p : PenValue). p.front) h.reads.1)

still_of_hub : (d : SetupData) (first : State) (log : TableId) (old new : Lane) → IsOfHub d first log old → HasRead d old new → IsOfHub d first log new
still_of_hub d first log old new own h = (ap (λ (p : PenValue). p.log) h.reads.1 ∙ own.0, (h.seat.0, h.seat.1 ∙ own.1.1))

pub still_of_hubs : (d : SetupData) (log : TableId) (before after : List Lane) → length after ≡ length before → AreOfHub d log before
    → ((i : ℕ) (l : Lane) → i < length before → HasRead d (lane_at before i l) (lane_at after i l)) → AreOfHub d log after
still_of_hubs d log before after len own read = (
  own.0,
  λ k l lt.
      let inside : k < length before = omega (arith, lt, len) in
      still_of_hub d own.0 log (lane_at before k l) (lane_at after k l) (own.1 k l inside) (read k l inside),
)

-- a lane that has met stands with its front before in the front of all
pub stood : (d : SetupData) (front : List Row) (state : State) (before after : Lane) → HasMet d front state before after → StandsIn front before.seat.pen
stood d front state before after h =
    let reads = h.read.reads in
    let lane : after.seat.pen.lane ≡ before.seat.pen.lane = ap (λ (p : PenValue). p.lane) reads.1 in
    let own : before.seat.pen.own ≡ after.seat.pen.own = sym (ap (λ (p : PenValue). p.own) reads.1) in
    let parts : front ≡ before.seat.pen.front ++ reads.0 = sym h.front_is ∙ ap (λ (p : PenValue). p.front) reads.1 in
    let all : before.seat.pen.own ≡ rows_of before.seat.pen.lane front = own ∙ h.settled.pen.own ∙ (λ i. rows_of (lane i) (h.front_is i)) in
    record {
      front = (reads.0, parts);
      own = all;
      reached =
          all ∙ ap (rows_of before.seat.pen.lane) parts ∙ rows_of-append before.seat.pen.lane before.seat.pen.front reads.0
          ∙ ap (λ l. rows_of before.seat.pen.lane before.seat.pen.front ++ l) reads.2 ∙ append-nil (rows_of before.seat.pen.lane before.seat.pen.front);
    }

-- ---- fronts

begins_itself : (front : List Row) → IsPrefix front front
begins_itself front = ([], sym (append-nil front))

begins_then : (a b c : List Row) → IsPrefix a b → IsPrefix b c → IsPrefix a c
begins_then a b c p q = (p.0 ++ q.0, q.1 ∙ ap (λ l. l ++ q.0) p.1 ∙ append_assoc a p.0 q.0)

-- where the second begins the first, the first is the longer
longer_first : (a b : List Row) → IsPrefix b a → longer a b ≡ a
longer_first a b p = go (ltb (length a) (length b)) refl
  where
    go : (t : Bool) → ltb (length a) (length b) ≡ t → cond t b a ≡ a
    go true e = let lt = ltb-true (length a) (length b) e in absurd (omega (arith, lt, ap length p.1, length-append b p.0))
    go false e = refl

-- ---- the first lane and lane k

-- which of the lanes this is
which : {T : Type 0} (i k : ℕ) → (i ≡ 0 → T) → (i ≡ k → T) → (i ≢ 0 → i ≢ k → T) → T
which {T} i k first second other = go (i == 0) refl (i == k) refl
  where
    go : (a : Bool) → (i == 0) ≡ a → (b : Bool) → (i == k) ≡ b → T
    go true e b f = first (eqb-true i 0 e)
    go false e true f = second (eqb-true i k f)
    go false e false f = other (eqb-false i 0 e) (eqb-false i k f)

-- an item of the second of two lists
in_second : {X : Type 0} (xs ys : List X) (i j : ℕ) (d : X) → i ≡ length xs + j → get_or (xs ++ ys) i d ≡ get_or ys j d
in_second xs ys i j d e = ap (λ n. get_or (xs ++ ys) n d) e ∙ get_or-append-add xs ys j d

-- the first lane and lane k are the first items of these two lists
first_left : (lanes left right : List Lane) (l x : Lane) → lanes ≡ left ++ right → 0 < length left → lane_at lanes 0 l ≡ get_or left 0 x
first_left lanes left right l x parts some = ap (λ ls. get_or ls 0 l) parts ∙ get_or_append_left left right l 0 some ∙ get_or_default left 0 l x some

first_right : (lanes left right : List Lane) (k : ℕ) (l y : Lane) → lanes ≡ left ++ right → length left ≡ k → 0 < length right → lane_at lanes k l ≡ get_or right 0 y
first_right lanes left right k l y parts size some =
    ap (λ ls. get_or ls k l) parts ∙ in_second left right k 0 l (omega (arith, size)) ∙ get_or_default right 0 l y some

-- so their seats are of the hub
pub both_of_hub : (d : SetupData) (first : State) (log : TableId) (lanes left right : List Lane) (k : ℕ) (x y : Lane) → lanes ≡ left ++ right → length left ≡ k → 0 < k → 0 < length right
    → All (IsOfHub d first log) lanes → IsOfHub d first log (get_or left 0 x) × IsOfHub d first log (get_or right 0 y)
both_of_hub d base log lanes left right k x y parts size pos some own =
    let first : 0 < length left = omega (arith, size, pos) in
    let all = ap length parts ∙ length-append left right in
    let low : 0 < length lanes = omega (arith, first, all) in
    let inside : k < length lanes = omega (arith, some, size, all) in (
      subst (IsOfHub d base log) (first_left lanes left right x x parts first) (own 0 x low),
      subst (IsOfHub d base log) (first_right lanes left right k y y parts size some) (own k y inside),
    )

-- the first of these lanes with another seat
abbrev pub seated : List Lane → Lane → SeatValue → Lane
seated lanes lane seat = record {
  seat = seat;
  trail = (get_or lanes 0 lane).trail;
  jobs = (get_or lanes 0 lane).jobs;
  stop = (get_or lanes 0 lane).stop;
  entries = (get_or lanes 0 lane).entries;
}

-- the seats of lanes that stand first in two lists have met
pub meets : (d : SetupData) (lanes left right : List Lane) (k : ℕ) (x y : Lane) (sa sb : SeatValue) (r : Result (Unit {0}) NoMemory)
    → lanes ≡ left ++ right → length left ≡ k → 0 < k → 0 < length right → IsSeatFrom d (get_or left 0 x).seat.base sa → IsSeatFrom d (get_or right 0 y).seat.base sb
    → MatchResult r (λ _. sa.pen ≡ with_front (get_or left 0 x).seat.pen (longer (get_or left 0 x).seat.pen.front (get_or right 0 y).seat.pen.front)) (λ _. sa.pen ≡ (get_or left 0 x).seat.pen)
    → MatchResult r (λ _. sb.pen ≡ with_front (get_or right 0 y).seat.pen (longer (get_or left 0 x).seat.pen.front (get_or right 0 y).seat.pen.front)) (λ _. sb.pen ≡ (get_or right 0 y).seat.pen)
    → OnOk r ((sa.pending ≡ None) × (sb.pending ≡ None)) → OnOk r (ReadsOn (get_or left 0 x).seat.pen sa.pen × ReadsOn (get_or right 0 y).seat.pen sb.pen) → OnOk r (IsPen sa.pen × IsPen sb.pen)
    → OnOk r (Met d lanes k (set left 0 (seated left x sa) ++ set right 0 (seated right y sb)))
meets d lanes left right k x y sa sb (Err e) parts size pos some seat_a seat_b pen_a pen_b whole reads pens = tt
meets d lanes left right k x y sa sb (Ok done) parts size pos some seat_a seat_b pen_a pen_b whole reads pens = record {
  len = omega (arith, length-append (set left 0 a') (set right 0 b'), length-set left 0 a', length-set right 0 b', ap length parts, length-append left right);
  first =
      λ l. (subst (λ (z : Lane × Lane). HasRead d z.0 z.1) (λ i. (sym (old_first l) i, sym (new_first l) i)) read_a, subst IsSettled (sym (new_first l)) (record { pen = pens.0; whole = whole.0 }));
  second =
      λ l. (subst (λ (z : Lane × Lane). HasRead d z.0 z.1) (λ i. (sym (old_second l) i, sym (new_second l) i)) read_b, subst IsSettled (sym (new_second l)) (record { pen = pens.1; whole = whole.1 }));
  front = λ l. ap (λ (z : Lane). z.seat.pen.front) (new_first l) ∙ ap (λ (p : PenValue). p.front) pen_a ∙ (λ i. longer (sym (old_first l) i).seat.pen.front (sym (old_second l) i).seat.pen.front);
  same = λ l. ap (λ (z : Lane). z.seat.pen.front) (new_second l) ∙ ap (λ (p : PenValue). p.front) pen_b
      ∙ sym (ap (λ (z : Lane). z.seat.pen.front) (new_first l) ∙ ap (λ (p : PenValue). p.front) pen_a);
  others = others;
}
  where
    a : Lane
    a = get_or left 0 x

    b : Lane
    b = get_or right 0 y

    a' : Lane
    a' = seated left x sa

    b' : Lane
    b' = seated right y sb

    after : List Lane
    after = set left 0 a' ++ set right 0 b'

    first_is : 0 < length left
    first_is = omega (arith, size, pos)

    read_a : HasRead d a a'
    read_a = record {
      seat = seat_a;
      reads = reads.0;
      trail = refl;
      jobs_are = refl;
      stop = refl;
      kept = refl;
    }

    read_b : HasRead d b b'
    read_b = record {
      seat = seat_b;
      reads = reads.1;
      trail = refl;
      jobs_are = refl;
      stop = refl;
      kept = refl;
    }

    old_first : (l : Lane) → lane_at lanes 0 l ≡ a
    old_first l = first_left lanes left right l x parts first_is

    old_second : (l : Lane) → lane_at lanes k l ≡ b
    old_second l = first_right lanes left right k l y parts size some

    new_first : (l : Lane) → lane_at after 0 l ≡ a'
    new_first l = get_or_append_left (set left 0 a') (set right 0 b') l 0 (omega (arith, first_is, length-set left 0 a')) ∙ get_or-set_same left 0 a' l first_is

    new_second : (l : Lane) → lane_at after k l ≡ b'
    new_second l = in_second (set left 0 a') (set right 0 b') k 0 l (omega (arith, size, length-set left 0 a')) ∙ get_or-set_same right 0 b' l some

    others : (i : ℕ) (l : Lane) → i ≢ 0 → i ≢ k → lane_at after i l ≡ lane_at lanes i l
    others i l not_first not_second = go (ltb i k) refl
      where
        go : (t : Bool) → ltb i k ≡ t → lane_at after i l ≡ lane_at lanes i l
        go true e =
            let lt = ltb-true i k e in
            let low : i < length left = omega (arith, lt, size) in
            get_or_append_left (set left 0 a') (set right 0 b') l i (omega (arith, low, length-set left 0 a')) ∙ get_or-set_other left 0 i a' l not_first
            ∙ sym (ap (λ ls. get_or ls i l) parts ∙ get_or_append_left left right l i low)
        go false e =
            let le = ltb-false i k e in
            let past : i ≡ length left + (i - k) = omega (arith, le, size) in
            let past' : i ≡ length (set left 0 a') + (i - k) = omega (arith, le, size, length-set left 0 a') in
            let more : i - k ≢ 0 = λ none. not_second (omega (arith, none, le)) in
            in_second (set left 0 a') (set right 0 b') i (i - k) l past' ∙ get_or-set_other right 0 (i - k) b' l more
            ∙ sym (ap (λ ls. get_or ls i l) parts ∙ in_second left right i (i - k) l past)

-- how the lanes stand when the first one has met those up to lane k
pub record Round (d : SetupData) (before : List Lane) (k : ℕ) (now : List Lane) : Type 0 where
  pub len : length now ≡ length before
  pub read : (i : ℕ) (l : Lane) → i < length before → HasRead d (lane_at before i l) (lane_at now i l)
  pub settled : (i : ℕ) (l : Lane) → i < k → IsSettled (lane_at now i l)
  pub gathered : (i : ℕ) (l : Lane) → i < k → IsPrefix (front_at now i l) (front_at now 0 l)
  pub first : FirstKnowsAll before → (l : Lane) → front_at now 0 l ≡ front_at before 0 l
  pub spread : FirstKnowsAll before → (i : ℕ) (l : Lane) → i < k → front_at now i l ≡ front_at now 0 l
  pub later : (i : ℕ) (l : Lane) → k ≤ i → lane_at now i l ≡ lane_at before i l

-- before it has met any
pub round_begins : (d : SetupData) (log : TableId) (lanes : List Lane) → AreOfHub d log lanes → FirstIsSettled lanes → Round d lanes 1 lanes
round_begins d log lanes own first = record {
  len = refl;
  read = λ i l lt. has_read_nothing d (lane_at lanes i l) (own.1 i l lt).1.0;
  settled = λ i l lt. let zero' : 0 ≡ i = omega arith in subst (λ j. IsSettled (lane_at lanes j l)) zero' (first l);
  gathered = λ i l lt. let zero' : 0 ≡ i = omega arith in subst (λ j. IsPrefix (front_at lanes j l) (front_at lanes 0 l)) zero' (begins_itself (front_at lanes 0 l));
  first = λ knows l. refl;
  spread = λ knows i l lt. let zero' : i ≡ 0 = omega arith in ap (λ j. front_at lanes j l) zero';
  later = λ i l le. refl;
}

-- it meets lane k
pub round_more : (d : SetupData) (before now after : List Lane) (k : ℕ) → 0 < k → k < length before → Round d before k now → Met d now k after → Round d before (k + 1) after
round_more d before now after k pos lt r m = record {
  len = m.len ∙ r.len;
  read = read;
  settled = λ i l low. which i k (λ e. subst (λ j. IsSettled (lane_at after j l)) (sym e) (m.first l).1) (λ e. subst (λ j. IsSettled (lane_at after j l)) (sym e) (m.second l).1)
      (λ a b. subst IsSettled (sym (m.others i l a b)) (r.settled i l (omega (arith, low, b))));
  gathered = λ i l low. which i k (λ e. subst (λ j. IsPrefix (front_at after j l) (front_at after 0 l)) (sym e) (begins_itself (front_at after 0 l)))
      (λ e. subst (λ j. IsPrefix (front_at after j l) (front_at after 0 l)) (sym e) (subst (λ f. IsPrefix f (front_at after 0 l)) (sym (m.same l)) (begins_itself (front_at after 0 l))))
      (λ a b. subst (λ (x : Lane). IsPrefix x.seat.pen.front (front_at after 0 l)) (sym (m.others i l a b))
      (begins_then (front_at now i l) (front_at now 0 l) (front_at after 0 l) (r.gathered i l (omega (arith, low, b))) (front_grows d (lane_at now 0 l) (lane_at after 0 l) (m.first l).0)));
  first = λ knows l. stays knows l ∙ r.first knows l;
  spread = λ knows i l low. which i k (λ e. ap (λ j. front_at after j l) e) (λ e. ap (λ j. front_at after j l) e ∙ m.same l)
      (λ a b. ap (λ (x : Lane). x.seat.pen.front) (m.others i l a b) ∙ r.spread knows i l (omega (arith, low, b)) ∙ sym (stays knows l));
  later = λ i l le. m.others i l (λ e. absurd (omega (arith, e, le, pos))) (λ e. absurd (omega (arith, e, le))) ∙ r.later i l (omega (arith, le));
}
  where
    read : (i : ℕ) (l : Lane) → i < length before → HasRead d (lane_at before i l) (lane_at after i l)
    read i l low =
        let step : HasRead d (lane_at now i l) (lane_at after i l) =
        which i k (λ e. subst (λ j. HasRead d (lane_at now j l) (lane_at after j l)) (sym e) (m.first l).0) (λ e. subst (λ j. HasRead d (lane_at now j l) (lane_at after j l)) (sym e) (m.second l).0)
        (λ a b. subst (λ (x : Lane). HasRead d (lane_at now i l) x) (sym (m.others i l a b)) (has_read_nothing d (lane_at now i l) (r.read i l low).seat.0)) in
        has_read_then d (lane_at before i l) (lane_at now i l) (lane_at after i l) (r.read i l low) step

    -- the first lane knew it all
    stays : FirstKnowsAll before → (l : Lane) → front_at after 0 l ≡ front_at now 0 l
    stays knows l =
        let p : IsPrefix (front_at before k l) (front_at before 0 l) = knows k l lt in
        let other : front_at now k l ≡ front_at before k l = ap (λ (x : Lane). x.seat.pen.front) (r.later k l (omega arith)) in
        m.front l ∙ longer_first (front_at now 0 l) (front_at now k l) (subst (λ (x : List Row × List Row). IsPrefix x.0 x.1) (λ i. (sym other i, sym (r.first knows l) i)) p)

-- it has met all
pub round_ends : (d : SetupData) (before after : List Lane) (k : ℕ) → length before ≤ k → Round d before k after → HadRound d before after
round_ends d before after k le r = record {
  len = r.len;
  read = r.read;
  settled = λ i l lt. r.settled i l (omega (arith, lt, le));
  gathered = λ i l lt. r.gathered i l (omega (arith, lt, le, r.len));
  spread = λ knows i l lt. r.spread knows i l (omega (arith, lt, le));
}

-- ---- both rounds

settled_read : (d : SetupData) (log : TableId) (before after : List Lane) → AreOfHub d log before
    → SettledFirst d before after → (i : ℕ) (l : Lane) → i < length before → HasRead d (lane_at before i l) (lane_at after i l)
settled_read d log before after own s i l lt =
    which i 0 (λ e. subst (λ j. HasRead d (lane_at before j l) (lane_at after j l)) (sym e) (s.first l).0) (λ e. subst (λ j. HasRead d (lane_at before j l) (lane_at after j l)) (sym e) (s.first l).0)
    (λ a b. subst (λ (x : Lane). HasRead d (lane_at before i l) x) (sym (s.others i l a)) (has_read_nothing d (lane_at before i l) (own.1 i l lt).1.0))

pub settled_hubs : (d : SetupData) (log : TableId) (before after : List Lane) → AreOfHub d log before → SettledFirst d before after → AreOfHub d log after
settled_hubs d log before after own s = still_of_hubs d log before after s.len own (settled_read d log before after own s)

front_first : (lanes : List Lane) (l : Lane) → 0 < length lanes → front_of lanes ≡ front_at lanes 0 l
front_first [] l lt = absurd (omega arith)
front_first (lane ∷ lanes) l lt = refl

state_first : (d : SetupData) (lanes : List Lane) (l : Lane) → 0 < length lanes → state_of d lanes ≡ (lane_at lanes 0 l).seat.state
state_first d [] l lt = absurd (omega arith)
state_first d (lane ∷ lanes) l lt = refl

-- seats that have applied one front have one state
one_state : (d : SetupData) (a b : Lane) → IsSeat d a.seat → IsSeat d b.seat → a.seat.base ≡ b.seat.base → IsSettled a → IsSettled b
    → a.seat.pen.front ≡ b.seat.pen.front → a.seat.state ≡ b.seat.state
one_state d a b sa sb first ta tb same =
    IsReplayFrom-one d b.seat.base b.seat.pen.front a.seat.state b.seat.state
    (subst (λ (x : State × List Row). IsReplayFrom d x.0 x.1 a.seat.state) (λ i. (first i, same i)) (whole_applied d a.seat sa ta.whole)) (whole_applied d b.seat sb tb.whole)

pub have_met : (d : SetupData) (log : TableId) (before settled once twice : List Lane) → 0 < length before → AreOfHub d log before
    → SettledFirst d before settled → HadRound d settled once → HadRound d once twice → HaveMet d before twice
have_met d log before settled once twice some own s a b = (
  b.len ∙ a.len ∙ s.len,
  λ k l lt.
      let in_settled : k < length settled = omega (arith, lt, s.len) in
      let in_once : k < length once = omega (arith, lt, s.len, a.len) in
      let first_once : 0 < length once = omega (arith, some, s.len, a.len) in
      let first_twice : 0 < length twice = omega (arith, some, s.len, a.len, b.len) in
      let read_0 = settled_read d log before settled own s k l lt in
      let read_1 = a.read k l in_settled in
      let read_2 = b.read k l in_once in
      let same : front_at twice k l ≡ front_at twice 0 l = b.spread a.gathered k l in_once in
      let now = still_of_hubs d log once twice b.len (still_of_hubs d log settled once a.len (settled_hubs d log before settled own s) a.read) b.read in
      let one = now.1 k l (omega (arith, lt, s.len, a.len, b.len)) in
      let zero' = now.1 0 l first_twice in
      record {
        read = has_read_then d (lane_at before k l) (lane_at once k l) (lane_at twice k l) (has_read_then d (lane_at before k l) (lane_at settled k l) (lane_at once k l) read_0 read_1) read_2;
        settled = b.settled k l in_once;
        front_is = same ∙ sym (front_first twice l first_twice);
        state_is =
            one_state d (lane_at twice k l) (lane_at twice 0 l) one.1.0 zero'.1.0 (one.1.1 ∙ sym zero'.1.1) (b.settled k l in_once) (b.settled 0 l first_once) same
            ∙ sym (state_first d twice l first_twice);
      },
)
