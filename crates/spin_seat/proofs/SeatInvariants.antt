-- What a seat keeps through its calls.
use Rattle.std.proofs.Common.{◌≡◌, ◌≢◌, ◌⊎◌, ℕ, zero, suc, ◌+◌, ◌<◌, ◌≤◌, List, [], ◌∷◌, ◌++◌, length, refl, sym, ap, ◌∙◌, subst, get_or, arith, inl, inr, ⊎_elim, length-append}
use Rattle.std.specs.Prelude.{All, Result, Ok, IfOk, None, Some, Err}
use Rattle.std.proofs.lemmas.List.{append-nil, append_assoc, append_cancel_left}
use Rattle.std.proofs.Common.{map, Bool, true, false, cond, ltb}
use Rattle.std.proofs.lemmas.Bool.{ltb-false}
use Rattle.spin_log.specs.Steps.{longer, AreOfOne}
use Rattle.spin_log.proofs.RowLists.{prefix_whole}
use Rattle.std.proofs.lemmas.List.Elements.{All-nil, All-head, All-tail, All-push}
use Rattle.std.proofs.Math.Seq.{get_or-append_seam}
use Rattle.spin_word.specs.declared.command.Command.{Command}
use Rattle.spin_word.specs.declared.row.Row.{Row}
use Rattle.spin_word.specs.Rows.{StandsFor, IsCommand, row_of, lane_of}
use Rattle.spin_word.specs.Commands.{no_number}
use Rattle.spin_log.specs.Rows.{rows_of, IsCommandBelow, IsPrefix}
use Rattle.spin_log.specs.Pens.{PenValue, pen_value, StandsIn, with_front, read, written, pinned_at_front}
use Rattle.atomic_table.specs.Seated.{TableId}
use Rattle.spin_log.specs.Rule.{new_hand, new_hands}
use Rattle.spin_log.proofs.RowLists.{all_cons}
use Rattle.spin_log.proofs.RowLists.{rows_of_one, rows_of_other, rows_of-append}
use Rattle.spin_table.specs.declared.refusal.Verdicted.{Verdicted}
use Rattle.spin_table.specs.declared.refusal.Verdicted.TheVariants as verdicted
use Rattle.spin_table.specs.Setups.{SetupData}
use Rattle.spin_table.specs.States.{State, start_of, VersionValue}
use Rattle.spin_table.specs.Soundness.{IsSoundVersion}
use Rattle.spin_table.specs.Renewals.{NameGiven}
use Rattle.spin_word.specs.declared.command.TheConstants.{MAX_PLACE}
use Rattle.spin_table.specs.Refusals.{refusal_of}
use Rattle.spin_table.specs.Steps.{IsStep, IsAnswer}
use Rattle.spin_seat.specs.Replay.{IsReplayFrom, IsReplay, IsAcceptedFrom, IsCleanFrom, IsClean, IsLaneCleanFrom, IsCleanFor}
use Rattle.spin_table.specs.declared.refusal.Refusal.{Refusal}
use Rattle.spin_table.specs.declared.refusal.StepFault.{StepFault}
use Rattle.spin_table.specs.declared.refusal.StepFault.TheVariants as fault
use Rattle.spin_seat.specs.Seats.{SeatValue, IsSeat, IsSeatFrom, IsSeatOf, AreOfLanes, kept_rows}
use Rattle.spin_seat.specs.Calls.{ReadsOn}
use Rattle.spin_table.proofs.Given.{names_stay_given}
use Rattle.spin_seat.proofs.RowReplays.{IsReplayFrom-push, IsReplayFrom-place}

-- a row of the lane stands in the part that has all of its rows
pub within : (lane : ℕ) (front more f : List Row) (x : Row) (r : List Row) → front ++ more ≡ f ++ x ∷ r → rows_of lane more ≡ [] → lane_of x ≡ lane → (rest : List Row) × (front ≡ f ++ x ∷ rest)
within lane [] more f x r e none is =
    let a : rows_of lane (f ++ x ∷ r) ≡ [] = ap (rows_of lane) (sym e) ∙ none in
    let b = rows_of-append lane f (x ∷ r) in
    let c = rows_of-append lane (x ∷ []) r in
    let d : rows_of lane (x ∷ []) ≡ x ∷ [] = rows_of_one lane x is in
    let n : length (rows_of lane f ++ (rows_of lane (x ∷ []) ++ rows_of lane r)) ≡ 0 = ap length (sym (b ∙ ap (λ l. rows_of lane f ++ l) c) ∙ a) in
    absurd (omega (arith, length-append (rows_of lane f) (rows_of lane (x ∷ []) ++ rows_of lane r), length-append (rows_of lane (x ∷ [])) (rows_of lane r), ap length d))
within lane (y ∷ front) more [] x r e none is = let same : y ≡ x = cc (e) in (front, ap (λ z. z ∷ front) same)
within lane (y ∷ front) more (z ∷ f) x r e none is =
    let t = within lane front more f x r (cc (e)) none is in
    let same : y ≡ z = cc (e) in
    (t.0, λ i. same i ∷ t.1 i)

pub clean_none : (d : SetupData) (first : State) (lane : ℕ) → IsLaneCleanFrom d first lane []
clean_none d first lane [] row rest e is = absurd (cc (e))
clean_none d first lane (x ∷ front) row rest e is = absurd (cc (e))

-- rows of other lanes are added
pub clean_longer : (d : SetupData) (first : State) (lane : ℕ) (front more : List Row)
    → IsLaneCleanFrom d first lane front → rows_of lane more ≡ [] → IsLaneCleanFrom d first lane (front ++ more)
clean_longer d first lane front more clean none f x r e is = let t = within lane front more f x r e none is in clean f x t.0 t.1 is

-- where a row was added, each row but the last stood before
pushed : (front : List Row) (word : Row) (f : List Row) (x : Row) (r : List Row) → front ++ word ∷ [] ≡ f ++ x ∷ r → ((front ≡ f) × (word ≡ x)) ⊎ ((rest : List Row) × (front ≡ f ++ x ∷ rest))
pushed [] word [] x r e = inl (refl, cc (e))
pushed [] word (z ∷ []) x r e = absurd (cc (e))
pushed [] word (z ∷ z' ∷ f) x r e = absurd (cc (e))
pushed (y ∷ front) word [] x r e = let same : y ≡ x = cc (e) in inr (front, ap (λ z. z ∷ front) same)
pushed (y ∷ front) word (z ∷ f) x r e =
    let same : y ≡ z = cc (e) in
    ⊎_elim (λ (t : (front ≡ f) × (word ≡ x)). inl ((λ i. same i ∷ t.0 i), t.1)) (λ (t : (rest : List Row) × (front ≡ f ++ x ∷ rest)). inr (t.0, λ i. same i ∷ t.1 i))
    (pushed front word f x r (cc (e)))

pub clean_own : (d : SetupData) (first : State) (lane : ℕ) (front : List Row) (row : Row)
    → IsLaneCleanFrom d first lane front → IsAcceptedFrom d first front row → IsLaneCleanFrom d first lane (front ++ row ∷ [])
clean_own d first lane front row clean accepted f x r e is =
    ⊎_elim (λ (t : (front ≡ f) × (row ≡ x)). subst (λ (p : List Row × Row). IsAcceptedFrom d first p.0 p.1) (λ i. (t.0 i, t.1 i)) accepted)
    (λ (t : (rest : List Row) × (front ≡ f ++ x ∷ rest)). clean f x t.0 t.1 is) (pushed front row f x r e)

-- a seat that keeps no row has applied its whole front
pub whole_applied : (d : SetupData) (seat : SeatValue) → IsSeat d seat → seat.pending ≡ None → IsReplayFrom d seat.base seat.pen.front seat.state
whole_applied d seat h none =
    let is : seat.pen.front ≡ h.applied = h.front ∙ (ap (λ k. h.applied ++ kept_rows k) none ∙ append-nil h.applied) in
    subst (λ (rows : List Row). IsReplayFrom d seat.base rows seat.state) (sym is) h.replay

-- the same of a seat whose log begins at the start, and what else is so of it
pub all_applied : (d : SetupData) (seat : SeatValue) → IsSeatOf d seat → seat.pending ≡ None → IsReplay d seat.pen.front seat.state
all_applied d seat h none = subst (λ (s : State). IsReplayFrom d s seat.pen.front seat.state) h.1 (whole_applied d seat h.0 none)

pub start_clean : (d : SetupData) (seat : SeatValue) → IsSeatOf d seat → IsCleanFor d seat.pen.lane seat.pen.front
start_clean d seat h = subst (λ (s : State). IsLaneCleanFrom d s seat.pen.lane seat.pen.front) h.1 h.0.clean

-- the place of the state is at most the number of rows past the first one
pub place_fits : (d : SetupData) (seat : SeatValue) → IsSeat d seat → seat.state.place ≤ seat.base.place + length seat.pen.front
place_fits d seat h =
    let le = IsReplayFrom-place d h.applied seat.base seat.state h.replay in
    omega (arith, ap length h.front, length-append h.applied (kept_rows seat.pending))

-- so there is a number for one more binding
pub next_room : (place first rows at : ℕ) → place ≤ first + rows → first ≤ MAX_PLACE → rows ≤ MAX_PLACE → at ≡ place → at + 1 < no_number
next_room place first rows at fits low few is = omega (arith, fits, low, few, is)

-- a seat that has read a row of another lane, and keeps it
pub keeps : (d : SetupData) (seat : SeatValue) (new : PenValue) (row : Row) → IsSeat d seat → seat.pending ≡ None → new ≡ read seat.pen row → lane_of row ≢ seat.pen.lane
    → IsSeat d (record { pen = new; base = seat.base; state = seat.state; tests = seat.tests; pending = Some row })
keeps d seat new row h none is other =
    subst (λ (p : PenValue). IsSeat d (record { pen = p; base = seat.base; state = seat.state; tests = seat.tests; pending = Some row })) (sym is)
    (record {
      fits = h.fits;
      applied = seat.pen.front;
      replay = whole_applied d seat h none;
      front = refl;
      sound = h.sound;
      given = h.given;
      clean = clean_longer d seat.base seat.pen.lane seat.pen.front (row ∷ []) h.clean (rows_of_other seat.pen.lane row other);
    })

-- a seat that has a pin more
pub pins : (d : SetupData) (seat : SeatValue) (new : PenValue) → IsSeat d seat → new ≡ pinned_at_front seat.pen
    → IsSeat d (record { pen = new; base = seat.base; state = seat.state; tests = seat.tests; pending = seat.pending })
pins d seat new h is =
    subst (λ (p : PenValue). IsSeat d (record { pen = p; base = seat.base; state = seat.state; tests = seat.tests; pending = seat.pending })) (sym is)
    (record { fits = h.fits; applied = h.applied; replay = h.replay; front = h.front; sound = h.sound; given = h.given; clean = h.clean })

-- a seat that has applied the row that it kept
pub applies : (d : SetupData) (seat : SeatValue) (row : Row) (c : Command) (v : Verdicted) (next : VersionValue)
    → IsSeat d seat → seat.pending ≡ Some row → StandsFor row c → IsStep d seat.state c v next.state → IsSoundVersion d next
    → IsSeat d (record { pen = seat.pen; base = seat.base; state = next.state; tests = next.tests; pending = None })
applies d seat row c v next h kept stands step sound =
    let is : seat.pen.front ≡ h.applied ++ row ∷ [] = h.front ∙ ap (λ k. h.applied ++ kept_rows k) kept in
    record {
      fits = h.fits;
      applied = h.applied ++ row ∷ [];
      replay = IsReplayFrom-push d seat.base h.applied row seat.state next.state v h.replay (c, stands, step);
      front = is ∙ sym (append-nil (h.applied ++ row ∷ []));
      sound = sound;
      given = (names_stay_given d).1 seat.state c v next.state h.sound.state h.given step;
      clean = h.clean;
    }

-- a seat that has published an accepted command
pub publishes : (d : SetupData) (seat : SeatValue) (new : PenValue) (c : Command) (next : VersionValue) → IsSeat d seat → seat.pending ≡ None
    → new ≡ written seat.pen (row_of c) → StandsFor (row_of c) c → IsStep d seat.state c verdicted.Accepted next.state → IsSoundVersion d next
    → IsSeat d (record { pen = new; base = seat.base; state = next.state; tests = next.tests; pending = None })
publishes d seat new c next h none is stands step sound =
    let whole = whole_applied d seat h none in
    subst (λ (p : PenValue). IsSeat d (record { pen = p; base = seat.base; state = next.state; tests = next.tests; pending = None })) (sym is)
    (record {
      fits = h.fits;
      applied = seat.pen.front ++ row_of c ∷ [];
      replay = IsReplayFrom-push d seat.base seat.pen.front (row_of c) seat.state next.state verdicted.Accepted whole (c, stands, step);
      front = sym (append-nil (seat.pen.front ++ row_of c ∷ []));
      sound = sound;
      given = (names_stay_given d).1 seat.state c verdicted.Accepted next.state h.sound.state h.given step;
      clean = clean_own d seat.base seat.pen.lane seat.pen.front (row_of c) h.clean (seat.state, whole, (next.state, (c, stands, step)));
    })

-- the row that a seat keeps is a command's
pub kept_is_command : (d : SetupData) (seat : SeatValue) (row : Row) (lanes : ℕ) → IsSeat d seat → seat.pending ≡ Some row → All (IsCommandBelow lanes) seat.pen.front → IsCommand row
kept_is_command d seat row lanes h kept all =
    let is : seat.pen.front ≡ h.applied ++ row ∷ [] = h.front ∙ ap (λ k. h.applied ++ kept_rows k) kept in
    let inside : length h.applied < length seat.pen.front = omega (arith, ap length is, length-append h.applied (row ∷ [])) in
    let found : get_or seat.pen.front (length h.applied) row ≡ row = ap (λ l. get_or l (length h.applied) row) is ∙ get_or-append_seam h.applied row [] row in
    (subst (IsCommandBelow lanes) found (all (length h.applied) row inside)).0

-- a fault that is a refusal
pub is_refused : (d : SetupData) (s t : State) (c : Command) (f : StepFault) (r : Refusal) → f ≡ fault.Refused r → s ≡ t → IsAnswer d s c (Err f) → IsStep d t c (verdicted.Refused r) t
is_refused d s t c f r is same answer =
    let step : IsStep d s c (verdicted.Refused r) s = subst (λ (e : StepFault). IsAnswer d s c (Err e)) is answer in
    subst (λ (u : State). IsStep d u c (verdicted.Refused r) u) same step

-- for want of memory there is no next version where no refusal but a conflict applies
pub is_wanting : (d : SetupData) (s t : State) (c : Command) (f : StepFault) → f ≡ fault.NoMemory → s ≡ t → IsAnswer d s c (Err f) → refusal_of d t c ≡ None
is_wanting d s t c f is same answer =
    let none : refusal_of d s c ≡ None = subst (λ (e : StepFault). IsAnswer d s c (Err e)) is answer in
    subst (λ (u : State). refusal_of d u c ≡ None) same none

-- nothing of the lane was added
pub none_added : (lane : ℕ) (front more log : List Row) → log ≡ front ++ more → rows_of lane front ≡ rows_of lane log → rows_of lane more ≡ []
none_added lane front more log e same =
    append_cancel_left (rows_of lane front) (rows_of lane more) [] (sym (rows_of-append lane front more) ∙ (ap (rows_of lane) (sym e) ∙ (sym same ∙ sym (append-nil (rows_of lane front)))))

-- of two fronts of one log that of no lesser length is the longer, and the other begins it
longer_is : (f g : List Row) → AreOfOne f g → length f ≤ length g → longer f g ≡ g
longer_is f g one h = go (ltb (length f) (length g)) refl
  where
    go : (b : Bool) → ltb (length f) (length g) ≡ b → cond b g f ≡ g
    go true e = refl
    go false e = ⊎_elim (λ (p : IsPrefix f g). prefix_whole f g p (ltb-false (length f) (length g) e)) (λ (p : IsPrefix g f). sym (prefix_whole g f p h)) one

begins : (f g : List Row) → AreOfOne f g → length f ≤ length g → IsPrefix f g
begins f g one h = ⊎_elim (λ (p : IsPrefix f g). p) (λ (p : IsPrefix g f). ([], prefix_whole g f p h ∙ sym (append-nil f))) one

-- a pen that has learnt a front no shorter has read rows of other lanes
pub reads_met : (pen new : PenValue) (other : List Row) → AreOfOne pen.front other → length pen.front ≤ length other
    → new ≡ with_front pen (longer pen.front other) → pen.own ≡ rows_of pen.lane pen.front → new.own ≡ rows_of new.lane new.front → ReadsOn pen new
reads_met pen new other one short is own own' =
    let is' : new ≡ with_front pen other = is ∙ ap (with_front pen) (longer_is pen.front other one short) in
    let p : IsPrefix pen.front other = begins pen.front other one short in
    let has : pen.own ≡ rows_of pen.lane other = subst (λ (q : PenValue). q.own ≡ rows_of q.lane q.front) is' own' in
    (p.0, is' ∙ ap (with_front pen) p.1, none_added pen.lane pen.front p.0 other p.1 (sym own ∙ has))

-- a pen that stays has read nothing
pub reads_nothing : (pen new : PenValue) → new ≡ pen → ReadsOn pen new
reads_nothing pen new is = ([], is ∙ ap (with_front pen) (sym (append-nil pen.front)), refl)

-- a seat that has learnt a front no shorter, and has its version
pub learns : (d : SetupData) (seat other : SeatValue) (new : PenValue) → IsSeat d seat → IsSeat d other → other.base ≡ seat.base
    → other.pending ≡ None → AreOfOne seat.pen.front other.pen.front → length seat.pen.front ≤ length other.pen.front
    → new ≡ with_front seat.pen (longer seat.pen.front other.pen.front) → seat.pen.own ≡ rows_of seat.pen.lane seat.pen.front
    → new.own ≡ rows_of new.lane new.front → IsSeat d (record { pen = new; base = seat.base; state = other.state; tests = other.tests; pending = None })
learns d seat other new h k first none one short is own own' =
    let front = other.pen.front in
    let is' : new ≡ with_front seat.pen front = is ∙ ap (with_front seat.pen) (longer_is seat.pen.front front one short) in
    let p : IsPrefix seat.pen.front front = begins seat.pen.front front one short in
    let has : seat.pen.own ≡ rows_of seat.pen.lane front = subst (λ (q : PenValue). q.own ≡ rows_of q.lane q.front) is' own' in
    subst (λ (q : PenValue). IsSeat d (record { pen = q; base = seat.base; state = other.state; tests = other.tests; pending = None })) (sym is')
    (record {
      fits = h.fits;
      applied = front;
      replay = subst (λ (s : State). IsReplayFrom d s front other.state) first (whole_applied d other k none);
      front = sym (append-nil front);
      sound = k.sound;
      given = k.given;
      clean = subst (IsLaneCleanFrom d seat.base seat.pen.lane) (sym p.1)
          (clean_longer d seat.base seat.pen.lane seat.pen.front p.0 h.clean (none_added seat.pen.lane seat.pen.front p.0 front p.1 (sym own ∙ has)));
    })

-- one seat more gives its pen
pub pens_more : (pens pens' all : List PenValue) (seat : SeatValue) (seats rest : List SeatValue) → pens ++ map (λ (s : SeatValue). s.pen) seats ≡ all
    → seats ≡ seat ∷ rest → pens' ≡ pens ++ seat.pen ∷ [] → pens' ++ map (λ (s : SeatValue). s.pen) rest ≡ all
pens_more pens pens' all seat seats rest h is more =
    ap (λ l. l ++ map (λ (s : SeatValue). s.pen) rest) more
    ∙ (append_assoc pens (seat.pen ∷ []) (map (λ (s : SeatValue). s.pen) rest) ∙ (ap (λ (l : List SeatValue). pens ++ map (λ (s : SeatValue). s.pen) l) (sym is) ∙ h))

-- of whose front each row of its lane was accepted at its place
pub clean_more : (d : SetupData) (first : State) (pens pens' : List PenValue) (seat : SeatValue) (seats rest : List SeatValue)
    → All (IsSeatFrom d first) seats × All (λ (pen : PenValue). IsLaneCleanFrom d first pen.lane pen.front) pens
    → seats ≡ seat ∷ rest → pens' ≡ pens ++ seat.pen ∷ []
    → All (IsSeatFrom d first) rest × All (λ (pen : PenValue). IsLaneCleanFrom d first pen.lane pen.front) pens'
clean_more d first pens pens' seat seats rest h is more =
    let every : All (IsSeatFrom d first) (seat ∷ rest) = subst (All (IsSeatFrom d first)) is h.0 in
    let one : IsSeatFrom d first seat = All-head (IsSeatFrom d first) seat rest every in (
      All-tail (IsSeatFrom d first) seat rest every,
      subst (All (λ (pen : PenValue). IsLaneCleanFrom d first pen.lane pen.front)) (sym more)
          (All-push (λ (pen : PenValue). IsLaneCleanFrom d first pen.lane pen.front) pens seat.pen h.1
          (subst (λ (s : State). IsLaneCleanFrom d s seat.pen.lane seat.pen.front) one.1 one.0.clean)),
    )

pub if_ok : {X E : Type 0} (r : Result X E) (P Q : X → Type 0) → ((x : X) → P x → Q x) → IfOk r P → IfOk r Q
if_ok (Ok x) P Q f p = f x p
if_ok (Err e) P Q f p = tt

pub if_ok_both : {X E : Type 0} (r : Result X E) (P Q R : X → Type 0) → ((x : X) → P x → Q x → R x) → IfOk r P → IfOk r Q → IfOk r R
if_ok_both (Ok x) P Q R f p q = f x p q
if_ok_both (Err e) P Q R f p q = tt

pub all_unmap : {X Y : Type 0} (P : Y → Type 0) (f : X → Y) (xs : List X) → All P (map f xs) → All (λ x. P (f x)) xs
all_unmap P f [] h k d lt = absurd (omega arith)
all_unmap P f (x ∷ xs) h zero d lt = h zero (f d) (omega arith)
all_unmap P f (x ∷ xs) h (suc k) d lt = all_unmap P f xs (λ j e l. h (suc j) e (omega arith)) k d (omega arith)

pub pen_at : (seats : List SeatValue) (k : ℕ) (d : SeatValue) → get_or (map (λ (s : SeatValue). s.pen) seats) k d.pen ≡ (get_or seats k d).pen
pen_at [] k d = refl
pen_at (s ∷ seats) zero d = refl
pen_at (s ∷ seats) (suc k) d = pen_at seats k d

-- each row of the log was accepted at its own place, since each pen's were
pub clean_from_lanes : (d : SetupData) (first : State) (lanes : ℕ) (log : List Row) (pens : ℕ → PenValue) → All (λ row. lane_of row < lanes) log
    → ((k : ℕ) → k < lanes → (pens k).lane ≡ k) → ((k : ℕ) → k < lanes → StandsIn log (pens k))
    → ((k : ℕ) → k < lanes → IsLaneCleanFrom d first (pens k).lane (pens k).front) → IsCleanFrom d first log
clean_from_lanes d first lanes log pens rows lane stand clean front word rest e =
    let inside : length front < length log = omega (arith, ap length e, length-append front (word ∷ rest)) in
    let found : get_or log (length front) word ≡ word = ap (λ l. get_or l (length front) word) e ∙ get_or-append_seam front word rest word in
    let under : lane_of word < lanes = subst (λ (w : Row). lane_of w < lanes) found (rows (length front) word inside) in
    let pen : PenValue = pens (lane_of word) in
    let is : pen.lane ≡ lane_of word = lane (lane_of word) under in
    let s : StandsIn log pen = stand (lane_of word) under in
    let c : IsLaneCleanFrom d first pen.lane pen.front = clean (lane_of word) under in
    let none = none_added pen.lane pen.front s.front.0 log s.front.1 (sym s.reached ∙ s.own) in
    let t = within pen.lane pen.front s.front.0 front word rest (sym s.front.1 ∙ e) none (sym is) in
    c front word t.0 t.1 (sym is)

pub clean_by_lanes : (d : SetupData) (lanes : ℕ) (log : List Row) (pens : ℕ → PenValue) → All (λ row. lane_of row < lanes) log
    → ((k : ℕ) → k < lanes → (pens k).lane ≡ k) → ((k : ℕ) → k < lanes → StandsIn log (pens k))
    → ((k : ℕ) → k < lanes → IsCleanFor d (pens k).lane (pens k).front) → IsClean d log
clean_by_lanes d = clean_from_lanes d (start_of d)

-- new pens know nothing
pub new_know_nothing : (id : TableId) (lanes from n : ℕ) → All (λ (p : PenValue). p.front ≡ []) (map (pen_value id) (new_hands lanes from n))
new_know_nothing id lanes from zero = All-nil (λ (p : PenValue). p.front ≡ [])
new_know_nothing id lanes from (suc n) =
    all_cons (λ (p : PenValue). p.front ≡ []) (pen_value id (new_hand lanes from)) (map (pen_value id) (new_hands lanes (from + 1) n)) refl (new_know_nothing id lanes (from + 1) n)

-- one pen more gives a seat
pub seats_more : (d : SetupData) (first : VersionValue) (seats seats' : List SeatValue) (pens rest all : List PenValue) (pen : PenValue) (head version : VersionValue)
    → (map (λ (s : SeatValue). s.pen) seats ++ pens ≡ all) × All (IsSeatFrom d first.state) seats × All (λ (p : PenValue). p.front ≡ []) pens
    → pens ≡ pen ∷ rest → seats' ≡ seats ++ record { pen = pen; base = head.state; state = version.state; tests = version.tests; pending = None } ∷ [] → head ≡ first → version ≡ head → first.state.place ≤ MAX_PLACE → IsSoundVersion d first
    → NameGiven first.state
    → (map (λ (s : SeatValue). s.pen) seats' ++ rest ≡ all) × All (IsSeatFrom d first.state) seats' × All (λ (p : PenValue). p.front ≡ []) rest
seats_more d first seats seats' pens rest all pen head version h is more same equal fits sound given =
    let every : All (λ (p : PenValue). p.front ≡ []) (pen ∷ rest) = subst (All (λ (p : PenValue). p.front ≡ [])) is h.2 in
    let nil : pen.front ≡ [] = All-head (λ (p : PenValue). p.front ≡ []) pen rest every in
    let new : SeatValue = record { pen = pen; base = head.state; state = version.state; tests = version.tests; pending = None } in
    let seat : IsSeat d new = record {
      fits = subst (λ (v : VersionValue). v.state.place ≤ MAX_PLACE) (sym same) fits;
      applied = [];
      replay = ap (λ (v : VersionValue). v.state) equal;
      front = nil;
      sound = subst (IsSoundVersion d) (sym (equal ∙ same)) sound;
      given = subst (λ (v : VersionValue). NameGiven v.state) (sym (equal ∙ same)) given;
      clean = subst (IsLaneCleanFrom d head.state pen.lane) (sym nil) (clean_none d head.state pen.lane);
    } in (
      ap (λ l. map (λ (s : SeatValue). s.pen) l ++ rest) more ∙ (ap (λ l. l ++ rest) (map-append (λ (s : SeatValue). s.pen) seats (new ∷ []))
          ∙ (append_assoc (map (λ (s : SeatValue). s.pen) seats) (pen ∷ []) rest ∙ (ap (λ (l : List PenValue). map (λ (s : SeatValue). s.pen) seats ++ l) (sym is) ∙ h.0))),
      subst (All (IsSeatFrom d first.state)) (sym more) (All-push (IsSeatFrom d first.state) seats new h.1 (seat, ap (λ (v : VersionValue). v.state) same)),
      All-tail (λ (p : PenValue). p.front ≡ []) pen rest every,
    )
  where
    map-append : (f : SeatValue → PenValue) (xs ys : List SeatValue) → map f (xs ++ ys) ≡ map f xs ++ map f ys
    map-append f [] ys = refl
    map-append f (x ∷ xs) ys = ap (λ l. f x ∷ l) (map-append f xs ys)

-- new pens are of their log, as many as asked for, and in the order of their lanes
pub new_of_log : (id : TableId) (lanes from n : ℕ) → All (λ (p : PenValue). p.log ≡ id) (map (pen_value id) (new_hands lanes from n))
new_of_log id lanes from zero = All-nil (λ (p : PenValue). p.log ≡ id)
new_of_log id lanes from (suc n) =
    all_cons (λ (p : PenValue). p.log ≡ id) (pen_value id (new_hand lanes from)) (map (pen_value id) (new_hands lanes (from + 1) n)) refl (new_of_log id lanes (from + 1) n)

pub new_count : (id : TableId) (lanes from n : ℕ) → length (map (pen_value id) (new_hands lanes from n)) ≡ n
new_count id lanes from zero = refl
new_count id lanes from (suc n) = let r = new_count id lanes (from + 1) n in omega arith

pub new_lanes : (id : TableId) (lanes from n : ℕ) (seats : List SeatValue) → map (λ (s : SeatValue). s.pen) seats ≡ map (pen_value id) (new_hands lanes from n) → AreOfLanes from seats
new_lanes id lanes from n [] is = tt
new_lanes id lanes from zero (s ∷ seats) is = absurd (cc (is))
new_lanes id lanes from (suc n) (s ∷ seats) is =
    let pen : s.pen ≡ pen_value id (new_hand lanes from) = cc (is) in
    (ap (λ (p : PenValue). p.lane) pen, new_lanes id lanes (from + 1) n seats (cc (is)))

-- the k-th of seats in the order of lanes, and back
pub of_lanes_at : (from k : ℕ) (seats : List SeatValue) (d : SeatValue) → AreOfLanes from seats → k < length seats → (get_or seats k d).pen.lane ≡ from + k
of_lanes_at from k [] d h lt = absurd (omega arith)
of_lanes_at from zero (s ∷ seats) d h lt = let e = h.0 in omega (arith, e)
of_lanes_at from (suc k) (s ∷ seats) d h lt = let r = of_lanes_at (from + 1) k seats d h.1 (omega arith) in omega (arith, r)

pub are_of_lanes : (from : ℕ) (seats : List SeatValue) → ((k : ℕ) (d : SeatValue) → k < length seats → (get_or seats k d).pen.lane ≡ from + k) → AreOfLanes from seats
are_of_lanes from [] h = tt
are_of_lanes from (s ∷ seats) h =
    let e = h 0 s (omega arith) in
    (omega (arith, e), are_of_lanes (from + 1) seats (λ k d lt. let r = h (suc k) d (omega arith) in omega (arith, r)))
