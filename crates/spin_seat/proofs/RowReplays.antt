-- Replays of rows.
use Rattle.std.proofs.Common.{◌≡◌, ◌⊎◌, ℕ, zero, suc, ◌+◌, ◌≤◌, List, [], ◌∷◌, ◌++◌, length, take, refl, sym, ap, ◌∙◌, subst, arith, inl, inr, ⊎_elim, append_assoc}
use Rattle.std.specs.Prelude.{Option, None, Some, MatchOption}
use Rattle.spin_word.specs.declared.command.Command.{Command}
use Rattle.spin_word.specs.declared.row.Row.{Row}
use Rattle.spin_word.proofs.RowFields.{one_command}
use Rattle.spin_table.specs.declared.refusal.Refusal.{Refusal}
use Rattle.spin_table.specs.declared.refusal.Verdicted.{Verdicted}
use Rattle.spin_table.specs.declared.refusal.Verdicted.TheVariants as verdicted
use Rattle.spin_table.specs.Setups.{SetupData}
use Rattle.spin_table.specs.States.{State, start_of}
use Rattle.spin_table.specs.Refusals.{refusal_of}
use Rattle.spin_table.specs.Steps.{IsStep, ChangesTo}
use Rattle.spin_table.proofs.StepUniqueness.{one_step}
use Rattle.spin_seat.specs.Replay.{IsRowStep, IsReplayFrom, IsReplay, IsCleanFrom, IsClean}

pub IsReplayFrom-append : (d : SetupData) (rows more : List Row) (s middle last : State) → IsReplayFrom d s rows middle → IsReplayFrom d middle more last → IsReplayFrom d s (rows ++ more) last
IsReplayFrom-append d [] more s middle last e h = subst (λ (t : State). IsReplayFrom d t more last) e h
IsReplayFrom-append d (row ∷ rows) more s middle last r h = (r.0, r.1, r.2, IsReplayFrom-append d rows more r.1 middle last r.3 h)

pub IsReplayFrom-push : (d : SetupData) (first : State) (rows : List Row) (row : Row) (s next : State) (v : Verdicted)
    → IsReplayFrom d first rows s → IsRowStep d s row v next → IsReplayFrom d first (rows ++ row ∷ []) next
IsReplayFrom-push d first rows row s next v r step = IsReplayFrom-append d rows (row ∷ []) first s next r (v, next, step, refl)

-- an accepted command raises the place by one, and a refused one leaves it
changes_place : (d : SetupData) (s : State) (c : Command) (v : Verdicted) (next : State) → ChangesTo d s c v next → next.place ≤ s.place + 1
changes_place d s c verdicted.Accepted next h = let e = ap (λ (t : State). t.place) h.0 in omega arith
changes_place d s c (verdicted.Refused r) next h = let e = ap (λ (t : State). t.place) h.0 in omega arith

step_place : (d : SetupData) (s : State) (c : Command) (v : Verdicted) (next : State) (o : Option Refusal)
    → MatchOption o (ChangesTo d s c v next) (λ r. (v ≡ verdicted.Refused r) × (next ≡ s)) → next.place ≤ s.place + 1
step_place d s c v next None h = changes_place d s c v next h
step_place d s c v next (Some r) h = let e = ap (λ (t : State). t.place) h.1 in omega arith

-- some rows raise the place by at most their number
pub IsReplayFrom-place : (d : SetupData) (rows : List Row) (s last : State) → IsReplayFrom d s rows last → last.place ≤ s.place + length rows
IsReplayFrom-place d [] s last e = let p = ap (λ (t : State). t.place) e in omega arith
IsReplayFrom-place d (row ∷ rows) s last r =
    let one = step_place d s r.2.0 r.0 r.1 (refusal_of d s r.2.0) r.2.2 in
    let more = IsReplayFrom-place d rows r.1 last r.3 in
    omega arith

-- a command leads from a state to one next state
IsStep-one : (d : SetupData) (s : State) (c : Command) (v w : Verdicted) (next other : State) → IsStep d s c v next → IsStep d s c w other → next ≡ other
IsStep-one d s c v w next other h k = (one_step d s c v w next other h k).1

-- rows have one replay
pub IsReplayFrom-one : (d : SetupData) (first : State) (rows : List Row) (s t : State) → IsReplayFrom d first rows s → IsReplayFrom d first rows t → s ≡ t
IsReplayFrom-one d first [] s t h k = h ∙ sym k
IsReplayFrom-one d first (row ∷ rows) s t h k =
    let same : h.2.0 ≡ k.2.0 = one_command row h.2.0 k.2.0 h.2.1 k.2.1 in
    let step = subst (λ (c : Command). IsStep d first c h.0 h.1) same h.2.2 in
    let next : h.1 ≡ k.1 = IsStep-one d first k.2.0 h.0 k.0 h.1 k.1 step k.2.2 in
    IsReplayFrom-one d k.1 rows s t (subst (λ (u : State). IsReplayFrom d u rows s) next h.3) k.3

pub IsReplay-one : (d : SetupData) (rows : List Row) (s t : State) → IsReplay d rows s → IsReplay d rows t → s ≡ t
IsReplay-one d = IsReplayFrom-one d (start_of d)

-- rows that have a replay have one up to each place
pub IsReplay-take : (d : SetupData) (rows : List Row) (p : ℕ) (s last : State) → IsReplayFrom d s rows last → (t : State) × IsReplayFrom d s (take p rows) t
IsReplay-take d rows zero s last r = (s, refl)
IsReplay-take d [] (suc p) s last r = (s, refl)
IsReplay-take d (row ∷ rows) (suc p) s last r =
    let more = IsReplay-take d rows p r.1 last r.3 in
    (more.0, (r.0, r.1, r.2, more.1))

-- the last row of a list, if there is one
last_row : (rows : List Row) → (rows ≡ []) ⊎ ((front : List Row) × (row : Row) × (rows ≡ front ++ row ∷ []))
last_row [] = inl refl
last_row (row ∷ rows) =
    ⊎_elim (λ (e : rows ≡ []). inr ([], row, ap (λ l. row ∷ l) e))
    (λ (t : (front : List Row) × (x : Row) × (rows ≡ front ++ x ∷ [])). inr (row ∷ t.0, t.1, ap (λ l. row ∷ l) t.2)) (last_row rows)

-- a clean log has a replay
pub clean_replays : (d : SetupData) (first : State) (log : List Row) → IsCleanFrom d first log → (s : State) × IsReplayFrom d first log s
clean_replays d first log clean =
    ⊎_elim (λ (e : log ≡ []). (first, subst (λ rows. IsReplayFrom d first rows first) (sym e) refl))
    (λ (t : (front : List Row) × (row : Row) × (log ≡ front ++ row ∷ [])).
    let a = clean t.0 t.1 [] t.2 in
    (a.2.0, subst (λ rows. IsReplayFrom d first rows a.2.0) (sym t.2) (IsReplayFrom-push d first t.0 t.1 a.0 a.2.0 verdicted.Accepted a.1 a.2.1))) (last_row log)

-- an accepted command raises the place by one
accepted_place : (d : SetupData) (s : State) (c : Command) (next : State) (o : Option Refusal)
    → MatchOption o (ChangesTo d s c verdicted.Accepted next) (λ r. (verdicted.Accepted ≡ verdicted.Refused r) × (next ≡ s)) → next.place ≡ s.place + 1
accepted_place d s c next None h = ap (λ (t : State). t.place) h.0
accepted_place d s c next (Some r) h = absurd (cc (h.0))

-- after these rows and a further list of a clean log the place is that of the first rows and the list's length
clean_place_on : (d : SetupData) (first : State) (front rows rest log : List Row) (s last : State) → IsCleanFrom d first log
    → log ≡ front ++ (rows ++ rest) → IsReplayFrom d first front s → IsReplayFrom d s rows last → last.place ≡ s.place + length rows
clean_place_on d first front [] rest log s last clean is before r = omega (arith, ap (λ (t : State). t.place) r)
clean_place_on d first front (row ∷ rows) rest log s last clean is before r =
    let a = clean front row (rows ++ rest) is in
    let same : s ≡ a.0 = IsReplayFrom-one d first front s a.0 before a.1 in
    let command : r.2.0 ≡ a.2.1.0 = one_command row r.2.0 a.2.1.0 r.2.1 a.2.1.1 in
    let here : IsStep d a.0 a.2.1.0 r.0 r.1 = subst (λ (x : State × Command). IsStep d x.0 x.1 r.0 r.1) (λ i. (same i, command i)) r.2.2 in
    let next : r.1 ≡ a.2.0 = IsStep-one d a.0 a.2.1.0 r.0 verdicted.Accepted r.1 a.2.0 here a.2.1.2 in
    let up : a.2.0.place ≡ a.0.place + 1 = accepted_place d a.0 a.2.1.0 a.2.0 (refusal_of d a.0 a.2.1.0) a.2.1.2 in
    let more = clean_place_on d first (front ++ row ∷ []) rows rest log r.1 last clean
    (is ∙ sym (append_assoc front (row ∷ []) (rows ++ rest))) (IsReplayFrom-push d first front row s r.1 r.0 before r.2) r.3 in
    omega (arith, more, up, ap (λ (t : State). t.place) same, ap (λ (t : State). t.place) next)

-- the place after the first rows of a clean log lies their number past the first state's
pub clean_place_from : (d : SetupData) (first : State) (rows rest log : List Row) (last : State) → IsCleanFrom d first log → log ≡ rows ++ rest
    → IsReplayFrom d first rows last → last.place ≡ first.place + length rows
clean_place_from d first rows rest log last clean is r = clean_place_on d first [] rows rest log first last clean is refl r

pub clean_place : (d : SetupData) (rows rest log : List Row) (last : State) → IsClean d log → log ≡ rows ++ rest → IsReplay d rows last → last.place ≡ length rows
clean_place d rows rest log last clean is r = let e = clean_place_from d (start_of d) rows rest log last clean is r in omega (arith, e)
