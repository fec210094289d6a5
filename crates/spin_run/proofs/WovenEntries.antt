-- The woven entries of all lanes are legal.
use Rattle.std.proofs.Common.{◌≡◌, ◌==◌, ℕ, ◌+◌, ◌-◌, ◌<◌, ◌≤◌, Bool, true, false, cond, List, [], ◌∷◌, ◌++◌, map, length, take, drop, refl, sym, ap, ◌∙◌, subst, arith}
use Rattle.std.specs.Prelude.{All, filter, Option, Some, None, MatchOption}
use Rattle.std.proofs.lemmas.List.Elements.{All-map}
use Rattle.std.proofs.lemmas.List.{take-append-drop, length-take-le}
use Rattle.spin_word.specs.declared.command.Command.{Command}
use Rattle.spin_word.specs.declared.row.Row.{Row}
use Rattle.spin_log.specs.Pens.{PenValue}
use Rattle.spin_table.specs.declared.refusal.Refusal.{Refusal}
use Rattle.spin_table.specs.declared.refusal.Verdicted.TheVariants as verdicted
use Rattle.spin_table.specs.Setups.{SetupData}
use Rattle.spin_table.specs.States.{State}
use Rattle.spin_table.specs.Refusals.{refusal_of}
use Rattle.spin_table.specs.Steps.{IsStep, ChangesTo}
use Rattle.spin_table.proofs.StepUniqueness.{one_step}
use Rattle.spin_seat.specs.Replay.{IsReplayFrom, IsCleanFrom}
use Rattle.spin_seat.specs.Places.{place_past, rows_past}
use Rattle.spin_seat.specs.Answers as seat
use Rattle.spin_seat.proofs.LaneCounts.{by_lane}
use Rattle.spin_seat.proofs.SeatInvariants.{all_unmap}
use Rattle.spin_seat.proofs.RowReplays.{IsReplayFrom-one, clean_place_from}
use Rattle.spin_seat.proofs.PastPlaces.{place_past_is, rows_past_is}
use Rattle.spin_seat.proofs.SeatAnswers.{answer_stands}
use Rattle.spin_seat.proofs.WovenAnswers.{weaves_are_legal_from}
use Rattle.spin_proto.specs.declared.deed.Job.{Job}
use Rattle.spin_seat.specs.declared.answer.SeatFault.{SeatFault}
use Rattle.spin_report.specs.declared.entry.What.{What}
use Rattle.spin_report.specs.declared.entry.What.TheVariants as what
use Rattle.spin_report.specs.declared.entry.Entry.{Entry}
use Rattle.spin_report.specs.Asked.{Numbered}
use Rattle.spin_report.specs.Legal.{Answers, IsNextEntry, IsLegal}
use Rattle.spin_report.specs.Segments.{of_lane, IsInOrder}
use Rattle.spin_run.specs.Lanes.{said_of, seat_answer}
use Rattle.spin_run.proofs.EntryOrder.{rank_rises}
use Rattle.spin_run.proofs.LogCounts.{AllRan}

filter_answers : (k : ℕ) (entries : List Entry) → filter (λ (a : seat.Answer). a.lane == k) (map seat_answer entries) ≡ map seat_answer (of_lane k entries)
filter_answers k [] = refl
filter_answers k (e ∷ es) = go (e.lane == k) (filter_answers k es)
  where
    go : (b : Bool) → filter (λ (a : seat.Answer). a.lane == k) (map seat_answer es) ≡ map seat_answer (of_lane k es)
        → cond b (seat_answer e ∷ filter (λ (a : seat.Answer). a.lane == k) (map seat_answer es))
        (filter (λ (a : seat.Answer). a.lane == k) (map seat_answer es)) ≡ map seat_answer (cond b (e ∷ of_lane k es) (of_lane k es))
    go true e' = ap (λ l. seat_answer e ∷ l) e'
    go false e' = e'

answers_said : (d : SetupData) (s : State) (w : What) (next : State) → seat.LeadsTo d s (said_of w) next → Answers d s w next
answers_said d s (what.Command c v) next h = h
answers_said d s (what.Deed asked reply) next h = h

-- answers that are legal are legal as entries
legal_entries : (d : SetupData) (entries : List Entry) (s last : State) → seat.AreLegalAnswers d s (map seat_answer entries) last → IsLegal d s entries last
legal_entries d [] s last h = h
legal_entries d (e ∷ es) s last h = (h.0, (answers_said d s e.what h.0 h.1, h.2), legal_entries d es h.0 last h.3)

-- ---- the state of an entry

-- an accepted command raises the place by one, and a refused one leaves it
accepted_place : (d : SetupData) (s : State) (c : Command) (next : State) (o : Option Refusal)
    → MatchOption o (ChangesTo d s c verdicted.Accepted next) (λ r. (verdicted.Accepted ≡ verdicted.Refused r) × (next ≡ s)) → next.place ≡ s.place + 1
accepted_place d s c next None h = ap (λ (t : State). t.place) h.0
accepted_place d s c next (Some r) h = absurd (cc (h.0))

refused_same : (d : SetupData) (s : State) (c : Command) (r : Refusal) (next : State) (o : Option Refusal)
    → MatchOption o (ChangesTo d s c (verdicted.Refused r) next) (λ q. (verdicted.Refused r ≡ verdicted.Refused q) × (next ≡ s)) → next ≡ s
refused_same d s c r next None h = h.0
refused_same d s c r next (Some q) h = h.1

module _ (d : SetupData) (first : State) (log : List Row) (clean : IsCleanFrom d first log) where
  -- the rows up to a place lead to that state
  abbrev pub LeadTo : ℕ → State → Type 0
  LeadTo p s = IsReplayFrom d first (take (rows_past first.place p) log) s

  place_at : (p : ℕ) (s : State) → first.place ≤ p → p ≤ place_past first.place (length log) → LeadTo p s → s.place ≡ p
  place_at p s since le r =
      let rows = rows_past first.place p in
      let is = rows_past_is first.place p in
      let within : rows ≤ length log = omega (arith, le, is, place_past_is first.place (length log)) in
      omega (arith, clean_place_from d first (take rows log) (drop rows log) log s clean (sym (take-append-drop rows log)) r, length-take-le rows log within, is, since)

  -- from the replay up to a place an entry leads to the replay up to its own
  pub next_replays : (p : ℕ) (s next : State) (e : Entry) → first.place ≤ p → p ≤ place_past first.place (length log) → LeadTo p s
      → seat.IsAnswerFrom d first log (seat_answer e) → IsNextEntry d s e next → LeadTo e.place next
  next_replays p s next e since le r a step = go e.what a.leads a.replay_before step.0
    where
      at : s.place ≡ p
      at = place_at p s since le r

      stays : next ≡ s → LeadTo e.place next
      stays same = subst (λ (x : ℕ × State). LeadTo x.0 x.1) (λ i. (sym (step.1 ∙ ap (λ (t : State). t.place) same ∙ at) i, sym same i)) r

      goes : next.place ≡ s.place + 1 → (c : Command) → IsStep d s c verdicted.Accepted next → LeadTo (e.place - 1) a.before
          → IsStep d a.before c verdicted.Accepted a.after → LeadTo e.place next
      goes up c here before there =
          let low : e.place - 1 ≡ p = omega (arith, step.1, up, at) in
          let from : a.before ≡ s = IsReplayFrom-one d first (take (rows_past first.place p) log) a.before s (subst (λ (n : ℕ). LeadTo n a.before) low before) r in
          let same : a.after ≡ next = (one_step d s c verdicted.Accepted verdicted.Accepted a.after next (subst (λ (t : State). IsStep d t c verdicted.Accepted a.after) from there) here).1 in
          subst (λ (t : State). LeadTo e.place t) same a.replay_after

      go : (w : What) → seat.LeadsTo d a.before (said_of w) a.after
          → LeadTo (cond (seat.is_accepted (said_of w)) (e.place - 1) e.place) a.before → Answers d s w next → LeadTo e.place next
      go (what.Command c verdicted.Accepted) leads before here = goes (accepted_place d s c next (refusal_of d s c) here) c here before leads
      go (what.Command c (verdicted.Refused q)) leads before here = stays (refused_same d s c q next (refusal_of d s c) here)
      go (what.Deed asked reply) leads before here = stays here.1

-- ---- all lanes

module _ (d : SetupData) (first : State) (lanes : ℕ) (asked : List Numbered) (before after : ℕ → PenValue) (trail : ℕ → List Entry) (jobs : ℕ → List Job) (stop : ℕ → Option SeatFault) (start more : List Row)
    (all : AllRan d first lanes asked before after trail jobs stop start more) (woven : List Entry)
    (under : All (λ (e : Entry). e.lane < lanes) woven) (each : (k : ℕ) → k < lanes → of_lane k woven ≡ trail k) where
  answers_each : (k : ℕ) → k < lanes → filter (λ (a : seat.Answer). a.lane == k) (map seat_answer woven) ≡ map seat_answer (trail k)
  answers_each k lt = filter_answers k woven ∙ ap (map seat_answer) (each k lt)

  -- each entry is right in the whole log
  pub all_right : All (λ e. seat.IsAnswerFrom d first (start ++ more) (seat_answer e)) woven
  all_right = all_unmap (seat.IsAnswerFrom d first (start ++ more)) seat_answer woven
      (by_lane (seat.IsAnswerFrom d first (start ++ more)) (λ (a : seat.Answer). a.lane) lanes (map seat_answer woven) (All-map (λ (a : seat.Answer). a.lane < lanes) seat_answer woven under) (λ k lt.
      subst (All (seat.IsAnswerFrom d first (start ++ more))) (sym (answers_each k lt))
      (λ j a' in'. answer_stands d (after k).front (start ++ more) _ (all.met k lt).front ((all.ran k lt).ran.steps j a' in'))))

  pub woven_legal : (begun last : State) → IsCleanFrom d first (start ++ more) → IsReplayFrom d first start begun → IsReplayFrom d first (start ++ more) last → IsInOrder woven
      → IsLegal d begun woven last
  woven_legal begun last clean from to up =
      legal_entries d woven begun last
      (weaves_are_legal_from d first lanes start more begun last before after (λ k. map seat_answer (trail k)) (map seat_answer woven) clean from to all.rows
      (λ k lt. (all.at_start k lt).0) (λ k lt. (all.at_start k lt).1) (λ k lt. (all.ran k lt).ran) all.met
      (record {
        each = answers_each;
        lanes_are = All-map (λ (a : seat.Answer). a.lane < lanes) seat_answer woven under;
        order = rank_rises woven up;
      }))
