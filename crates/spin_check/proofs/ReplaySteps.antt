-- One entry more of a replay.
use Rattle.std.proofs.Common.{◌≡◌, ℕ, ◌+◌, ◌<◌, ◌≤◌, true, cond, List, [], ◌∷◌, ◌++◌, map, length, drop, set, refl, sym, ap, subst, ◌∙◌, arith}
use denote.Ref.{Bor}
use Rattle.std.specs.Prelude.{All, Option, None, Some, MatchOption, count_by, sum_by}
use Rattle.std.specs.Arc.{arc_value}
use Rattle.std.proofs.lemmas.List.{length-set, length-append, append_cancel_left}
use Rattle.std.proofs.lemmas.List.Elements.{All-head, All-tail}
use Rattle.std.proofs.lemmas.List.Sums.{sum_by-set, sum_by-cons, get_or-le-sum_by}
use Rattle.spin_word.specs.declared.command.Command.{Command}
use Rattle.spin_word.specs.declared.command.TheConstants.{MAX_LANES, MAX_PLACE}
use Rattle.spin_table.specs.declared.refusal.Refusal.{Refusal}
use Rattle.spin_table.specs.declared.refusal.Verdicted.{Verdicted}
use Rattle.spin_table.specs.declared.refusal.Verdicted.TheVariants as verdicted
use Rattle.spin_table.specs.Setups.{SetupData}
use Rattle.spin_table.specs.States.{State, VersionValue}
use Rattle.spin_table.specs.Soundness.{IsSoundVersion}
use Rattle.spin_table.specs.Refusals.{refusal_of}
use Rattle.spin_table.specs.Steps.{ChangesTo, IsStep}
use Rattle.spin_text.specs.Words.{ended, text_of}
use Rattle.spin_script.specs.Soundness.{is_command_work}
use Rattle.spin_report.specs.declared.entry.What.{What}
use Rattle.spin_report.specs.declared.entry.What.TheVariants as what
use Rattle.spin_report.specs.declared.entry.Entry.{Entry}
use Rattle.spin_report.specs.Asked.{Numbered, asked_by, asked_of}
use Rattle.spin_report.specs.Lines.{JobSeen, entry_line, job_line}
use Rattle.spin_report.specs.Jobs.{answer_calls, AreJobsFrom}
use Rattle.spin_report.specs.Segments.{moment}
use Rattle.spin_report.specs.Runs.{sends_of}
use Rattle.spin_report.specs.Legal.{Answers, IsNextEntry}
use Rattle.spin_report.proofs.AnswerUniqueness.{same_next}
use Rattle.spin_check.specs.declared.deeds.Ask.{Ask}
use Rattle.spin_check.specs.declared.answer.Answered.{Answered}
use Rattle.spin_check.specs.Inner.Told.{Begins}
use Rattle.spin_check.specs.Inner.Asks.{numbered, IsValid, asks_command, queue_of, commands_left}
use Rattle.spin_check.specs.Inner.Answers.{IsAnswered}
use Rattle.spin_check.specs.Inner.Replays.{At, Follows, IsNext, IsFound, sent_by_jobs, queues_after, IsFresh, HasNoNext, GoesOn, AreLonger, EndsAt, version_at}
use Rattle.spin_check.specs.Inner.Standings.{numbers_of}
use Rattle.spin_check.proofs.Queues.{all_set}
use Rattle.spin_check.proofs.ReplayLemmas.{IsAlong, along_none, along_more, along_all, along_stuck}

-- ---- the place

place_after : (d : SetupData) (s next : State) (c : Command) (v : Verdicted) → IsStep d s c v next → next.place ≤ s.place + 1
place_after d s next c v h = by_refusal (refusal_of d s c) v h where
  by_refusal : (o : Option Refusal) (v : Verdicted) → MatchOption o (ChangesTo d s c v next) (λ q. (v ≡ verdicted.Refused q) × (next ≡ s)) → next.place ≤ s.place + 1
  by_refusal (Some q) v k = omega (arith, ap (λ (t : State). t.place) k.1)
  by_refusal None verdicted.Accepted k = omega (arith, ap (λ (t : State). t.place) k.0)
  by_refusal None (verdicted.Refused r) k = omega (arith, ap (λ (t : State). t.place) k.0)

-- only a command moves the place on
place_moves : (d : SetupData) (s next : State) (e : Entry) (ask : Ask) → IsNextEntry d s e next → numbered ask ≡ asked_of e → next.place ≤ s.place + cond (asks_command ask) 1 0
place_moves d s next e ask h is = go e.what refl h.0 where
  asks : asks_command ask ≡ is_command_work (asked_by e.what)
  asks = ap (λ (n : Numbered). is_command_work n.asked) is

  go : (w : What) → e.what ≡ w → Answers d s w next → next.place ≤ s.place + cond (asks_command ask) 1 0
  go (what.Command c v) done a =
      let one : asks_command ask ≡ true = asks ∙ ap (λ x. is_command_work (asked_by x)) done in
      let more : cond {A = ℕ} (asks_command ask) 1 0 ≡ 1 = ap (λ b. cond {A = ℕ} b 1 0) one in
      omega (arith, place_after d s next c v a, more)
  go (what.Deed f r) done a = omega (arith, ap (λ (t : State). t.place) a.1)

-- ---- on the way

-- the replay stands behind entries of the segment, with what the next one needs
pub record IsOnWay (d : SetupData) (start at : At) : Type 0 where
  pub done : List Entry
  pub jobs : List JobSeen
  pub along : IsAlong d start done jobs at
  pub sound : IsSoundVersion d (version_at at)
  pub valid : All (λ queue. All IsValid queue) at.queues
  pub lanes : length at.queues ≤ MAX_LANES
  pub room : at.state.place + commands_left at.queues ≤ start.state.place + commands_left start.queues

pub on_way_none : (d : SetupData) (start : At) → IsFresh start → IsSoundVersion d (version_at start) → All (λ queue. All IsValid queue) start.queues → length start.queues ≤ MAX_LANES → IsOnWay d start start
on_way_none d start fresh sound valid lanes = record {
  done = [];
  jobs = [];
  along = along_none d start fresh;
  sound = sound;
  valid = valid;
  lanes = lanes;
  room = omega arith;
}

queue_left : (at after : At) (e : Entry) (ask : Ask) (others : List Ask) → e.lane < length at.queues → queue_of e.lane at.queues ≡ ask ∷ others → after.queues ≡ queues_after e at.queues
    → commands_left after.queues + cond (asks_command ask) 1 0 ≡ commands_left at.queues
queue_left at after e ask others lt first is =
    let count = λ (queue : List Ask). count_by asks_command queue in
    let sums : sum_by count (queues_after e at.queues) + count (queue_of e.lane at.queues) ≡ sum_by count at.queues + count (drop 1 (queue_of e.lane at.queues)) =
    sum_by-set count at.queues e.lane (drop 1 (queue_of e.lane at.queues)) [] lt in
    let whole : count (queue_of e.lane at.queues) ≡ cond {A = ℕ} (asks_command ask) 1 0 + count others = ap count first ∙ sum_by-cons (λ (a : Ask). cond (asks_command a) 1 0) ask others in
    let rest : count (drop 1 (queue_of e.lane at.queues)) ≡ count others = ap (λ q. count (drop 1 q)) first in
    omega (arith, sums, whole, rest, ap commands_left is)

pub on_way_more : (d : SetupData) (start at after : At) → GoesOn d at (Some after) → IsOnWay d start at → IsOnWay d start after
on_way_more d start at after goes way =
    let e = goes.0 in
    let own = goes.1 in
    let step = goes.2 in
    let ask = step.next.asked.0 in
    let others = step.next.asked.1 in
    let lt = step.next.there in
    let long : length after.queues ≡ length at.queues = ap length step.queues ∙ length-set at.queues e.lane (drop 1 (queue_of e.lane at.queues)) in
    let rest : All IsValid (drop 1 (queue_of e.lane at.queues)) =
    subst (λ q. All IsValid (drop 1 q)) (sym step.next.asked.2) (All-tail IsValid ask others (subst (All IsValid) step.next.asked.2 (way.valid e.lane [] lt))) in
    record {
      done = way.done ++ e ∷ [];
      jobs = way.jobs ++ own;
      along = along_more d start at after way.done way.jobs own e (same_next d) way.along step goes.3;
      sound = goes.4;
      valid = subst (λ qs. All (λ queue. All IsValid queue) qs) (sym step.queues) (all_set (λ queue. All IsValid queue) at.queues e.lane (drop 1 (queue_of e.lane at.queues)) lt way.valid rest);
      lanes = omega (arith, long, way.lanes);
      room = omega (arith, way.room, place_moves d at.state after.state e ask step.next.answers step.next.asked.3, queue_left at after e ask others lt step.next.asked.2 step.queues);
    }

pub rest_shorter : (d : SetupData) (at after : At) → GoesOn d at (Some after) → length after.rest < length at.rest
rest_shorter d at after goes =
    let step = goes.2 in
    let line = entry_line goes.0 in
    omega (arith, ap length step.next.text, length-append (ended line) after.rest, length-append line (10 ∷ []))

pub on_way_end : (d : SetupData) (start at : At) → All (λ queue. queue ≡ []) at.queues → IsOnWay d start at → EndsAt d start (Some at)
on_way_end d start at none way = (way.done, way.jobs, along_all d start at way.done way.jobs none way.along, way.sound, omega (arith, way.room))

pub on_way_stuck : (d : SetupData) (start at : At) → (All (λ queue. queue ≡ []) at.queues → ⊥) → GoesOn d at None → IsOnWay d start at → EndsAt d start None
on_way_stuck d start at left_over none way = along_stuck d start at way.done way.jobs left_over way.along none (same_next d)

-- ---- one step

module _ (d : SetupData) (at : At) (few : length at.queues ≤ MAX_LANES) where
  lane_begins : (e : Entry) (next : State) (more : List ℕ) → IsNext d at e next more → (e.lane < 10) × Begins at.rest e
  lane_begins e next more h = (omega (arith, h.there, few), (more, h.text))

  pub no_lane : ((entry : Entry) → entry.lane < 10 → Begins at.rest entry → ◌≡◌ {A = Option ℕ} None (Some entry.lane)) → HasNoNext d at
  no_lane told e next more h = let b = lane_begins e next more h in absurd (cc (told e b.0 b.1))

  module _ (lane : ℕ) (told : (entry : Entry) → entry.lane < 10 → Begins at.rest entry → ◌≡◌ {A = Option ℕ} (Some lane) (Some entry.lane)) where
    lane_is : (e : Entry) (next : State) (more : List ℕ) → IsNext d at e next more → lane ≡ e.lane
    lane_is e next more h = let b = lane_begins e next more h in cc (told e b.0 b.1)

    pub no_ask : queue_of lane at.queues ≡ [] → HasNoNext d at
    no_ask none e next more h =
        let same = lane_is e next more h in
        absurd (cc (none, ap (λ k. queue_of k at.queues) same ∙ h.asked.2))

    module _ (ask : Ask) (lt : lane < length at.queues) (first : queue_of lane at.queues ≡ ask ∷ drop 1 (queue_of lane at.queues)) where
      asked_is : (e : Entry) (next : State) (more : List ℕ) → IsNext d at e next more → numbered ask ≡ asked_of e
      asked_is e next more h =
          let same = lane_is e next more h in
          let both : ask ∷ drop 1 (queue_of lane at.queues) ≡ h.asked.0 ∷ h.asked.1 = sym first ∙ ap (λ k. queue_of k at.queues) same ∙ h.asked.2 in
          let one : ask ≡ h.asked.0 = cc (both) in
          ap numbered one ∙ h.asked.3

      pub no_answer : IsAnswered d at.state ask at.rest None → HasNoNext d at
      no_answer none e next more h = none e next h.answers (asked_is e next more h) (more, h.text)

      module _ (answered : Answered) (is : IsAnswered d at.state ask at.rest (Some answered)) where
        answer_is : (e : Entry) (next : State) (more : List ℕ) → IsNext d at e next more → (e ≡ answered.entry) × (next ≡ (arc_value answered.version).state)
        answer_is e next more h = is.4 e next h.answers (asked_is e next more h) (more, h.text)

        pub no_line : ((rest : List ℕ) → at.rest ≡ ended (entry_line answered.entry) ++ rest → ⊥) → HasNoNext d at
        no_line none e next more h = none more (h.text ∙ ap (λ x. ended (entry_line x) ++ more) (answer_is e next more h).0)

        pub no_order : (Follows at.last answered.entry → ⊥) → HasNoNext d at
        no_order none e next more h = none (subst (Follows at.last) (answer_is e next more h).0 h.order)

        -- the line is the report's, and all else is as it should be
        pub found_next : (queues : List (List Ask)) (rest : Bor (List ℕ)) → ask.lane < 10 → at.rest ≡ ended (entry_line answered.entry) ++ rest.now → Follows at.last answered.entry
            → queues ≡ set at.queues lane (drop 1 (queue_of lane at.queues)) → IsFound d at queues (Some (answered, rest))
        found_next queues rest low text order taken =
            let e = answered.entry in
            let of_ask : e.lane ≡ ask.lane = sym (ap (λ (n : Numbered). n.lane) is.1) in
            let same : lane ≡ e.lane = cc (told e (omega (arith, low, of_ask)) (rest.now, text)) in (
              record {
                there = subst (λ k. k < length at.queues) same lt;
                asked = (ask, drop 1 (queue_of lane at.queues), ap (λ k. queue_of k at.queues) (sym same) ∙ first, is.1);
                answers = is.0;
                order = order;
                text = text;
              },
              taken ∙ ap (λ k. set at.queues k (drop 1 (queue_of k at.queues))) same,
              is.2,
              is.3,
              λ x next more h.
                  let one = answer_is x next more h in
                  let cut : ended (entry_line e) ++ more ≡ ended (entry_line e) ++ rest.now = ap (λ y. ended (entry_line y) ++ more) (sym one.0) ∙ sym h.text ∙ text in
                  (one.0, one.1, append_cancel_left (ended (entry_line e)) more rest.now cut),
            )

    -- what is taken of the queue is valid, and a command finds room
    pub ask_valid : (ask : Ask) → lane < length at.queues → queue_of lane at.queues ≡ ask ∷ drop 1 (queue_of lane at.queues) → All (λ queue. All IsValid queue) at.queues → IsValid ask
    ask_valid ask lt first valid = All-head IsValid ask (drop 1 (queue_of lane at.queues)) (subst (All IsValid) first (valid lane [] lt))

    pub ask_room : (ask : Ask) → lane < length at.queues → queue_of lane at.queues ≡ ask ∷ drop 1 (queue_of lane at.queues) → at.state.place + commands_left at.queues ≤ MAX_PLACE
        → asks_command ask ≡ true → at.state.place < MAX_PLACE
    ask_room ask lt first room is =
        let count = λ (queue : List Ask). count_by asks_command queue in
        let within : count (queue_of lane at.queues) ≤ commands_left at.queues = get_or-le-sum_by count at.queues lane [] lt in
        let whole : count (queue_of lane at.queues) ≡ cond {A = ℕ} (asks_command ask) 1 0 + count (drop 1 (queue_of lane at.queues)) =
        ap count first ∙ sum_by-cons (λ (a : Ask). cond (asks_command a) 1 0) ask (drop 1 (queue_of lane at.queues)) in
        let one : cond {A = ℕ} (asks_command ask) 1 0 ≡ 1 = ap (λ b. cond {A = ℕ} b 1 0) is in
        omega (arith, within, whole, one, room)

-- the entry that was found is the one that may come next, and the lines of its jobs find no room
pub no_room : (d : SetupData) (at : At) (queues : List (List Ask)) (answered : Answered) (rest : Bor (List ℕ)) → IsFound d at queues (Some (answered, rest))
    → ((own : List JobSeen) → AreJobsFrom d (arc_value answered.version).state answered.entry 0 (answer_calls answered.entry.what) own → AreLonger (length rest.now) at.owed own) → GoesOn d at None
no_room d at queues answered rest found longer e next more h own jobs =
    let one = found.4 e next more h in
    let of_found : AreJobsFrom d (arc_value answered.version).state answered.entry 0 (answer_calls answered.entry.what) own =
    subst (λ s. AreJobsFrom d s answered.entry 0 (answer_calls answered.entry.what) own) one.1 (subst (λ (x : Entry). AreJobsFrom d next x 0 (answer_calls x.what) own) one.0 jobs) in
    subst (λ m. AreLonger (length m) at.owed own) (sym one.2) (longer own of_found)

-- the entry that was found is written, and its jobs are done
pub goes_on : (d : SetupData) (at after : At) (answered : Answered) (rest : Bor (List ℕ)) (own : List JobSeen) → IsFound d at after.queues (Some (answered, rest))
    → version_at after ≡ arc_value answered.version → after.last ≡ Some (moment answered.entry) → after.rest ≡ rest.now
    → AreJobsFrom d (arc_value answered.version).state answered.entry 0 (answer_calls answered.entry.what) own → after.owed ≡ at.owed ++ text_of (map job_line own)
    → after.sends ≡ at.sends ++ numbers_of (sends_of answered.entry.what) → after.job_sends ≡ at.job_sends ++ sent_by_jobs own → GoesOn d at (Some after)
goes_on d at after answered rest own found version last rest_is jobs owed sends job_sends = (
  answered.entry,
  own,
  record {
    next = subst (λ r. IsNext d at answered.entry after.state r) (sym rest_is) (subst (λ (v : VersionValue). IsNext d at answered.entry v.state rest.now) (sym version) found.0);
    queues = found.1;
    last = last;
    jobs = subst (λ (v : VersionValue). AreJobsFrom d v.state answered.entry 0 (answer_calls answered.entry.what) own) (sym version) jobs;
    owed = owed;
    sends = sends;
    job_sends = job_sends;
  },
  λ x next more h. let one = found.4 x next more h in (one.0, one.1 ∙ sym (ap (λ (v : VersionValue). v.state) version), one.2 ∙ sym rest_is),
  subst (IsSoundVersion d) (sym version) found.2,
)
