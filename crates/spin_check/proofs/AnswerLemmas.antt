-- What a command or a deed comes to is one thing, but for the cycle that is told.
use Rattle.std.proofs.Common.{◌≡◌, ℕ, ◌<◌, ◌^◌, true, false, List, [], refl, sym, ap, subst, ◌∙◌, arith}
use Rattle.std.specs.Prelude.{Option, None, Some, MatchOption, All}
use Rattle.spin_word.specs.declared.command.Command.{Command}
use Rattle.spin_word.specs.declared.command.TheConstants.{MAX_PLACE}
use Rattle.spin_word.specs.declared.work.Work.{Work}
use Rattle.spin_word.specs.declared.work.Work.TheVariants as work
use Rattle.spin_word.specs.declared.work.Deed.{Deed}
use Rattle.spin_table.specs.declared.refusal.Refusal.{Refusal}
use Rattle.spin_table.specs.declared.refusal.Refusal.TheVariants as refusal
use Rattle.spin_table.specs.declared.refusal.Verdicted.{Verdicted}
use Rattle.spin_table.specs.declared.refusal.Verdicted.TheVariants as verdicted
use Rattle.spin_table.specs.Laws.{cause_of, without_cycle}
use Rattle.spin_table.specs.Setups.{SetupData}
use Rattle.spin_table.specs.States.{State, VersionValue}
use Rattle.spin_table.specs.Soundness.{IsSound, IsSoundVersion}
use Rattle.spin_table.specs.Refusals.{refusal_of}
use Rattle.spin_table.specs.Steps.{ChangesTo, IsStep, MayConflict}
use Rattle.spin_table.proofs.StepUniqueness.{one_step}
use Rattle.spin_table.proofs.Conflicts.{cycle_bound}
use Rattle.spin_proto.specs.declared.reply.Reply.{Reply}
use Rattle.spin_proto.specs.Replies.{IsDeedReply, BelongsTo, calls_left}
use Rattle.spin_report.specs.declared.entry.What.{What}
use Rattle.spin_report.specs.declared.entry.What.TheVariants as what
use Rattle.spin_report.specs.declared.entry.Entry.{Entry}
use Rattle.spin_report.specs.Asked.{Numbered, asked_by, asked_of}
use Rattle.spin_report.specs.Legal.{Answers, IsNextEntry}
use Rattle.spin_report.specs.Jobs.{answer_calls}
use Rattle.spin_report.proofs.AnswerUniqueness.{one_reply, one_next}
use Rattle.spin_check.specs.declared.deeds.Ask.{Ask}
use Rattle.spin_check.specs.Inner.Told.{Begins, TellsVerdict, conflict}
use Rattle.spin_check.specs.Inner.Asks.{work_of, numbered}
use Rattle.spin_check.specs.Inner.Answers.{tells_cycle, IsConflictTold, IsJudged, IsDone, IsAnswered}

-- ---- commands

-- a refusal that is no conflict is its own cause
back : (r : Refusal) → tells_cycle r ≡ false → cause_of r ≡ r
back refusal.UnknownEvent plain = refl
back refusal.UnknownModule plain = refl
back refusal.UnknownHandler plain = refl
back refusal.UnknownGuard plain = refl
back refusal.UnknownBinding plain = refl
back refusal.WrongType plain = refl
back refusal.Downward plain = refl
back refusal.WrongMode plain = refl
back (refusal.Denied rule) plain = refl
back refusal.TooMany plain = refl
back (refusal.ForcedMode rule) plain = refl
back (refusal.Conflict cycle) plain = absurd (cc (plain))

-- of the verdicts that are no conflict, one alone is a command's
plain_verdict : (v : Verdicted) (r : Refusal) → tells_cycle r ≡ false → without_cycle v ≡ verdicted.Refused (cause_of r) → v ≡ verdicted.Refused r
plain_verdict verdicted.Accepted r plain same = absurd (cc (same))
plain_verdict (verdicted.Refused q) r plain same = ap verdicted.Refused (go q r plain (cc (same))) where
  go : (q r : Refusal) → tells_cycle r ≡ false → cause_of q ≡ cause_of r → q ≡ r
  go q (refusal.Conflict cycle) plain same = absurd (cc (plain))
  go (refusal.Conflict cycle) refusal.UnknownEvent plain same = absurd (cc (same))
  go (refusal.Conflict cycle) refusal.UnknownModule plain same = absurd (cc (same))
  go (refusal.Conflict cycle) refusal.UnknownHandler plain same = absurd (cc (same))
  go (refusal.Conflict cycle) refusal.UnknownGuard plain same = absurd (cc (same))
  go (refusal.Conflict cycle) refusal.UnknownBinding plain same = absurd (cc (same))
  go (refusal.Conflict cycle) refusal.WrongType plain same = absurd (cc (same))
  go (refusal.Conflict cycle) refusal.Downward plain same = absurd (cc (same))
  go (refusal.Conflict cycle) refusal.WrongMode plain same = absurd (cc (same))
  go (refusal.Conflict cycle) (refusal.Denied rule) plain same = absurd (cc (same))
  go (refusal.Conflict cycle) refusal.TooMany plain same = absurd (cc (same))
  go (refusal.Conflict cycle) (refusal.ForcedMode rule) plain same = absurd (cc (same))
  go refusal.UnknownEvent r plain same = same ∙ back r plain
  go refusal.UnknownModule r plain same = same ∙ back r plain
  go refusal.UnknownHandler r plain same = same ∙ back r plain
  go refusal.UnknownGuard r plain same = same ∙ back r plain
  go refusal.UnknownBinding r plain same = same ∙ back r plain
  go refusal.WrongType r plain same = same ∙ back r plain
  go refusal.Downward r plain same = same ∙ back r plain
  go refusal.WrongMode r plain same = same ∙ back r plain
  go (refusal.Denied rule) r plain same = same ∙ back r plain
  go refusal.TooMany r plain same = same ∙ back r plain
  go (refusal.ForcedMode rule) r plain same = same ∙ back r plain

pub accepted_alone : (d : SetupData) (s next : State) (c : Command) → IsStep d s c verdicted.Accepted next
    → (v : Verdicted) (other : State) → IsStep d s c v other → v ≡ verdicted.Accepted
accepted_alone d s next c step verdicted.Accepted other h = refl
accepted_alone d s next c step (verdicted.Refused r) other h =
    let same = (one_step d s c verdicted.Accepted (verdicted.Refused r) next other step h).0 in
    absurd (cc (same))

pub refused_alone : (d : SetupData) (s : State) (c : Command) (r : Refusal) → tells_cycle r ≡ false → IsStep d s c (verdicted.Refused r) s
    → (v : Verdicted) (other : State) → IsStep d s c v other → v ≡ verdicted.Refused r
refused_alone d s c r plain step v other h = plain_verdict v r plain (one_step d s c v (verdicted.Refused r) other s h step).0

-- where a conflict applies, each verdict is one
only_conflicts : (v : Verdicted) (r : Refusal) → tells_cycle r ≡ true → without_cycle v ≡ without_cycle (verdicted.Refused r) → (cycle : List ℕ) × (v ≡ conflict cycle)
only_conflicts v refusal.UnknownEvent is same = absurd (cc (is))
only_conflicts v refusal.UnknownModule is same = absurd (cc (is))
only_conflicts v refusal.UnknownHandler is same = absurd (cc (is))
only_conflicts v refusal.UnknownGuard is same = absurd (cc (is))
only_conflicts v refusal.UnknownBinding is same = absurd (cc (is))
only_conflicts v refusal.WrongType is same = absurd (cc (is))
only_conflicts v refusal.Downward is same = absurd (cc (is))
only_conflicts v refusal.WrongMode is same = absurd (cc (is))
only_conflicts v (refusal.Denied rule) is same = absurd (cc (is))
only_conflicts v refusal.TooMany is same = absurd (cc (is))
only_conflicts v (refusal.ForcedMode rule) is same = absurd (cc (is))
only_conflicts verdicted.Accepted (refusal.Conflict other) is same = absurd (cc (same))
only_conflicts (verdicted.Refused q) (refusal.Conflict other) is same = go q (cc (same)) where
  go : (q : Refusal) → cause_of q ≡ refusal.Conflict [] → (cycle : List ℕ) × (verdicted.Refused q ≡ conflict cycle)
  go (refusal.Conflict cycle) h = (cycle, refl)
  go refusal.UnknownEvent h = absurd (cc (h))
  go refusal.UnknownModule h = absurd (cc (h))
  go refusal.UnknownHandler h = absurd (cc (h))
  go refusal.UnknownGuard h = absurd (cc (h))
  go refusal.UnknownBinding h = absurd (cc (h))
  go refusal.WrongType h = absurd (cc (h))
  go refusal.Downward h = absurd (cc (h))
  go refusal.WrongMode h = absurd (cc (h))
  go (refusal.Denied rule) h = absurd (cc (h))
  go refusal.TooMany h = absurd (cc (h))
  go (refusal.ForcedMode rule) h = absurd (cc (h))

-- a conflict leaves the state
refused_stays : (d : SetupData) (s next : State) (c : Command) (r : Refusal) → IsStep d s c (verdicted.Refused r) next → next ≡ s
refused_stays d s next c r h = by_refusal (refusal_of d s c) h where
  by_refusal : (o : Option Refusal) → MatchOption o (ChangesTo d s c (verdicted.Refused r) next) (λ q. (verdicted.Refused r ≡ verdicted.Refused q) × (next ≡ s)) → next ≡ s
  by_refusal None k = k.0
  by_refusal (Some q) k = k.1

-- each verdict, where a conflict applies: a cycle that the command may be refused for, with numbers of 16 bits
pub conflicts : (d : SetupData) (s : State) (c : Command) (r : Refusal) → IsSound d s → s.place < MAX_PLACE → tells_cycle r ≡ true → IsStep d s c (verdicted.Refused r) s
    → (v : Verdicted) (next : State) → IsStep d s c v next
    → (cycle : List ℕ) × (v ≡ conflict cycle) × MayConflict d s c cycle × All (λ n. n < 2 ^ 16) cycle
conflicts d s c r sound room is step v next h =
    let found = only_conflicts v r is (one_step d s c v (verdicted.Refused r) next s h step).0 in
    let moved : IsStep d s c (conflict found.0) next = subst (λ w. IsStep d s c w next) found.1 h in
    let may : MayConflict d s c found.0 = subst (λ t. IsStep d s c (conflict found.0) t) (refused_stays d s next c (refusal.Conflict found.0) moved) moved in
    let low = cycle_bound d s c found.0 sound may in
    (found.0, found.1, may, λ k x lt. let one = low k x lt in omega (arith, one, room))

-- ---- what is judged

-- the verdict, which leads to that version, is the one that is told
abbrev pub IsOne : SetupData → State → Command → List ℕ → Verdicted → VersionValue → Type 0
IsOne d s c report verdict next =
    IsStep d s c verdict next.state × IsSoundVersion d next × ((v : Verdicted) (other : State) → IsStep d s c v other → TellsVerdict report v → v ≡ verdict)

pub one_accepted : (d : SetupData) (s : State) (next after : VersionValue) (c : Command) (report : List ℕ)
    → IsStep d s c verdicted.Accepted next.state → IsSoundVersion d next → after ≡ next → IsOne d s c report verdicted.Accepted after
one_accepted d s next after c report step sound state =
    subst (IsOne d s c report verdicted.Accepted) (sym state) (step, sound, λ v other h tells. accepted_alone d s next.state c step v other h)

pub one_refused : (d : SetupData) (now after : VersionValue) (c : Command) (r : Refusal) (report : List ℕ) → tells_cycle r ≡ false → IsStep d now.state c (verdicted.Refused r) now.state
    → IsSoundVersion d now → after ≡ now → IsOne d now.state c report (verdicted.Refused r) after
one_refused d now after c r report plain step sound same =
    subst (IsOne d now.state c report (verdicted.Refused r)) (sym same) (step, sound, λ v other h tells. refused_alone d now.state c r plain step v other h)

-- no cycle is told, or one that the command can't be refused for, or one that it may be
module _ (d : SetupData) (s : State) (c : Command) (report : List ℕ) where
  pub no_cycle : ((cycle : List ℕ) → All (λ n. n < 2 ^ 16) cycle → TellsVerdict report (conflict cycle) → ◌≡◌ {A = Option (List ℕ)} None (Some cycle)) → IsConflictTold d s c report None
  no_cycle told cycle low may tells = absurd (cc (told cycle low tells))

  module _ (cycle : List ℕ) (told : (other : List ℕ) → All (λ n. n < 2 ^ 16) other → TellsVerdict report (conflict other) → ◌≡◌ {A = Option (List ℕ)} (Some cycle) (Some other)) where
    same_cycle : (other : List ℕ) → All (λ n. n < 2 ^ 16) other → TellsVerdict report (conflict other) → cycle ≡ other
    same_cycle other low tells = cc (told other low tells)

    pub other_cycle : (MayConflict d s c cycle → ⊥) → IsConflictTold d s c report None
    other_cycle none other low may tells = none (subst (MayConflict d s c) (sym (same_cycle other low tells)) may)

    pub own_cycle : MayConflict d s c cycle → IsConflictTold d s c report (Some cycle)
    own_cycle may = (may, same_cycle)

-- where a conflict applies
module _ (d : SetupData) (now : VersionValue) (c : Command) (r : Refusal) (report : List ℕ) (sound : IsSoundVersion d now)
    (room : now.state.place < MAX_PLACE) (is : tells_cycle r ≡ true) (step : IsStep d now.state c (verdicted.Refused r) now.state) where
  pub none_judged : IsConflictTold d now.state c report None → IsJudged d now.state c report None
  none_judged none v next h tells =
      let found = conflicts d now.state c r sound.state room is step v next h in
      none found.0 found.3 found.2 (subst (TellsVerdict report) found.1 tells)

  pub cycle_judged : (cycle : List ℕ) (after : VersionValue) → IsConflictTold d now.state c report (Some cycle) → after ≡ now → IsOne d now.state c report (conflict cycle) after
  cycle_judged cycle after told same = subst (IsOne d now.state c report (conflict cycle)) (sym same) (
    told.0,
    sound,
    λ v next h tells.
        let found = conflicts d now.state c r sound.state room is step v next h in
        found.1 ∙ sym (ap conflict (told.1 found.0 found.3 (subst (TellsVerdict report) found.1 tells))),
  )

-- ---- what is done

-- the answer, which leads to that version, is the one that is told
abbrev pub IsOneDone : SetupData → State → Work → List ℕ → What → VersionValue → Type 0
IsOneDone d s asked report w after =
    Answers d s w after.state × (asked ≡ asked_by w) × IsSoundVersion d after × All (BelongsTo after.state) (answer_calls w)
    × ((e : Entry) (next : State) → IsNextEntry d s e next → asked ≡ asked_by e.what → Begins report e → (e.what ≡ w) × (next ≡ after.state))

-- to a command, where its verdict is known
pub command_done : (d : SetupData) (s : State) (after : VersionValue) (c : Command) (v : Verdicted) (report : List ℕ) → IsOne d s c report v after → IsOneDone d s (work.Command c) report (what.Command c v) after
command_done d s after c v report one = (one.0, refl, one.1, λ k x lt. absurd (omega (arith, lt)), alone) where
  alone : (e : Entry) (next : State) → IsNextEntry d s e next → work.Command c ≡ asked_by e.what → Begins report e → (e.what ≡ what.Command c v) × (next ≡ after.state)
  alone e next h is begins = go e.what refl where
    go : (w : What) → e.what ≡ w → (e.what ≡ what.Command c v) × (next ≡ after.state)
    go (what.Deed f r) done = absurd (let same : work.Command c ≡ work.Deed f = is ∙ ap asked_by done in cc (same))
    go (what.Command b u) done =
        let same : work.Command c ≡ work.Command b = is ∙ ap asked_by done in
        let command : c ≡ b = cc (same) in
        let moved : IsStep d s b u next = subst (λ w. Answers d s w next) done h.0 in
        let own : IsStep d s c u next = subst (λ x. IsStep d s x u next) (sym command) moved in
        let verdict : u ≡ v = one.2 u next own (e, b, done, begins) in
        (done ∙ (λ i. what.Command (sym command i) (verdict i)), one_next d s c v next after.state (subst (λ w. IsStep d s c w next) verdict own) one.0)

-- where none of its verdicts is told
pub command_none : (d : SetupData) (s : State) (c : Command) (report : List ℕ) → IsJudged d s c report None → IsDone d s (work.Command c) report None
command_none d s c report none e next h is begins = go e.what refl where
  go : (w : What) → e.what ≡ w → ⊥
  go (what.Deed f r) done = absurd (let same : work.Command c ≡ work.Deed f = is ∙ ap asked_by done in cc (same))
  go (what.Command b u) done =
      let same : work.Command c ≡ work.Command b = is ∙ ap asked_by done in
      let command : c ≡ b = cc (same) in
      let moved : IsStep d s b u next = subst (λ w. Answers d s w next) done h.0 in
      none u next (subst (λ x. IsStep d s x u next) (sym command) moved) (e, b, done, begins)

-- to a deed, which leaves the version
pub deed_done : (d : SetupData) (now after : VersionValue) (deed : Deed) (r : Reply) (report : List ℕ) → IsDeedReply d now.state deed r → IsSoundVersion d now
    → All (BelongsTo now.state) (calls_left r) → after ≡ now → IsOneDone d now.state (work.Deed deed) report (what.Deed deed r) after
deed_done d now after deed r report reply sound belong same_version =
    subst (IsOneDone d now.state (work.Deed deed) report (what.Deed deed r)) (sym same_version) ((reply, refl), refl, sound, belong, alone) where
      alone : (e : Entry) (next : State) → IsNextEntry d now.state e next → work.Deed deed ≡ asked_by e.what → Begins report e → (e.what ≡ what.Deed deed r) × (next ≡ now.state)
      alone e next h is begins = go e.what refl where
        go : (w : What) → e.what ≡ w → (e.what ≡ what.Deed deed r) × (next ≡ now.state)
        go (what.Command b u) done = absurd (let same : work.Deed deed ≡ work.Command b = is ∙ ap asked_by done in cc (same))
        go (what.Deed f t) done =
            let same : work.Deed deed ≡ work.Deed f = is ∙ ap asked_by done in
            let own : deed ≡ f = cc (same) in
            let moved : IsDeedReply d now.state f t × (next ≡ now.state) = subst (λ w. Answers d now.state w next) done h.0 in
            let answer : t ≡ r = one_reply d now.state deed t r (subst (λ x. IsDeedReply d now.state x t) (sym own) moved.0) reply in
            (done ∙ (λ i. what.Deed (sym own i) (answer i)), moved.1)

-- ---- what is answered

entry_is : (e : Entry) (place : ℕ) (ask : Ask) (w : What) → e.place ≡ place → numbered ask ≡ asked_of e
    → e.what ≡ w → e ≡ record { place = place; lane = ask.lane; line = ask.line; part = ask.part; what = w }
entry_is e place ask w at is done =
    let lane : e.lane ≡ ask.lane = sym (ap (λ (n : Numbered). n.lane) is) in
    let line : e.line ≡ ask.line = sym (ap (λ (n : Numbered). n.line) is) in
    let part : e.part ≡ ask.part = sym (ap (λ (n : Numbered). n.part) is) in
    λ i. record { place = at i; lane = lane i; line = line i; part = part i; what = done i }

-- the entry, which leads to that version, is the one with whose line the report begins
abbrev pub IsOneAnswer : SetupData → State → Ask → List ℕ → Entry → VersionValue → Type 0
IsOneAnswer d s ask report entry after =
    IsNextEntry d s entry after.state × (numbered ask ≡ asked_of entry) × IsSoundVersion d after × All (BelongsTo after.state) (answer_calls entry.what)
    × ((e : Entry) (next : State) → IsNextEntry d s e next → numbered ask ≡ asked_of e → Begins report e → (e ≡ entry) × (next ≡ after.state))

pub one_answer : (d : SetupData) (s : State) (after : VersionValue) (ask : Ask) (w : What) (place : ℕ) (report : List ℕ) → IsOneDone d s (work_of ask.asked) report w after → place ≡ after.state.place
    → IsOneAnswer d s ask report (record { place = place; lane = ask.lane; line = ask.line; part = ask.part; what = w }) after
one_answer d s after ask w place report done at = (
  (done.0, at),
  λ i. record { lane = ask.lane; line = ask.line; part = ask.part; asked = done.1 i },
  done.2,
  done.3,
  λ e next h same begins.
      let one = done.4 e next h (ap (λ (n : Numbered). n.asked) same) begins in
      (entry_is e place ask w (h.1 ∙ ap (λ (t : State). t.place) one.1 ∙ sym at) same one.0, one.1),
)

pub no_entry : (d : SetupData) (s : State) (ask : Ask) (report : List ℕ) → IsDone d s (work_of ask.asked) report None → IsAnswered d s ask report None
no_entry d s ask report none e next h same begins = none e next h (ap (λ (n : Numbered). n.asked) same) begins
