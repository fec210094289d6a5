-- Two answers of one segment of commands on one lane lead to one state and count the same.
use Rattle.std.proofs.Common.{◌≡◌, ◌∙◌, ◌⊎◌, ◌<◌, ◌≤◌, ℕ, cond, List, [], ◌∷◌, map, drop, refl, sym, ap, subst, arith, inl, inr}
use Rattle.std.specs.Prelude.{◌==◌, Option, Some, None, MatchOption, All}
use Rattle.std.specs.Option.{option_map}
use Rattle.std.specs.List.{AllByRecursion}
use Rattle.std.proofs.lemmas.Option.{slice_get-map}
use Rattle.std.proofs.lemmas.List.Elements.{All-nil}
use Rattle.spin_word.specs.declared.command.Command.{Command}
use Rattle.spin_word.specs.declared.work.Work.TheVariants as work
use Rattle.spin_table.specs.declared.refusal.Refusal.{Refusal}
use Rattle.spin_table.specs.declared.refusal.Verdicted.{Verdicted}
use Rattle.spin_table.specs.declared.refusal.Verdicted.TheVariants as verdicted
use Rattle.spin_table.specs.Setups.{SetupData}
use Rattle.spin_table.specs.States.{State, first_state, start_of}
use Rattle.spin_table.specs.Refusals.{refusal_of}
use Rattle.spin_table.specs.Steps.{state_after, ChangesTo, IsStep}
use Rattle.spin_table.specs.Laws.{without_cycle}
use Rattle.spin_table.proofs.StepUniqueness.{one_step}
use Rattle.spin_report.specs.declared.entry.What.{What}
use Rattle.spin_report.specs.declared.entry.What.TheVariants as what
use Rattle.spin_report.specs.declared.entry.Entry.{Entry}
use Rattle.spin_report.specs.Asked.{Numbered, asked_by, asked_of}
use Rattle.spin_report.specs.Legal.{Answers, IsLegal}
use Rattle.spin_report.specs.Segments.{of_lane}
use Rattle.spin_gen_law.proofs.WordSetups.{HasWords}
use Rattle.spin_gen_law.proofs.CalmStates.{IsCalmAt, guards_at}
use Rattle.spin_gen_law.proofs.InstallStates.{calm_elsewhere}
use Rattle.spin_gen_law.proofs.EntryCounts.{tally_of}
use Rattle.spin_gen_law.proofs.LaneCounts.{work_by, tally_in}
use Rattle.spin_gen_law.proofs.CountSums.{HaveSameCounts, counts_of_tallies}
use Rattle.spin_gen_law.proofs.LaneSegments.{AreAlike}
use Rattle.spin_gen_law.proofs.LaneAnswers.{IsAnswered, woven_all, same_works}

-- lane 0 asks for a command on one of the events from 8 on
pub record IsLateCommand (n : Numbered) : Type 0 where
  pub lane : n.lane ≡ 0
  pub command : Command
  pub late : 8 ≤ command.event
  pub is : n.asked ≡ work.Command command

-- ---- one lane

all_of_lane : (xs : List Entry) → AllByRecursion (λ entry. IsLateCommand (asked_of entry)) xs → of_lane 0 xs ≡ xs
all_of_lane [] all = refl
all_of_lane (x ∷ xs) all = (λ i. cond (all.0.lane i == 0) (x ∷ of_lane 0 xs) (of_lane 0 xs)) ∙ ap (λ (es : List Entry). x ∷ es) (all_of_lane xs all.1)

-- ---- one command after another

tally_verdict : (c : Command) (v : Verdicted) → tally_of (what.Command c v) ≡ tally_of (what.Command c (without_cycle v))
tally_verdict c verdicted.Accepted = refl
tally_verdict c (verdicted.Refused r) = refl

-- the entry is a command, and it leads there
pub record IsCommandTo (d : SetupData) (s : State) (w : What) (c : Command) (next : State) : Type 0 where
  pub verdict : Verdicted
  pub is : w ≡ what.Command c verdict
  pub step : IsStep d s c verdict next

command_to : (d : SetupData) (s next : State) (w : What) (c : Command) → asked_by w ≡ work.Command c → Answers d s w next → IsCommandTo d s w c next
command_to d s next (what.Command command v) c asked answer =
    let same : command ≡ c = cc in
    record { verdict = v; is = ap (λ (x : Command). what.Command x v) same; step = subst (λ (x : Command). IsStep d s x v next) same answer }
command_to d s next (what.Deed done reply) c asked answer = absurd (cc)

one_command : (d : SetupData) (s next next' : State) (w w' : What) (c : Command) → IsCommandTo d s w c next → IsCommandTo d s w' c next'
    → (tally_of w ≡ tally_of w') × (next ≡ next')
one_command d s next next' w w' c h g =
    let one = one_step d s c h.verdict g.verdict next next' h.step g.step in (
      ap tally_of h.is ∙ tally_verdict c h.verdict ∙ ap (λ (v : Verdicted). tally_of (what.Command c v)) one.0 ∙ sym (tally_verdict c g.verdict) ∙ sym (ap tally_of g.is),
      one.1,
    )

-- what two lists of entries come to from one state
abbrev IsOneWay : State → State → List Entry → List Entry → Type 0
IsOneWay t t' xs ys = (t ≡ t') × (map tally_in xs ≡ map tally_in ys)

abbrev AreCommands : List Entry → Type 0
AreCommands xs = AllByRecursion (λ entry. IsLateCommand (asked_of entry)) xs

one_way : (d : SetupData) (xs ys : List Entry) (s t t' : State) → map work_by xs ≡ map work_by ys → AreCommands xs → IsLegal d s xs t → IsLegal d s ys t' → IsOneWay t t' xs ys
one_way d [] [] s t t' works all legal legal' = (legal ∙ sym legal', refl)
one_way d [] (y ∷ ys) s t t' works all legal legal' = absurd (cc)
one_way d (x ∷ xs) [] s t t' works all legal legal' = absurd (cc)
one_way d (x ∷ xs) (y ∷ ys) s t t' works all (next, (answer, place), legal) (next', (answer', place'), legal') =
    let first : work_by x ≡ work_by y = cc in
    let others : map work_by xs ≡ map work_by ys = cc in
    let c = all.0.command in
    let one = one_command d s next next' x.what y.what c (command_to d s next x.what c all.0.is answer) (command_to d s next' y.what c (sym first ∙ all.0.is) answer') in
    let rest = one_way d xs ys next t t' others all.1 legal (subst (λ (z : State). IsLegal d z ys t') (sym one.1) legal') in
    (rest.0, λ i. one.0 i ∷ rest.1 i)

-- ---- the first events stay calm

abbrev AreCalm : SetupData → State → Type 0
AreCalm d s = (event : ℕ) → event < 8 → IsCalmAt d s event

changes_to : (d : SetupData) (s : State) (c : Command) (v : Verdicted) (next : State) → ChangesTo d s c v next → (next ≡ s) ⊎ (next ≡ state_after d c s)
changes_to d s c verdicted.Accepted next h = inr h.0
changes_to d s c (verdicted.Refused r) next h = inl h.0

steps_to : (d : SetupData) (s : State) (c : Command) (v : Verdicted) (next : State) → IsStep d s c v next → (next ≡ s) ⊎ (next ≡ state_after d c s)
steps_to d s c v next step = go (refusal_of d s c) step
  where
    go : (o : Option Refusal) → MatchOption o (ChangesTo d s c v next) (λ r. (v ≡ verdicted.Refused r) × (next ≡ s)) → (next ≡ s) ⊎ (next ≡ state_after d c s)
    go None h = changes_to d s c v next h
    go (Some r) h = inl h.1

calm_step : (d : SetupData) (s : State) (c : Command) (v : Verdicted) (next : State) → 8 ≤ c.event → IsStep d s c v next → AreCalm d s → AreCalm d next
calm_step d s c v next late step calm =
    elim (steps_to d s c v next step) [
      | inl same ↦ subst (AreCalm d) (sym same) calm
      | inr changed ↦ subst (AreCalm d) (sym changed) (λ event early. calm_elsewhere d c s event (λ same. omega (arith, same, late, early)) (calm event early))
    ]

calm_on : (d : SetupData) (xs : List Entry) (s t : State) → AreCommands xs → IsLegal d s xs t → AreCalm d s → AreCalm d t
calm_on d [] s t all legal calm = subst (AreCalm d) (sym legal) calm
calm_on d (x ∷ xs) s t all (next, (answer, place), legal) calm =
    let to = command_to d s next x.what all.0.command all.0.is answer in
    calm_on d xs next t all.1 legal (calm_step d s all.0.command to.verdict next all.0.late to.step calm)

calm_start : (d : SetupData) → HasWords d → AreCalm d (start_of d)
calm_start d fit event early =
    let e = fit.events event early in
    record {
      state = first_state e.def;
      there = slice_get-map first_state d.events event ∙ ap (option_map first_state) e.there;
      calm = record {
        default = e.default;
        results = All-nil _;
        names = All-nil _;
        below = All-nil _;
        apart = λ i j k lt inside. absurd (omega (arith, inside));
      };
    }

module _ (d : SetupData) (fit : HasWords d) (lanes : ℕ) (asked : List Numbered) (t t' : State) (xs ys : List Entry)
    (woven : IsAnswered d lanes asked (start_of d) t xs) (woven' : IsAnswered d lanes asked (start_of d) t' ys) (commands : All IsLateCommand asked) where
  -- from the start, such a segment leads to one state, in which the first events are calm
  pub first_segment : AreAlike d (drop 8 t.events) t t' × HaveSameCounts xs ys
  first_segment =
      let all = woven_all d lanes asked (start_of d) t xs woven IsLateCommand commands in
      let all' = woven_all d lanes asked (start_of d) t' ys woven' IsLateCommand commands in
      let works : map work_by xs ≡ map work_by ys =
      ap (map work_by) (sym (all_of_lane xs all)) ∙ same_works d lanes asked (start_of d) t (start_of d) t' xs ys woven woven' 0 ∙ ap (map work_by) (all_of_lane ys all') in
      let way = one_way d xs ys (start_of d) t t' works all woven.legal woven'.legal in
      let calm = calm_on d xs (start_of d) t all woven.legal (calm_start d fit) in (
        record {
          calm = record { each = calm; others_are = refl };
          calm' = record { each = subst (AreCalm d) way.0 calm; others_are = ap (λ (x : State). drop 8 x.events) (sym way.0) };
          guards = λ k among. ap (λ (x : State). guards_at x k) way.0;
        },
        counts_of_tallies xs ys way.1,
      )
