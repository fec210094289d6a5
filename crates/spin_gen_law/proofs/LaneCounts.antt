-- Entries of lanes, each of which asks of its own event of words: what is counted of one lane's hangs on what it asks.
use Rattle.std.proofs.Common.{◌≡◌, ◌∙◌, ◌<◌, ℕ, Bool, true, false, cond, List, [], ◌∷◌, map, refl, sym, ap, subst}
use Rattle.std.specs.Prelude.{◌==◌}
use Rattle.std.specs.List.{AllByRecursion}
use Rattle.std.proofs.lemmas.Bool.{eqb-true, eqb-false}
use Rattle.spin_word.specs.declared.work.Work.{Work}
use Rattle.spin_table.specs.Setups.{SetupData}
use Rattle.spin_table.specs.States.{State, EventState}
use Rattle.spin_report.specs.declared.entry.Entry.{Entry}
use Rattle.spin_report.specs.Asked.{asked_by}
use Rattle.spin_report.specs.Legal.{IsLegal}
use Rattle.spin_report.specs.Segments.{of_lane}
use Rattle.spin_gen_law.proofs.WordSetups.{HasWords}
use Rattle.spin_gen_law.proofs.CalmStates.{guards_at}
use Rattle.spin_gen_law.proofs.InstallStates.{IsCalmState}
use Rattle.spin_gen_law.proofs.EntryCounts.{Tally, tally_of, tally_by, guards_by, IsOwn, Moves, moves}

abbrev pub work_by : Entry → Work
work_by entry = asked_by entry.what

abbrev pub tally_in : Entry → Tally
tally_in entry = tally_of entry.what

-- what is counted of each of these in turn, where one event is asked them, whose bindings had these guards
pub lone : SetupData → List ℕ → List Work → List Tally
lone d guards [] = []
lone d guards (w ∷ ws) = tally_by d guards w ∷ lone d (guards_by d guards w) ws

-- the guards that they leave
pub left_by : SetupData → List ℕ → List Work → List ℕ
left_by d guards [] = guards
left_by d guards (w ∷ ws) = left_by d (guards_by d guards w) ws

-- Each entry asks of the event of its lane.
abbrev pub AreOwn : List Entry → Type 0
AreOwn entries = AllByRecursion (λ entry. IsOwn entry.lane (work_by entry)) entries

-- What is counted of a lane's entries, and the guards that they leave, are those of what the lane asks.
pub record IsAlone (d : SetupData) (s last : State) (entries : List Entry) (lane : ℕ) : Type 0 where
  pub counted : map tally_in (of_lane lane entries) ≡ lone d (guards_at s lane) (map work_by (of_lane lane entries))
  pub left : guards_at last lane ≡ left_by d (guards_at s lane) (map work_by (of_lane lane entries))

module _ (d : SetupData) (others : List EventState) (fit : HasWords d) where
  alone_more : (s next last : State) (entry : Entry) (entries : List Entry) (lane : ℕ) → lane < 8
      → Moves d others s entry.lane entry.what next → IsAlone d next last entries lane → IsAlone d s last (entry ∷ entries) lane
  unfolding lone left_by
  alone_more s next last entry entries lane among moved rest = go (entry.lane == lane) refl
    where
      go : (b : Bool) → (entry.lane == lane) ≡ b → IsAlone d s last (entry ∷ entries) lane
      go true is =
          let same : entry.lane ≡ lane = eqb-true entry.lane lane is in
          let here : Moves d others s lane entry.what next = subst (λ l. Moves d others s l entry.what next) same moved in
          let kept : of_lane lane (entry ∷ entries) ≡ entry ∷ of_lane lane entries = ap (λ (b : Bool). cond b (entry ∷ of_lane lane entries) (of_lane lane entries)) is in
          record {
            counted =
                ap (map tally_in) kept
                ∙ (λ i. here.counted i ∷ rest.counted i)
                ∙ ap (λ (gs : List ℕ). tally_by d (guards_at s lane) (work_by entry) ∷ lone d gs (map work_by (of_lane lane entries))) here.own
                ∙ ap (λ (es : List Entry). lone d (guards_at s lane) (map work_by es)) (sym kept);
            left =
                rest.left
                ∙ ap (λ (gs : List ℕ). left_by d gs (map work_by (of_lane lane entries))) here.own
                ∙ ap (λ (es : List Entry). left_by d (guards_at s lane) (map work_by es)) (sym kept);
          }
      go false is =
          let stays = moved.elsewhere lane among (λ same. eqb-false entry.lane lane is (sym same)) in
          let kept : of_lane lane (entry ∷ entries) ≡ of_lane lane entries = ap (λ (b : Bool). cond b (entry ∷ of_lane lane entries) (of_lane lane entries)) is in
          record {
            counted =
                ap (map tally_in) kept
                ∙ rest.counted
                ∙ ap (λ (gs : List ℕ). lone d gs (map work_by (of_lane lane entries))) stays
                ∙ ap (λ (es : List Entry). lone d (guards_at s lane) (map work_by es)) (sym kept);
            left =
                rest.left
                ∙ ap (λ (gs : List ℕ). left_by d gs (map work_by (of_lane lane entries))) stays
                ∙ ap (λ (es : List Entry). left_by d (guards_at s lane) (map work_by es)) (sym kept);
          }

  -- lanes each alone, and what they leave is calm
  pub lanes_alone : (entries : List Entry) (s last : State) → IsCalmState d others s → IsLegal d s entries last → AreOwn entries
      → IsCalmState d others last × ((lane : ℕ) → lane < 8 → IsAlone d s last entries lane)
  unfolding lone left_by
  lanes_alone [] s last calm legal own = (
    subst (IsCalmState d others) (sym legal) calm,
    λ lane among. record { counted = refl; left = ap (λ (x : State). guards_at x lane) legal },
  )
  lanes_alone (entry ∷ entries) s last calm (next, (answers, place), legal) own =
      let moved = moves d others s fit calm entry.lane own.0.0 entry.what next own.0.1 answers in
      let rest = lanes_alone entries next last moved.calm legal own.1 in
      (rest.0, λ lane among. alone_more s next last entry entries lane among moved (rest.1 lane among))
