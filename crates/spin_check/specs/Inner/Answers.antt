-- What a command or a deed comes to, where the report tells the line of its entry.
use Rattle.std.specs.Prelude.{◌≡◌, ◌<◌, ◌^◌, ℕ, Bool, true, false, List, All, Option, None, Some}
use Rattle.std.specs.Arc.{arc_value}
use Rattle.spin_word.specs.declared.command.Command.{Command}
use Rattle.spin_word.specs.declared.work.Work.{Work}
use Rattle.spin_table.specs.Setups.{SetupData}
use Rattle.spin_table.specs.States.{State}
use Rattle.spin_table.specs.Soundness.{IsSoundVersion}
use Rattle.spin_table.specs.Steps.{IsStep, MayConflict}
use Rattle.spin_table.specs.declared.refusal.Refusal.{Refusal}
use Rattle.spin_table.specs.declared.refusal.Refusal.TheVariants as refusal
use Rattle.spin_table.specs.declared.refusal.Verdicted.{Verdicted}
use Rattle.spin_proto.specs.Replies.{BelongsTo}
use Rattle.spin_report.specs.declared.entry.Entry.{Entry}
use Rattle.spin_report.specs.Legal.{Answers, IsNextEntry}
use Rattle.spin_report.specs.Jobs.{answer_calls}
use Rattle.spin_report.specs.Asked.{asked_by, asked_of}
use Rattle.spin_check.specs.declared.deeds.Ask.{Ask}
use Rattle.spin_check.specs.declared.answer.Judged.{Judged}
use Rattle.spin_check.specs.declared.answer.Done.{Done}
use Rattle.spin_check.specs.declared.answer.Answered.{Answered}
use Rattle.spin_check.specs.Inner.Told.{Begins, TellsVerdict, conflict}
use Rattle.spin_check.specs.Inner.Asks.{numbered}

-- whether the refusal is a conflict, which tells a cycle
abbrev pub tells_cycle : Refusal → Bool
tells_cycle (refusal.Conflict cycle) = true
tells_cycle other = false

-- Of the cycles that the command may be refused for, the report tells this one alone, or none.
abbrev pub IsConflictTold : SetupData → State → Command → List ℕ → Option (List ℕ) → Type 0
IsConflictTold d state c report None =
    (cycle : List ℕ) → All (λ n. n < 2 ^ 16) cycle → MayConflict d state c cycle
    → TellsVerdict report (conflict cycle) → ⊥
IsConflictTold d state c report (Some told) =
    MayConflict d state c told
    × ((cycle : List ℕ) → All (λ n. n < 2 ^ 16) cycle → TellsVerdict report (conflict cycle)
    → told ≡ cycle)

-- Of the verdicts that the command may have, the report tells this one alone, or none.
abbrev pub IsJudged : SetupData → State → Command → List ℕ → Option Judged → Type 0
IsJudged d state c report None =
    (v : Verdicted) (next : State) → IsStep d state c v next → TellsVerdict report v → ⊥
IsJudged d state c report (Some judged) =
    IsStep d state c judged.verdict (arc_value judged.version).state
    × IsSoundVersion d (arc_value judged.version)
    × ((v : Verdicted) (next : State) → IsStep d state c v next → TellsVerdict report v → v ≡ judged.verdict)

-- Of the answers that may be given to this, the report tells this one alone, or none.
abbrev pub IsDone : SetupData → State → Work → List ℕ → Option Done → Type 0
IsDone d state asked report None =
    (e : Entry) (next : State) → IsNextEntry d state e next → asked ≡ asked_by e.what
    → Begins report e → ⊥
IsDone d state asked report (Some done) =
    Answers d state done.what (arc_value done.version).state
    × (asked ≡ asked_by done.what)
    × IsSoundVersion d (arc_value done.version)
    × All (BelongsTo (arc_value done.version).state) (answer_calls done.what)
    × ((e : Entry) (next : State) → IsNextEntry d state e next → asked ≡ asked_by e.what
    → Begins report e → (e.what ≡ done.what) × (next ≡ (arc_value done.version).state))

-- Of the entries that may answer this, the report begins with the line of this one alone, or of none.
abbrev pub IsAnswered : SetupData → State → Ask → List ℕ → Option Answered → Type 0
IsAnswered d state ask report None =
    (e : Entry) (next : State) → IsNextEntry d state e next → numbered ask ≡ asked_of e
    → Begins report e → ⊥
IsAnswered d state ask report (Some answered) =
    IsNextEntry d state answered.entry (arc_value answered.version).state
    × (numbered ask ≡ asked_of answered.entry)
    × IsSoundVersion d (arc_value answered.version)
    × All (BelongsTo (arc_value answered.version).state) (answer_calls answered.entry.what)
    × ((e : Entry) (next : State) → IsNextEntry d state e next → numbered ask ≡ asked_of e
    → Begins report e → (e ≡ answered.entry) × (next ≡ (arc_value answered.version).state))
