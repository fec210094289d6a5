-- What a report tells.
use Rattle.std.specs.Prelude.{◌≡◌, ◌<◌, ◌^◌, ℕ, ◌==◌, List, [], map, filter, Option, Ok, All, IsPermutation}
use Rattle.spin_text.specs.Digits.{begins_with_digit}
use Rattle.spin_table.specs.declared.refusal.Refusal.{Refusal}
use Rattle.spin_table.specs.declared.refusal.Refusal.TheVariants as refusal
use Rattle.spin_table.specs.declared.refusal.Verdicted.{Verdicted}
use Rattle.spin_table.specs.declared.refusal.Verdicted.TheVariants as verdicted
use Rattle.spin_table.specs.Setups.{SetupData}
use Rattle.spin_table.specs.States.{State}
use Rattle.spin_endpoint.specs.Named.{NamedEnd}
use Rattle.spin_script.specs.States.{NativeData, ScriptData}
use Rattle.spin_script.specs.Language.{IsScript}
use Rattle.spin_report.specs.declared.entry.What.{What}
use Rattle.spin_report.specs.declared.entry.What.TheVariants as what
use Rattle.spin_report.specs.declared.entry.Entry.{Entry}
use Rattle.spin_report.specs.Lines.{JobSeen, entry_line}
use Rattle.spin_report.specs.Histories.{HistorySeen, report_lines, report_text, entries_of}
use Rattle.spin_report.specs.Jobs.{AreJobs}
use Rattle.spin_report.specs.Asked.{Numbered, asked_of, AreApart, IsHistory}
use Rattle.spin_report.specs.Runs.{CaptureSeen, RunPoint, IsRun}

-- The lines that begin with a digit are just those of the entries, in order.
abbrev pub DigitsTellEntries : Type 0
DigitsTellEntries =
    (h : HistorySeen) → filter begins_with_digit (report_lines h) ≡ map entry_line (entries_of h)

-- the numbers of the cycle that a refusal tells; a conflict alone tells one
abbrev pub cycle_of : Refusal → List ℕ
cycle_of (refusal.Conflict cycle) = cycle
cycle_of other = []

-- the numbers of the cycle that a verdict tells, if it tells one
abbrev pub cycle_in : Verdicted → List ℕ
cycle_in verdicted.Accepted = []
cycle_in (verdicted.Refused why) = cycle_of why

-- the numbers of the cycle that an answer tells, if it tells one
abbrev pub cycle_told : What → List ℕ
cycle_told (what.Command command verdict) = cycle_in verdict
cycle_told (what.Deed deed reply) = []

-- The numbers of an entry, and those of the cycle that it tells, have at most 64 bits.
pub record HasNumbers (entry : Entry) : Type 0 where
  pub place : entry.place < 2 ^ 64
  pub lane : entry.lane < 2 ^ 64
  pub line : entry.line < 2 ^ 64
  pub part : entry.part < 2 ^ 64
  pub cycle : All (λ n. n < 2 ^ 64) (cycle_told entry.what)

-- the entries of each segment
abbrev pub segment_entries : HistorySeen → List (List Entry)
segment_entries h = map (λ s. s.entries) h.segments

-- the jobs of each segment
abbrev pub segment_jobs : HistorySeen → List (List JobSeen)
segment_jobs h = map (λ s. s.jobs) h.segments

-- No two histories that answer the same, numbered by line and part, have one report: each segment of one has the
-- entries of the other's.
abbrev pub ReportTells : Type 0
ReportTells =
    (d : SetupData) (start : State) (asked : List Numbered) (h k : HistorySeen) → AreApart asked
    → IsHistory d start asked (entries_of h) → IsHistory d start asked (entries_of k)
    → All HasNumbers (entries_of h) → All HasNumbers (entries_of k)
    → report_text h ≡ report_text k → segment_entries h ≡ segment_entries k

-- Legal entries have one list of jobs with replies.
abbrev pub JobsFollow : Type 0
JobsFollow =
    (d : SetupData) (start : State) (entries : List Entry) (js ks : List JobSeen)
    → AreJobs d start entries js → AreJobs d start entries ks → js ≡ ks

-- Entries that answer, lane by lane and in its order, what each lane asks, answer each of what is asked once.
abbrev pub LanesAnswer : Type 0
LanesAnswer =
    (lanes : ℕ) (asked : List Numbered) (entries : List Entry)
    → All (λ n. n.lane < lanes) asked → All (λ e. e.lane < lanes) entries
    → ((k : ℕ) → k < lanes
    → map asked_of (filter (λ e. e.lane == k) entries) ≡ filter (λ n. n.lane == k) asked)
    → IsPermutation (map asked_of entries) asked

-- A text was read twice; the two scripts may differ in where their boxes lie. Each was run, with one capture and over
-- whatever endpoints. Where the two reports are one text, each segment of the one run has the entries and the jobs of
-- the other's.
abbrev pub OneHistoryAs : (IsReadAs : NativeData → List ℕ → ScriptData → Type 0) → Type 0
OneHistoryAs IsReadAs =
    (n : NativeData) (text : List ℕ) (script other : ScriptData) (capture : Option CaptureSeen)
    (ends ends' : List NamedEnd) (h k : HistorySeen) (last last' : RunPoint)
    → IsReadAs n text script → IsReadAs n text other
    → IsRun script capture ends h last → IsRun other capture ends' k last'
    → report_text h ≡ report_text k
    → (segment_entries h ≡ segment_entries k) × (segment_jobs h ≡ segment_jobs k)

-- And over the same endpoints the two histories are one in all, and leave records and endpoints alike. Where the two
-- scripts are one, they leave one state, too.
abbrev pub OneRunAs : (IsReadAs : NativeData → List ℕ → ScriptData → Type 0) → Type 0
OneRunAs IsReadAs =
    (n : NativeData) (text : List ℕ) (script other : ScriptData) (capture : Option CaptureSeen)
    (ends : List NamedEnd) (h k : HistorySeen) (last last' : RunPoint)
    → IsReadAs n text script → IsReadAs n text other
    → IsRun script capture ends h last → IsRun other capture ends k last'
    → report_text h ≡ report_text k
    → (h ≡ k) × (last.left ≡ last'.left) × (last.ends ≡ last'.ends) × (script ≡ other → last ≡ last')

-- the text is a script, no line of which is refused
abbrev pub IsAccepted : NativeData → List ℕ → ScriptData → Type 0
IsAccepted n text script = IsScript n text (Ok script)

-- Both hold of a text that is a script.
abbrev pub OneHistory : Type 0
OneHistory = OneHistoryAs IsAccepted

abbrev pub OneRun : Type 0
OneRun = OneRunAs IsAccepted
