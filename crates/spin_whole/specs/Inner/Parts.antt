-- What a segment comes to, deed after deed.
use Rattle.std.specs.Prelude.{◌≡◌, ℕ, zero, suc, ◌++◌, List, [], ◌∷◌, map, count_by}
use Rattle.std.specs.Arc.{arc_value}
use Rattle.std.specs.List.{enumerate_from, flat_map}
use Rattle.spin_endpoint.specs.Sends.{SentSeen}
use Rattle.spin_word.specs.declared.work.Work.{Work}
use Rattle.spin_table.specs.Setups.{SetupData}
use Rattle.spin_table.specs.States.{State}
use Rattle.spin_text.specs.Words.{ended, text_of}
use Rattle.spin_script.specs.declared.script.Line.{Line}
use Rattle.spin_script.specs.Soundness.{is_command_work}
use Rattle.spin_report.specs.declared.entry.Entry.{Entry}
use Rattle.spin_report.specs.Asked.{Numbered, asked_of}
use Rattle.spin_report.specs.Lines.{JobSeen, entry_line, job_line}
use Rattle.spin_report.specs.Legal.{IsNextEntry}
use Rattle.spin_report.specs.Jobs.{answer_calls, AreJobsFrom}
use Rattle.spin_report.specs.Segments.{raise_with, asked_of_lane}
use Rattle.spin_report.specs.Runs.{sends_of, sends_of_reply}
use Rattle.spin_whole.specs.declared.part.Part.{Part}

-- ---- what is asked

-- one thing that a line asks, as that part
abbrev pub alone : Line → ℕ → Work → List Numbered
alone line part asked = record { lane = line.lane; line = line.number; part = part; asked = asked } ∷ []

-- a raise of the event with each of these records, by parts from that one on
abbrev pub packets : Line → ℕ → ℕ → List (List ℕ) → List Numbered
packets line event from records =
    map (λ p. record { lane = line.lane; line = line.number; part = p.0; asked = raise_with event p.1 })
    (enumerate_from from records)

-- what is asked of the first lanes, so many of them, one lane after another
abbrev pub by_lane : ℕ → List Numbered → List Numbered
by_lane zero asked = []
by_lane (suc k) asked = by_lane k asked ++ asked_of_lane k asked

-- how many of these are commands
abbrev pub commands_asked : List Numbered → ℕ
commands_asked asked = count_by (λ n. is_command_work n.asked) asked

-- ---- what is answered

-- what jobs send
abbrev pub sent_by_jobs : List JobSeen → List SentSeen
sent_by_jobs jobs = flat_map (λ job. sends_of_reply job.reply) jobs

-- what entries send
abbrev pub sent_by_entries : List Entry → List SentSeen
sent_by_entries entries = flat_map (λ entry. sends_of entry.what) entries

-- The jobs of the entry were done at the state: their lines are added to the text, and what they send to the sends.
abbrev pub DidJobs : SetupData → State → Entry → List ℕ × List SentSeen → List ℕ × List SentSeen → Type 0
DidJobs d state entry before after =
    (own : List JobSeen) × AreJobsFrom d state entry 0 (answer_calls entry.what) own
    × (after.0 ≡ before.0 ++ text_of (map job_line own)) × (after.1 ≡ before.1 ++ sent_by_jobs own)

-- the state that a segment has come to
abbrev pub state_of : Part → State
state_of part = (arc_value part.version).state

-- The entry is added, at the version that it leads to, and its jobs are done.
pub record AddsEntry (d : SetupData) (entry : Entry) (before after : Part) : Type 0 where
  pub version : after.version ≡ before.version
  pub text : after.text ≡ before.text ++ ended (entry_line entry)
  pub sends : after.sends ≡ before.sends ++ sends_of entry.what
  pub jobs : DidJobs d (state_of before) entry (before.owed, before.job_sends) (after.owed, after.job_sends)

-- Each entry follows on the state that those before it made, and leaves these jobs, which were done there.
abbrev pub AreDone : SetupData → State → List Entry → List JobSeen → State → Type 0
AreDone d state [] jobs last = (jobs ≡ []) × (last ≡ state)
AreDone d state (entry ∷ entries) jobs last =
    (next : State) × (own : List JobSeen) × (others : List JobSeen) × IsNextEntry d state entry next
    × AreJobsFrom d next entry 0 (answer_calls entry.what) own × AreDone d next entries others last
    × (jobs ≡ own ++ others)

-- These were answered, one after another, by entries of which the lines and the sends are added, as are those of their
-- jobs.
pub record Answers (d : SetupData) (asked : List Numbered) (before after : Part) : Type 0 where
  pub entries : List Entry
  pub jobs : List JobSeen
  pub done : AreDone d (state_of before) entries jobs (state_of after)
  pub asked_are : map asked_of entries ≡ asked
  pub text : after.text ≡ before.text ++ text_of (map entry_line entries)
  pub sends : after.sends ≡ before.sends ++ sent_by_entries entries
  pub owed : after.owed ≡ before.owed ++ text_of (map job_line jobs)
  pub job_sends : after.job_sends ≡ before.job_sends ++ sent_by_jobs jobs
