-- How much was done in a run, and the six lines that tell it.
use Rattle.std.specs.Prelude.{◌≡◌, ℕ, Bool, true, false, List, [], ◌∷◌, Option, None}
use Rattle.std.specs.Prelude.{Result, length, count_by, sum_by, decimal, codes}
use Rattle.spin_pcap.specs.declared.fault.PcapFault.{PcapFault}
use Rattle.spin_pcap.specs.declared.next.Next.{Next}
use Rattle.spin_table.specs.declared.refusal.Verdicted.TheVariants as verdicted
use Rattle.spin_proto.specs.declared.reply.Step.{Step}
use Rattle.spin_proto.specs.declared.reply.Step.TheVariants as step
use Rattle.spin_text.specs.Words.{line_of, text_of}
use Rattle.spin_report.specs.declared.entry.What.{What}
use Rattle.spin_report.specs.declared.entry.What.TheVariants as what
use Rattle.spin_report.specs.declared.entry.Entry.{Entry}
use Rattle.spin_report.specs.Histories.{HistorySeen, entries_of}
use Rattle.spin_report.specs.Segments.{is_accepted}
use Rattle.spin_report.specs.Views.{answer_steps}
use Rattle.spin_script.specs.States.{ScriptData}
use Rattle.spin_run.specs.declared.end.RunEnd.{RunEnd}
use Rattle.spin_run.specs.declared.end.RunEnd.TheVariants as end
use Rattle.spin_run.specs.Ends.{RunSeen, IsWhole, Writes, WritesInto, EndsBy}

-- ---- what is counted

-- it is a command that was refused
abbrev pub is_refused : What → Bool
is_refused (what.Command command verdicted.Accepted) = false
is_refused (what.Command command (verdicted.Refused refusal)) = true
is_refused (what.Deed deed reply) = false

-- the step runs a handler
abbrev pub is_run : Step → Bool
is_run (step.Run event number) = true
is_run other = false

-- the step sends
abbrev pub is_send : Step → Bool
is_send (step.Send endpoint bytes) = true
is_send other = false

-- entries, commands that were accepted and refused, and steps of entries that run a handler or send
pub record Counts : Type 0 where
  pub entries : ℕ
  pub accepted : ℕ
  pub refused : ℕ
  pub runs : ℕ
  pub sends : ℕ

-- how many these entries are, their accepted and refused commands, and their run and send steps
abbrev pub counts_in : List Entry → Counts
counts_in entries = record {
  entries = length entries;
  accepted = count_by (λ entry. is_accepted entry.what) entries;
  refused = count_by (λ entry. is_refused entry.what) entries;
  runs = sum_by (λ entry. count_by is_run (answer_steps entry.what)) entries;
  sends = sum_by (λ entry. count_by is_send (answer_steps entry.what)) entries;
}

-- ---- the lines

-- a line of a word and a number
abbrev pub count_line : List ℕ → ℕ → List ℕ
count_line word count = line_of (word ∷ decimal count ∷ [])

-- the number that the run's script was made from, and the counts
abbrev pub summary_lines : ℕ → Counts → List (List ℕ)
summary_lines number counts =
    count_line (codes "gen") number
    ∷ count_line (codes "entries") counts.entries
    ∷ count_line (codes "accepted") counts.accepted
    ∷ count_line (codes "refused") counts.refused
    ∷ count_line (codes "runs") counts.runs
    ∷ count_line (codes "sends") counts.sends
    ∷ []

-- the summary of a history
abbrev pub summary_text : ℕ → HistorySeen → List ℕ
summary_text number history =
    text_of (summary_lines number (counts_in (entries_of history)))

-- ---- how a run ends whose history is summed up

-- without what its sink is seen to have taken
abbrev pub untold : RunSeen → RunSeen
untold seen = record { source = seen.source; sink = record { told = None; faults = 0 }; ends = seen.ends }

-- A run of the script ends so that writes the summary of its history, with that number, and no report. Where it stops
-- before, it stops as a run does whose sink tells nothing, and has written nothing.
abbrev pub SumsUpBy : ScriptData → ℕ → ℕ → List (List ℕ) → Option (Result Next PcapFault)
    → RunSeen → RunSeen → RunEnd → Type 0
SumsUpBy script past number frames rest before after end.Whole =
    (history : HistorySeen) × IsWhole script frames rest before.ends after.ends history
    × Writes before after (summary_text number history)
SumsUpBy script past number frames rest before after end.WriteFault =
    (history : HistorySeen) × IsWhole script frames rest before.ends after.ends history
    × WritesInto before after [] (summary_text number history)
SumsUpBy script past number frames rest before after stop =
    EndsBy script past frames rest (untold before) (untold after) stop × (after.sink ≡ before.sink)
