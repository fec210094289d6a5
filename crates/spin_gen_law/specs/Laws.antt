-- The law of equal counts.
use Rattle.std.specs.Prelude.{◌≡◌, ℕ, List, Option, Some, Ok}
use Rattle.spin_pcap.specs.declared.next.Next.TheVariants as next
use Rattle.spin_pcap.specs.declared.order.Order.TheVariants as order
use Rattle.spin_pcap.specs.Captures.{IsCapture}
use Rattle.spin_endpoint.specs.Named.{NamedEnd}
use Rattle.spin_script.specs.States.{NativeData, ScriptData}
use Rattle.spin_script.specs.Language.{IsScript}
use Rattle.spin_gen.specs.Texts.{script_of, packets_of}
use Rattle.spin_report.specs.Histories.{HistorySeen, entries_of}
use Rattle.spin_report.specs.Runs.{CaptureSeen, RunPoint, IsRun}
use Rattle.spin_run.specs.declared.end.RunEnd.TheVariants as end
use Rattle.spin_run.specs.Ends.{RunSeen, Writes}
use Rattle.spin_run.specs.Summaries.{counts_in, SumsUpBy}

-- The script that is made from a number was read twice, and may differ in where its boxes lie. A history of the one and
-- one of the other, with the same capture, whichever it is, and with whatever endpoints, have the same counts.
abbrev pub CountsAreOne : Type 0
CountsAreOne =
    (n : NativeData) (number : ℕ) (script other : ScriptData) (capture : Option CaptureSeen)
    (ends ends' : List NamedEnd) (h k : HistorySeen) (last last' : RunPoint)
    → IsScript n (script_of number) (Ok script) → IsScript n (script_of number) (Ok other)
    → IsRun script capture ends h last → IsRun other capture ends' k last'
    → counts_in (entries_of h) ≡ counts_in (entries_of k)

-- The script that is made from the number was run over the capture that is made from it, and summed up to its end.
pub record IsSummedUp (n : NativeData) (number : ℕ) (before after : RunSeen) : Type 0 where
  pub script : ScriptData
  pub read : IsScript n (script_of number) (Ok script)
  pub frames : List (List ℕ)
  pub capture : IsCapture (packets_of number) order.Little frames (Ok next.End)
  pub past : ℕ
  pub whole : SumsUpBy script past number frames (Some (Ok next.End)) before after end.Whole

-- Two such runs write the same text.
abbrev pub SummariesAreOne : Type 0
SummariesAreOne =
    (n : NativeData) (number : ℕ) (before after before' after' : RunSeen)
    → IsSummedUp n number before after → IsSummedUp n number before' after'
    → (text : List ℕ) × Writes before after text × Writes before' after' text
