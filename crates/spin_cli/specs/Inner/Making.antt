-- A run over the records of a capture that was made, which is summed up.
use Rattle.std.specs.Prelude.{ℕ, List, Option, Some, Result}
use Rattle.spin_outside.specs.Seen.{SinkSeen}
use Rattle.spin_pcap.specs.declared.fault.PcapFault.{PcapFault}
use Rattle.spin_pcap.specs.declared.next.Next.{Next}
use Rattle.spin_pcap.specs.Passing.{ReaderState}
use Rattle.spin_endpoint.specs.Named.{NamedEnd}
use Rattle.spin_script.specs.States.{ScriptData}
use Rattle.spin_run.specs.declared.end.RunEnd.{RunEnd}
use Rattle.spin_run.specs.Ends.{seen, CountsBy}
use Rattle.spin_run.specs.Records.{AreRecords, room_of}
use Rattle.spin_run.specs.Summaries.{SumsUpBy}
use Rattle.spin_inputs.specs.Held.{held_seen}

-- The run over the records that are left for the reader ended so.
pub record RunsMade (script : ScriptData) (number : ℕ) (left : List ℕ) (reader : ReaderState)
    (sink : SinkSeen) (ends : List NamedEnd) (sink' : SinkSeen) (ends' : List NamedEnd)
    (ended : RunEnd) : Type 0 where
  pub left' : List ℕ
  pub ended_so : (frames : List (List ℕ)) (rest : Option (Result Next PcapFault))
      → AreRecords (Some reader) (held_seen left) frames rest
      → SumsUpBy script (room_of (Some reader)) number frames rest
      (seen (held_seen left) sink ends) (seen (held_seen left') sink' ends') ended
  pub counts : CountsBy script.endpoints
      (seen (held_seen left) sink ends) (seen (held_seen left') sink' ends') ended
