-- A run over a script and a capture that were read and opened.
use Rattle.std.specs.Prelude.{◌≡◌, ℕ, Option}
use Rattle.spin_outside.specs.Sources.{file_seen}
use Rattle.spin_pcap.specs.Passing.{ReaderState}
use Rattle.spin_script.specs.States.{ScriptData}
use Rattle.spin_run.specs.declared.end.RunEnd.{RunEnd}
use Rattle.spin_run.specs.Ends.{seen, EndsBy, CountsBy}
use Rattle.spin_run.specs.Records.{HasRecords, room_of}
use Rattle.spin_inputs.specs.Outside.{Outside}

-- The run ended so, over a source with the records of that file of the shelf.
pub record RunsOver (script : ScriptData) (file : ℕ) (reader : Option ReaderState)
    (before after : Outside) (ended : RunEnd) : Type 0 where
  pub reference : ℕ
  pub file' : ℕ
  pub reference' : ℕ
  pub keep : (file_seen after.shelf file' reference').keep ≡ (file_seen before.shelf file reference).keep
  pub ended_so : HasRecords reader (file_seen before.shelf file reference) (λ frames rest.
      EndsBy script (room_of reader) frames rest
      (seen (file_seen before.shelf file reference) before.sink before.ends)
      (seen (file_seen after.shelf file' reference') after.sink after.ends) ended)
  pub counts : CountsBy script.endpoints
      (seen (file_seen before.shelf file reference) before.sink before.ends)
      (seen (file_seen after.shelf file' reference') after.sink after.ends) ended
