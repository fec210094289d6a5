-- What the writing of lines says of the sink.
use Rattle.std.specs.Prelude.{◌≡◌, ℕ, List, [], ◌∷◌, ◌++◌, map, Option, Result, Ok, Err}
use Rattle.std.specs.Io.KnownBytes.{Appends}
use Rattle.spin_outside.specs.Counts.{Rose}
use Rattle.spin_outside.specs.Seen.{SinkSeen}
use Rattle.spin_text.specs.Words.{text_of}
use Rattle.spin_word.specs.declared.work.Deed.{Deed}
use Rattle.spin_proto.specs.declared.reply.Reply.{Reply}
use Rattle.spin_vm.specs.declared.line.Region.{Region}
use Rattle.spin_vm.specs.declared.line.TraceLine.{TraceLine}
use Rattle.spin_vm.specs.declared.came.Came.{Came}
use Rattle.spin_vm.specs.declared.writing.Stop.{Stop}
use Rattle.spin_vm.specs.declared.writing.Stop.TheVariants as stop
use Rattle.spin_vm.specs.Spaces.{Space, answered_if, answers, last_spaces, mapped_pages}
use Rattle.spin_vm.specs.Output.{answered_line, end_line}
use Rattle.spin_vm.specs.Ends.{WritesFront}

abbrev pub regions_of : List Space → List (List Region)
regions_of spaces = map (λ s. s.regions) spaces

-- the text of a line's answer, if it has one
abbrev pub text_if : TraceLine → Option Came → List ℕ
text_if line came = text_of (map answered_line (answered_if line came))

-- the text of the lines to come, behind these spaces
abbrev pub text_behind : (Deed → Reply) → List Space → List TraceLine → List ℕ
text_behind reply spaces lines =
    text_of (map answered_line (answers reply spaces lines)
    ++ end_line (mapped_pages (last_spaces reply spaces lines)) ∷ [])

-- the text wasn't written whole: the sink failed in it, or nothing of it was written
abbrev pub Stops : SinkSeen → SinkSeen → List ℕ → Stop → Type 0
Stops before after text stop.WriteFault = WritesFront before after text × Rose before.faults after.faults
Stops before after text stop.NoMemory = after ≡ before

-- the same of a text of which a front may stand
abbrev pub StopsWithin : SinkSeen → SinkSeen → List ℕ → Stop → Type 0
StopsWithin before after text stop.WriteFault =
    WritesFront before after text × Rose before.faults after.faults
StopsWithin before after text stop.NoMemory =
    WritesFront before after text × (after.faults ≡ before.faults)

-- the text was written, or it stopped so
abbrev pub Wrote : {A : Type 0} → SinkSeen → SinkSeen → List ℕ → Result A Stop → Type 0
Wrote before after text (Ok done) = Appends before.told after.told text
Wrote before after text (Err why) = Stops before after text why

abbrev pub WroteWithin : {A : Type 0} → SinkSeen → SinkSeen → List ℕ → Result A Stop → Type 0
WroteWithin before after text (Ok done) = Appends before.told after.told text
WroteWithin before after text (Err why) = StopsWithin before after text why
