-- What the line of an entry tells.
use Rattle.std.specs.Prelude.{◌≡◌, ◌==◌, ◌&&◌, ℕ, Bool, true, not, List, ◌++◌}
use Rattle.std.specs.List.{list_all}
use Rattle.spin_word.specs.declared.command.Command.{Command}
use Rattle.spin_table.specs.declared.refusal.Refusal.TheVariants as refusal
use Rattle.spin_table.specs.declared.refusal.Verdicted.{Verdicted}
use Rattle.spin_table.specs.declared.refusal.Verdicted.TheVariants as verdicted
use Rattle.spin_report.specs.declared.entry.What.TheVariants as what
use Rattle.spin_report.specs.declared.entry.Entry.{Entry}
use Rattle.spin_report.specs.Lines.{entry_line}
use Rattle.spin_text.specs.Words.{ended}

-- neither a space nor a line feed
abbrev pub is_plain : ℕ → Bool
is_plain b = not (b == 32) && not (b == 10)

abbrev pub IsWord : List ℕ → Type 0
IsWord word = list_all is_plain word ≡ true

-- the report begins with the line of the entry
abbrev pub Begins : List ℕ → Entry → Type 0
Begins report entry = (more : List ℕ) × (report ≡ ended (entry_line entry) ++ more)

-- the report begins with the line of an entry of a command with that verdict
abbrev pub TellsVerdict : List ℕ → Verdicted → Type 0
TellsVerdict report verdict =
    (entry : Entry) × (command : Command) × (entry.what ≡ what.Command command verdict)
    × Begins report entry

abbrev pub conflict : List ℕ → Verdicted
conflict cycle = verdicted.Refused (refusal.Conflict cycle)
