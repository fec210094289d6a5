-- What entries answer.
use Rattle.std.specs.Prelude.{◌≡◌, ℕ, List, map, Contains, IsPermutation}
use Rattle.spin_word.specs.declared.work.Work.{Work}
use Rattle.spin_word.specs.declared.work.Work.TheVariants as work
use Rattle.spin_table.specs.Setups.{SetupData}
use Rattle.spin_table.specs.States.{State}
use Rattle.spin_report.specs.declared.entry.What.{What}
use Rattle.spin_report.specs.declared.entry.What.TheVariants as what
use Rattle.spin_report.specs.declared.entry.Entry.{Entry}
use Rattle.spin_report.specs.Legal.{IsLegal}

-- what is asked, by the lane that asks it, its line, and its part of the line
pub record Numbered : Type 0 where
  pub lane : ℕ
  pub line : ℕ
  pub part : ℕ
  pub asked : Work

-- the command or the deed that was asked
abbrev pub asked_by : What → Work
asked_by (what.Command command verdict) = work.Command command
asked_by (what.Deed deed reply) = work.Deed deed

-- what an entry answers
abbrev pub asked_of : Entry → Numbered
asked_of entry = record { lane = entry.lane; line = entry.line; part = entry.part; asked = asked_by entry.what }

-- no two of these have one line and part
abbrev pub AreApart : List Numbered → Type 0
AreApart asked = (m n : Numbered) → Contains asked m → Contains asked n → m.line ≡ n.line → m.part ≡ n.part → m ≡ n

-- a list that is legal from that state on, and answers each of these once
pub record IsHistory
    (d : SetupData) (start : State) (asked : List Numbered) (entries : List Entry) : Type 0 where
  pub last : State
  pub legal : IsLegal d start entries last
  pub once : IsPermutation (map asked_of entries) asked
