-- Which lists of entries are legal.
use Rattle.std.specs.Prelude.{◌≡◌, List, [], ◌∷◌}
use Rattle.spin_table.specs.Setups.{SetupData}
use Rattle.spin_table.specs.States.{State}
use Rattle.spin_table.specs.Steps.{IsStep}
use Rattle.spin_proto.specs.Replies.{IsDeedReply}
use Rattle.spin_report.specs.declared.entry.What.{What}
use Rattle.spin_report.specs.declared.entry.What.TheVariants as what
use Rattle.spin_report.specs.declared.entry.Entry.{Entry}

-- What was asked at the first state has this answer, and leads to the second: a command that is accepted to the next
-- state, and one that is refused, or a deed, to the same.
abbrev pub Answers : SetupData → State → What → State → Type 0
Answers d state (what.Command command verdict) next = IsStep d state command verdict next
Answers d state (what.Deed deed reply) next = IsDeedReply d state deed reply × (next ≡ state)

-- The entry answers at the first state and leads to the second, whose place it has.
abbrev pub IsNextEntry : SetupData → State → Entry → State → Type 0
IsNextEntry d state entry next = Answers d state entry.what next × (entry.place ≡ next.place)

-- Each entry follows on the state that those before it made.
abbrev pub IsLegal : SetupData → State → List Entry → State → Type 0
IsLegal d state [] last = last ≡ state
IsLegal d state (entry ∷ entries) last = (next : State) × IsNextEntry d state entry next × IsLegal d next entries last
