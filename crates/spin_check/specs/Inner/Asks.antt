-- What lanes are still to do.
use Rattle.std.specs.Prelude.{◌≡◌, ℕ, ◌<◌, ◌+◌, Bool, List, [], ◌∷◌, ◌++◌, map, length}
use Rattle.std.specs.Prelude.{All, count_by, sum_by, slice_index_or, slice_set}
use Rattle.std.specs.List.{enumerate_from}
use Rattle.spin_word.specs.declared.work.Work.{Work}
use Rattle.spin_word.specs.declared.work.Work.TheVariants as work
use Rattle.spin_script.specs.declared.script.Line.{Line}
use Rattle.spin_script.specs.Soundness.{IsValidWork, is_command_work}
use Rattle.spin_report.specs.Asked.{Numbered}
use Rattle.spin_report.specs.Segments.{raise_with, asked_of_lane}
use Rattle.spin_check.specs.declared.deeds.Asked.{Asked}
use Rattle.spin_check.specs.declared.deeds.Asked.TheVariants as asked
use Rattle.spin_check.specs.declared.deeds.Ask.{Ask}

abbrev pub work_of : Asked → Work
work_of (asked.Command command) = work.Command command
work_of (asked.Deed deed) = work.Deed deed

abbrev pub numbered : Ask → Numbered
numbered ask =
    record { lane = ask.lane; line = ask.line; part = ask.part; asked = work_of ask.asked }

-- its command, if it is one, is valid, and its lane has one digit
abbrev pub IsValid : Ask → Type 0
IsValid ask = IsValidWork (work_of ask.asked) × (ask.lane < 10)

abbrev pub asks_command : Ask → Bool
asks_command ask = is_command_work (work_of ask.asked)

-- what that lane is still to do
abbrev pub queue_of : ℕ → List (List Ask) → List Ask
queue_of lane queues = slice_index_or queues lane []

abbrev pub left_of : ℕ → List (List Ask) → List Numbered
left_of lane queues = map numbered (queue_of lane queues)

-- the lane is to do one more deed, as its last
abbrev pub with_ask : Ask → List (List Ask) → List (List Ask)
with_ask ask queues = slice_set queues ask.lane (queue_of ask.lane queues ++ ask ∷ [])

-- how many commands are left
abbrev pub commands_left : List (List Ask) → ℕ
commands_left queues = sum_by (λ queue. count_by asks_command queue) queues

-- So many lanes are to do what is asked, each its own in order.
pub record AreAsked (count : ℕ) (asked : List Numbered) (queues : List (List Ask)) : Type 0 where
  pub lanes : length queues ≡ count
  pub each : (k : ℕ) → k < count → left_of k queues ≡ asked_of_lane k asked
  pub valid : All (λ queue. All IsValid queue) queues

-- how many of these are commands
abbrev pub commands_asked : List Numbered → ℕ
commands_asked asked = count_by (λ n. is_command_work n.asked) asked

-- Each lane is to do its own of what is asked, behind what it was to do already.
pub record Adds (asked : List Numbered) (before after : List (List Ask)) : Type 0 where
  pub lanes : length after ≡ length before
  pub each : (k : ℕ) → k < length before → left_of k after ≡ left_of k before ++ asked_of_lane k asked
  pub valid : All (λ queue. All IsValid queue) before → All (λ queue. All IsValid queue) after
  pub commands : commands_left after ≡ commands_left before + commands_asked asked

-- what a line of packets asks with these records, whose parts begin with that one
abbrev pub packets_at : Line → ℕ → ℕ → List (List ℕ) → List Numbered
packets_at line event part records =
    map (λ p. record { lane = line.lane; line = line.number; part = p.0; asked = raise_with event p.1 })
    (enumerate_from part records)

-- what a line that asks for that work as its one deed asks
abbrev pub whole_at : Line → Work → List Numbered
whole_at line asked =
    record { lane = line.lane; line = line.number; part = 0; asked = asked } ∷ []
