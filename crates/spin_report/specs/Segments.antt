-- What a segment of a script asks of its lanes, and which entries and jobs answer it.
use Rattle.std.specs.Prelude.{◌≡◌, ℕ, ◌<◌, ◌==◌, Bool, true, false, not, List, []}
use Rattle.std.specs.Prelude.{◌∷◌, ◌++◌, map, filter, take, drop, sum_by, All}
use Rattle.std.specs.List.{enumerate_from}
use Rattle.std.specs.Ordering.{nat_cmp, bool_cmp, ordering_then}
use Rattle.std.specs.declared.cmp.Ordering.{Ordering}
use Rattle.std.specs.List.Sorted.{IsSortedByKey}
use Rattle.spin_values.specs.declared.values.Value.TheVariants as value
use Rattle.spin_word.specs.declared.work.Work.{Work}
use Rattle.spin_word.specs.declared.work.Work.TheVariants as work
use Rattle.spin_word.specs.declared.work.Deed.TheVariants as deed
use Rattle.spin_table.specs.declared.refusal.Verdicted.TheVariants as verdicted
use Rattle.spin_table.specs.Setups.{SetupData}
use Rattle.spin_table.specs.States.{State}
use Rattle.spin_script.specs.declared.script.Line.{Line}
use Rattle.spin_report.specs.declared.entry.What.{What}
use Rattle.spin_report.specs.declared.entry.What.TheVariants as what
use Rattle.spin_report.specs.declared.entry.Entry.{Entry}
use Rattle.spin_report.specs.Lines.{JobSeen}
use Rattle.spin_report.specs.Asked.{Numbered, asked_of}
use Rattle.spin_report.specs.Jobs.{AreJobs}
use Rattle.spin_report.specs.Legal.{IsLegal}

-- ---- what the lines ask

-- how many records of the capture a line takes at most
abbrev pub records_wanted : Work → ℕ
records_wanted (work.Packet event count) = count
records_wanted asked = 0

-- the raise of the event whose one argument is these bytes
abbrev pub raise_with : ℕ → List ℕ → Work
raise_with event frame = work.Deed (deed.Raise event (value.Bytes frame ∷ []))

-- A packet line asks for a raise with each record that it takes, its parts from 1 on; every other line asks for its
-- one deed, as part 0.
abbrev pub parts_of : Work → List (List ℕ) → List (ℕ × Work)
parts_of (work.Packet event count) records = map (λ part. (part.0, raise_with event part.1)) (enumerate_from 1 records)
parts_of asked records = (0, asked) ∷ []

-- what a line asks, where these are the records that it takes: each part by the line's lane and number
abbrev pub asked_at : Line → List (List ℕ) → List Numbered
asked_at line records =
    map (λ part. record { lane = line.lane; line = line.number; part = part.0; asked = part.1 })
    (parts_of line.work records)

-- What lines ask in the order of the text, where these are the records left: they are given to the packet lines in
-- that order, whatever the lane.
abbrev pub asked_in : List Line → List (List ℕ) → List Numbered
asked_in [] records = []
asked_in (line ∷ lines) records =
    asked_at line (take (records_wanted line.work) records) ++ asked_in lines (drop (records_wanted line.work) records)

-- how many records these lines take at most
abbrev pub wanted_by : List Line → ℕ
wanted_by lines = sum_by (λ line. records_wanted line.work) lines

-- what is asked of that lane, in its order
abbrev pub asked_of_lane : ℕ → List Numbered → List Numbered
asked_of_lane lane asked = filter (λ n. n.lane == lane) asked

-- ---- the order of entries

-- it is a command that was accepted
abbrev pub is_accepted : What → Bool
is_accepted (what.Command command verdicted.Accepted) = true
is_accepted (what.Command command (verdicted.Refused refusal)) = false
is_accepted (what.Deed asked reply) = false

-- where an entry stands among those of its segment: by place; at one place the accepted command first, and then by
-- lane, line and part
abbrev pub moment : Entry → ℕ × Bool × ℕ × ℕ × ℕ
moment entry = (entry.place, not (is_accepted entry.what), entry.lane, entry.line, entry.part)

-- moments are compared by the first of their fields in which they differ, false being less than true
abbrev pub moment_cmp : ℕ × Bool × ℕ × ℕ × ℕ → ℕ × Bool × ℕ × ℕ × ℕ → Ordering
moment_cmp a b =
    ordering_then (ordering_then (ordering_then (ordering_then (nat_cmp a.0 b.0) (bool_cmp a.1 b.1))
    (nat_cmp a.2 b.2)) (nat_cmp a.3 b.3)) (nat_cmp a.4 b.4)

-- the entries stand in the order of their moments
abbrev pub IsInOrder : List Entry → Type 0
IsInOrder entries = IsSortedByKey moment moment_cmp entries

-- the entries of one lane, in their order
abbrev pub of_lane : ℕ → List Entry → List Entry
of_lane lane entries = filter (λ entry. entry.lane == lane) entries

-- ---- the answer of a segment

-- These entries and jobs answer what is asked of so many lanes, from one state of the plain dispatcher to another: they
-- are legal; each lane's deeds are answered once each, in that lane's order, and nothing else is; they stand in order;
-- and each job has its reply at the state of its own entry.
pub record IsWoven (d : SetupData) (lanes : ℕ) (asked : List Numbered) (before after : State)
    (entries : List Entry) (jobs : List JobSeen) : Type 0 where
  pub legal : IsLegal d before entries after
  pub once : (k : ℕ) → k < lanes → asked_of_lane k (map asked_of entries) ≡ asked_of_lane k asked
  pub lanes_are : All (λ entry. entry.lane < lanes) entries
  pub order : IsInOrder entries
  pub jobs_are : AreJobs d before entries jobs
