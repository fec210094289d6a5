-- The jobs of a history: which an entry leaves, and what they come to.
use Rattle.std.specs.Prelude.{◌≡◌, ◌+◌, ℕ, List, [], ◌∷◌, ◌++◌}
use Rattle.spin_table.specs.Setups.{SetupData}
use Rattle.spin_table.specs.States.{State}
use Rattle.spin_proto.specs.declared.deed.JobCall.{JobCall}
use Rattle.spin_proto.specs.declared.reply.Reply.{Reply}
use Rattle.spin_proto.specs.Replies.{calls_left, IsJobReply}
use Rattle.spin_report.specs.declared.entry.What.{What}
use Rattle.spin_report.specs.declared.entry.What.TheVariants as what
use Rattle.spin_report.specs.declared.entry.Entry.{Entry}
use Rattle.spin_report.specs.Lines.{JobSeen}
use Rattle.spin_report.specs.Legal.{IsNextEntry}

-- the calls that an answer leaves to jobs
abbrev pub answer_calls : What → List JobCall
answer_calls (what.Command command verdict) = []
answer_calls (what.Deed deed reply) = calls_left reply

-- the entry's job of that index, with its reply
abbrev pub entry_job : Entry → ℕ → Reply → JobSeen
entry_job entry at reply =
    record { place = entry.place; lane = entry.lane; line = entry.line; part = entry.part; index = at; reply = reply }

-- These are the entry's jobs with these calls, the first of which has that index, each with its reply at the state.
abbrev pub AreJobsFrom : SetupData → State → Entry → ℕ → List JobCall → List JobSeen → Type 0
AreJobsFrom d state entry index [] jobs = jobs ≡ []
AreJobsFrom d state entry index (call ∷ calls) jobs =
    (reply : Reply) × (others : List JobSeen) × IsJobReply d state call reply
    × (jobs ≡ entry_job entry index reply ∷ others) × AreJobsFrom d state entry (index + 1) calls others

-- These are the jobs of the entries, which are legal from the state on: in the order of their entries, each with its
-- reply at the state of its own entry.
abbrev pub AreJobs : SetupData → State → List Entry → List JobSeen → Type 0
AreJobs d state [] jobs = jobs ≡ []
AreJobs d state (entry ∷ entries) jobs =
    (next : State) × (own : List JobSeen) × (others : List JobSeen)
    × IsNextEntry d state entry next × AreJobsFrom d next entry 0 (answer_calls entry.what) own
    × AreJobs d next entries others × (jobs ≡ own ++ others)
