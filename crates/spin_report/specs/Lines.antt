-- The lines of entries and of jobs, without their line feeds.
use Rattle.std.specs.Prelude.{ℕ, ◌==◌, if◌then◌else◌, List, ◌∷◌, ◌++◌, decimal, codes}
use Rattle.spin_word.specs.declared.work.Deed.{Deed}
use Rattle.spin_word.specs.declared.work.Deed.TheVariants as deed
use Rattle.spin_proto.specs.declared.deed.Job.{Job}
use Rattle.spin_proto.specs.declared.reply.Reply.{Reply}
use Rattle.spin_report.specs.declared.entry.What.{What}
use Rattle.spin_report.specs.declared.entry.What.TheVariants as what
use Rattle.spin_report.specs.declared.entry.Entry.{Entry}
use Rattle.spin_text.specs.Words.{Word, line_of}
use Rattle.spin_grammar.specs.Forms.{op_word}
use Rattle.spin_report.specs.Verdicts.{verdict_words}
use Rattle.spin_report.specs.Replies.{reply_words}

-- a raise of a packet line, whose parts are counted from 1, has another word
abbrev pub deed_word : ℕ → Deed → Word
deed_word part (deed.Raise event args) = if part == 0 then codes "raise" else codes "packet"
deed_word part (deed.Later event args) = codes "later"

-- the words of a command and its verdict, or of a deed and its reply
abbrev pub what_words : ℕ → What → List Word
what_words part (what.Command command verdict) = op_word command.op ∷ verdict_words verdict
what_words part (what.Deed deed reply) = deed_word part deed ∷ reply_words reply

-- a line's number, and after a dot the part of a packet line
abbrev pub line_word : ℕ → ℕ → Word
line_word line part = if part == 0 then decimal line else decimal line ++ 46 ∷ decimal part

-- the line of an entry, without its line feed: its place, its lane and its line, and what was asked and answered there
abbrev pub entry_line : Entry → List ℕ
entry_line e = line_of (decimal e.place ∷ decimal e.lane ∷ line_word e.line e.part ∷ what_words e.part e.what)

-- what a report tells of a job: the place, lane, line and part of its entry, which of the entry's jobs it is, and
-- what it came to
pub record JobSeen : Type 0 where
  pub place : ℕ
  pub lane : ℕ
  pub line : ℕ
  pub part : ℕ
  pub index : ℕ
  pub reply : Reply

abbrev pub job_seen : Job → Reply → JobSeen
job_seen job reply =
    record { place = job.place; lane = job.lane; line = job.line; part = job.part; index = job.index; reply = reply }

-- the line of a job, without its line feed: the place, the lane and the line of its entry, its index there, and what it
-- came to
abbrev pub job_line : JobSeen → List ℕ
job_line j =
    line_of (codes "job" ∷ decimal j.place ∷ decimal j.lane ∷ line_word j.line j.part ∷ decimal j.index
    ∷ reply_words j.reply)
