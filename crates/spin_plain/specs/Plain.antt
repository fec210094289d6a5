-- The plain dispatcher as a function: what it answers where all deeds are done in the order of the text.
use Rattle.std.specs.Prelude.{Bool, true, false, ◌==◌, List, [], ◌∷◌, ◌++◌, map, fold, drop, length, Option, Some, None}
use Rattle.std.specs.Option.{option_map}
use Rattle.std.specs.List.{enumerate_from, zip}
use Rattle.spin_word.specs.declared.command.Op.{Op}
use Rattle.spin_word.specs.declared.command.Op.TheVariants as op
use Rattle.spin_word.specs.declared.command.Command.{Command}
use Rattle.spin_word.specs.declared.work.Deed.{Deed}
use Rattle.spin_word.specs.declared.work.Deed.TheVariants as deed
use Rattle.spin_word.specs.declared.work.Work.{Work}
use Rattle.spin_word.specs.declared.work.Work.TheVariants as work
use Rattle.spin_place.specs.declared.binding.Binding.{Binding}
use Rattle.spin_table.specs.declared.refusal.Refusal.{Refusal}
use Rattle.spin_table.specs.declared.refusal.Refusal.TheVariants as refusal
use Rattle.spin_table.specs.declared.refusal.Verdicted.{Verdicted}
use Rattle.spin_table.specs.declared.refusal.Verdicted.TheVariants as verdicted
use Rattle.spin_table.specs.Setups.{SetupData}
use Rattle.spin_table.specs.States.{State}
use Rattle.spin_table.specs.Refusals.{refusal_of}
use Rattle.spin_table.specs.Steps.{state_after, bindings_at}
use Rattle.spin_raise.specs.Firing.{Bound, bound_of}
use Rattle.spin_proto.specs.Replies.{units_in, types_in, deed_reply, job_reply}
use Rattle.spin_endpoint.specs.Named.{NamedEnd}
use Rattle.spin_endpoint.specs.Sends.{all_received, all_retired}
use Rattle.spin_script.specs.declared.script.Segment.{Segment}
use Rattle.spin_script.specs.States.{ScriptData}
use Rattle.spin_report.specs.declared.entry.What.{What}
use Rattle.spin_report.specs.declared.entry.What.TheVariants as what
use Rattle.spin_report.specs.declared.entry.Entry.{Entry}
use Rattle.spin_report.specs.Lines.{JobSeen}
use Rattle.spin_report.specs.Asked.{Numbered}
use Rattle.spin_report.specs.Jobs.{answer_calls, entry_job}
use Rattle.spin_report.specs.Histories.{SegmentSeen, HistorySeen}
use Rattle.spin_report.specs.Segments.{asked_in, wanted_by}
use Rattle.spin_report.specs.Runs.{RunPoint, CaptureSeen, retirements, lost_counts, segment_sends, frames_of, start_with, counts_of}
use Rattle.spin_plain.specs.Order.{in_order}

-- ---- one answer

-- an install needs an order of the bindings that it would make, and nothing else does
abbrev pub can_stand : Op → List Binding → Bool
can_stand op.Install bindings = length (in_order bindings) == length bindings
can_stand o bindings = true

-- the verdict, where this refusal applies first, if one does, and the bindings can stand or can't; of the cycle that a
-- conflict tells no number is told
abbrev pub verdict_by : Option Refusal → Bool → Verdicted
verdict_by (Some why) stand = verdicted.Refused why
verdict_by None true = verdicted.Accepted
verdict_by None false = verdicted.Refused (refusal.Conflict [])

-- the verdict on a command
abbrev pub verdict_on : SetupData → State → Command → Verdicted
verdict_on d s c = verdict_by (refusal_of d s c) (can_stand c.op (bindings_at (state_after d c s) c.event))

-- the events as raises find them
abbrev pub found_at : SetupData → State → List Bound
found_at d s = map (λ e. bound_of (in_order e.1.bindings) e.0.merge e.1.default) (zip d.events s.events)

-- a deed with its reply
abbrev pub replied : SetupData → State → Deed → What
replied d s asked = what.Deed asked (deed_reply (units_in d) (found_at d s) (types_in d) asked)

-- What is asked, with its answer. A line of packets is asked as its raises, so the third case never comes.
abbrev pub answered : SetupData → State → Work → What
answered d s (work.Command c) = what.Command c (verdict_on d s c)
answered d s (work.Deed asked) = replied d s asked
answered d s (work.Packet event count) = replied d s (deed.Raise event [])

-- the state that an answer leaves: only a command that is accepted changes it
abbrev pub left_by : SetupData → State → What → State
left_by d s (what.Command c verdicted.Accepted) = state_after d c s
left_by d s other = s

-- ---- one deed after another

-- the state after what is asked
abbrev pub next_state : SetupData → State → Numbered → State
next_state d s n = left_by d s (answered d s n.asked)

-- its entry
abbrev pub entry_for : SetupData → State → Numbered → Entry
entry_for d s n =
    record { place = (next_state d s n).place; lane = n.lane; line = n.line; part = n.part; what = answered d s n.asked }

-- the jobs that an entry leaves at this state, each done there
abbrev pub jobs_for : SetupData → State → Entry → List JobSeen
jobs_for d s entry =
    map (λ call. entry_job entry call.0 (job_reply (units_in d) (found_at d s) call.1))
    (enumerate_from 0 (answer_calls entry.what))

-- the entries of what is asked, one after another
abbrev pub entries_from : SetupData → State → List Numbered → List Entry
entries_from d s [] = []
entries_from d s (n ∷ asked) = entry_for d s n ∷ entries_from d (next_state d s n) asked

-- their jobs
abbrev pub jobs_from : SetupData → State → List Numbered → List JobSeen
jobs_from d s [] = []
jobs_from d s (n ∷ asked) =
    jobs_for d (next_state d s n) (entry_for d s n) ++ jobs_from d (next_state d s n) asked

-- the state that they leave
abbrev pub state_from : SetupData → State → List Numbered → State
state_from d s asked = fold (next_state d) s asked

-- ---- one segment after another

-- the segment as it is done from there, before its sends are delivered
abbrev pub plain_answers : ScriptData → Segment → RunPoint → SegmentSeen
plain_answers script segment before = record {
  retired = retirements script.endpoints segment.retires before.ends;
  start = before.state.place;
  entries = entries_from script.setup before.state (asked_in segment.lines before.left);
  jobs = jobs_from script.setup before.state (asked_in segment.lines before.left);
  lost = [];
}

-- the segment with what is lost of its sends
abbrev pub plain_segment : ScriptData → Segment → RunPoint → SegmentSeen
plain_segment script segment before =
    record (plain_answers script segment before) {
      lost =
          lost_counts script.endpoints (all_retired script.endpoints segment.retires before.ends)
          (segment_sends (plain_answers script segment before));
    }

-- how it leaves the run
abbrev pub plain_after : ScriptData → Segment → RunPoint → RunPoint
plain_after script segment before = record {
  state = state_from script.setup before.state (asked_in segment.lines before.left);
  left = drop (wanted_by segment.lines) before.left;
  ends =
      all_received script.endpoints (segment_sends (plain_answers script segment before))
      (all_retired script.endpoints segment.retires before.ends);
}

-- the segments
abbrev pub plain_segments : ScriptData → List Segment → RunPoint → List SegmentSeen
plain_segments script [] before = []
plain_segments script (segment ∷ segments) before =
    plain_segment script segment before ∷ plain_segments script segments (plain_after script segment before)

-- how they leave the run
abbrev pub plain_end : ScriptData → List Segment → RunPoint → RunPoint
plain_end script [] before = before
plain_end script (segment ∷ segments) before = plain_end script segments (plain_after script segment before)

-- how the whole script leaves the run, with that capture and those endpoints
abbrev pub plain_last : ScriptData → Option CaptureSeen → List NamedEnd → RunPoint
plain_last script capture ends = plain_end script script.segments (start_with script (frames_of capture) ends)

-- its history
abbrev pub plain_history : ScriptData → Option CaptureSeen → List NamedEnd → HistorySeen
plain_history script capture ends = record {
  segments = plain_segments script script.segments (start_with script (frames_of capture) ends);
  end = (plain_last script capture ends).state.place;
  capture = option_map (counts_of (plain_last script capture ends).left) capture;
}
