-- The dispatcher of a script.
use Rattle.std.specs.Prelude.{◌≡◌, ℕ, Bool, true, false, not, ◌&&◌, ◌==◌, List, [], ◌∷◌, length, slice_get}
use Rattle.std.specs.List.{list_all}
use Rattle.std.specs.Option.{option_map_or}
use Rattle.spin_values.specs.declared.types.Kind.{Kind}
use Rattle.spin_values.specs.declared.types.Kind.TheVariants as kind
use Rattle.spin_values.specs.declared.types.Param.{Param}
use Rattle.spin_values.specs.declared.types.EventType.{EventType}
use Rattle.spin_word.specs.declared.work.Work.{Work}
use Rattle.spin_word.specs.declared.work.Work.TheVariants as work
use Rattle.spin_word.specs.declared.work.Deed.{Deed}
use Rattle.spin_table.specs.declared.event.EventDef.{EventDef}
use Rattle.spin_table.specs.declared.refusal.Verdicted.{Verdicted}
use Rattle.spin_table.specs.Setups.{SetupData}
use Rattle.spin_table.specs.States.{State, start_of}
use Rattle.spin_table.specs.Steps.{IsStep}
use Rattle.spin_proto.specs.declared.reply.Reply.{Reply}
use Rattle.spin_proto.specs.Replies.{IsDeedReply}
use Rattle.spin_script.specs.declared.script.Line.{Line}
use Rattle.spin_script.specs.declared.script.Segment.{Segment}
use Rattle.spin_script.specs.States.{ScriptData}
use Rattle.spin_script.specs.Soundness.{lines_in, is_command_work}

-- ---- scripts whose events are translation faults

-- the kind is that of words
abbrev pub is_word_kind : Kind → Bool
is_word_kind kind.Word = true
is_word_kind kind.Bytes = false

-- a word by value
abbrev pub is_word : Param → Bool
is_word p = is_word_kind p.kind && not p.var

-- there are just three parameters, each a word by value
abbrev pub are_three_words : List Param → Bool
are_three_words (a ∷ b ∷ c ∷ []) = is_word a && is_word b && is_word c
are_three_words params = false

-- `www:w`: three words, and a result
abbrev pub is_fault_type : EventType → Bool
is_fault_type sig = sig.gives && are_three_words sig.params

-- there is such an event, which takes a fault and gives a word
abbrev pub takes_faults : List EventDef → ℕ → Bool
takes_faults events event =
    option_map_or (λ (e : EventDef). is_fault_type e.sig) (slice_get events event) false

-- each of the lane lines asks for a command
abbrev pub are_commands : List Line → Bool
are_commands lines = list_all (λ (line : Line). is_command_work line.work) lines

-- there is an event for each fault
abbrev pub has_fault_events : List EventDef → Bool
has_fault_events events =
    takes_faults events 0 && takes_faults events 1 && takes_faults events 2

-- each lane line of each segment asks for a command
abbrev pub asks_commands : List Segment → Bool
asks_commands segments = list_all (λ (s : Segment). are_commands s.lines) segments

-- the script has one segment and one lane
abbrev pub is_single : ScriptData → Bool
is_single script = length script.segments == 1 && script.lanes == 1

-- one segment, one lane and command deeds alone, and an event for each fault
abbrev pub is_suited : ScriptData → Bool
is_suited script =
    is_single script && asks_commands script.segments && has_fault_events script.setup.events

-- ---- the state that a script leaves

-- what a lane line asks for leads to the next state: a command that is refused changes nothing
abbrev pub Leads : SetupData → State → Work → State → Type 0
Leads d s (work.Command c) next = (v : Verdicted) × IsStep d s c v next
Leads d s other next = ⊥

-- the lines, one after another, lead from a state to this one
abbrev pub AllLead : SetupData → State → List Line → State → Type 0
AllLead d s [] last = last ≡ s
AllLead d s (line ∷ lines) last =
    (next : State) × Leads d s line.work next × AllLead d next lines last

-- the lane lines of the script, all in order, lead from the start to this state
abbrev pub IsLast : ScriptData → State → Type 0
IsLast script last = AllLead script.setup (start_of script.setup) (lines_in script.segments) last

-- these are the replies to deeds at the state
abbrev pub AreReplies : SetupData → State → (Deed → Reply) → Type 0
AreReplies d s reply = (asked : Deed) → IsDeedReply d s asked (reply asked)
