-- The output of a trace.
use Rattle.std.specs.Prelude.{ℕ, Bool, true, false, List, [], ◌∷◌, ◌++◌, map, Option, Some, None, decimal, codes}
use Rattle.spin_text.specs.Words.{Word, line_of, text_of}
use Rattle.spin_word.specs.declared.work.Deed.{Deed}
use Rattle.spin_proto.specs.declared.reply.Reply.{Reply}
use Rattle.spin_report.specs.Replies.{reply_words}
use Rattle.spin_vm.specs.declared.line.TraceLine.{TraceLine}
use Rattle.spin_vm.specs.declared.fault.Fault.{Fault}
use Rattle.spin_vm.specs.declared.fault.Fault.TheVariants as fault
use Rattle.spin_vm.specs.declared.came.Came.{Came}
use Rattle.spin_vm.specs.declared.came.Came.TheVariants as came
use Rattle.spin_vm.specs.Spaces.{Answered, answers, last_spaces, mapped_pages}

-- the word of each fault
abbrev pub fault_word : Fault → Word
fault_word fault.PageNotPresent = codes "page_not_present"
fault_word fault.BadAddress = codes "bad_address"
fault_word fault.ProtectionFault = codes "protection_fault"

-- the frame, or `none` where there is none
abbrev pub frame_words : Option ℕ → List Word
frame_words None = codes "none" ∷ []
frame_words (Some frame) = codes "frame" ∷ decimal frame ∷ []

-- whether the page was mapped: `ok` where it was, and `none` where it wasn't
abbrev pub unmapped_word : Bool → Word
unmapped_word true = codes "ok"
unmapped_word false = codes "none"

-- the words of what a line came to: a frame; a fault, the reply to its raise and the frame; or an unmapping
abbrev pub came_words : Came → List Word
came_words (came.Found frame) = frame_words (Some frame)
came_words (came.Faulted f answered frame) =
    fault_word f ∷ reply_words answered ++ frame_words frame
came_words (came.Unmapped was) = codes "unmap" ∷ unmapped_word was ∷ []

-- the line of an answer: the number of its line in the trace, and what that came to
abbrev pub answered_line : Answered → List ℕ
answered_line a = line_of (decimal a.number ∷ came_words a.came)

-- the first line of every output, `vm 1`
abbrev pub first_line : List ℕ
first_line = line_of (codes "vm" ∷ codes "1" ∷ [])

-- the last line of an output, with how many pages are mapped
abbrev pub end_line : ℕ → List ℕ
end_line pages = line_of (codes "end" ∷ decimal pages ∷ [])

-- the output's lines, where `reply` replies to raises
abbrev pub output_lines : (Deed → Reply) → List TraceLine → List (List ℕ)
output_lines reply trace =
    first_line
    ∷ map answered_line (answers reply [] trace)
    ++ end_line (mapped_pages (last_spaces reply [] trace)) ∷ []

-- the output, each line ended by a line feed, where `reply` replies to raises
abbrev pub output : (Deed → Reply) → List TraceLine → List ℕ
output reply trace = text_of (output_lines reply trace)
