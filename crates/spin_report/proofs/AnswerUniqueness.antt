-- What was asked at a state has one answer and one next state, but for the cycle that a conflict names.
use Rattle.std.proofs.Common.{◌≡◌, List, [], ◌∷◌, sym, ap, subst, ◌∙◌}
use Rattle.std.specs.Prelude.{Option, Some, None, MatchOption}
use Rattle.spin_word.specs.declared.command.Command.{Command}
use Rattle.spin_table.specs.declared.refusal.Refusal.{Refusal}
use Rattle.spin_table.specs.declared.refusal.Verdicted.{Verdicted}
use Rattle.spin_table.specs.declared.refusal.Verdicted.TheVariants as verdicted
use Rattle.spin_table.specs.Setups.{SetupData}
use Rattle.spin_table.specs.States.{State}
use Rattle.spin_table.specs.Refusals.{refusal_of}
use Rattle.spin_table.specs.Steps.{ChangesTo, IsStep}
use Rattle.spin_word.specs.declared.work.Deed.{Deed}
use Rattle.spin_proto.specs.declared.deed.JobCall.{JobCall}
use Rattle.spin_proto.specs.declared.reply.Reply.{Reply}
use Rattle.spin_proto.proofs.BoundEvents.{bounds_unique}
use Rattle.spin_proto.specs.Replies.{deed_reply, job_reply, units_in, types_in, IsDeedReply, IsJobReply}
use Rattle.spin_report.specs.declared.entry.What.{What}
use Rattle.spin_report.specs.declared.entry.What.TheVariants as what
use Rattle.spin_report.specs.declared.entry.Entry.{Entry}
use Rattle.spin_report.specs.Legal.{Answers, IsNextEntry, IsLegal}

-- a deed has one reply at a state
pub one_reply : (d : SetupData) (s : State) (asked : Deed) (a b : Reply) → IsDeedReply d s asked a → IsDeedReply d s asked b → a ≡ b
one_reply d s asked a b h k =
    let same = bounds_unique d.events s.events h.0 k.0 h.1 k.1 in
    h.2 ∙ ap (λ bounds. deed_reply (units_in d) bounds (types_in d) asked) same ∙ sym k.2

-- and so has the call of a job
pub one_job_reply : (d : SetupData) (s : State) (call : JobCall) (a b : Reply) → IsJobReply d s call a → IsJobReply d s call b → a ≡ b
one_job_reply d s call a b h k =
    let same = bounds_unique d.events s.events h.0 k.0 h.1 k.1 in
    h.2 ∙ ap (λ bounds. job_reply (units_in d) bounds call) same ∙ sym k.2

-- a command with its verdict leads to one state
pub one_next : (d : SetupData) (s : State) (c : Command) (v : Verdicted) (a b : State) → IsStep d s c v a → IsStep d s c v b → a ≡ b
one_next d s c v a b h k = by_refusal (refusal_of d s c) v h k where
  by_refusal : (r : Option Refusal) (v : Verdicted) → MatchOption r (ChangesTo d s c v a) (λ x. (v ≡ verdicted.Refused x) × (a ≡ s))
      → MatchOption r (ChangesTo d s c v b) (λ x. (v ≡ verdicted.Refused x) × (b ≡ s)) → a ≡ b
  by_refusal (Some r) v h k = h.1 ∙ sym k.1
  by_refusal None verdicted.Accepted h k = h.0 ∙ sym k.0
  by_refusal None (verdicted.Refused r) h k = h.0 ∙ sym k.0

-- one answer leads to one state
pub one_answer : (d : SetupData) (s : State) (w : What) (a b : State) → Answers d s w a → Answers d s w b → a ≡ b
one_answer d s (what.Command c v) a b h k = one_next d s c v a b h k
one_answer d s (what.Deed f r) a b h k = h.1 ∙ sym k.1

pub same_next : (d : SetupData) (s : State) (e : Entry) (a b : State) → IsNextEntry d s e a → IsNextEntry d s e b → a ≡ b
same_next d s e a b h k = one_answer d s e.what a b h.0 k.0

-- and so do legal entries
pub same_last : (d : SetupData) (s : State) (es : List Entry) (a b : State) → IsLegal d s es a → IsLegal d s es b → a ≡ b
same_last d s [] a b h k = h ∙ sym k
same_last d s (e ∷ es) a b h k =
    let next = same_next d s e h.0 k.0 h.1 k.1 in
    same_last d k.0 es a b (subst (λ t. IsLegal d t es a) next h.2) k.2
