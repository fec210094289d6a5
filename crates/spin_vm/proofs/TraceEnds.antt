-- How the output of a trace ends, by what was written of it.
use Rattle.std.proofs.Common.{◌≡◌, ℕ, List, Result, Ok, Err, IfOk, refl, sym, subst, inl, inr}
use Rattle.spin_outside.specs.Seen.{SinkSeen}
use Rattle.spin_word.specs.declared.work.Deed.{Deed}
use Rattle.spin_table.specs.Setups.{SetupData}
use Rattle.spin_table.specs.States.{State}
use Rattle.spin_table.specs.Soundness.{IsSound}
use Rattle.spin_proto.specs.declared.reply.Reply.{Reply}
use Rattle.spin_proto.specs.Replies.{deed_reply, units_in, types_in}
use Rattle.spin_proto.proofs.BoundEvents.{bounds_there}
use Rattle.spin_script.specs.States.{ScriptData}
use Rattle.spin_vm.specs.declared.line.TraceLine.{TraceLine}
use Rattle.spin_vm.specs.declared.writing.Stop.{Stop}
use Rattle.spin_vm.specs.declared.writing.Stop.TheVariants as stop
use Rattle.spin_vm.specs.declared.end.VmEnd.{VmEnd}
use Rattle.spin_vm.specs.Traces.{outcome}
use Rattle.spin_vm.specs.Output.{output}
use Rattle.spin_vm.specs.Scripts.{IsLast, AreReplies}
use Rattle.spin_vm.specs.Ends.{IsOutput, TraceEndsBy, TraceCountsBy}
use Rattle.spin_vm.specs.Inner.Lines.{WroteWithin}
use Rattle.spin_vm.specs.Inner.Endings.{OutputEnds, OutputCounts, end_of}

-- a sound state has a reply to each deed
the_replies : (d : SetupData) (s : State) → IsSound d s → (reply : Deed → Reply) × AreReplies d s reply
the_replies d s sound =
    let b = bounds_there d s sound in
    (λ asked. deed_reply (units_in d) b.0 (types_in d) asked, λ asked. (b.0, b.1, refl))

the_output : (script : ScriptData) (trace : List TraceLine) (last : State) → IsLast script last
    → (reply : Deed → Reply) → AreReplies script.setup last reply → IsOutput script trace (output reply trace)
the_output script trace last is reply are = record { last = last; is_last = is; reply = reply; replies = are; text_is = refl }

module _ (script : ScriptData) (trace shown : List TraceLine) (same : shown ≡ trace) (a c : SinkSeen) (last : State) (is : IsLast script last) (sound : IsSound script.setup last) where
  abbrev Writes : {A : Type 0} → Result A Stop → Type 0
  Writes r = (reply : Deed → Reply) → AreReplies script.setup last reply → WroteWithin a c (output reply shown) r

  written : (A : Type 0) (r : Result A Stop) → Writes r → (reply : Deed → Reply) × AreReplies script.setup last reply × WroteWithin a c (output reply trace) r
  written A r h =
      let rs = the_replies script.setup last sound in
      (rs.0, rs.1, subst (λ (t : List TraceLine). WroteWithin a c (output rs.0 t) r) same (h rs.0 rs.1))

  pub output_ends : (A : Type 0) (r : Result A Stop) → Writes r → OutputEnds script trace a c r
  output_ends A (Ok x) h = let w = written A (Ok x) h in (output w.0 trace, the_output script trace last is w.0 w.1, w.2)
  output_ends A (Err stop.WriteFault) h = let w = written A (Err stop.WriteFault) h in (output w.0 trace, the_output script trace last is w.0 w.1, w.2.0)
  output_ends A (Err stop.NoMemory) h = let w = written A (Err stop.NoMemory) h in inr (output w.0 trace, the_output script trace last is w.0 w.1, w.2.0)

  pub output_counts : (A : Type 0) (r : Result A Stop) → Writes r → IfOk r (λ _. c.faults ≡ a.faults) → OutputCounts a c r
  output_counts A (Ok x) h stood = stood
  output_counts A (Err stop.WriteFault) h stood = (written A (Err stop.WriteFault) h).2.1
  output_counts A (Err stop.NoMemory) h stood = (written A (Err stop.NoMemory) h).2.1

-- a trace that was read ends as its output does
pub trace_ends : {A : Type 0} (script : ScriptData) (text : List ℕ) (trace : List TraceLine) (a c : SinkSeen) (r : Result A Stop) (e : VmEnd)
    → e ≡ end_of r → outcome text ≡ Ok trace → OutputEnds script trace a c r → TraceEndsBy script text a c e
trace_ends script text trace a c r e is read h = subst (TraceEndsBy script text a c) (sym is) (by_result r h) where
  by_result : {A : Type 0} (r : Result A Stop) → OutputEnds script trace a c r → TraceEndsBy script text a c (end_of r)
  by_result (Ok x) h = (trace, h.0, read, h.1, h.2)
  by_result (Err stop.WriteFault) h = (trace, h.0, read, h.1, h.2)
  by_result (Err stop.NoMemory) (inl same) = inl same
  by_result (Err stop.NoMemory) (inr h) = inr (trace, h.0, read, h.1, h.2)

pub trace_counts : {A : Type 0} (a c : SinkSeen) (r : Result A Stop) (e : VmEnd) → e ≡ end_of r → OutputCounts a c r → TraceCountsBy a c e
trace_counts a c r e is h = subst (TraceCountsBy a c) (sym is) (by_result r h) where
  by_result : {A : Type 0} (r : Result A Stop) → OutputCounts a c r → TraceCountsBy a c (end_of r)
  by_result (Ok x) h = h
  by_result (Err stop.WriteFault) h = h
  by_result (Err stop.NoMemory) h = h
