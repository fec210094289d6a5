use Rattle.std.proofs.Common.{◌≡◌, ◌≤◌, ◌++◌, ℕ, List, [], drop}
use Rattle.std.specs.Io.KnownBytes.{Appends}
use Rattle.spin_word.specs.declared.work.Deed.{Deed}
use Rattle.spin_table.specs.SetupOf.{data_of}
use Rattle.spin_proto.specs.declared.reply.Reply.{Reply}
use Rattle.spin_vm.specs.Traces.{AreGood}
use Rattle.spin_vm.specs.Scripts.{AreReplies}
use Rattle.spin_vm.specs.Spaces.{mapped_pages}
use Rattle.spin_vm.specs.Inner.Lines.{regions_of, text_behind}
use Rattle.spin_vm.proofs.writing.write_lines.Given as goal

-- what was written stands before the text of the lines that are left
abbrev pub invariant-loop-line : goal.invariant-loop-line
invariant-loop-line g l = record {
  written : (reply : Deed → Reply) → AreReplies (data_of l.setup) l.version.state reply
      → (done : List ℕ) × (text_behind reply [] l.trace ≡ done ++ text_behind reply l.spaces.items (drop l.line-index l.trace))
      × Appends (g.K.Sink.seen l.fn.out).told (g.K.Sink.seen l.out).told done;
  good : AreGood (regions_of l.spaces.items) (drop l.line-index l.trace);
  pages : mapped_pages l.spaces.items ≤ l.line-index;
  stood : (g.K.Sink.seen l.out).faults ≡ (g.K.Sink.seen l.fn.out).faults;
}
