use Rattle.std.proofs.Common.{◌+◌, [], length, Ok, sym, ap, subst, ◌∙◌, arith}
use Rattle.std.proofs.lemmas.List.{append-nil}
use Rattle.spin_vm.specs.Traces.{comes_to, AreGood}
use Rattle.spin_vm.proofs.TraceLines.{goes_line}
use Rattle.spin_vm.proofs.read.read_trace.Goals as goal

pub loop-line-preserved : goal.loop-line-preserved
loop-line-preserved c =
    let n = c.loop-line.number in
    let more = c.next.new.self in
    let lines = c.in-Some.ensures.lines in
    record {
      small = c.loop-line.invariant.small;
      room = omega (arith, ap length lines, c.loop-line.invariant.room);
      comes = ap (λ r. comes_to r (n + 1) more) (sym c.in-Ok.ensures) ∙ ap (comes_to (Ok c.loop-line.draft) n) (sym lines) ∙ c.loop-line.invariant.comes;
      good = goes_line c.loop-line.draft c.take_line.new.draft (n + 1) c.in-Some.line.now c.in-Ok.ensures c.loop-line.invariant.good;
    }

pub returns-clause-good : goal.returns-clause-good
returns-clause-good c = subst (AreGood []) (append-nil _ ∙ sym c.into_lines.ensures) (c.loop-line.invariant.good [] tt)
