use Rattle.std.proofs.Common.{ℕ, List, sym, ap, subst, ◌∙◌}
use Rattle.spin_vm.specs.Inner.Lines.{text_if, Wrote}
use Rattle.spin_vm.proofs.WrittenTexts.{text_some}
use Rattle.spin_vm.proofs.writing.write_came.Goals as goal

pub returns-clause-written : goal.returns-clause-written
returns-clause-written g c =
    let line = c.args.line.now in
    let shown = c.as_slice.ensures ∙ c.in_ok-text.ensures ∙ sym (text_some line c.in-Some.came) ∙ ap (text_if line) (sym c.in-Some.is) in
    subst (λ (xs : List ℕ). Wrote (g.K.Sink.seen c.args.out.now) (g.K.Sink.seen c.write_text.new.out) xs c.write_text.result) shown c.write_text.ensures.written
