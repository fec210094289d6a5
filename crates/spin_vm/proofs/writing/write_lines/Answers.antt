use Rattle.std.proofs.Common.{◌≡◌, ◌+◌, ◌<◌, ◌++◌, ◌∙◌, ℕ, List, [], length, drop, slice_index_or, sym, ap, subst, arith}
use Rattle.std.proofs.lemmas.Result.{err_from_is_err_and}
use Rattle.spin_text.specs.Words.{ended}
use Rattle.spin_vm.specs.declared.line.Region.{Region}
use Rattle.spin_vm.specs.declared.line.Statement.TheVariants as said
use Rattle.spin_vm.specs.declared.line.TraceLine.{TraceLine}
use Rattle.spin_vm.specs.Traces.{AreGood}
use Rattle.spin_vm.specs.Spaces.{said_came, mapped_pages}
use Rattle.spin_vm.specs.Output.{end_line}
use Rattle.spin_vm.specs.Inner.Lines.{regions_of, text_if, text_behind, WroteWithin}
use Rattle.spin_vm.proofs.WrittenTexts.{Appends-append, next_at, no_more, text_next, text_last, stopped, some_behind, wrote_behind}
use Rattle.spin_vm.proofs.writing.write_lines.Goals as goal

pub loop-line-preserved : goal.loop-line-preserved
loop-line-preserved g c =
    let trace = c.args.trace.now in
    let i = c.loop-line.line-index in
    let spaces = c.loop-line.spaces.items in
    let next = c.write_line.new.spaces.items in
    let d : TraceLine = record { number = 0; said = said.Space 0 } in
    let line = slice_index_or trace i d in
    let at = next_at trace i d c.loop-line-test.true in
    let good = subst (AreGood (regions_of spaces)) at c.loop-line.invariant.good in
    record {
      written = λ reply are.
          let before = c.loop-line.invariant.written reply are in
          let text = text_if line (said_came reply spaces line.said) in (
            before.0 ++ text,
            text_next reply spaces next trace i line (text_behind reply [] trace) before.0 at (c.in_ok-write_line.ensures.spaces reply are) before.1,
            Appends-append (g.K.Sink.seen c.args.out.now).told (g.K.Sink.seen c.loop-line.out).told
                (g.K.Sink.seen c.write_line.new.out).told before.0 text before.2 (c.in_ok-write_line.ensures.written reply are),
          );
      good = subst (λ (rs : List (List Region)). AreGood rs (drop (i + 1) trace)) (sym c.in_ok-write_line.ensures.regions) good.1;
      pages = omega (arith, c.in_ok-write_line.ensures.pages, c.loop-line.invariant.pages);
      stood = c.in_ok-write_line.ensures.counts ∙ c.loop-line.invariant.stood;
    }

pub returns-in_err-write_line-clause-written : goal.returns-in_err-write_line-clause-written
returns-in_err-write_line-clause-written g c reply are =
    let trace = c.args.trace.now in
    let i = c.loop-line.line-index in
    let d : TraceLine = record { number = 0; said = said.Space 0 } in
    let before = c.loop-line.invariant.written reply are in
    let p = err_from_is_err_and c.from_residual.result c.from_residual.ensures.1 in
    rw (p.1, p.2) (stopped reply c.loop-line.spaces.items trace i (slice_index_or trace i d) (text_behind reply [] trace) before.0
    (g.K.Sink.seen c.args.out.now) (g.K.Sink.seen c.loop-line.out) (g.K.Sink.seen c.write_line.new.out) c.in_err-write_line.field-0.0
    (next_at trace i d c.loop-line-test.true) before.1 before.2 c.loop-line.invariant.stood (c.in_err-write_line.ensures.written reply are))

pub returns-in_err-text-clause-written : goal.returns-in_err-text-clause-written
returns-in_err-text-clause-written g c reply are =
    let rest = drop c.loop-line.line-index c.args.trace.now in
    let spaces = c.loop-line.spaces.items in
    let before = c.loop-line.invariant.written reply are in
    let p = err_from_is_err_and c.from_residual-in_err-text.result c.from_residual-in_err-text.ensures.1 in
    rw (p.1, p.2) ((before.0, text_behind reply spaces rest, before.1, some_behind reply spaces rest, before.2), c.loop-line.invariant.stood)

pub returns-clause-written : goal.returns-clause-written
returns-clause-written g c reply are =
    let trace = c.args.trace.now in
    let i = c.loop-line.line-index in
    let spaces = c.loop-line.spaces.items in
    let a = g.K.Sink.seen c.args.out.now in
    let b = g.K.Sink.seen c.loop-line.out in
    let z = g.K.Sink.seen c.write_text.new.out in
    let before = c.loop-line.invariant.written reply are in
    let text = c.as_slice.result.now in
    let made = c.as_slice.ensures ∙ c.in_ok-text.ensures ∙ ap (λ n. ended (end_line n)) (c.mapped_pages.ensures ∙ ap mapped_pages c.deref.ensures.value) in
    let rest : text_behind reply spaces (drop i trace) ≡ text = ap (text_behind reply spaces) (no_more trace i c.loop-line-test.false) ∙ text_last reply spaces ∙ sym made in
    let whole : text_behind reply [] trace ≡ before.0 ++ text = before.1 ∙ ap (λ xs. before.0 ++ xs) rest in
    let some = subst (λ (xs : List ℕ). 0 < length xs) rest (some_behind reply spaces (drop i trace)) in
    subst (λ (xs : List ℕ). WroteWithin a z xs c.write_text.result) (sym whole)
    (wrote_behind a b z before.0 text c.write_text.result before.2 c.loop-line.invariant.stood some c.write_text.ensures.written)
