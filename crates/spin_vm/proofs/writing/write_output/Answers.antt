use Rattle.std.proofs.Common.{[], refl, arith, length-append}
use Rattle.std.proofs.lemmas.Result.{err_from_is_err_and}
use Rattle.spin_text.specs.Words.{ended}
use Rattle.spin_vm.specs.Output.{first_line}
use Rattle.spin_vm.specs.Inner.Lines.{text_behind}
use Rattle.spin_vm.proofs.WrittenTexts.{Appends-none, stops_in, within_behind, some_behind}
use Rattle.spin_vm.proofs.writing.write_output.Goals as goal

pub returns-in_err-write_text-clause-written : goal.returns-in_err-write_text-clause-written
returns-in_err-write_text-clause-written g c reply are =
    let p = err_from_is_err_and c.from_residual.result c.from_residual.ensures.1 in
    let a = g.K.Sink.seen c.args.out.now in
    let b = g.K.Sink.seen c.write_text.new.out in
    let more = text_behind reply [] c.args.trace.now in
    let some = some_behind reply [] c.args.trace.now in
    rw (p.1, p.2) (stops_in a a b [] (ended first_line) more c.in_err-write_text.field-0.0
    (Appends-none a.told) refl c.in_err-write_text.ensures.written (omega (arith, some, length-append (ended first_line) more)))

pub returns-clause-written : goal.returns-clause-written
returns-clause-written g c reply are =
    let a = g.K.Sink.seen c.args.out.now in
    let b = g.K.Sink.seen c.write_text.new.out in
    within_behind a b (g.K.Sink.seen c.write_lines.new.out) (ended first_line)
    (text_behind reply [] c.args.trace.now) c.write_lines.result c.in_ok-write_text.ensures.written c.in_ok-write_text.ensures.counts (c.write_lines.ensures.written reply are)
