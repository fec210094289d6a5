use Rattle.std.proofs.Common.{◌<◌, length, arith}
use Rattle.std.proofs.lemmas.Bool.Decides.{nat_tests}
use Rattle.spin_grammar.proofs.LineEnds.{IsLineEnd, last_line, line_ended}
use Rattle.spin_grammar.proofs.lines.Lines.next.Goals as goal

pub returns-in-None-clause-lines : goal.returns-in-None-clause-lines
returns-in-None-clause-lines c =
    let some : 0 < length c.self.inside.rest.now = grind (arith, nat_tests, c.is_empty.ensures) in
    let ends : IsLineEnd c.self.inside.rest.now c.line_len.result = record { within = c.line_len.ensures.within; before = c.line_len.ensures.before; found = c.line_len.ensures.found } in
    let l = last_line c.self.inside.rest.now c.line_len.result c.split_at.result.1.now ends some c.split_at.ensures.back c.in-None.ensures.cases in
    cc c.split_at.ensures.front

pub returns-in-Some-clause-lines : goal.returns-in-Some-clause-lines
returns-in-Some-clause-lines c =
    let ends : IsLineEnd c.self.inside.rest.now c.line_len.result = record { within = c.line_len.ensures.within; before = c.line_len.ensures.before; found = c.line_len.ensures.found } in
    let l = line_ended c.self.inside.rest.now c.line_len.result _ c.split_at.result.1.now c.in-Some.after.now ends c.split_at.ensures.back c.in-Some.ensures.cases.0 in
    cc (c.split_at.ensures.front, c.without_return.ensures.line)
