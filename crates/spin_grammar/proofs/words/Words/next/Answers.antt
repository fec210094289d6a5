use Rattle.std.proofs.Common.{◌≡◌, ◌<◌, length, arith}
use Rattle.std.proofs.lemmas.Bool.Decides.{nat_tests}
use Rattle.spin_grammar.proofs.WordLemmas.{words_empty, words_first}
use Rattle.spin_grammar.proofs.words.Words.next.Goals as goal

pub returns-then-is_empty : goal.returns-then-is_empty
returns-then-is_empty c =
    let none : length c.without_blanks-line.result.now ≡ 0 = grind (arith, nat_tests, c.is_empty.ensures) in
    let e = words_empty c.without_blanks-line.result.now none in
    (cc, e)

pub returns : goal.returns
returns c =
    let line = c.without_blanks-line.result.now in
    let some : 0 < length c.without_blanks-line.result.now = grind (arith, nat_tests, c.is_empty.ensures) in
    let f = words_first line c.word_len.result (record { within = c.word_len.ensures.within; before = c.word_len.ensures.before; found = c.word_len.ensures.found }) some
    (c.without_blanks-line.ensures.front some) in
    cc
