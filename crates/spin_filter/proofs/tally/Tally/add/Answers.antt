use Rattle.std.proofs.Common.{◌≡◌, ◌<◌, length, get_or, sym, subst, ◌∙◌, arith}
use Rattle.std.proofs.lemmas.List.{get_or_read}
use Rattle.spin_filter.specs.Counting.{Tells}
use Rattle.spin_filter.proofs.Tallies.{add-tells}
use Rattle.spin_filter.proofs.tally.Tally.add.Goals as goal

pub returns-then-number-len-clause-tells : goal.returns-then-number-len-clause-tells
returns-then-number-len-clause-tells c numbers tells =
    let items = c.self.inside.counts.items in
    let there : c.args.number < length items = omega (arith, c.if-number-len.true, c.len.ensures) in
    let read : c.index.result.now ≡ get_or items c.args.number 0 = get_or_read items _ _ there c.index.ensures 0 in
    add-tells items numbers c.args.number c.one_more.result there (λ n is. c.one_more.ensures n (read ∙ is))
    (subst (λ ys. Tells numbers ys) (sym c.self.view_is) tells)
