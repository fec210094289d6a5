use Rattle.std.proofs.Common.{◌-◌, ℕ, List, length, take, drop, Option, sym, subst}
use Rattle.spinfilter.specs.Words.{IsOption}
use Rattle.spinfilter.proofs.Names.{none-of-few, none-behind, rest-of, asked-for}
use Rattle.spinfilter.proofs.words.read_words.Goals as goal

pub returns-then-count-lt2 : goal.returns-then-count-lt2
returns-then-count-lt2 c =
    let names = c.count_names-count.ensures in
    none-of-few c.args.words.now c.count_names-count.result names.within names.names names.end c.if-count-lt2.true

pub returns-in_default : goal.returns-in_default
returns-in_default c =
    let words = c.args.words.now in
    let count = c.count_names-count.result in
    let names = c.count_names-count.ensures in
    none-behind words (take (length words - count) (drop count words)) count (rest-of words count) names.within names.names names.end c.in_default.ensures

pub returns : goal.returns
returns c =
    let words = c.args.words.now in
    let count = c.count_names-count.result in
    let names = c.count_names-count.ensures in
    let rest = take (length words - count) (drop count words) in
    asked-for words rest count c.index-words-0.result c.index-words-0.result _ c.if-count-lt2.false names.within names.names c.index-words-0.is (rest-of words count) c.in_ok-copy.ensures c.in_ok-copied.ensures
    (subst (λ (file : Option (List ℕ)). IsOption rest file c.in-Some.counts) (sym c.in_ok-copied_name.ensures) c.in-Some.ensures)
